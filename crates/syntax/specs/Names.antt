-- Names: a letter, then letters, digits or underscores.
use Rattle.std.specs.Prelude.{ℕ, Bool, true, false, cond, ◌&&◌, ◌||◌, List, [], ◌∷◌, ◌==◌}
use Rattle.std.specs.Char.{is_ascii_alphabetic, is_ascii_alphanumeric}

-- A letter, a digit or an underscore.
abbrev pub inner : ℕ → Bool
inner b = is_ascii_alphanumeric b || b == 95

unfoldable pub are_inner : List ℕ → Bool
are_inner [] = true
are_inner (b ∷ bs) = cond (inner b) (are_inner bs) false

abbrev pub is_name : List ℕ → Bool
is_name [] = false
is_name (b ∷ bs) = is_ascii_alphabetic b && are_inner bs
