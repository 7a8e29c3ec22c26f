-- Names by their bytes.
use Rattle.std.proofs.Common.{◌≡◌, ℕ, ◌-◌, ◌≤◌, Bool, true, false, cond, ◌&&◌, List, [], ◌∷◌, length, get_or, take, drop, refl, sym, ap, ◌∙◌, arith, take_all}
use Rattle.std.specs.Char.{is_ascii_alphabetic}
use Rattle.std.specs.List.{list_all}
use Rattle.syntax.specs.Names.{inner, are_inner, is_name}

all_inner : (bs : List ℕ) → list_all inner bs ≡ are_inner bs
unfolding are_inner
all_inner [] = refl
all_inner (b ∷ bs) = ap (λ r. inner b && r) (all_inner bs) ∙ go (inner b) (are_inner bs)
  where
    go : (x y : Bool) → (x && y) ≡ cond x y false
    go true y = refl
    go false y = refl

-- a letter, and then the rest
pub name_rest : (xs : List ℕ) (n : ℕ) (r : Bool) → 1 ≤ length xs → n ≡ length xs - 1 → is_ascii_alphabetic (get_or xs 0 0) ≡ true → r ≡ list_all inner (take n (drop 1 xs)) → r ≡ is_name xs
name_rest [] n r l q a e = absurd (omega arith)
name_rest (b ∷ bs) n r l q a e = e ∙ ap (list_all inner) (take_all n bs (omega arith)) ∙ all_inner bs ∙ sym (ap (λ t. t && are_inner bs) a)
