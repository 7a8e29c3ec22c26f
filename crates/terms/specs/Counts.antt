-- How many parts each function takes.
use Rattle.std.specs.Prelude.{ℕ, List, map, length, slice_index_or}
use Rattle.terms.specs.Scope.{Signature}

abbrev pub counts : List Signature → List ℕ
counts fs = map (λ (f : Signature). length f.parameters) fs

-- of one function by its number, or another number where there is no such function
abbrev pub count_or : ℕ → List Signature → ℕ → ℕ
count_or other fs f = slice_index_or (counts fs) f other
