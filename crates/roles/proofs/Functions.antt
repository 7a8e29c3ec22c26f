-- A loop over the declared functions that gathers a party's.
use Rattle.std.proofs.Common.{◌≡◌, ℕ, ◌+◌, ◌≤◌, Bool, List, [], ◌∷◌, ◌++◌, map, length, drop, sym, refl, ap, ◌∙◌}
use Rattle.std.proofs.lemmas.List.{append-nil, at_drop_all}
use Rattle.terms.specs.declared.declarations.Function as declared
use Rattle.terms.specs.declared.declarations.Right.{Right}
use Rattle.terms.specs.declared.declarations.ValueType.{ValueType}
use Rattle.terms.specs.Meanings.{signature_in}
use Rattle.terms.specs.Starting.{has_right}
use Rattle.roles.specs.declared.party.Function.{Function}
use Rattle.roles.specs.Starting.{functions_from}

-- a declared function as a party has it
abbrev pub party_function : declared.Function → Bool → Function
party_function x right = record { secret = x.class.secret; one_way = x.class.one_way; right = right }

abbrev pub rows_from : ℕ → List Right → ℕ → List declared.Function → List Function
rows_from n rights f [] = []
rows_from n rights f (x ∷ xs) = party_function x (has_right n f rights) ∷ rows_from n rights (f + 1) xs

module _ (n : ℕ) (rights : List Right) where
  pub rows_same : (ws : List ValueType) (f : ℕ) (xs : List declared.Function) → rows_from n rights f xs ≡ functions_from n rights f (map (signature_in ws) xs)
  rows_same ws f [] = refl
  rows_same ws f (x ∷ xs) = ap (λ z. party_function x (has_right n f rights) ∷ z) (rows_same ws (f + 1) xs)

  module _ (xs : List declared.Function) (i : ℕ) (ys all : List Function) (e : ys ++ rows_from n rights i (drop i xs) ≡ all) where
    pub rows_end : length xs ≤ i → ys ≡ all
    rows_end h = sym (append-nil ys) ∙ ap (λ z. ys ++ z) (sym (at_drop_all (rows_from n rights i) xs i h)) ∙ e
