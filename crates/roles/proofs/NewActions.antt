-- The actions behind those that have rows.
use Rattle.std.proofs.Common.{◌≡◌, ℕ, ◌-◌, List, min, length, take, drop, ap, ◌∙◌, arith, length-drop}
use Rattle.std.proofs.lemmas.List.{drop_min, take_all}

-- the elements from a place on, which may lie past the end
pub rest_from : {X : Type 0} → (xs : List X) (from at : ℕ) → at ≡ min from (length xs) → take (length xs - at) (drop at xs) ≡ drop from xs
rest_from xs from at e = take_all (length xs - at) (drop at xs) (omega (arith, length-drop at xs)) ∙ ap (λ k. drop k xs) e ∙ drop_min from xs
