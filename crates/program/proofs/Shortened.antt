-- The first so many elements of a list that grows at its end.
use Rattle.std.proofs.Common.{◌≡◌, ℕ, zero, suc, ◌+◌, ◌<◌, List, [], ◌∷◌, ◌++◌, length, get_or, take, sym, refl, ap, ◌∙◌}
use Rattle.std.proofs.lemmas.List.{take_more}

pub take_taken : {X : Type 0} (n : ℕ) (xs ys : List X) → take n (take n xs ++ ys) ≡ take n (xs ++ ys)
take_taken zero xs ys = refl
take_taken (suc n) [] ys = refl
take_taken (suc n) (x ∷ xs) ys = ap (λ zs. x ∷ zs) (take_taken n xs ys)

-- one more element of a list that is copied from its front
pub copied_more : {X : Type 0} (n i : ℕ) (xs ys zs : List X) (d : X) → i < length xs → ys ≡ take n (take i xs) → zs ≡ take n (ys ++ get_or xs i d ∷ []) → zs ≡ take n (take (i + 1) xs)
copied_more n i xs ys zs d h e f =
    f ∙ ap (λ ws. take n (ws ++ get_or xs i d ∷ [])) e ∙ take_taken n (take i xs) (get_or xs i d ∷ []) ∙ ap (take n) (sym (take_more xs i d h))
