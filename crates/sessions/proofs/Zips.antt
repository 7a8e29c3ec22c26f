-- Two lists, place by place.
use Rattle.std.proofs.Common.{◌≡◌, ℕ, zero, suc, ◌<◌, List, [], ◌∷◌, ◌++◌, length, get_or, refl, ap, arith}
use Rattle.std.specs.List.{AllZip}

module _ {A B : Type 0} (R : A → B → Type 0) where
  pub zip_long : (xs : List A) (ys : List B) → AllZip R xs ys → length ys ≡ length xs
  zip_long [] [] z = refl
  zip_long [] (y ∷ ys) z = absurd z
  zip_long (x ∷ xs) [] z = absurd z
  zip_long (x ∷ xs) (y ∷ ys) z = ap suc (zip_long xs ys z.1)

  pub zip_more : (xs : List A) (ys : List B) (x : A) (y : B) → AllZip R xs ys → R x y → AllZip R (xs ++ (x ∷ [])) (ys ++ (y ∷ []))
  zip_more [] [] x y z r = (r, tt)
  zip_more [] (b ∷ ys) x y z r = absurd z
  zip_more (a ∷ xs) [] x y z r = absurd z
  zip_more (a ∷ xs) (b ∷ ys) x y z r = (z.0, zip_more xs ys x y z.1 r)

  pub zip_at : (xs : List A) (ys : List B) (k : ℕ) (x : A) (y : B) → k < length ys → AllZip R xs ys → R (get_or xs k x) (get_or ys k y)
  zip_at [] [] k x y l z = absurd (omega arith)
  zip_at [] (b ∷ ys) k x y l z = absurd z
  zip_at (a ∷ xs) [] k x y l z = absurd z
  zip_at (a ∷ xs) (b ∷ ys) zero x y l z = z.0
  zip_at (a ∷ xs) (b ∷ ys) (suc k) x y l z = zip_at xs ys k x y (omega arith) z.1
