-- Names that are looked up.
use Rattle.std.proofs.Common.{◌≡◌, ℕ, suc, ◌<◌, Bool, true, false, cond, List, [], ◌∷◌, length, get_or, is_some, Some, None, Option, refl, arith}
use Rattle.std.specs.List.{position, find}
use Rattle.std.specs.Prelude.{slice_get}
use Rattle.std.proofs.lemmas.List.Folds.{find_at}
use Rattle.std.proofs.lemmas.Option.{slice_get_past}
use Rattle.std.proofs.lemmas.Grind.{common_steps}

-- the first element that passes, and its place
module _ {X : Type 0} (p : X → Bool) (xs : List X) where
  pub found_there : (k : ℕ) → position p xs ≡ Some k → find p xs ≡ slice_get xs k
  found_there k e = grind (arith, common_steps, find_at p xs)

  pub found_nowhere : position p xs ≡ None → find p xs ≡ None
  found_nowhere e = grind (arith, common_steps, find_at p xs, slice_get_past)

  pub found_has_place : (x : X) → find p xs ≡ Some x → is_some (position p xs) ≡ true
  found_has_place x e = go (position p xs) refl
    where
      go : (o : Option ℕ) → position p xs ≡ o → is_some o ≡ true
      go (Some k) q = refl
      go None q = absurd (let z = found_nowhere q in cc)

pub found_place : {X : Type 0} (p : X → Bool) (xs : List X) (x : X) → find p xs ≡ Some x → (k : ℕ) × (k < length xs) × (get_or xs k x ≡ x)
found_place p [] x e = absurd (cc)
found_place p (y ∷ xs) x e = go (p y) e (found_place p xs x)
  where
    go : (b : Bool) → cond b (Some y) (find p xs) ≡ Some x → (find p xs ≡ Some x → (k : ℕ) × (k < length xs) × (get_or xs k x ≡ x)) → (k : ℕ) × (k < length (y ∷ xs)) × (get_or (y ∷ xs) k x ≡ x)
    go true e f = (0, omega arith, cc)
    go false e f = let r = f e in (suc r.0, omega (arith, r.1), r.2)
