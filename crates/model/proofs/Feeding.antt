-- What comes in is the first of what was to come, each in some relation to its term.
use Rattle.std.proofs.Common.{◌≡◌, ℕ, ◌+◌, List, [], ◌∷◌, ◌++◌, length, sym, refl, ap, ◌∙◌, subst, inl, inr, arith}
use Rattle.model.specs.Lists.{Every, SomeOf, zip, firsts}

-- what came in is the first of what was to come, each in some relation to its term; the rest is left
abbrev pub Fed : {A B : Type 0} → (A → B → Type 0) → List A → List B → List B → Type 0
Fed Q [] ys rest = ys ≡ rest
Fed Q (x ∷ xs) [] rest = ⊥
Fed Q (x ∷ xs) (y ∷ ys) rest = Q x y × Fed Q xs ys rest

module _ {A B : Type 0} where
  pub fed_map : (Q Q' : A → B → Type 0) → ((x : A) (y : B) → Q x y → Q' x y) → (xs : List A) (ys rest : List B) → Fed Q xs ys rest → Fed Q' xs ys rest
  fed_map Q Q' f [] ys rest h = h
  fed_map Q Q' f (x ∷ xs) [] rest h = elim h [ ]
  fed_map Q Q' f (x ∷ xs) (y ∷ ys) rest h = (f x y h.0, fed_map Q Q' f xs ys rest h.1)

  pub fed_join : (Q : A → B → Type 0) (xs xs' : List A) (ys mid rest : List B) → Fed Q xs ys mid → Fed Q xs' mid rest → Fed Q (xs ++ xs') ys rest
  fed_join Q [] xs' ys mid rest h k = subst (λ l. Fed Q xs' l rest) (sym h) k
  fed_join Q (x ∷ xs) xs' [] mid rest h k = elim h [ ]
  fed_join Q (x ∷ xs) xs' (y ∷ ys) mid rest h k = (h.0, fed_join Q xs xs' ys mid rest h.1 k)

  pub fed_split : (Q : A → B → Type 0) (xs xs' : List A) (ys rest : List B) → Fed Q (xs ++ xs') ys rest
      → (mid : List B) × Fed Q xs ys mid × Fed Q xs' mid rest
  fed_split Q [] xs' ys rest h = (ys, refl, h)
  fed_split Q (x ∷ xs) xs' [] rest h = elim h [ ]
  fed_split Q (x ∷ xs) xs' (y ∷ ys) rest h = let k = fed_split Q xs xs' ys rest h.1 in (k.0, (h.0, k.1), k.2)

-- what is left does not depend on the relation
pub fed_rest : {A B : Type 0} (Q Q' : A → B → Type 0) (xs : List A) (ys a b : List B) → Fed Q xs ys a → Fed Q' xs ys b → a ≡ b
fed_rest Q Q' [] ys a b h k = sym h ∙ k
fed_rest Q Q' (x ∷ xs) [] a b h k = elim h [ ]
fed_rest Q Q' (x ∷ xs) (y ∷ ys) a b h k = fed_rest Q Q' xs ys a b h.1 k.1

-- pairs: a term with its value, a name with its number
module _ {A B : Type 0} where
  pub fed_firsts : (Q : A → B → Type 0) (xs : List A) (ys rest : List B) → Fed Q xs ys rest → firsts (zip xs ys) ≡ xs
  fed_firsts Q [] ys rest h = refl
  fed_firsts Q (x ∷ xs) [] rest h = elim h [ ]
  fed_firsts Q (x ∷ xs) (y ∷ ys) rest h = ap (λ l. x ∷ l) (fed_firsts Q xs ys rest h.1)

  pub fed_zip : (Q W : A → B → Type 0) (xs : List A) (ys rest : List B) → Fed Q xs ys rest
      → ((x : A) (y : B) → SomeOf (λ p. (x ≡ p.0) × (y ≡ p.1)) (zip xs ys) → W x y) → Fed W xs ys rest
  fed_zip Q W [] ys rest h f = h
  fed_zip Q W (x ∷ xs) [] rest h f = elim h [ ]
  fed_zip Q W (x ∷ xs) (y ∷ ys) rest h f = (f x y (inl (refl, refl)), fed_zip Q W xs ys rest h.1 (λ a b i. f a b (inr i)))

  pub fed_left : (W : A → Type 0) (xs : List A) (ys rest : List B) → Fed (λ x y. W x) xs ys rest → Every W xs
  fed_left W [] ys rest h = tt
  fed_left W (x ∷ xs) [] rest h = elim h [ ]
  fed_left W (x ∷ xs) (y ∷ ys) rest h = (h.0, fed_left W xs ys rest h.1)

  pub fed_pairs : (Q : A → B → Type 0) (xs : List A) (ys rest : List B) → Fed Q xs ys rest → Every (λ p. Q p.0 p.1) (zip xs ys)
  fed_pairs Q [] ys rest h = tt
  fed_pairs Q (x ∷ xs) [] rest h = elim h [ ]
  fed_pairs Q (x ∷ xs) (y ∷ ys) rest h = (h.0, fed_pairs Q xs ys rest h.1)

  pub pairs_fed : (Q Q' : A → B → Type 0) (xs : List A) (ys rest : List B) → Fed Q xs ys rest → Every (λ p. Q' p.0 p.1) (zip xs ys) → Fed Q' xs ys rest
  pairs_fed Q Q' [] ys rest h k = h
  pairs_fed Q Q' (x ∷ xs) [] rest h k = elim h [ ]
  pairs_fed Q Q' (x ∷ xs) (y ∷ ys) rest h k = (k.0, pairs_fed Q Q' xs ys rest h.1 k.1)

pub fed_length : {A B : Type 0} (Q : A → B → Type 0) (xs : List A) (ys rest : List B) → Fed Q xs ys rest → length ys ≡ length xs + length rest
fed_length Q [] ys rest h = let p = ap length h in omega arith
fed_length Q (x ∷ xs) [] rest h = elim h [ ]
fed_length Q (x ∷ xs) (y ∷ ys) rest h = let p = fed_length Q xs ys rest h.1 in omega arith

pub fed_enough : {A B : Type 0} (xs : List A) (ys : List B) (n : ℕ) → length ys ≡ length xs + n → (rest : List B) × Fed (λ x y. Unit {0}) xs ys rest
fed_enough [] ys n e = (ys, refl)
fed_enough (x ∷ xs) [] n e = absurd (omega arith)
fed_enough (x ∷ xs) (y ∷ ys) n e = let k = fed_enough xs ys n (omega arith) in (k.0, (tt, k.1))
