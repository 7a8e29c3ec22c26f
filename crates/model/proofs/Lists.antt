-- Lists.
use Rattle.std.proofs.Common.{◌≡◌, List, [], ◌∷◌, ◌++◌, refl, ap, inl, inr}
use Rattle.model.specs.Lists.{Every, SomeOf, firsts, rest_of}

module _ {A : Type 0} (Q : A → Type 0) where
  pub every_left : (xs ys : List A) → Every Q (xs ++ ys) → Every Q xs
  every_left [] ys h = tt
  every_left (x ∷ xs) ys h = (h.0, every_left xs ys h.1)

  pub every_right : (xs ys : List A) → Every Q (xs ++ ys) → Every Q ys
  every_right [] ys h = h
  every_right (x ∷ xs) ys h = every_right xs ys h.1

  pub every_join : (xs ys : List A) → Every Q xs → Every Q ys → Every Q (xs ++ ys)
  every_join [] ys h k = k
  every_join (x ∷ xs) ys h k = (h.0, every_join xs ys h.1 k)

  pub some_left : (xs ys : List A) → SomeOf Q xs → SomeOf Q (xs ++ ys)
  some_left [] ys h = elim h [ ]
  some_left (x ∷ xs) ys (inl h) = inl h
  some_left (x ∷ xs) ys (inr h) = inr (some_left xs ys h)

  pub some_right : (xs ys : List A) → SomeOf Q ys → SomeOf Q (xs ++ ys)
  some_right [] ys h = h
  some_right (x ∷ xs) ys h = inr (some_right xs ys h)

pub some_map : {A : Type 0} (Q Q' : A → Type 0) → ((x : A) → Q x → Q' x) → (xs : List A) → SomeOf Q xs → SomeOf Q' xs
some_map Q Q' f [] h = h
some_map Q Q' f (x ∷ xs) (inl h) = inl (f x h)
some_map Q Q' f (x ∷ xs) (inr h) = inr (some_map Q Q' f xs h)

pub every_map : {A : Type 0} (Q Q' : A → Type 0) → ((x : A) → Q x → Q' x) → (xs : List A) → Every Q xs → Every Q' xs
every_map Q Q' f [] h = tt
every_map Q Q' f (x ∷ xs) h = (f x h.0, every_map Q Q' f xs h.1)

pub every_some : {A : Type 0} (Q Q' : A → Type 0) (Z : Type 0) → ((x : A) → Q x → Q' x → Z) → (xs : List A) → Every Q xs → SomeOf Q' xs → Z
every_some Q Q' Z f [] h k = elim k [ ]
every_some Q Q' Z f (x ∷ xs) h (inl k) = f x h.0 k
every_some Q Q' Z f (x ∷ xs) h (inr k) = every_some Q Q' Z f xs h.1 k

-- pairs: a term with its value, a name with its number
module _ {A B : Type 0} where
  pub firsts_append : (ps qs : List (A × B)) → firsts (ps ++ qs) ≡ firsts ps ++ firsts qs
  firsts_append [] qs = refl
  firsts_append (p ∷ ps) qs = ap (λ l. p.0 ∷ l) (firsts_append ps qs)

pub rest_append : {A : Type 0} (xs ys : List A) → rest_of xs (xs ++ ys) ≡ ys
rest_append [] ys = refl
rest_append (x ∷ xs) ys = rest_append xs ys
