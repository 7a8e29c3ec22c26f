-- Lists: every one of a list, one of a list, two lists side by side, the rest of a list.
use Rattle.std.specs.Prelude.{◌⊎◌, List, [], ◌∷◌}

-- every one of a list
abbrev pub Every : {A : Type 0} → (A → Type 0) → List A → Type 0
Every Q [] = Unit {0}
Every Q (x ∷ xs) = Q x × Every Q xs

-- one of a list
abbrev pub SomeOf : {A : Type 0} → (A → Type 0) → List A → Type 0
SomeOf Q [] = ⊥
SomeOf Q (x ∷ xs) = Q x ⊎ SomeOf Q xs

-- two lists side by side, and the first of each pair
module _ {A B : Type 0} where
  abbrev pub zip : List A → List B → List (A × B)
  zip [] ys = []
  zip (x ∷ xs) [] = []
  zip (x ∷ xs) (y ∷ ys) = (x, y) ∷ zip xs ys

  abbrev pub firsts : List (A × B) → List A
  firsts [] = []
  firsts (p ∷ ps) = p.0 ∷ firsts ps

-- what a list has more than another that it begins with
abbrev pub rest_of : {A : Type 0} → List A → List A → List A
rest_of [] ys = ys
rest_of (x ∷ xs) [] = []
rest_of (x ∷ xs) (y ∷ ys) = rest_of xs ys
