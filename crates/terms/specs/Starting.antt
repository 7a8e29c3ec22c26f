-- What a party starts from, what it may apply, and which names may be made.
use Rattle.std.specs.Prelude.{ℕ, Bool, true, false, cond, ◌&&◌, ◌||◌, List, [], ◌∷◌, Some, None, Option, ◌==◌, slice_index_or}
use Rattle.model.specs.Trees.{Tree, leaf, node}
use Rattle.terms.specs.declared.declarations.Declared.{Declared}
use Rattle.terms.specs.declared.declarations.Meaning.{Meaning}
use Rattle.terms.specs.declared.declarations.Meaning.TheVariants.{Value, Function}
use Rattle.terms.specs.declared.declarations.Right.{Right}
use Rattle.terms.specs.declared.declarations.ValueType.TheVariants.{Number, Principal}
use Rattle.terms.specs.Scope.{Given}

-- is it for everybody, or for the party of this name?
abbrev pub concerns : Option ℕ → ℕ → Bool
concerns None n = true
concerns (Some k) n = k == n

-- the terms that a party of this name starts from, in the order of declaration
abbrev pub given_to : ℕ → List Given → List Tree
given_to n [] = []
given_to n (g ∷ gs) = cond (concerns g.knower n) (g.term ∷ given_to n gs) (given_to n gs)

-- may a party of this name apply the function though it is secret?
abbrev pub has_right : ℕ → ℕ → List Right → Bool
has_right n f [] = false
has_right n f (r ∷ rs) = (r.function == f && concerns r.knower n) || has_right n f rs

-- a number that is not shared may be made
abbrev pub makeable : Meaning → Bool
makeable (Value Number false) = true
makeable (Value Number true) = false
makeable (Value Principal shared) = false
makeable (Function f) = false

abbrev pub is_makeable : List Declared → ℕ → Bool
is_makeable names n = makeable (slice_index_or names n (record { name = record { at = 0; len = 0 }; meaning = Function 0 })).meaning

-- the names among some terms that may be made, in order
abbrev pub made_among : List Declared → List Tree → List ℕ
made_among names [] = []
made_among names (leaf n ∷ us) = cond (is_makeable names n) (n ∷ made_among names us) (made_among names us)
made_among names (node h ts ∷ us) = made_among names us
