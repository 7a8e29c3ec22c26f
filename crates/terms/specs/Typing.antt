-- The types of a term: each node before its parts, and those from left to right.
use Rattle.std.specs.Prelude.{ℕ, Bool, true, false, cond, List, [], ◌∷◌, length, Some, None, Ok, Err, Option, Result, ◌==◌, slice_index_or}
use Rattle.syntax.specs.declared.spec.Name.{Name}
use Rattle.syntax.specs.Specs.{Term, name, tuple, crypt, apply, Terms, none, more, count}
use Rattle.terms.specs.declared.declarations.Meaning.{Meaning}
use Rattle.terms.specs.declared.declarations.Meaning.TheVariants.{Value, Function}
use Rattle.terms.specs.declared.declarations.ValueType.{ValueType}
use Rattle.terms.specs.declared.declarations.ValueType.TheVariants.{Number, Principal}
use Rattle.terms.specs.declared.fault.TermFault.{TermFault}
use Rattle.terms.specs.declared.fault.TermFault.TheVariants.{Undeclared, WrongType}
use Rattle.terms.specs.Scope.{Scope, Signature, no_function, meaning_of}

-- the first fault of two steps
abbrev pub and_then : {A B : Type 0} → Result A TermFault → Result B TermFault → Result B TermFault
and_then (Ok x) r = r
and_then (Err f) r = Err f

-- a principal may stand where a number is wanted; otherwise types are equal
abbrev pub stands_for : ValueType → ValueType → Bool
stands_for Number Number = true
stands_for Number Principal = false
stands_for Principal Number = true
stands_for Principal Principal = true

abbrev pub fits : ℕ → ValueType → ValueType → Result (Unit {0}) TermFault
fits at found wanted = cond (stands_for found wanted) (Ok tt) (Err (WrongType at))

abbrev pub name_fits : ℕ → Option Meaning → ValueType → Result (Unit {0}) TermFault
name_fits at None wanted = Err (Undeclared at)
name_fits at (Some (Value kind shared)) wanted = fits at kind wanted
name_fits at (Some (Function f)) wanted = Err (WrongType at)

-- the function that is applied, by what its name stands for
abbrev pub applied : List Signature → Name → Option Meaning → Result Signature TermFault
applied fs n None = Err (Undeclared n.at)
applied fs n (Some (Value kind shared)) = Err (WrongType n.at)
applied fs n (Some (Function f)) = Ok (slice_index_or fs f no_function)

-- an application has as many arguments as its function has parameters, and the type of its result; then come the arguments
abbrev pub applied_fits : ℕ → ℕ → ValueType → Result Signature TermFault → (List ValueType → Result (Unit {0}) TermFault) → Result (Unit {0}) TermFault
applied_fits at n wanted (Err e) arguments = Err e
applied_fits at n wanted (Ok f) arguments = cond (n == length f.parameters) (and_then (fits at f.result wanted) (arguments f.parameters)) (Err (WrongType at))

module _ (text : List ℕ) (S : Scope) where
  abbrev mutual
    -- has the term the type that is wanted?
    pub typed : Term → ValueType → Result (Unit {0}) TermFault
    typed (name at p) wanted = name_fits at (meaning_of text S.names p) wanted
    typed (tuple at ts) wanted = and_then (fits at Number wanted) (typed_all ts [])
    typed (crypt at t k) wanted = and_then (fits at Number wanted) (and_then (typed t Number) (typed k Number))
    typed (apply at f ts) wanted = applied_fits at (count ts) wanted (applied S.functions f (meaning_of text S.names f.part)) (typed_all ts)

    -- some terms, against the types that are wanted of them; where none is said, a number is wanted
    pub typed_all : Terms → List ValueType → Result (Unit {0}) TermFault
    typed_all none wanted = Ok tt
    typed_all (more t ts) [] = and_then (typed t Number) (typed_all ts [])
    typed_all (more t ts) (w ∷ wanted) = and_then (typed t w) (typed_all ts wanted)
