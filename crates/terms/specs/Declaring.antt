-- The declarations, one after the other.
use Rattle.std.specs.Prelude.{ℕ, min, cond, List, [], ◌∷◌, ◌++◌, length, is_some, Some, None, Ok, Err, codes, Option, Result, nat_le}
use Rattle.std.specs.Str.{bytes_eq}
use Rattle.model.specs.Trees.{Tree}
use Rattle.syntax.specs.declared.spec.Name.{Name}
use Rattle.syntax.specs.Specs as syntax
use Rattle.syntax.specs.Specs.{Term, name, tuple, crypt, apply}
use Rattle.terms.specs.declared.declarations.Declared.{Declared}
use Rattle.terms.specs.declared.declarations.Meaning.{Meaning}
use Rattle.terms.specs.declared.declarations.Meaning.TheVariants.{Value, Function}
use Rattle.terms.specs.declared.declarations.ValueType.{ValueType}
use Rattle.terms.specs.declared.declarations.ValueType.TheVariants.{Number, Principal}
use Rattle.terms.specs.declared.limits.Limits.{Limits}
use Rattle.terms.specs.declared.fault.TermFault.{TermFault}
use Rattle.terms.specs.declared.fault.TermFault.TheVariants as term_fault
use Rattle.terms.specs.declared.fault.DeclarationFault.{DeclarationFault}
use Rattle.terms.specs.declared.fault.DeclarationFault.TheVariants.{Limit, Redeclared, WrongType}
use Rattle.terms.specs.Refusals.{to_declaration}
use Rattle.terms.specs.Scope.{Scope, Signature, nothing_declared, bytes, number_of, meaning_of, function_of}
use Rattle.terms.specs.Typing.{and_then, typed}
use Rattle.terms.specs.Numbering.{tree, read}

-- what follows a good step
abbrev pub bind : {A B E : Type 0} → Result A E → (A → Result B E) → Result B E
bind (Ok x) f = f x
bind (Err e) f = Err e

-- a fault of a term, in a declaration
abbrev pub in_declaration : {A : Type 0} → Result A TermFault → Result A DeclarationFault
in_declaration (Ok x) = Ok x
in_declaration (Err e) = Err (to_declaration e)

-- there are two types, by their names
abbrev pub kind_of : List ℕ → Name → Result ValueType DeclarationFault
kind_of text n =
    cond (bytes_eq (bytes text n.part) (codes "number")) (Ok Number)
    (cond (bytes_eq (bytes text n.part) (codes "principal")) (Ok Principal) (Err (WrongType n.at)))

abbrev pub kinds_of : List ℕ → List Name → Result (List ValueType) DeclarationFault
kinds_of text [] = Ok []
kinds_of text (n ∷ ns) = bind (kind_of text n) (λ k. bind (kinds_of text ns) (λ ks. Ok (k ∷ ks)))

-- a party, by its name: its number
abbrev pub party_number : Name → Option ℕ → Option Meaning → Result ℕ TermFault
party_number n None m = Err (term_fault.Undeclared n.at)
party_number n (Some k) None = Err (term_fault.WrongType n.at)
party_number n (Some k) (Some (Value Number shared)) = Err (term_fault.WrongType n.at)
party_number n (Some k) (Some (Value Principal shared)) = Ok k
party_number n (Some k) (Some (Function f)) = Err (term_fault.WrongType n.at)

module _ (text : List ℕ) where
  abbrev pub principal : Scope → Name → Result ℕ TermFault
  principal S n = party_number n (number_of text S.names n.part) (meaning_of text S.names n.part)

  -- a term: its types, then its terms, of which there are at most `most`; the scope with them
  abbrev pub with_terms : Scope → Result (List Tree) TermFault → Result Scope TermFault
  with_terms S (Ok us) = Ok (record { names = S.names; functions = S.functions; starts = S.starts; rights = S.rights; terms = us })
  with_terms S (Err e) = Err e

  abbrev pub with_term : ℕ → Term → Scope → Result Scope TermFault
  with_term most t S = and_then (typed text S t Number) (with_terms S (read text S.names most t S.terms))

  -- a function's name alone is a right to apply it
  abbrev pub right_of : Scope → Term → Option ℕ
  right_of S (name at p) = function_of (meaning_of text S.names p)
  right_of S (tuple at ts) = None
  right_of S (crypt at t k) = None
  right_of S (apply at f ts) = None

  module _ (limits : Limits) where
    -- the name is new, and there is room for it
    abbrev pub fresh : List Declared → Name → Result (Unit {0}) DeclarationFault
    fresh names n =
        cond (is_some (number_of text names n.part)) (Err (Redeclared n.at))
        (cond (nat_le (min limits.names 128) (length names)) (Err (Limit n.at)) (Ok tt))

    abbrev pub with_name : Name → Meaning → Scope → Scope
    with_name n m S =
        record { names = S.names ++ (record { name = n.part; meaning = m } ∷ []); functions = S.functions; starts = S.starts; rights = S.rights; terms = S.terms }

    abbrev pub with_function : Signature → Scope → Scope
    with_function f S =
        record { names = S.names; functions = S.functions ++ (f ∷ []); starts = S.starts; rights = S.rights; terms = S.terms }

    abbrev pub with_start : Option ℕ → Term → Scope → Scope
    with_start who t S =
        record { names = S.names; functions = S.functions; starts = S.starts ++ (record { knower = who; term = tree text S.names t } ∷ []); rights = S.rights; terms = S.terms }

    abbrev pub with_right : Option ℕ → ℕ → Scope → Scope
    with_right who f S =
        record { names = S.names; functions = S.functions; starts = S.starts; rights = S.rights ++ (record { knower = who; function = f } ∷ []); terms = S.terms }

    -- starting knowledge of a party, or of everybody
    abbrev pub known : Option ℕ → Term → Scope → Result Scope DeclarationFault
    known who t S =
        elim (right_of S t) [
          | Some f ↦ Ok (with_right who f S)
          | None ↦ bind (in_declaration (with_term (min limits.terms 512) t S)) (λ U. Ok (with_start who t U))
        ]

    abbrev pub declare : syntax.Declared → Scope → Result Scope DeclarationFault
    declare (syntax.value n k shared) S = bind (fresh S.names n) (λ _. bind (kind_of text k) (λ kind. Ok (with_name n (Value kind shared) S)))
    declare (syntax.function n class r ps) S =
        bind (fresh S.names n) (λ _.
        bind (kind_of text r) (λ result.
        bind (kinds_of text ps) (λ parameters.
        Ok (with_function (record { name = n.part; class = class; result = result; parameters = parameters }) (with_name n (Function (length S.functions)) S)))))
    declare (syntax.knows n t) S = bind (in_declaration (principal S n)) (λ who. known (Some who) t S)
    declare (syntax.everybody t) S = known None t S

    abbrev pub declare_all : List syntax.Declared → Scope → Result Scope DeclarationFault
    declare_all [] S = Ok S
    declare_all (d ∷ ds) S = bind (declare d S) (declare_all ds)

    -- all declarations of a specification
    abbrev pub declared : syntax.Specification → Result Scope DeclarationFault
    declared spec = declare_all spec.declarations nothing_declared
