-- What reading a term into the declarations answers, and what it leaves.
use Rattle.std.specs.Prelude.{◌≡◌, ℕ, List, Some, Ok, Err, Result}
use Rattle.std.specs.List.{position}
use Rattle.model.specs.Trees.{eq_tree}
use Rattle.syntax.specs.Specs.{Term}
use Rattle.terms.specs.declared.declarations.ValueType.TheVariants.{Number}
use Rattle.terms.specs.declared.fault.TermFault.{TermFault}
use Rattle.terms.specs.declared.fault.TermFault.TheVariants.{Limit, Undeclared, WrongType, NoMemory}
use Rattle.terms.specs.Scope.{Scope}
use Rattle.terms.specs.Typing.{typed}
use Rattle.terms.specs.Numbering.{tree}
use Rattle.terms.specs.Declaring.{with_term}

module _ (text : List ℕ) (most : ℕ) (t : Term) (S : Scope) where
  -- why it is refused; memory is wanting only for a term whose types are good
  abbrev pub Refused : TermFault → Type 0
  Refused (Limit p) = with_term text most t S ≡ Err (Limit p)
  Refused (Undeclared p) = with_term text most t S ≡ Err (Undeclared p)
  Refused (WrongType p) = with_term text most t S ≡ Err (WrongType p)
  Refused (NoMemory w) = typed text S t Number ≡ Ok tt

  -- the scope has the term then, and its number is its place among the terms; a refusal leaves the scope as it was
  abbrev pub Termed : Scope → Result ℕ TermFault → Type 0
  Termed S' (Ok k) = (with_term text most t S ≡ Ok S') × (position (eq_tree (tree text S.names t)) S'.terms ≡ Some k)
  Termed S' (Err f) = Refused f × (S' ≡ S)
