use Rattle.std.proofs.Common.{◌≡◌, drop}
use Rattle.syntax.specs.Views.{terms_of}
use Rattle.terms.specs.Typing.{typed_all}
use Rattle.terms.specs.Meanings.{scope_of}
use Rattle.terms.proofs.declarations.Declarations.+check_check_parts.Given as goal

abbrev pub invariant-check_parts-loop-place : goal.invariant-check_parts-loop-place
invariant-check_parts-loop-place l = typed_all l.text (scope_of l.self) (terms_of l.parts) l.wanted ≡ typed_all l.text (scope_of l.self) (terms_of (drop l.place l.parts)) (drop l.place l.wanted)
