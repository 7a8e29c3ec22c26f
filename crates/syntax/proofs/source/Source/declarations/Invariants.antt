use Rattle.syntax.specs.Shape.{declaration}
use Rattle.syntax.specs.Views.{declared_in}
use Rattle.syntax.specs.Numbers.{AllTake, DeclarationTakes, Took}
use Rattle.syntax.proofs.Numbers.{Rows}
use Rattle.syntax.proofs.source.Source.declarations.Given as goal

abbrev pub invariant-loop-part : goal.invariant-loop-part
invariant-loop-part l = Rows declared_in (declaration l.self.text.now) l.parts l.part-index l.initial.spec l.spec l.declarations.items × Took (AllTake DeclarationTakes) l.initial.spec l.declarations.items l.spec
