use Rattle.syntax.specs.Shape.{line}
use Rattle.syntax.specs.Views.{line_in}
use Rattle.syntax.specs.Numbers.{AllTake, LineTakes, Took}
use Rattle.syntax.proofs.Numbers.{Rows}
use Rattle.syntax.proofs.source.Source.lines.Given as goal

abbrev pub invariant-loop-part : goal.invariant-loop-part
invariant-loop-part l = Rows line_in (line l.self.text.now) l.parts l.part-index l.fn.spec l.spec l.lines.items × Took (AllTake LineTakes) l.fn.spec l.lines.items l.spec
