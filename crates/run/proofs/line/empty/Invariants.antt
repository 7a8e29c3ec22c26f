use Rattle.program.specs.Held.{from}
use Rattle.run.specs.Lines.{Empties}
use Rattle.run.proofs.line.empty.Given as goal

abbrev pub invariant-loop-i : goal.invariant-loop-i
invariant-loop-i l = Empties (from l.fn.span.first l.i) l.initial.registers l.registers
