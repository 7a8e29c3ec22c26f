use Rattle.std.proofs.Common.{take}
use Rattle.run.specs.Filling.{filled_by}
use Rattle.run.specs.Lines.{Empties}
use Rattle.run.proofs.line.forget.Given as goal

abbrev pub invariant-loop-row : goal.invariant-loop-row
invariant-loop-row l = Empties (filled_by (take l.row-index l.rows)) l.initial.registers l.registers
