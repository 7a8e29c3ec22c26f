use Rattle.std.proofs.Common.{◌≡◌, take}
use Rattle.run.specs.Filling.{filled_by, span_to}
use Rattle.run.proofs.room.width.Given as goal

abbrev pub invariant-loop-row : goal.invariant-loop-row
invariant-loop-row l = l.width ≡ span_to (filled_by (take l.row-index l.rows))
