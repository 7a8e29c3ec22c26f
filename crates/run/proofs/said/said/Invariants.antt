use Rattle.run.proofs.Inputs.{SaidUpto}
use Rattle.run.proofs.said.said.Given as goal

abbrev pub invariant-loop-row : goal.invariant-loop-row
invariant-loop-row l = SaidUpto l.rows l.registers l.row-index l.said
