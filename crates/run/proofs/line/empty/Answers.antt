use Rattle.run.proofs.Emptying.{row_more}
use Rattle.run.proofs.line.empty.Goals as goal

pub loop-i-preserved : goal.loop-i-preserved
loop-i-preserved c = rw c.fill.ensures (row_more c.args.registers.now c.loop-i.registers c.args.span.first c.loop-i.i c.loop-i.invariant)
