use Rattle.run.proofs.Inputs.{said_none, said_more, said_all}
use Rattle.run.proofs.said.said.Goals as goal

pub loop-row-init : goal.loop-row-init
loop-row-init c = said_none c.args.rows.now c.args.registers.now

pub loop-row-preserved : goal.loop-row-preserved
loop-row-preserved c =
    said_more c.args.rows.now c.args.registers.now c.loop-row.row-index c.row-item.result c.row-item.is c.loop-row-test.true c.loop-row.said c.says.result c.either-said.result
    c.says.ensures c.either-said.ensures c.loop-row.invariant

pub returns : goal.returns
returns c = said_all c.args.rows.now c.args.registers.now c.loop-row.row-index c.loop-row.said c.loop-row-test.false c.loop-row.invariant
