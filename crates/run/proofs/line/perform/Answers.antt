use Rattle.run.proofs.Lines.{upto_end, upto_more, upto_stops}
use Rattle.run.proofs.line.perform.Goals as goal

pub returns-in-Err : goal.returns-in-Err
returns-in-Err g c =
    upto_stops g.S.Store.semantics c.args.rows.now c.args.place c.args.store.now c.args.registers.now c.args.supply c.loop-i.i c.loop-i.store c.loop-i.registers c.loop-i.left c.loop-i.invariant
    c.index-rows-i.result c.index-rows-i.is c.loop-i-test.true c.step.new.store c.step.new.registers c.step.new.supply c.in-Err.fault c.in-Err.ensures.does c.requires.empty c.forget.new.registers c.forget.ensures c.at.result c.at.ensures

pub loop-i-preserved : goal.loop-i-preserved
loop-i-preserved g c =
    upto_more g.S.Store.semantics c.args.rows.now c.args.place c.args.store.now c.args.registers.now c.args.supply c.loop-i.i c.loop-i.store c.loop-i.registers c.loop-i.left c.loop-i.invariant
    c.index-rows-i.result c.index-rows-i.is c.loop-i-test.true c.step.new.store c.step.new.registers c.step.new.supply c.in_default.field-0 c.in_default.ensures.does c.in_default.ensures.numbers

pub returns : goal.returns
returns g c =
    upto_end g.S.Store.semantics c.args.rows.now c.args.place c.args.store.now c.args.registers.now c.args.supply c.loop-i.i c.loop-i.store c.loop-i.registers c.loop-i.left c.loop-i.invariant
    c.loop-i-test.false c.loop-i.left.within
