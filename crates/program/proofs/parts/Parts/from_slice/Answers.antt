use Rattle.program.proofs.Shortened.{copied_more}
use Rattle.program.proofs.parts.Parts.from_slice.Goals as goal

pub loop-item-preserved : goal.loop-item-preserved
loop-item-preserved c = copied_more 8 c.loop-item.item-index c.args.items.now c.loop-item.parts c.push.new.self 0 c.loop-item-test.true c.loop-item.invariant c.push.ensures
