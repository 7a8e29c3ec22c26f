use Rattle.std.proofs.Common.{◌+◌, ◌-◌, arith, ap, ◌∙◌}
use Rattle.tape.specs.Headers.{header_size}
use Rattle.tape.proofs.Parting.{all_parts, one_part, this_part}
use Rattle.tape.proofs.walk.part_at.Goals as goal

pub loop-init : goal.loop-init
loop-init c = λ v p b e.
    all_parts c.args.bytes.now c.args.start c.header_size.result v p c.args.index (c.args.index - 0) b e
    (c.header_size.ensures.value ∙ ap header_size c.header_at.ensures) (omega arith)

pub loop-preserved : goal.loop-preserved
loop-preserved c = λ v p b e.
    one_part c.args.bytes.now c.loop.at p (c.args.index - c.loop.counter) (c.args.index - (c.loop.counter + 1)) c.end_of-at.result
    (c.loop.invariant v p b e) (omega arith) (omega arith) c.end_of-at.ensures

pub returns : goal.returns
returns c = λ v p b e. this_part c.args.bytes.now c.loop.at p (c.args.index - c.loop.counter) (c.loop.invariant v p b e) (omega arith)
