use Rattle.std.proofs.Common.{inl, inr, ap, ◌∙◌}
use Rattle.tape.specs.Headers.{header_size}
use Rattle.tape.proofs.Walking.{one_passed, at_place, elsewhere}
use Rattle.tape.proofs.walk.starts.Goals as goal
use Rattle.tape.proofs.walk.starts.Goals.{then-loop-at-test+else-at-bytes, else-loop-at-test}

pub loop-at-preserved : goal.loop-at-preserved
loop-at-preserved c = one_passed c.args.bytes.now c.args.handle c.loop-at.at _ c.loop-at.invariant c.loop-at-test.true c.if-at-bytes.true
    (c.header_size-at.ensures.value ∙ ap header_size c.header_at.ensures)

pub returns-then-at-handle : goal.returns-then-at-handle
returns-then-at-handle c = at_place c.args.bytes.now c.args.handle c.loop-at.at c.loop-at.invariant c.if-at-handle.true

pub returns-else-at-handle : goal.returns-else-at-handle
returns-else-at-handle c =
    elsewhere c.args.bytes.now c.args.handle c.loop-at.at c.loop-at.invariant c.if-at-handle.false
    (elim c.loop-at-test.branch [ then-loop-at-test+else-at-bytes w ↦ inl (w.loop-at-test.true, w.if-at-bytes.false) | else-loop-at-test w ↦ inr w.loop-at-test.false ])
