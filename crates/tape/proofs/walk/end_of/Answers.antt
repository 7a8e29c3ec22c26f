use Rattle.std.proofs.Common.{ap, ◌∙◌, arith}
use Rattle.tape.specs.Headers.{header_size, parts_after}
use Rattle.tape.proofs.Ending.{all_unread, one_read, nothing_left, no_bytes_left}
use Rattle.tape.proofs.walk.end_of.Goals as goal

pub loop-left-init : goal.loop-left-init
loop-left-init c = record { few = omega arith; unread = λ v k. all_unread c.args.bytes.now c.args.start v k }

pub loop-left-preserved : goal.loop-left-preserved
loop-left-preserved c = record {
  few = let l = c.loop-left.invariant.few in omega arith;
  unread = λ v k. one_read c.args.bytes.now c.args.start v c.loop-left.at c.loop-left.left _ _ (c.loop-left.invariant.unread v k) c.loop-left-test.true
      (c.header_size-at.ensures.value ∙ ap header_size c.header_at-shape.ensures) (c.parts_after.ensures.value ∙ ap parts_after c.header_at-shape.ensures);
}

pub returns-else-at-bytes : goal.returns-else-at-bytes
returns-else-at-bytes c = λ v k. no_bytes_left c.args.bytes.now c.args.start v c.loop-left.at c.loop-left.left (c.loop-left.invariant.unread v k) c.if-at-bytes.false

pub returns-after-loop-left : goal.returns-after-loop-left
returns-after-loop-left c = λ v k. nothing_left c.args.bytes.now c.args.start v c.loop-left.at c.loop-left.left (c.loop-left.invariant.unread v k) c.loop-left-test.false
