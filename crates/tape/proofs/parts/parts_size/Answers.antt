use Rattle.std.proofs.Common.{get_or, length, refl, sym, ap, ◌∙◌}
use Rattle.tape.proofs.Reaching.{anywhere}
use Rattle.tape.proofs.Sizing.{one_sized, invalid_answer, sized_answer}
use Rattle.tape.proofs.parts.parts_size.Goals as goal

pub returns-then-not-starts-clause-size : goal.returns-then-not-starts-clause-size
returns-then-not-starts-clause-size c = invalid_answer c.args.bytes.now c.args.parts.now c.loop-part.part-index c.loop-part.size _ c.loop-part.invariant refl c.loop-part-test.true (sym c.starts.ensures ∙ c.if-not-starts.true)

pub encoding-requires-clause-stands : goal.encoding-requires-clause-stands
encoding-requires-clause-stands c = let b = anywhere c.args.bytes.now (get_or c.args.parts.now c.loop-part.part-index 0) c.requires.whole (sym c.starts.ensures ∙ c.if-not-starts.false) in (b.0, b.1.stands)

pub loop-part-preserved : goal.loop-part-preserved
loop-part-preserved c =
    one_sized c.args.bytes.now c.args.parts.now c.requires.whole c.requires.few c.loop-part.part-index c.loop-part.size _ _ c.loop-part.invariant refl c.loop-part-test.true
    (sym c.starts.ensures ∙ c.if-not-starts.false) (λ v k. ap length (c.encoding.ensures v k))

pub returns-clause-size : goal.returns-clause-size
returns-clause-size c = sized_answer c.args.bytes.now c.args.parts.now c.loop-part.part-index c.loop-part.size c.loop-part.invariant c.loop-part-test.false
