use Rattle.std.proofs.Common.{◌+◌, ◌-◌, ◌≤◌, length, rules, arith, ap, sym, ◌∙◌}
use Rattle.model.specs.Tape.{encode_all}
use Rattle.tape.proofs.Sizing.{next_valid, next_within, one_copied, all_copied}
use Rattle.tape.proofs.encode.copy_parts.Goals as goal

pub encoding-source-requires-clause-stands : goal.encoding-source-requires-clause-stands
encoding-source-requires-clause-stands c =
    let there = next_valid c.args.used.now c.args.parts.now c.requires.whole c.requires.room.parts c.requires.room.valid c.args.out.now c.loop-part.out c.loop-part.part-index c.loop-part.at
    c.loop-part.invariant c.loop-part-test.true in
    (there.0, there.1.stands)

pub slice_bounds-copy_from_slice-end : goal.slice_bounds-copy_from_slice-end
slice_bounds-copy_from_slice-end c =
    let l : c.loop-part.at + length c.encoding-source.result.now ≤ length (encode_all c.requires.room.parts) =
    next_within c.args.used.now c.args.parts.now c.requires.whole c.requires.room.parts c.requires.room.valid c.args.out.now c.loop-part.out c.loop-part.part-index c.loop-part.at
    c.loop-part.invariant c.loop-part-test.true (length c.encoding-source.result.now) (λ v k. ap length (c.encoding-source.ensures v k)) in
    let m = c.requires.room.enough in
    search rules

pub loop-part-preserved : goal.loop-part-preserved
loop-part-preserved c =
    one_copied c.args.used.now c.args.parts.now c.requires.whole c.requires.room.parts c.requires.room.valid c.args.out.now c.loop-part.out c.loop-part.part-index c.loop-part.at
    c.loop-part.invariant c.loop-part-test.true c.copy_from_slice.new.self (λ v k. c.copy_from_slice.ensures.after ∙ c.encoding-source.ensures v k)
    (length c.encoding-source.result.now) (c.loop-part.at + length c.encoding-source.result.now - c.loop-part.at) (ap length (sym c.copy_from_slice.ensures.after)) (omega arith)

pub returns : goal.returns
returns c = λ ts e. all_copied c.args.used.now c.args.parts.now c.requires.whole ts e c.args.out.now c.loop-part.out c.loop-part.part-index c.loop-part.at c.loop-part.invariant c.loop-part-test.false
