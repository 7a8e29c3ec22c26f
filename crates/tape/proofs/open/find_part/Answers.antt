use Rattle.std.proofs.Common.{ap, ◌∙◌}
use Rattle.store.specs.Numbers.{part_count}
use Rattle.tape.proofs.Opening.{too_far, part_there}
use Rattle.tape.proofs.open.find_part.Goals as goal

pub returns-then-index-count : goal.returns-then-index-count
returns-then-index-count c = λ v b. too_far c.args.bytes.now c.args.place v b c.args.index c.count.result (c.count.ensures ∙ ap part_count c.header_at.ensures) c.if-index-count.true

pub returns : goal.returns
returns c = λ v b.
    part_there c.args.bytes.now c.args.place v b c.args.index c.count.result (c.count.ensures ∙ ap part_count c.header_at.ensures) c.part_at.result c.if-index-count.false c.part_at.ensures
