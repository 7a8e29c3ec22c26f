use Rattle.std.proofs.Common.{arith, sym}
use Rattle.tape.specs.Fitting.{starts_within}
use Rattle.tape.proofs.Opening.{has_key, text_there}
use Rattle.tape.proofs.open.find_text.Goals as goal

pub header_at-requires : goal.header_at-requires
header_at-requires c = let l = starts_within 0 c.args.bytes.now c.args.place c.requires.begins.1.starts in omega arith

pub equal-requires-clause-left : goal.equal-requires-clause-left
equal-requires-clause-left c = has_key c.args.bytes.now c.args.place c.requires.begins.0 c.requires.begins.1 (sym c.in-Crypt.ensures) c.part_at.result c.part_at.ensures

pub returns : goal.returns
returns c = λ v w b m.
    text_there c.args.bytes.now c.args.place v b (sym c.in-Crypt.ensures) c.part_at.result c.part_at.ensures c.part_at-2.result w c.equal.result c.if-not-equal.false c.part_at-2.ensures (λ p k. c.equal.ensures p w k m)
