use Rattle.std.proofs.Common.{take, Err, sym, refl, subst}
use Rattle.text.specs.Reading.{reading, Answers}
use Rattle.text.proofs.Leading.{short_answers, long_answers}
use Rattle.text.proofs.Decided.{decided}
use Rattle.text.proofs.Laws.{lawful, accepts}
use Rattle.text.proofs.reading.read_text.Goals as goal

pub returns-then-text-le-MOST_BYTES : goal.returns-then-text-le-MOST_BYTES
returns-then-text-le-MOST_BYTES c =
    let a = short_answers c.args.text.now c.read_all.result c.if-text-le-MOST_BYTES.true c.read_all.ensures in
    record { answers = a; lawful = lawful c.args.text.now c.read_all.result a; decided = decided c.args.text.now; accepts = accepts c.args.text.now c.read_all.result a }

pub returns : goal.returns
returns c =
    let a =
    subst (λ f. Answers (reading c.args.text.now) (Err f)) (sym c.fault_of_cut.ensures)
    (long_answers c.args.text.now (take 65536 c.args.text.now) c.read_all-2.result c.if-text-le-MOST_BYTES.false refl c.read_all-2.ensures) in
    record { answers = a; lawful = lawful c.args.text.now (Err c.fault_of_cut.result) a; decided = decided c.args.text.now; accepts = accepts c.args.text.now (Err c.fault_of_cut.result) a }
