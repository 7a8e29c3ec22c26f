use Rattle.std.proofs.Common.{ap}
use Rattle.text.proofs.Leading.{text_trails, text_read}
use Rattle.text.proofs.reading.read_all.Goals as goal

pub returns-then-end-text : goal.returns-then-end-text
returns-then-end-text c =
    let l = c.in_ok-term.ensures.leads in
    text_trails c.args.text.now c.new-reader.result.text.now c.read_term.new.reader.text.now c.new-reader.ensures.0 (ap (λ x. x.now) c.read_term.ensures.same)
    c.new-reader.result.at c.read_term.new.reader.at c.after_blanks-end.result c.new-reader.ensures.1 c.after_blanks-end.ensures l.0 c.in_ok-term.term l.2 l.1 c.if-end-text.true

pub returns : goal.returns
returns c =
    let l = c.in_ok-term.ensures.leads in
    text_read c.args.text.now c.new-reader.result.text.now c.read_term.new.reader.text.now c.new-reader.ensures.0 (ap (λ x. x.now) c.read_term.ensures.same)
    c.new-reader.result.at c.read_term.new.reader.at c.after_blanks-end.result c.new-reader.ensures.1 c.after_blanks-end.ensures l.0 c.in_ok-term.term l.2 l.1 c.if-end-text.false
