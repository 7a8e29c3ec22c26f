use Rattle.std.proofs.Common.{arith}
use Rattle.tape.proofs.Asking.{text_within, text_answer}
use Rattle.tape.proofs.calls.TapeStore.unlock.Goals as goal

pub overflow_cast-result : goal.overflow_cast-result
overflow_cast-result c =
    let l = text_within c.args.self.now c.as_bytes.result.now c.as_bytes.ensures.bytes c.args.handle c.in_ok-place.place c.args.key c.in_ok-key.key c.in_ok-text.text
    c.in_ok-place.ensures c.in_ok-key.ensures c.in_ok-text.ensures in
    omega arith

pub returns : goal.returns
returns c =
    text_answer c.args.self.now c.as_bytes.result.now c.as_bytes.ensures.bytes c.args.handle c.in_ok-place.place c.args.key c.in_ok-key.key _
    c.in_ok-place.ensures c.in_ok-key.ensures c.in_ok-text.ensures
