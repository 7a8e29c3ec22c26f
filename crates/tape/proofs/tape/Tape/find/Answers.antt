use Rattle.std.proofs.Common.{sym, ◌∙◌}
use Rattle.tape.proofs.Asking.{named}
use Rattle.tape.proofs.tape.Tape.find.Goals as goal

pub returns : goal.returns
returns c = named c.args.self.now c.as_bytes.result.now c.as_bytes.ensures.bytes c.args.handle (sym c.starts.ensures ∙ c.if-not-starts.false)
