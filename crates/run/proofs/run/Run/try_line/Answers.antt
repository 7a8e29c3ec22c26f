use Rattle.std.proofs.Common.{◌<◌}
use mathlib.Core.Path.{subst⁻¹}
use Rattle.run.proofs.Lines.{line_size, line_other}
use Rattle.run.proofs.Moving.{within, of_next, still_empty}
use Rattle.run.proofs.run.Run.try_line.Goals as goal

pub perform-requires-clause-empty : goal.perform-requires-clause-empty
perform-requires-clause-empty g c r e =
    let run = c.args.self.now in run.empty_ahead r (of_next run.program.rows.now c.args.line.now run.place c.requires.next r e)

pub invariant_of-self-2-clause-within : goal.invariant_of-self-2-clause-within
invariant_of-self-2-clause-within g c =
    let run = c.args.self.now in within run.program.rows.now c.args.line.now run.place c.requires.next run.within

pub invariant_of-self-2-clause-room : goal.invariant_of-self-2-clause-room
invariant_of-self-2-clause-room g c r e =
    let run = c.args.self.now in subst⁻¹ (λ n. r < n) (line_size g.S.Store.semantics c.in_ok-self.ensures.1) (run.room r e)

pub invariant_of-self-2-clause-empty_ahead : goal.invariant_of-self-2-clause-empty_ahead
invariant_of-self-2-clause-empty_ahead g c =
    let run = c.args.self.now in
    still_empty run.program.rows.now c.args.line.now run.place c.requires.next run.program.counts.now run.program.sound run.registers c.perform.new.registers run.empty_ahead
    (line_other g.S.Store.semantics c.in_ok-self.ensures.1)
