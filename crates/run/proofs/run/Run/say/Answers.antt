use Rattle.std.proofs.Common.{sym, refl}
use Rattle.std.proofs.lemmas.Result.{err_from_is_err_and}
use Rattle.run.specs.Calls.{at_once}
use Rattle.run.proofs.Trials.{next_line, said_turn, said_ok, said_err}
use Rattle.run.proofs.run.Run.say.Goals as goal

pub returns-in_err-in_turn : goal.returns-in_err-in_turn
returns-in_err-in_turn g c =
    let p = err_from_is_err_and c.from_residual.result c.from_residual.ensures.1 in
    rw (p.1, p.2) (at_once c.in_err-in_turn.field-0.0 (sym c.in_err-in_turn.ensures) refl refl refl)

pub try_line-requires-clause-next : goal.try_line-requires-clause-next
try_line-requires-clause-next g c = next_line c.args.self.now c.line-line.result.now c.line-line.ensures

pub returns-in_err-try_line : goal.returns-in_err-try_line
returns-in_err-try_line g c =
    let p = err_from_is_err_and c.from_residual-in_err-try_line.result c.from_residual-in_err-try_line.ensures.1 in
    rw (p.1, p.2)
    (said_err g.S.Store.semantics c.args.store.now c.try_line.new.store c.args.self.now c.try_line.new.self (said_turn c.args.self.now c.in_ok-in_turn.field-0 c.in_ok-in_turn.ensures) c.line-line.result.now c.line-line.ensures
    c.in_err-try_line.field-0.0 c.in_err-try_line.ensures)

pub returns : goal.returns
returns g c =
    said_ok g.S.Store.semantics c.args.store.now c.try_line.new.store c.args.self.now c.try_line.new.self (sym c.in_ok-in_turn.ensures) c.line-line.result.now c.line-line.ensures
    c.in_ok-try_line.field-0 c.in_ok-try_line.ensures c.said.result c.said.ensures
