use Rattle.std.proofs.Common.{[], ◌∷◌, sym, refl}
use Rattle.std.proofs.lemmas.Result.{err_from_is_err_and}
use Rattle.run.specs.Calls.{at_once, valid_handles}
use Rattle.run.specs.Turned.{line_ahead, turn_answer}
use Rattle.run.specs.declared.turn.Asked.TheVariants as asks
use Rattle.run.proofs.Trials.{next_line, heard}
use Rattle.run.proofs.run.Run.hear.Goals as goal

pub returns-in_err-in_turn : goal.returns-in_err-in_turn
returns-in_err-in_turn g c =
    let p = err_from_is_err_and c.from_residual.result c.from_residual.ensures.1 in
    rw (p.1, p.2) (at_once c.in_err-in_turn.field-0.0 (sym c.in_err-in_turn.ensures) refl refl refl)

pub try_line-requires-clause-next : goal.try_line-requires-clause-next
try_line-requires-clause-next g c = next_line c.args.self.now c.line-line.result.now c.line-line.ensures

pub returns : goal.returns
returns g c =
    let M = g.S.Store.semantics in
    let run = c.args.self.now in
    heard M c.args.store.now c.try_line.new.store run c.try_line.new.self (turn_answer run asks.Hear) (sym c.in_ok-in_turn.ensures) c.line-line.result.now (line_ahead run) c.line-line.ensures
    c.valid-inputs.result.now (valid_handles (M.means c.args.store.now) (c.args.handle ∷ [])) c.valid-inputs.ensures c.try_line.result c.try_line.ensures
