use Rattle.std.proofs.Common.{length, map, ◌==◌, vec_capacity}
use Rattle.std.proofs.lemmas.Result.{err_from_is_err_and}
use Rattle.model.specs.Sessions.{gives}
use Rattle.program.specs.Actions.{row_act}
use Rattle.run.proofs.Trials.{early_begin, begin_waits, number_room, next_front, wrong_counts, begun_ok, begun_err}
use Rattle.run.proofs.run.Run.begin.Goals as goal

pub returns-in_err-in_turn : goal.returns-in_err-in_turn
returns-in_err-in_turn g c =
    let p = err_from_is_err_and c.from_residual.result c.from_residual.ensures.1 in
    rw (p.1, p.2) (early_begin g.S.Store.semantics c.args.self.now c.args.given.now c.args.numbers.now c.args.store.now c.in_err-in_turn.field-0.0 c.in_err-in_turn.ensures)

pub start-requires-clause-room : goal.start-requires-clause-room
start-requires-clause-room g c =
    let run = c.args.self.now in
    number_room run.place run.program.rows.now c.ahead-rows.result.now (length c.args.given.now == gives (map row_act c.front-line.result.now)) c.counts_fit.result (length c.args.numbers.now) (vec_capacity run.numbers)
    c.counts_fit.ensures c.if-not-counts_fit.false c.ahead-rows.ensures run.reserved

pub try_line-requires-clause-next : goal.try_line-requires-clause-next
try_line-requires-clause-next g c =
    next_front c.args.self.now c.start.new.self c.ahead-rows.result.now c.front-line.result.now c.ahead-rows.ensures c.front-line.ensures c.start.ensures.stays

pub returns-then-not-counts_fit : goal.returns-then-not-counts_fit
returns-then-not-counts_fit g c =
    wrong_counts c.args.self.now c.in_ok-in_turn.field-0 c.in_ok-in_turn.ensures c.ahead-rows.result.now c.front-line.result.now c.ahead-rows.ensures c.front-line.ensures
    c.args.given.now c.args.numbers.now c.counts_fit.result c.counts_fit.ensures g.S.Store.semantics c.args.store.now c.if-not-counts_fit.true

pub returns-in-Ok : goal.returns-in-Ok
returns-in-Ok g c =
    begun_ok c.args.self.now c.in_ok-in_turn.field-0 c.in_ok-in_turn.ensures c.ahead-rows.result.now c.front-line.result.now c.ahead-rows.ensures c.front-line.ensures
    c.args.given.now c.args.numbers.now c.counts_fit.result c.counts_fit.ensures g.S.Store.semantics c.args.store.now c.if-not-counts_fit.false
    c.try_line.new.store c.start.new.self c.try_line.new.self c.start.ensures c.valid-inputs.result.now c.valid-inputs.ensures tt c.in-Ok.ensures

pub returns-in-Err : goal.returns-in-Err
returns-in-Err g c =
    begun_err c.args.self.now c.in_ok-in_turn.field-0 c.in_ok-in_turn.ensures c.ahead-rows.result.now c.front-line.result.now c.ahead-rows.ensures c.front-line.ensures
    c.args.given.now c.args.numbers.now c.counts_fit.result c.counts_fit.ensures g.S.Store.semantics c.args.store.now c.if-not-counts_fit.false
    c.try_line.new.store c.start.new.self c.try_line.new.self c.start.ensures c.valid-inputs.result.now c.valid-inputs.ensures (begin_waits c.args.self.now c.in_ok-in_turn.field-0 c.in_ok-in_turn.ensures)
    c.in-Err.fault c.in-Err.ensures c.cancel.new.self c.cancel.ensures
