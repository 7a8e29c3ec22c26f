use Rattle.std.proofs.Common.{◌≡◌, length, min, rules, refl}
use Rattle.store.specs.History.{start}
use Rattle.store.proofs.Lawfulness.{lawful, performs_more, few, small, rest_more}
use Rattle.store.proofs.history.perform.Goals as goal

pub loop-i-init : goal.loop-i-init
loop-i-init g c = (start, refl)

pub loop-i-preserved : goal.loop-i-preserved
loop-i-preserved g c = (
  performs_more g.S.Store.semantics c.args.calls.now c.loop-i.answers c.args.store.now c.loop-i.i c.loop-i.store c.answer.new.store c.answer.result (search rules) (search rules) c.loop-i.invariant.0 c.answer.ensures,
  rest_more c.loop-i.answers c.args.answers.now c.loop-i.i c.answer.result c.loop-i.invariant.1,
)

pub returns-clause-performed : goal.returns-clause-performed
returns-clause-performed g c =
    let e : min (length c.args.calls.now) (length c.args.answers.now) ≡ c.loop-i.i = search rules in
    rw e c.loop-i.invariant.0

pub returns-clause-lawful : goal.returns-clause-lawful
returns-clause-lawful g c =
    let e : min (length c.args.calls.now) (length c.args.answers.now) ≡ c.loop-i.i = search rules in
    rw e (lawful g.S.Store.semantics c.args.calls.now c.loop-i.answers c.args.store.now c.loop-i.invariant.0)

pub returns-clause-rest : goal.returns-clause-rest
returns-clause-rest g c =
    let e : min (length c.args.calls.now) (length c.args.answers.now) ≡ c.loop-i.i = search rules in
    rw e c.loop-i.invariant.1

pub returns-clause-few : goal.returns-clause-few
returns-clause-few g c =
    let e : min (length c.args.calls.now) (length c.args.answers.now) ≡ c.loop-i.i = search rules in
    let l = lawful g.S.Store.semantics c.args.calls.now c.loop-i.answers c.args.store.now c.loop-i.invariant.0 in
    rw e (few g.S.Store.semantics c.args.calls.now c.loop-i.answers c.args.store.now (g.met.S.Store.each_costs c.args.store.now) c.loop-i.i c.loop-i.store l)

pub returns-clause-small : goal.returns-clause-small
returns-clause-small g c =
    let e : min (length c.args.calls.now) (length c.args.answers.now) ≡ c.loop-i.i = search rules in
    let l = lawful g.S.Store.semantics c.args.calls.now c.loop-i.answers c.args.store.now c.loop-i.invariant.0 in
    rw e (small g.S.Store.semantics c.args.calls.now c.loop-i.answers c.args.store.now g.met.S.Store.each_fits c.loop-i.i c.loop-i.store l)
