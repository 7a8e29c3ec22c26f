use Rattle.std.proofs.Common.{rules, [], subst, refl, arith}
use Rattle.std.proofs.lemmas.List.{take_all}
use mathlib.Core.Path.{subst⁻¹}
use Rattle.sessions.proofs.Going.{Halfway, halfway_start, halfway_more, all_performed}
use Rattle.sessions.proofs.perform.perform_on.Goals as goal

pub loop-request-init : goal.loop-request-init
loop-request-init g c =
    let m = g.S.Store.semantics.means in
    record {
      halfway = subst⁻¹ (λ rs. Halfway g.S.Store.semantics c.args.store.now c.args.store.now c.args.runs.now c.args.runs.now [] rs) c.in_ok-replies.ensures.empty
          (halfway_start g.S.Store.semantics c.args.store.now c.args.runs.now);
      count = search rules;
      left = c.in_ok-replies.ensures.room;
      room = refl;
    }

pub loop-request-preserved : goal.loop-request-preserved
loop-request-preserved g c =
    record {
      halfway = halfway_more g.S.Store.semantics c.args.store.now c.loop-request.store c.one-reply.new.store c.args.runs.now c.loop-request.runs c.one-reply.new.runs c.args.requests.now c.loop-request.request-index
          c.request-item.result c.loop-request-test.true c.request-item.is c.as_slice.result.now c.loop-request.replies.items c.push_reserved.new.self.items c.as_slice.ensures.value c.one-reply.result c.one-reply.ensures.does
          c.push_reserved.ensures.items c.loop-request.invariant.halfway;
      count = search rules;
      left = search rules;
      room = search rules;
    }

pub returns : goal.returns
returns g c =
    let m = g.S.Store.semantics.means in
    let h = c.loop-request-test.false in
    all_performed g.S.Store.semantics g.met.S.Store.each_fits g.met.S.Store.each_holds c.args.store.now c.loop-request.store c.args.runs.now c.loop-request.runs c.args.requests.now c.loop-request.replies.items
    (subst (λ qs. Halfway g.S.Store.semantics c.args.store.now c.loop-request.store c.args.runs.now c.loop-request.runs qs c.loop-request.replies.items)
    (take_all c.loop-request.request-index c.args.requests.now (omega arith)) c.loop-request.invariant.halfway)
