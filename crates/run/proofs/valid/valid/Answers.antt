use Rattle.std.proofs.Common.{get_or, sym, refl, ap, ◌∙◌, is_err}
use Rattle.run.proofs.Inputs.{is_none, is_some, valid_all, valid_stops, valid_more}
use Rattle.run.proofs.valid.valid.Goals as goal

pub returns-then-is_err : goal.returns-then-is_err
returns-then-is_err g c =
    let m = g.S.Store.semantics.means c.args.store.now in
    let x = get_or c.args.handles.now c.loop-i.i 0 in
    valid_stops m c.args.handles.now c.loop-i.i c.loop-i.invariant x refl c.loop-i-test.true (is_none (m x) (ap (λ r. is_err r) (sym c.shape.ensures) ∙ sym c.if-is_err.ensures.value))

pub loop-i-preserved : goal.loop-i-preserved
loop-i-preserved g c =
    let m = g.S.Store.semantics.means c.args.store.now in
    let x = get_or c.args.handles.now c.loop-i.i 0 in
    valid_more m c.args.handles.now c.loop-i.i c.loop-i.invariant x refl c.loop-i-test.true (is_some (m x) (ap (λ r. is_err r) (sym c.shape.ensures) ∙ sym c.if-is_err.ensures.value))

pub returns : goal.returns
returns g c = valid_all (g.S.Store.semantics.means c.args.store.now) c.args.handles.now c.loop-i.i c.loop-i.invariant c.loop-i-test.false
