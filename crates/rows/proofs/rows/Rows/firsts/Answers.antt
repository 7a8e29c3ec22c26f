use Rattle.std.proofs.Common.{rules, vec_items, refl}
use Rattle.std.proofs.lemmas.Result.{err_from_is_err_and}
use Rattle.rows.specs.Rows.{meaning}
use Rattle.rows.proofs.Asking.{gathers_none, gathers_more, gathers_all, gathers_count, gathered_none}
use Rattle.rows.proofs.rows.Rows.firsts.Goals as goal

pub loop-handle-init : goal.loop-handle-init
loop-handle-init c = gathers_none (vec_items c.args.self.now.entries) c.args.handles.now c.new-parts.result (search rules)

pub returns-in_err-first-clause-values : goal.returns-in_err-first-clause-values
returns-in_err-first-clause-values c =
    let p = err_from_is_err_and c.from_residual.result c.from_residual.ensures.1 in
    let e = c.in_err-first.ensures in
    rw (p.1, p.2) (e.0, gathered_none (meaning (vec_items c.args.self.now.entries)) c.args.handles.now c.loop-handle.handle-index (search rules) e.1)

pub loop-handle-preserved : goal.loop-handle-preserved
loop-handle-preserved c =
    let e = c.in_ok-first.ensures in
    gathers_more (vec_items c.args.self.now.entries) c.args.handles.now c.loop-handle.handle-index c.loop-handle.parts c.push.new.self c.in_ok-first.field-0 _
    c.loop-handle.invariant (search rules) c.requires refl e.0 e.1 c.push.ensures

pub returns-clause-values : goal.returns-clause-values
returns-clause-values c = gathers_all (vec_items c.args.self.now.entries) c.args.handles.now c.loop-handle.handle-index c.loop-handle.parts c.loop-handle.invariant (search rules)

pub returns-clause-count : goal.returns-clause-count
returns-clause-count c = gathers_count (vec_items c.args.self.now.entries) c.args.handles.now c.loop-handle.handle-index c.loop-handle.parts c.loop-handle.invariant (search rules)
