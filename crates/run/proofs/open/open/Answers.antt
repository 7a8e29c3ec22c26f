use Rattle.std.proofs.Common.{sym, arith}
use Rattle.run.proofs.Opening.{none_missing, none_yet, one_filled, all_filled}
use Rattle.run.proofs.open.open.Goals as goal

pub returns-in_err-part : goal.returns-in_err-part
returns-in_err-part g c =
    absurd (none_missing (g.S.Store.semantics.means c.args.store.now) c.at-handle.result c.args.wanted c.in_ok-fit.field-0 c.loop-i.i c.in_ok-fit.ensures (omega arith) c.in_err-part.field-0.0 c.in_err-part.ensures)

pub loop-i-init : goal.loop-i-init
loop-i-init g c = none_yet (g.S.Store.semantics.means c.args.store.now) c.at-handle.result c.args.wanted c.in_ok-fit.field-0 c.args.registers.now c.args.first

pub loop-i-preserved : goal.loop-i-preserved
loop-i-preserved g c =
    rw c.fill.ensures
    (one_filled (g.S.Store.semantics.means c.args.store.now) c.at-handle.result c.args.wanted c.in_ok-fit.field-0 c.args.registers.now c.loop-i.registers c.args.first c.loop-i.i c.in_ok-part.field-0
    c.in_ok-fit.ensures (omega arith) c.in_ok-part.ensures c.loop-i.invariant)

pub returns : goal.returns
returns g c =
    rw (sym c.at-handle.ensures)
    (all_filled (g.S.Store.semantics.means c.args.store.now) c.at-handle.result c.args.wanted c.in_ok-fit.field-0 c.args.registers.now c.loop-i.registers c.args.first c.loop-i.i
    c.in_ok-fit.ensures (omega arith) c.loop-i.invariant)
