use Rattle.std.proofs.Common.{◌+◌, sym, refl, arith}
use mathlib.Core.Path.{subst⁻¹}
use Rattle.model.specs.Sessions.{gives}
use Rattle.run.specs.Turned.{is_give}
use Rattle.run.proofs.Counting.{Counted, gives_first, counts_one, counts_none, all_counted}
use Rattle.run.proofs.turn.count_gives.Goals as goal
use Rattle.run.proofs.turn.count_gives.Goals.{then-gives, else-gives}

pub overflow_add-count : goal.overflow_add-count
overflow_add-count c = omega (arith, c.loop-row.invariant.0)

pub loop-row-preserved : goal.loop-row-preserved
loop-row-preserved c =
    let l = c.loop-row in
    elim c.if-gives.branch [
      | then-gives w ↦ subst⁻¹ (Counted (λ acts. gives acts) c.args.rows.now (l.row-index + 1)) w.count-is (counts_one (λ acts. gives acts) (λ a. is_give a) gives_first c.args.rows.now l.row-index c.row-item.result c.row-item.is c.loop-row-test.true l.count (sym w.if-gives.ensures) l.invariant)
      | else-gives w ↦ subst⁻¹ (Counted (λ acts. gives acts) c.args.rows.now (l.row-index + 1)) w.count-is (counts_none (λ acts. gives acts) (λ a. is_give a) gives_first c.args.rows.now l.row-index c.row-item.result c.row-item.is c.loop-row-test.true l.count (sym w.if-gives.ensures) l.invariant)
    ]

pub returns : goal.returns
returns c = all_counted (λ acts. gives acts) refl c.args.rows.now c.loop-row.row-index c.loop-row.count c.loop-row-test.false c.loop-row.invariant
