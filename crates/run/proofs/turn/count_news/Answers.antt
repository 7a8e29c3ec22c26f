use Rattle.std.proofs.Common.{◌+◌, sym, refl, arith}
use mathlib.Core.Path.{subst⁻¹}
use Rattle.model.specs.Sessions.{news}
use Rattle.run.specs.Turned.{is_new}
use Rattle.run.proofs.Counting.{Counted, news_first, counts_one, counts_none, all_counted}
use Rattle.run.proofs.turn.count_news.Goals as goal
use Rattle.run.proofs.turn.count_news.Goals.{then-makes, else-makes}

pub overflow_add-count : goal.overflow_add-count
overflow_add-count c = omega (arith, c.loop-row.invariant.0)

pub loop-row-preserved : goal.loop-row-preserved
loop-row-preserved c =
    let l = c.loop-row in
    elim c.if-makes.branch [
      | then-makes w ↦ subst⁻¹ (Counted (λ acts. news acts) c.args.rows.now (l.row-index + 1)) w.count-is (counts_one (λ acts. news acts) (λ a. is_new a) news_first c.args.rows.now l.row-index c.row-item.result c.row-item.is c.loop-row-test.true l.count (sym w.if-makes.ensures) l.invariant)
      | else-makes w ↦ subst⁻¹ (Counted (λ acts. news acts) c.args.rows.now (l.row-index + 1)) w.count-is (counts_none (λ acts. news acts) (λ a. is_new a) news_first c.args.rows.now l.row-index c.row-item.result c.row-item.is c.loop-row-test.true l.count (sym w.if-makes.ensures) l.invariant)
    ]

pub returns : goal.returns
returns c = all_counted (λ acts. news acts) refl c.args.rows.now c.loop-row.row-index c.loop-row.count c.loop-row-test.false c.loop-row.invariant
