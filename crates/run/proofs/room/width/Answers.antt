use Rattle.std.proofs.Common.{◌+◌, max, sym, ap, ◌∙◌}
use Rattle.run.proofs.Spanning.{span_none, span_some}
use Rattle.run.proofs.room.width.Goals as goal
use Rattle.run.proofs.room.width.Goals.{then-span-gt0, else-span-gt0}

pub loop-row-preserved : goal.loop-row-preserved
loop-row-preserved c =
    let l = c.loop-row in
    elim c.if-span-gt0.branch [
      | then-span-gt0 w ↦ w.width-is ∙ w.max-width.ensures ∙ ap (λ n. max n (c.fills-span.result.first + c.fills-span.result.count)) l.invariant
          ∙ sym (span_some c.args.rows.now l.row-index c.row-item.result c.row-item.is c.loop-row-test.true c.fills-span.result c.fills-span.ensures w.if-span-gt0.true)
      | else-span-gt0 w ↦ w.width-is ∙ l.invariant ∙ sym (span_none c.args.rows.now l.row-index c.row-item.result c.row-item.is c.loop-row-test.true c.fills-span.result c.fills-span.ensures w.if-span-gt0.false)
    ]
