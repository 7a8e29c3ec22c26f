use Rattle.std.proofs.Common.{sym}
use mathlib.Core.Path.{subst⁻¹}
use Rattle.program.proofs.Stepping.{fills_span}
use Rattle.program.specs.Held.{from}
use Rattle.run.specs.Lines.{Empties}
use Rattle.run.proofs.Emptying.{rows_more}
use Rattle.run.proofs.line.forget.Goals as goal

pub loop-row-preserved : goal.loop-row-preserved
loop-row-preserved c =
    let r = c.row-item.result in
    let spans = subst⁻¹ (λ s. Empties (from s.first s.count) c.loop-row.registers c.empty.new.registers) (sym c.fills.ensures) c.empty.ensures in
    rows_more c.args.rows.now c.loop-row.row-index r c.args.registers.now c.loop-row.registers c.empty.new.registers c.row-item.is c.loop-row-test.true c.loop-row.invariant
    (subst⁻¹ (λ rs. Empties rs c.loop-row.registers c.empty.new.registers) (fills_span r.action) spans)
