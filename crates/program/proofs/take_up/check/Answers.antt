use Rattle.std.proofs.Common.{[], ◌++◌, refl}
use Rattle.program.specs.Held.{fills, passes}
use Rattle.program.proofs.Passing.{row_good, row_bad, rows_end}
use Rattle.program.proofs.take_up.check.Goals as goal

pub loop-row-init : goal.loop-row-init
loop-row-init c = ([], c.in_ok-filled.ensures, refl)

pub loop-row-preserved : goal.loop-row-preserved
loop-row-preserved c =
    let (done, filled, left) = c.loop-row.invariant in
    let r = c.row-item.result in
    let s = c.if-not-step.ensures done filled in
    (done ++ fills r.action, s.0, row_good c.args.counts.now c.args.rows.now (passes c.args.counts.now c.args.rows.now) done c.loop-row.line c.loop-row.row-index left r c.row-item.is c.loop-row-test.true s.1)

pub returns-then-not-step : goal.returns-then-not-step
returns-then-not-step c =
    let k = c.loop-row.invariant in
    row_bad c.args.counts.now c.args.rows.now (passes c.args.counts.now c.args.rows.now) k.0 c.loop-row.line c.loop-row.row-index k.2 c.row-item.result c.row-item.is c.loop-row-test.true (c.if-not-step.ensures k.0 k.1)

pub returns : goal.returns
returns c =
    let k = c.loop-row.invariant in
    rows_end c.args.counts.now c.args.rows.now (passes c.args.counts.now c.args.rows.now) k.0 c.loop-row.line c.loop-row.row-index k.2 c.loop-row-test.false
