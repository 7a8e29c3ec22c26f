use Rattle.std.proofs.Common.{sym}
use Rattle.std.proofs.lemmas.Result.{err_from_is_err_and}
use Rattle.roles.proofs.LinesLeft.{label_refused, line_refused, line_done}
use Rattle.roles.proofs.translation.Translation.lines.Goals as goal

pub returns-in_err-fresh_label : goal.returns-in_err-fresh_label
returns-in_err-fresh_label c =
    let p = err_from_is_err_and c.from_residual.result c.from_residual.ensures.1 in
    rw (p.1, p.2)
    (label_refused c.args.input.limits c.args.input.text.now c.args.input.spec.now _ c.loop-index.self c.args.lines.now c.loop-index.index _ c.loop-index-test.true
    c.loop-index.invariant.1 c.in_err-fresh_label.field-0.0 (sym c.in_err-fresh_label.ensures))

pub returns-in_err-line : goal.returns-in_err-line
returns-in_err-line c =
    let p = err_from_is_err_and c.from_residual-in_err-line.result c.from_residual-in_err-line.ensures.1 in
    rw (p.1, p.2)
    (line_refused c.args.input.limits c.args.input.text.now c.args.input.spec.now _ c.loop-index.self c.args.lines.now c.loop-index.index _ c.loop-index-test.true
    c.loop-index.invariant.1 (sym c.in_ok-fresh_label.ensures) c.line.new.self c.in_err-line.field-0.0 c.in_err-line.ensures.comes)

pub loop-index-preserved : goal.loop-index-preserved
loop-index-preserved c = (
  c.in_ok-line.ensures.keeps,
  line_done c.args.input.limits c.args.input.text.now c.args.input.spec.now _ c.loop-index.self c.args.lines.now c.loop-index.index _ c.loop-index-test.true
      c.loop-index.invariant.1 (sym c.in_ok-fresh_label.ensures) c.line.new.self c.in_ok-line.ensures.comes,
)
