use Rattle.std.proofs.Common.{[], append-nil, refl, sym, ap, ◌∙◌}
use Rattle.std.proofs.lemmas.Result.{err_from_is_err_and}
use Rattle.text.specs.Nodes.{tree_of}
use Rattle.syntax.specs.Shape.{line, lines}
use Rattle.syntax.specs.Views.{line_in}
use Rattle.syntax.specs.Numbers.{LineTakes}
use Rattle.syntax.proofs.Numbers.{kept_termed, take_more, rows_first, rows_more, rows_refused, rows_all}
use Rattle.syntax.proofs.source.Source.lines.Goals as goal

pub loop-part-init : goal.loop-part-init
loop-part-init c = rw c.in_ok-lines.ensures.empty (
  rows_first line_in (line c.args.self.text.now) c.args.parts.now c.args.spec.now _ (kept_termed c.args.spec.now c.reserve.new.list [] (c.in_ok-reserve.ensures.items ∙ sym (append-nil c.args.spec.now.terms.items))),
  (refl, c.in_ok-reserve.ensures.len),
)

pub returns-in_err-line-clause-adds : goal.returns-in_err-line-clause-adds
unfolding lines
returns-in_err-line-clause-adds c =
    let p = err_from_is_err_and c.from_residual-in_err-line.result c.from_residual-in_err-line.ensures.1 in
    let s = c.loop-part in
    let one = line c.args.self.text.now in
    rw (p.1, p.2) (rows_refused line_in one c.args.parts.now s.part-index c.args.spec.now s.spec s.lines.items s.invariant.0 c.part-item.result c.loop-part-test.true c.in_err-line.field-0.0 (λ n. ap (λ i. one (tree_of i)) (sym c.part-item.is) ∙ c.in_err-line.ensures.adds n))

pub loop-part-preserved : goal.loop-part-preserved
loop-part-preserved c =
    let s = c.loop-part in
    let one = line c.args.self.text.now in
    rw c.in_ok-push.ensures.items (
      rows_more line_in one c.args.parts.now s.part-index c.args.spec.now s.spec s.lines.items s.invariant.0 c.part-item.result c.loop-part-test.true c.line.new.spec c.in_ok-line.field-0 (c.in_ok-line.ensures.adds.0, λ ns ts. ap (λ i. one (tree_of i)) (sym c.part-item.is) ∙ c.in_ok-line.ensures.adds.1 ns ts),
      take_more LineTakes _ _ s.lines.items _ _ c.in_ok-line.field-0 _ _ s.invariant.1 c.in_ok-line.ensures.numbers,
    )

pub returns-clause-adds : goal.returns-clause-adds
unfolding lines
returns-clause-adds c = rows_all line_in (line c.args.self.text.now) c.args.parts.now c.loop-part.part-index c.args.spec.now c.loop-part.spec c.loop-part.lines.items c.loop-part.invariant.0 c.loop-part-test.false

pub returns-clause-numbers : goal.returns-clause-numbers
returns-clause-numbers c = c.loop-part.invariant.1
