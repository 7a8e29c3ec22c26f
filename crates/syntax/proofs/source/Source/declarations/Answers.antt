use Rattle.std.proofs.Common.{refl, sym, ap, ◌∙◌}
use Rattle.std.proofs.lemmas.Result.{err_from_is_err_and}
use Rattle.text.specs.Nodes.{tree_of}
use Rattle.syntax.specs.Shape.{declaration, declarations}
use Rattle.syntax.specs.Views.{declared_in}
use Rattle.syntax.specs.Numbers.{DeclarationTakes}
use Rattle.syntax.proofs.Numbers.{kept_same, take_more, rows_first, rows_more, rows_refused, rows_all}
use Rattle.syntax.proofs.source.Source.declarations.Goals as goal

pub loop-part-init : goal.loop-part-init
loop-part-init c = rw c.new-declarations.ensures.items (
  rows_first declared_in (declaration c.args.self.text.now) c.args.parts.now c.args.spec.now c.args.spec.now (kept_same c.args.spec.now),
  (refl, refl),
)

pub returns-in_err-declaration-clause-adds : goal.returns-in_err-declaration-clause-adds
unfolding declarations
returns-in_err-declaration-clause-adds c =
    let p = err_from_is_err_and c.from_residual.result c.from_residual.ensures.1 in
    let s = c.loop-part in
    let one = declaration c.args.self.text.now in
    rw (p.1, p.2) (rows_refused declared_in one c.args.parts.now s.part-index c.args.spec.now s.spec s.declarations.items s.invariant.0 c.part-item.result c.loop-part-test.true c.in_err-declaration.field-0.0 (λ n. ap (λ i. one (tree_of i)) (sym c.part-item.is) ∙ c.in_err-declaration.ensures.adds n))

pub loop-part-preserved : goal.loop-part-preserved
loop-part-preserved c =
    let s = c.loop-part in
    let one = declaration c.args.self.text.now in
    rw c.in_ok-push.ensures.items (
      rows_more declared_in one c.args.parts.now s.part-index c.args.spec.now s.spec s.declarations.items s.invariant.0 c.part-item.result c.loop-part-test.true c.declaration.new.spec c.in_ok-declaration.field-0 (c.in_ok-declaration.ensures.adds.0, λ ns ts. ap (λ i. one (tree_of i)) (sym c.part-item.is) ∙ c.in_ok-declaration.ensures.adds.1 ns ts),
      take_more DeclarationTakes _ _ s.declarations.items _ _ c.in_ok-declaration.field-0 _ _ s.invariant.1 c.in_ok-declaration.ensures.numbers,
    )

pub returns-clause-adds : goal.returns-clause-adds
unfolding declarations
returns-clause-adds c = rows_all declared_in (declaration c.args.self.text.now) c.args.parts.now c.loop-part.part-index c.args.spec.now c.loop-part.spec c.loop-part.declarations.items c.loop-part.invariant.0 c.loop-part-test.false

pub returns-clause-numbers : goal.returns-clause-numbers
returns-clause-numbers c = c.loop-part.invariant.1
