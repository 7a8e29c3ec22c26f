use Rattle.std.proofs.Common.{◌+◌, ◌<◌, sym, ◌∙◌, arith}
use mathlib.Core.Path.{subst⁻¹}
use Rattle.terms.specs.Terms.{size}
use Rattle.roles.proofs.Marks.{Upto, stays, sets, passes}
use Rattle.roles.proofs.state.RoleState.composable.Goals as goal
use Rattle.roles.proofs.state.RoleState.composable.Goals.{then-not-has+then-from_parts, else-not-has, else-not-has-via-then-not-has+else-from_parts, else-not-has-via-else-not-has}

pub loop-term-preserved : goal.loop-term-preserved
loop-term-preserved c =
    let t = c.args.view.table.now in
    let p = c.args.view.party.now in
    let s = c.args.self.now in
    let k = c.loop-term.term in
    let bs = c.loop-term.composable in
    let u = c.loop-term.invariant in
    let h : k < size t = omega (arith, c.len-count.ensures) in
    elim c.if-not-has.branch [
      | then-not-has+then-from_parts w ↦ subst⁻¹ (Upto t p s (k + 1)) (w.composable-is ∙ w.mark.ensures)
          (sets t p s c.requires k bs u h (sym c.has.ensures ∙ w.if-not-has.true) _ (w.row.ensures.stands h) (sym w.if-from_parts.true ∙ w.from_parts.ensures))
      | else-not-has w ↦ subst⁻¹ (Upto t p s (k + 1)) w.composable-is (elim w.else-not-has.branch [
        | else-not-has-via-then-not-has+else-from_parts v ↦
            passes t p s c.requires k bs u h (sym c.has.ensures ∙ v.if-not-has.true) _ (v.row.ensures.stands h) (sym v.if-from_parts.false ∙ v.from_parts.ensures)
        | else-not-has-via-else-not-has v ↦ stays t p s c.requires k bs u h (sym c.has.ensures ∙ v.if-not-has.false)
      ])
    ]
