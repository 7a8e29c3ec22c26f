use Rattle.std.proofs.Common.{◌+◌}
use mathlib.Core.Path.{subst⁻¹}
use Rattle.roles.proofs.Marks.{MarkedUpto, mark_more}
use Rattle.roles.proofs.state.RoleState.known_terms.Goals as goal

pub loop-held-preserved : goal.loop-held-preserved
loop-held-preserved c =
    subst⁻¹ (MarkedUpto c.args.count c.deref-held-items.result.now (c.loop-held.held-index + 1)) c.mark.ensures
    (mark_more c.args.count c.deref-held-items.result.now c.loop-held.held-index _ c.loop-held.known c.loop-held-test.true c.loop-held.invariant)
