use Rattle.roles.proofs.Marks.{MarkedUpto}
use Rattle.roles.proofs.state.RoleState.known_terms.Given as goal

abbrev pub invariant-loop-held : goal.invariant-loop-held
invariant-loop-held l = MarkedUpto l.count l.held-items l.held-index l.known
