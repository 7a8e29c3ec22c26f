use Rattle.std.proofs.Common.{◌≡◌}
use Rattle.roles.specs.Settled.{mark_entry}
use Rattle.roles.proofs.Upto.{upto}
use Rattle.roles.proofs.state.RoleState.mark.Given as goal

abbrev pub invariant-loop-held : goal.invariant-loop-held
invariant-loop-held l = l.held-items ≡ upto (mark_entry l.register) l.initial.held-items l.held-index
