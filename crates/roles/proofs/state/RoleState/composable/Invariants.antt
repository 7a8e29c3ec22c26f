use Rattle.roles.proofs.Marks.{Upto}
use Rattle.roles.proofs.state.RoleState.composable.Given as goal

abbrev pub invariant-loop-term : goal.invariant-loop-term
invariant-loop-term l = Upto l.view.table.now l.view.party.now l.self l.term l.composable
