use Rattle.terms.specs.Terms.{tree_in}
use Rattle.roles.specs.Composed.{Knows}
use Rattle.roles.specs.States.{role_of}
use Rattle.roles.proofs.Settling.{MetUpto}
use Rattle.roles.proofs.state.RoleState.open_compound.Given as goal

abbrev pub invariant-loop-place : goal.invariant-loop-place
invariant-loop-place l = record {
  met : MetUpto l.view.table.now l.parts l.first (role_of (tree_in l.view.table.now) l.initial.self) l.self l.place;
  knows : Knows l.view.table.now l.self;
}
