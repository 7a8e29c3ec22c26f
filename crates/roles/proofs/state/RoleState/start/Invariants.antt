use Rattle.roles.specs.Composed.{Knows}
use Rattle.roles.specs.Settled.{Orderly}
use Rattle.roles.proofs.Starting.{GivenUpto}
use Rattle.roles.proofs.state.RoleState.start.Given as goal

abbrev pub invariant-loop-term : goal.invariant-loop-term
invariant-loop-term l = record {
  given : GivenUpto l.view.table.now l.view.party.now l.terms l.initial.self l.self l.term-index;
  knows : Knows l.view.table.now l.self;
  orderly : Orderly l.view.table.now l.view.party.now l.self;
}
