use Rattle.std.proofs.Common.{◌≡◌, vec_items}
use Rattle.model.specs.Roles.{unsettled}
use Rattle.roles.specs.Parties.{party_of}
use Rattle.roles.specs.States.{known_of}
use Rattle.terms.specs.Terms.{tree_in}
use Rattle.roles.specs.Composed.{Knows}
use Rattle.roles.specs.Settled.{Orderly, settled_in}
use Rattle.roles.proofs.state.RoleState.settle_all.Given as goal

abbrev pub decreases-loop-known : goal.decreases-loop-known
decreases-loop-known l = unsettled (party_of (vec_items l.view.party.now.functions)) (known_of (tree_in l.view.table.now) (vec_items l.self.known))

abbrev pub invariant-loop-known : goal.invariant-loop-known
invariant-loop-known l = record {
  knows : Knows l.view.table.now l.self;
  orderly : Orderly l.view.table.now l.view.party.now l.self;
  settles : settled_in l.view.table.now l.view.party.now l.initial.self ≡ settled_in l.view.table.now l.view.party.now l.self;
}
