use Rattle.std.proofs.Common.{◌≡◌, ◌+◌, ◌*◌, length}
use Rattle.program.specs.Parts.{parts_of}
use Rattle.roles.specs.Composed.{Knows}
use Rattle.roles.proofs.Composing.{Halfway}
use Rattle.roles.proofs.state.RoleState.+compose_parts_compose_term.Given as goal

abbrev pub decreases-compose_term : goal.decreases-compose_term
decreases-compose_term l = l.term * 2 + 1

abbrev pub decreases-compose_parts : goal.decreases-compose_parts
decreases-compose_parts l = l.whole * 2

abbrev pub invariant-compose_parts-loop-part : goal.invariant-compose_parts-loop-part
invariant-compose_parts-loop-part l = record {
  halfway : Halfway l.view.table.now l.view.party.now l.made l.parts l.initial.self l.self (parts_of l.registers) l.part-index;
  knows : Knows l.view.table.now l.self;
  long : length (parts_of l.registers) ≡ l.part-index;
}
