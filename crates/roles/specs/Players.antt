-- What the code's roles are to the definitions.
use Rattle.std.specs.Prelude.{◌≡◌, ℕ, map, Ok, Err, vec_items, Result}
use Rattle.model.specs.Roles.{Act}
use Rattle.program.specs.declared.action.Row.{Row}
use Rattle.program.specs.Actions.{act_of}
use Rattle.terms.specs.declared.table.TermTable.{TermTable}
use Rattle.terms.specs.Terms.{tree_in}
use Rattle.roles.specs.declared.line_fault.LineFault.{LineFault}
use Rattle.roles.specs.declared.line_fault.LineFault.TheVariants.{Limit, Undeclared, WrongType, Repeated, Underivable, Exhausted}
use Rattle.roles.specs.declared.role.Role.{Role}
use Rattle.roles.specs.Parties.{party_of}
use Rattle.roles.specs.States.{role_of}
use Rattle.roles.specs.Roles.{Fit}
use Rattle.roles.specs.Playing.{Player}

-- a row, as the model's action with its line
abbrev pub lined : Row → ℕ × Act
lined r = (r.line, act_of r.action)

abbrev pub player_of : TermTable → Role → Player
player_of t r = record {
  name = r.name;
  part = r.part;
  party = party_of (vec_items r.party.functions);
  role = role_of (tree_in t) r.state;
  rows = map lined (vec_items r.rows);
}

-- a role does in a line what the definition says
abbrev pub Plays : TermTable → Result Player LineFault → Role → Result (Unit {0}) LineFault → Type 0
Plays t o r' (Ok x) = (o ≡ Ok (player_of t r')) × Fit t r'.party r'.state
Plays t o r' (Err (Limit p)) = o ≡ Err (Limit p)
Plays t o r' (Err (Undeclared p)) = ⊥
Plays t o r' (Err (WrongType p)) = ⊥
Plays t o r' (Err (Repeated p)) = ⊥
Plays t o r' (Err (Underivable p n k)) = o ≡ Err (Underivable p n k)
Plays t o r' (Err (Exhausted w)) = Unit {0}
