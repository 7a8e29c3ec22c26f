-- A role's state fits a table of terms: it knows only terms of the table, in order.
use Rattle.std.specs.Prelude.{Ok, Err, Result}
use Rattle.terms.specs.declared.table.TermTable.{TermTable}
use Rattle.roles.specs.declared.line_fault.LineFault.{LineFault}
use Rattle.roles.specs.declared.party.Party.{Party}
use Rattle.roles.specs.declared.state.RoleState.{RoleState}
use Rattle.roles.specs.Composed.{Knows}
use Rattle.roles.specs.Settled.{Orderly}

pub record Fit (t : TermTable) (p : Party) (s : RoleState) : Type 0 where
  pub knows : Knows t s
  pub orderly : Orderly t p s

abbrev pub Keeps : {A : Type 0} → TermTable → Party → RoleState → Result A LineFault → Type 0
Keeps t p s (Ok x) = Fit t p s
Keeps t p s (Err f) = Unit {0}
