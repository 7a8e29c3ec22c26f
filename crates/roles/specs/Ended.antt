-- How a line of a role ends.
use Rattle.std.specs.Prelude.{◌≡◌, ℕ, min, Bool, true, false, ◌||◌, ◌++◌, map, length, drop, Ok, Err, vec_items, Result, nat_lt}
use Rattle.program.specs.declared.action.Action.{Action}
use Rattle.program.specs.declared.action.Row.{Row}
use Rattle.terms.specs.declared.limits.Limits.{Limits}
use Rattle.roles.specs.declared.line_fault.LineFault.{LineFault}
use Rattle.roles.specs.declared.line_fault.LineFault.TheVariants.{Limit, Undeclared, WrongType, Repeated, Underivable, Exhausted}
use Rattle.roles.specs.declared.fault.Fault.{Fault}
use Rattle.roles.specs.declared.fault.Fault.TheVariants.{Lacks, Exhausted as Spent}
use Rattle.roles.specs.declared.role.Role.{Role}

abbrev pub row : ℕ → Action → Row
row line a = record { line = line; action = a }

-- more registers or actions than a role may have
abbrev pub too_much : Limits → Role → Bool
too_much limits r = nat_lt (min limits.registers 512) r.state.next || nat_lt (min limits.actions 4096) (length (vec_items r.state.actions))

pub record KeepsRest (r r' : Role) : Type 0 where
  pub name : r'.name ≡ r.name
  pub part : r'.part ≡ r.part
  pub party : r'.party ≡ r.party
  pub state : r'.state ≡ r.state

-- the new actions become rows of the line, unless there is too much
abbrev pub Ends : Limits → ℕ → ℕ → Role → Role → Result (Unit {0}) LineFault → Type 0
Ends limits line at r r' (Ok x) =
    (too_much limits r ≡ false) × (vec_items r'.rows ≡ vec_items r.rows ++ map (row line) (drop (length (vec_items r.rows)) (vec_items r.state.actions)))
Ends limits line at r r' (Err (Limit p)) = (too_much limits r ≡ true) × (p ≡ at)
Ends limits line at r r' (Err (Undeclared p)) = ⊥
Ends limits line at r r' (Err (WrongType p)) = ⊥
Ends limits line at r r' (Err (Repeated p)) = ⊥
Ends limits line at r r' (Err (Underivable p n k)) = ⊥
Ends limits line at r r' (Err (Exhausted w)) = too_much limits r ≡ false

-- a fault of composing, of a role at a place
abbrev pub refused_as : ℕ → ℕ → Fault → LineFault
refused_as name at (Lacks u) = Underivable at name u
refused_as role at (Spent w) = Exhausted w
