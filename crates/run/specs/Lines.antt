-- What the actions of a line do, one after the other, on any store.
use Rattle.std.specs.Prelude.{◌≡◌, ℕ, suc, List, [], ◌∷◌, length, drop, ◌≤◌, Ok, Err, if◌then◌else◌, ◌==◌}
use Rattle.std.specs.Prelude as std
use Rattle.program.specs.declared.action.Action.{Action}
use Rattle.program.specs.declared.action.Action.TheVariants.{Give, New, Hear, Say, Same, Crypt, Tuple, Apply, OpenCrypt, OpenTuple, OpenApply}
use Rattle.program.specs.declared.action.Row.{Row}
use Rattle.program.specs.Held.{has}
use Rattle.store.specs.Semantics.{Semantics}
use Rattle.run.specs.declared.fault.StepFault.{StepFault}
use Rattle.run.specs.declared.fault.RunFault.{RunFault}
use Rattle.run.specs.declared.supply.Supply.{Supply}
use Rattle.run.specs.Actions.{State, state_of, Does}
use Rattle.run.specs.Faults.{fault_at}
use Rattle.run.specs.Shown.{vacant, register}

module _ {S : Type 0} (M : Semantics S) where
  -- Actions in order, where the first has a place among the actions of the role, up to the first that is refused.
  pub data DoesLine : List Row → ℕ → S → State → S → State → std.Result (Unit {0}) RunFault → Type 0 where
    all_done : {place : ℕ} {s : S} {x : State} → DoesLine [] place s x s x (Ok tt)
    one_done : {row : Row} {rows : List Row} {place : ℕ} {s t u : S} {x y z : State} {result : std.Result (Unit {0}) RunFault}
        → Does M row.action s x t y (Ok tt) → DoesLine rows (suc place) t y u z result → DoesLine (row ∷ rows) place s x u z result
    one_refused : {row : Row} {rows : List Row} {place : ℕ} {s t : S} {x y : State} (fault : StepFault)
        → Does M row.action s x t y (Err fault) → DoesLine (row ∷ rows) place s x t y (Err (fault_at fault place))

-- some registers are emptied
abbrev pub Empties : List ℕ → List ℕ → List ℕ → Type 0
Empties filled cells cells' = (length cells' ≡ length cells) × ((r : ℕ) → register cells' r ≡ (if has r filled then vacant else register cells r))

-- the handle that an action says, and the one that some rows say last
abbrev pub said_handle : List ℕ → Action → ℕ
said_handle cells (Give t) = vacant
said_handle cells (New t) = vacant
said_handle cells (Hear t) = vacant
said_handle cells (Say r) = register cells r
said_handle cells (Same l r) = vacant
said_handle cells (Crypt t x k) = vacant
said_handle cells (Tuple t ps) = vacant
said_handle cells (Apply t f ps) = vacant
said_handle cells (OpenCrypt t r k) = vacant
said_handle cells (OpenTuple f n r) = vacant
said_handle cells (OpenApply f n r g) = vacant

abbrev pub or_before : ℕ → ℕ → ℕ
or_before h before = if h == vacant then before else h

abbrev pub last_said : List ℕ → List Row → ℕ
last_said cells [] = vacant
last_said cells (row ∷ rows) = or_before (last_said cells rows) (said_handle cells row.action)

-- The actions of a line on registers and a supply: how many numbers are taken after them; or the fault, and the registers are as they were.
module _ {S : Type 0} (M : Semantics S) where
  abbrev pub Performs : List Row → ℕ → S → S → List ℕ → List ℕ → Supply → std.Result ℕ RunFault → Type 0
  Performs rows place old new cells cells' supply (Ok used) =
      (left : List ℕ) × DoesLine M rows place old (state_of cells supply) new (record { registers = cells'; inputs = left; numbers = drop used supply.numbers.now }) (Ok tt)
      × (used ≤ length supply.numbers.now)
  Performs rows place old new cells cells' supply (Err e) = (y : State) × DoesLine M rows place old (state_of cells supply) new y (Err e) × (cells' ≡ cells)
