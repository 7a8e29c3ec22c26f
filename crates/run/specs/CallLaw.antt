-- What taken and refused calls leave, on any store and whatever the registers hold there.
use Rattle.std.specs.Prelude.{◌≡◌, ℕ, ◌+◌, ◌<◌, ◌≤◌, Bool, true, false, List, length, Some, None, Ok, Err, Option}
use Rattle.std.specs.Prelude as std
use Rattle.model.specs.Trees.{Tree}
use Rattle.program.specs.declared.action.Row.{Row}
use Rattle.program.specs.Held.{has}
use Rattle.store.specs.declared.fault.StoreFault.TheVariants.{Invalid}
use Rattle.store.specs.Semantics.{Semantics}
use Rattle.run.specs.declared.fault.RunFault.{RunFault}
use Rattle.run.specs.declared.fault.RunFault.TheVariants.{OutOfTurn, Counts, Mismatch, Store}
use Rattle.run.specs.declared.run.Run.{Run}
use Rattle.run.specs.declared.turn.Asked.{Asked}
use Rattle.run.specs.declared.turn.Asked.TheVariants as asks
use Rattle.run.specs.Calls.{numbers_left, begin_line, begin_counts, Begins, Says, Hears}
use Rattle.run.specs.Filling.{filled_by}
use Rattle.run.specs.Shown.{Meaning, Kept, vacant, register}
use Rattle.run.specs.Turned.{line_ahead, turn_of, turns}

abbrev pub Valid : Meaning → ℕ → Type 0
Valid m h = (v : Tree) × (m h ≡ Some v)

-- Taken: the line is behind the run; each register that the line fills holds a valid handle, and each other one what it held.
pub record Taken (m : Meaning) (run run' : Run) (line : List Row) : Type 0 where
  pub place : run'.place ≡ run.place + length line
  pub filled : (r : ℕ) → has r (filled_by line) ≡ true → Valid m (register run'.registers r)
  pub others : (r : ℕ) → has r (filled_by line) ≡ false → register run'.registers r ≡ register run.registers r

-- Refused at an action of the line: the line's registers are empty, and all others hold what they held; the place is kept; tried again,
-- the line uses the same numbers.
pub record Refused (run run' : Run) (line : List Row) (place : ℕ) : Type 0 where
  pub at_or_after : run.place ≤ place
  pub before_end : place < run.place + length line
  pub emptied : (r : ℕ) → has r (filled_by line) ≡ true → register run'.registers r ≡ vacant
  pub registers : run'.registers ≡ run.registers
  pub place_kept : run'.place ≡ run.place
  pub begun_kept : run'.begun ≡ run.begun
  pub numbers_kept : numbers_left run' ≡ numbers_left run

-- Refused before anything is done, which alters nothing: the place is that of the next action.
abbrev pub Untouched : {S : Type 0} → S → S → Run → Run → ℕ → Type 0
Untouched old new run run' place = (place ≡ run.place) × (new ≡ old) × (run' ≡ run)

module _ {S : Type 0} (M : Semantics S) (asked : Asked) (right : Run → Bool) (line : Run → List Row) where
  -- out of turn comes first, then wrong counts
  abbrev pub Leaves : {A : Type 0} → S → S → Run → Run → std.Result A RunFault → Type 0
  Leaves old new run run' (Ok x) = (turns (turn_of run) asked ≡ true) × (right run ≡ true) × Taken (M.means new) run run' (line run)
  Leaves old new run run' (Err (OutOfTurn p)) = (turns (turn_of run) asked ≡ false) × Untouched old new run run' p
  Leaves old new run run' (Err (Counts p)) = (turns (turn_of run) asked ≡ true) × (right run ≡ false) × Untouched old new run run' p
  Leaves old new run run' (Err (Mismatch p)) = (turns (turn_of run) asked ≡ true) × (right run ≡ true) × Refused run run' (line run) p
  Leaves old new run run' (Err (Store f p)) = (turns (turn_of run) asked ≡ true) × (right run ≡ true) × Refused run run' (line run) p

-- Out of turn or with wrong counts a call alters nothing. Any other refused call empties its line's registers and keeps its place, and
-- a line tried again uses the same numbers. In each case the store keeps what its handles mean. A hear of a handle that is not valid is
-- refused for that, at its first action.
module _ {S : Type 0} (M : Semantics S) where
  pub record CallLaw : Type 0 where
    pub begins : (old new : S) (run run' : Run) (given numbers : List ℕ) (result : std.Result (Unit {0}) RunFault) → Begins M old new run run' given numbers result
        → Kept (M.means old) (M.means new) × Leaves M asks.Begin (λ run. begin_counts run given numbers) begin_line old new run run' result
    pub says : (old new : S) (run run' : Run) (result : std.Result ℕ RunFault) → Says M old new run run' result
        → Kept (M.means old) (M.means new) × Leaves M asks.Say (λ run. true) line_ahead old new run run' result
    pub hears : (old new : S) (run run' : Run) (handle : ℕ) (result : std.Result (Unit {0}) RunFault) → Hears M old new run run' handle result
        → Kept (M.means old) (M.means new) × Leaves M asks.Hear (λ run. true) line_ahead old new run run' result
    pub hears_invalid : (old new : S) (run run' : Run) (handle : ℕ) (result : std.Result (Unit {0}) RunFault) → Hears M old new run run' handle result
        → turns (turn_of run) asks.Hear ≡ true → M.means old handle ≡ None → result ≡ Err (Store Invalid run.place)
