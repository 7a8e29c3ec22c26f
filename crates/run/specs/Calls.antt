-- What begin, say and hear do, on any store and whatever the registers hold there.
use Rattle.std.specs.Prelude.{◌≡◌, ℕ, ◌+◌, ◌==◌, ◌&&◌, Bool, true, false, if◌then◌else◌, List, [], ◌∷◌, ◌++◌, length, map, drop, Ok, Err, Some, None}
use Rattle.std.specs.Prelude as std
use Rattle.model.specs.Sessions.{gives, news}
use Rattle.program.specs.declared.action.Row.{Row}
use Rattle.program.specs.Actions.{row_act}
use Rattle.store.specs.Semantics.{Semantics}
use Rattle.run.specs.declared.fault.RunFault.{RunFault}
use Rattle.run.specs.declared.fault.RunFault.TheVariants.{Counts}
use Rattle.run.specs.declared.run.Run.{Run}
use Rattle.run.specs.declared.turn.Asked.TheVariants as asks
use Rattle.run.specs.Actions.{State}
use Rattle.run.specs.Filling.{line_rows}
use Rattle.run.specs.Lines.{DoesLine, last_said}
use Rattle.run.specs.Shown.{Meaning}
use Rattle.run.specs.Turned.{rows_ahead, line_ahead, turn_answer}

-- the numbers that are left for new atoms
abbrev pub numbers_left : Run → List ℕ
numbers_left run = drop run.used run.numbers.items

-- the handles that a line can take in: those before the first that is not valid, as the store is before the line
abbrev pub valid_handles : Meaning → List ℕ → List ℕ
valid_handles m [] = []
valid_handles m (h ∷ hs) = elim (m h) [ None ↦ [] | Some v ↦ h ∷ valid_handles m hs ]

-- a begin has a handle for each `give` of line 0, and a number for each `new` of the program
abbrev pub begin_line : Run → List Row
begin_line run = line_rows 0 (rows_ahead run)

abbrev pub begin_counts : Run → List ℕ → List ℕ → Bool
begin_counts run given numbers =
    length given == gives (map row_act (begin_line run)) && length numbers == news (map row_act (rows_ahead run))

-- before anything is done: whether it is the turn of a begin, and then whether the counts are right
abbrev pub begin_answer : Run → List ℕ → List ℕ → std.Result (Unit {0}) RunFault
begin_answer run given numbers =
    elim (turn_answer run asks.Begin) [ Err f ↦ Err f | Ok u ↦ if begin_counts run given numbers then Ok tt else Err (Counts run.place) ]

-- a run is as it was
pub record Unchanged (run run' : Run) : Type 0 where
  pub program : run'.program ≡ run.program
  pub begun : run'.begun ≡ run.begun
  pub place : run'.place ≡ run.place
  pub registers : run'.registers ≡ run.registers
  pub used : run'.used ≡ run.used
  pub numbers : run'.numbers.items ≡ run.numbers.items

-- a run is behind a line, with what its actions have left
pub record Behind (line : List Row) (y : State) (run run' : Run) : Type 0 where
  pub program : run'.program ≡ run.program
  pub begun : run'.begun ≡ true
  pub place : run'.place ≡ run.place + length line
  pub registers : run'.registers ≡ y.registers
  pub numbers : numbers_left run' ≡ y.numbers

-- some rows are the next ones of a run
abbrev pub AreNext : List Row → Run → Type 0
AreNext line run = line ++ drop (length line) (rows_ahead run) ≡ rows_ahead run

module _ {S : Type 0} (M : Semantics S) where
  -- the line is taken, or an action is refused and the run is as it was
  abbrev pub TriesLine : List Row → List ℕ → S → S → Run → Run → std.Result (Unit {0}) RunFault → Type 0
  TriesLine line inputs old new run run' (Ok u) =
      (y : State) × DoesLine M line run.place old (record { registers = run.registers; inputs = inputs; numbers = numbers_left run }) new y (Ok tt) × Behind line y run run'
  TriesLine line inputs old new run run' (Err e) =
      (y : State) × DoesLine M line run.place old (record { registers = run.registers; inputs = inputs; numbers = numbers_left run }) new y (Err e) × Unchanged run run'

  -- A call, which is first answered by what is seen before anything is done, and else does a line from a state: it is refused at
  -- once, and alters nothing; it is taken, and answers what follows from the state that the line leads to; or an action is refused, and
  -- then the run is as it was, while the store keeps what the actions before that one have built.
  pub data Calls {A : Type 0} (check : std.Result (Unit {0}) RunFault) (line : List Row) (x : State) (reply : State → A) (old new : S) (run run' : Run) (result : std.Result A RunFault) : Type 0 where
    at_once : (f : RunFault) → check ≡ Err f → new ≡ old → run' ≡ run → result ≡ Err f → Calls check line x reply old new run run' result
    taken : (y : State) → check ≡ Ok tt → DoesLine M line run.place old x new y (Ok tt) → Behind line y run run' → result ≡ Ok (reply y) → Calls check line x reply old new run run' result
    refused : (f : RunFault) (y : State) → check ≡ Ok tt → DoesLine M line run.place old x new y (Err f) → Unchanged run run' → result ≡ Err f → Calls check line x reply old new run run' result

  abbrev pub Begins : S → S → Run → Run → List ℕ → List ℕ → std.Result (Unit {0}) RunFault → Type 0
  Begins old new run run' given numbers result =
      Calls (begin_answer run given numbers) (begin_line run) (record { registers = run.registers; inputs = valid_handles (M.means old) given; numbers = numbers })
      (λ y. tt) old new run run' result

  abbrev pub Says : S → S → Run → Run → std.Result ℕ RunFault → Type 0
  Says old new run run' result =
      Calls (turn_answer run asks.Say) (line_ahead run) (record { registers = run.registers; inputs = []; numbers = numbers_left run })
      (λ y. last_said y.registers (line_ahead run)) old new run run' result

  abbrev pub Hears : S → S → Run → Run → ℕ → std.Result (Unit {0}) RunFault → Type 0
  Hears old new run run' handle result =
      Calls (turn_answer run asks.Hear) (line_ahead run) (record { registers = run.registers; inputs = valid_handles (M.means old) (handle ∷ []); numbers = numbers_left run })
      (λ y. tt) old new run run' result
