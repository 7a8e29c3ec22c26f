-- What a call does to values: what the definition of plain runs says.
use Rattle.std.specs.Prelude.{◌≡◌, ℕ, Bool, true, false, cond, if◌then◌else◌, List, [], ◌∷◌, length, map, drop, Ok, Err}
use Rattle.std.specs.Prelude as std
use Rattle.std.proofs.Math.Option.{Option, none as nothing, some}
use Rattle.model.specs.Runs.{empty}
use Rattle.model.specs.Sessions.{Answer, taken, declined, outside}
use Rattle.program.specs.declared.held.Program.{Program}
use Rattle.run.specs.declared.fault.RunFault.{RunFault}
use Rattle.run.specs.declared.fault.RunFault.TheVariants.{OutOfTurn, Counts}
use Rattle.run.specs.declared.run.Run.{Run}
use Rattle.run.specs.Plain.{Plain, new_plain, Call, begin, say, hear, Turn, begins, says, hears, nobody, turn_now, counts_fit, After, call}
use Rattle.store.specs.Semantics.{Semantics}
use Rattle.run.specs.Calls.{Begins, Says, Hears}
use Rattle.run.specs.Faults.{run_fault_number, run_fault_place, fault_of, IsLate}
use Rattle.run.specs.Filling.{lined, filled_by, span_to}
use Rattle.run.specs.Turned.{rows_ahead}
use Rattle.run.specs.Shown.{Meaning, as_option, Holds, Kept}

-- what a run is without a store: its memory left out
abbrev pub bare : Run → Plain
bare run = record { begun = run.begun; done = run.place; ahead = map lined (rows_ahead run); memory = empty; numbers = drop run.used run.numbers.items }

-- A run shows a plain run in a store: its registers hold handles of what the memory holds, and all else is the same. Where it was
-- used with another store, whose handles are not valid here, it shows none.
pub record Shows (m : Meaning) (run : Run) (w : Plain) : Type 0 where
  pub begun : w.begun ≡ run.begun
  pub done : w.done ≡ run.place
  pub ahead : w.ahead ≡ map lined (rows_ahead run)
  pub numbers : w.numbers ≡ drop run.used run.numbers.items
  pub memory : Holds m run.registers w.memory

-- a new run of a program: it has just the registers that the program fills, and shows the run before its begin, in every store
pub record New (held : Program) (run : Run) : Type 0 where
  pub program : run.program ≡ held
  pub registers : length run.registers ≡ span_to (filled_by held.rows.now)
  pub shows : (m : Meaning) → Shows m run (new_plain (map lined held.rows.now))

-- is it the turn of a call?
abbrev pub in_turn : Turn → Call → Bool
in_turn begins (begin hs ns) = true
in_turn begins say = false
in_turn begins (hear h) = false
in_turn says (begin hs ns) = false
in_turn says say = true
in_turn says (hear h) = false
in_turn hears (begin hs ns) = false
in_turn hears say = false
in_turn hears (hear h) = true
in_turn nobody e = false

abbrev pub counts_right : Plain → Call → Bool
counts_right w (begin hs ns) = counts_fit w hs ns
counts_right w say = true
counts_right w (hear h) = true

-- the refusal of a call before anything is done: out of turn first
abbrev pub early : Plain → Call → Option RunFault
early w e = cond (in_turn (turn_now w) e) (cond (counts_right w e) nothing (some (Counts w.done))) (some (OutOfTurn w.done))

-- what is answered: the value of the handle that was said; that a call was taken; or a refusal
abbrev pub said : Meaning → std.Result ℕ RunFault → Answer
said m (Ok h) = taken (as_option (m h))
said m (Err e) = declined (run_fault_number e) (run_fault_place e)

abbrev pub did : std.Result (Unit {0}) RunFault → Answer
did (Ok u) = taken nothing
did (Err e) = declined (run_fault_number e) (run_fault_place e)

-- an answer without what was said
abbrev pub unsaid : Answer → Answer
unsaid (taken o) = taken nothing
unsaid (declined n k) = declined n k
unsaid outside = outside

module _ {S : Type 0} (M : Semantics S) where
  -- a call took a run and a store to what it does to the plain run
  pub record Took (new : S) (run' : Run) (replies : Answer → Type 0) (after : After) : Type 0 where
    pub shows : Shows (M.means new) run' after.run
    pub paid : M.space new ≡ after.space
    pub replied : replies after.reply

  -- Every valid handle keeps its value. A call that is out of turn, or has wrong counts, is refused for that, and alters nothing; no
  -- other call is. And whatever plain run it shows, the call does to it what the definition says.
  pub record Called (old new : S) (run run' : Run) (e : Call) (fault : Option RunFault) (replies : Answer → Type 0) : Type 0 where
    pub kept : Kept (M.means old) (M.means new)
    pub priced : M.cost new ≡ M.cost old
    pub refused : (f : RunFault) → early (bare run) e ≡ some f → (new ≡ old) × (run' ≡ run) × (fault ≡ some f)
    pub late : early (bare run) e ≡ nothing → IsLate fault
    pub done : (w : Plain) → Shows (M.means old) run w → Took new run' replies (call (M.cost old) w (M.space old) e)

  -- What the calls do to values follows from what they do on stores.
  pub record ValueLaw : Type 0 where
    pub begins : (old new : S) (run run' : Run) (given numbers : List ℕ) (result : std.Result (Unit {0}) RunFault) → Begins M old new run run' given numbers result
        → Called old new run run' (begin (map (λ h. as_option (M.means old h)) given) numbers) (fault_of result) (λ a. unsaid a ≡ did result)
    pub says : (old new : S) (run run' : Run) (result : std.Result ℕ RunFault) → Says M old new run run' result
        → Called old new run run' say (fault_of result) (λ a. a ≡ said (M.means new) result)
    pub hears : (old new : S) (run run' : Run) (handle : ℕ) (result : std.Result (Unit {0}) RunFault) → Hears M old new run run' handle result
        → Called old new run run' (hear (as_option (M.means old handle))) (fault_of result) (λ a. unsaid a ≡ did result)
