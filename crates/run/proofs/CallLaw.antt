-- What taken and refused calls leave.
use Rattle.std.proofs.Common.{◌≡◌, ℕ, suc, ◌+◌, ◌<◌, ◌≤◌, Bool, true, false, cond, inl, Some, None, Ok, Err, Option, Result, if◌then◌else◌, List, [], ◌∷◌, length, map, drop, sym, refl, ap, ap₂, ◌∙◌, subst, eq-eqb, arith}
use Rattle.std.proofs.Math.Option as model
use Rattle.std.proofs.lemmas.Bool.{false≢true}
use mathlib.Core.Path.{subst⁻¹}
use Rattle.model.specs.Trees.{Tree}
use Rattle.program.specs.declared.action.Action.{Action}
use Rattle.program.specs.declared.action.Action.TheVariants.{Give, New, Hear, Say, Same, Crypt, Tuple, Apply, OpenCrypt, OpenTuple, OpenApply}
use Rattle.program.specs.declared.action.Row.{Row}
use Rattle.program.specs.Actions.{act_of, row_act}
use Rattle.store.specs.declared.fault.StoreFault.TheVariants.{Invalid}
use Rattle.store.specs.Semantics.{Semantics}
use Rattle.run.specs.declared.fault.StepFault.{StepFault}
use Rattle.run.specs.declared.fault.StepFault.TheVariants as steps
use Rattle.run.specs.declared.fault.RunFault.{RunFault}
use Rattle.run.specs.declared.fault.RunFault.TheVariants.{OutOfTurn, Counts, Mismatch, Store}
use Rattle.run.specs.declared.run.Run.{Run}
use Rattle.run.specs.declared.turn.Asked.{Asked}
use Rattle.run.specs.declared.turn.Asked.TheVariants as asks
use Rattle.run.specs.Plain.{begins, says, hears, line_turn, is_hear}
use Rattle.run.specs.Faults.{fault_at, run_fault_place, IsLate}
use Rattle.run.specs.Filling.{lined, line_rows}
use Rattle.run.specs.Shown.{Kept, register}
use Rattle.run.specs.Supplies.{first_of}
use Rattle.run.specs.Turned.{rows_ahead, line_ahead, first_line, turn_of, turns, turn_answer}
use Rattle.run.specs.Actions.{State, Keeps, Does}
use Rattle.run.specs.Lines.{DoesLine, all_done, one_done, one_refused, last_said}
use Rattle.run.specs.Calls.{AreNext, numbers_left, valid_handles, begin_line, begin_counts, begin_answer, Calls, at_once, taken, refused, Hears}
use Rattle.run.specs.CallLaw.{Valid, Refused, Leaves, CallLaw}
use Rattle.run.proofs.Counting.{line_front}
use Rattle.run.proofs.LineValues.{line_kept}
use Rattle.run.proofs.Lines.{line_other}
use Rattle.run.proofs.Moving.{of_next, of_rows}
use Rattle.run.proofs.Trials.{next_line}
use Rattle.run.proofs.CallValues.{line_late}
use Rattle.run.proofs.ValidHandles.{AllValid, valid_inputs, line_valid}

module _ {S : Type 0} (M : Semantics S) where
  -- a fault is that of an action of the line
  abbrev Within : ℕ → ℕ → Result (Unit {0}) RunFault → Type 0
  Within place n (Ok u) = Unit {0}
  Within place n (Err f) = (place ≤ run_fault_place f) × (run_fault_place f < place + n)

  within_more : (place n : ℕ) (r : Result (Unit {0}) RunFault) → Within (suc place) n r → Within place (suc n) r
  within_more place n (Ok u) w = tt
  within_more place n (Err f) w = let a = w.0 in let b = w.1 in (omega arith, omega arith)

  at_place : (e : StepFault) (p n : ℕ) → Within p (suc n) (Err (fault_at e p))
  at_place steps.Differs p n = (omega arith, omega arith)
  at_place (steps.Store f) p n = (omega arith, omega arith)

  line_within : {rows : List Row} {place : ℕ} {s t : S} {x y : State} {r : Result (Unit {0}) RunFault} → DoesLine M rows place s x t y r → Within place (length rows) r
  line_within all_done = tt
  line_within (one_done {rows = rows} {place = place} {result = result} d l) = within_more place (length rows) result (line_within l)
  line_within (one_refused {rows = rows} {place = place} f d) = at_place f place (length rows)

  -- a hear with nothing to take in
  no_input : {rows : List Row} {place : ℕ} {s t : S} {x y : State} {r : Result (Unit {0}) RunFault} → DoesLine M rows place s x t y r → x.inputs ≡ []
      → (row : Row) (rest : List Row) (q : ℕ) → rows ≡ row ∷ rest → row.action ≡ Hear q → r ≡ Err (Store Invalid place)
  no_input all_done empty row rest q e h = absurd (cc)
  no_input (one_done {row = a} {s = s} {t = t} {x = x} {y = y} d l) empty row rest q e h =
      let same : a ≡ row = cc in
      let now = subst (λ b. Does M b s x t y (Ok tt)) (ap (λ (b : Row). b.action) same ∙ h) d in
      let k = (subst (λ hs. Keeps x.registers y.registers q (first_of hs) (Ok tt)) empty now.1).1 in absurd (cc)
  no_input (one_refused {row = a} {place = place} {s = s} {t = t} {x = x} {y = y} f d) empty row rest q e h =
      let same : a ≡ row = cc in
      let now = subst (λ b. Does M b s x t y (Err f)) (ap (λ (b : Row). b.action) same ∙ h) d in
      let k = (subst (λ hs. Keeps x.registers y.registers q (first_of hs) (Err f)) empty now.1).1 in
      let g : f ≡ steps.Store Invalid = cc in ap (λ f. Err (fault_at f place)) g

-- what is seen first
abbrev first_check : ℕ → Bool → Bool → Result (Unit {0}) RunFault
first_check p turn right = if turn then (if right then Ok tt else Err (Counts p)) else Err (OutOfTurn p)

check_ok : (p : ℕ) (turn right : Bool) → first_check p turn right ≡ Ok tt → (turn ≡ true) × (right ≡ true)
check_ok p true true e = (refl, refl)
check_ok p true false e = absurd (cc)
check_ok p false right e = absurd (cc)

module _ {S : Type 0} (M : Semantics S) (old new : S) (run run' : Run) (asked : Asked) (right : Run → Bool) (line : Run → List Row)
    (check : Result (Unit {0}) RunFault) (seen : check ≡ first_check run.place (turns (turn_of run) asked) (right run)) (next : AreNext (line run) run)
    (inputs numbers : List ℕ) (all_valid : AllValid (M.means old) inputs) {A : Type 0} (reply : State → A) where
  leaves_early : (f : RunFault) → check ≡ Err f → new ≡ old → run' ≡ run → Leaves M asked right line {A = A} old new run run' (Err f)
  leaves_early f c n r = go (turns (turn_of run) asked) (right run) refl refl (sym seen ∙ c)
    where
      go : (turn b : Bool) → turns (turn_of run) asked ≡ turn → right run ≡ b → first_check run.place turn b ≡ Err f → Leaves M asked right line {A = A} old new run run' (Err f)
      go true true e g k = absurd (cc)
      go true false e g k = let q : Counts run.place ≡ f = cc in subst (λ f. Leaves M asked right line {A = A} old new run run' (Err f)) q (e, g, (refl, n, r))
      go false b e g k = let q : OutOfTurn run.place ≡ f = cc in subst (λ f. Leaves M asked right line {A = A} old new run run' (Err f)) q (e, (refl, n, r))

  pub call_leaves : (result : Result A RunFault) → Calls M check (line run) (record { registers = run.registers; inputs = inputs; numbers = numbers }) reply old new run run' result
      → Kept (M.means old) (M.means new) × Leaves M asked right line old new run run' result
  call_leaves result (at_once f c n r q) = (
    subst⁻¹ (λ t. Kept (M.means old) (M.means t)) n (λ h v e. e),
    subst⁻¹ (Leaves M asked right line old new run run') q (leaves_early f c n r),
  )
  call_leaves result (taken y c d b q) =
      let ok = check_ok run.place (turns (turn_of run) asked) (right run) (sym seen ∙ c) in (
        line_kept M d,
        subst⁻¹ (Leaves M asked right line old new run run') q (
          ok.0,
          ok.1,
          record {
            place = b.place;
            filled = λ r e. subst⁻¹ (λ cells. Valid (M.means new) (register cells r)) b.registers
                (line_valid M d tt all_valid (λ q h. run.room q (of_rows run.program.rows.now (line run) run.place next q h)) r (inl e));
            others = λ r e. ap (λ cells. register cells r) b.registers ∙ line_other M d r e;
          },
        ),
      )
  call_leaves result (refused f y c d u q) = (line_kept M d, subst⁻¹ (Leaves M asked right line old new run run') q (go f (line_late d) (line_within M d)))
    where
      ok : (turns (turn_of run) asked ≡ true) × (right run ≡ true)
      ok = check_ok run.place (turns (turn_of run) asked) (right run) (sym seen ∙ c)

      left : (p : ℕ) → (run.place ≤ p) × (p < run.place + length (line run)) → Refused run run' (line run) p
      left p w = record {
        at_or_after = w.0;
        before_end = w.1;
        emptied = λ r e. ap (λ cells. register cells r) u.registers ∙ run.empty_ahead r (of_next run.program.rows.now (line run) run.place next r e);
        registers = u.registers;
        place_kept = u.place;
        begun_kept = u.begun;
        numbers_kept = ap₂ (λ (k : ℕ) (ns : List ℕ). drop k ns) u.used u.numbers;
      }

      go : (f : RunFault) → IsLate (model.some f) → Within M run.place (length (line run)) (Err f) → Leaves M asked right line {A = A} old new run run' (Err f)
      go (OutOfTurn p) l w = absurd l
      go (Counts p) l w = absurd l
      go (Mismatch p) l w = (ok.0, ok.1, left p w)
      go (Store g p) l w = (ok.0, ok.1, left p w)

-- a line that is heard begins with a hear
hears_what : (a : Action) → is_hear (act_of a) ≡ true → (q : ℕ) × (a ≡ Hear q)
hears_what (Give t) e = absurd (false≢true e)
hears_what (New t) e = absurd (false≢true e)
hears_what (Hear t) e = (t, refl)
hears_what (Say r) e = absurd (false≢true e)
hears_what (Same l r) e = absurd (false≢true e)
hears_what (Crypt t x k) e = absurd (false≢true e)
hears_what (Tuple t ps) e = absurd (false≢true e)
hears_what (Apply t f ps) e = absurd (false≢true e)
hears_what (OpenCrypt t r k) e = absurd (false≢true e)
hears_what (OpenTuple f n r) e = absurd (false≢true e)
hears_what (OpenApply f n r g) e = absurd (false≢true e)

hear_first : (rows : List Row) → turns (line_turn (map lined rows)) asks.Hear ≡ true → (row : Row) × (rest : List Row) × (q : ℕ) × (first_line rows ≡ row ∷ rest) × (row.action ≡ Hear q)
hear_first [] e = absurd (false≢true e)
hear_first (x ∷ rows) e = go (is_hear (row_act x)) refl e
  where
    go : (b : Bool) → is_hear (row_act x) ≡ b → turns (cond b hears says) asks.Hear ≡ true → (row : Row) × (rest : List Row) × (q : ℕ) × (first_line (x ∷ rows) ≡ row ∷ rest) × (row.action ≡ Hear q)
    go false h e = absurd (false≢true e)
    go true h e =
        let w = hears_what x.action h in
        (x, line_rows x.line rows, w.0, ap (λ b. cond b (x ∷ line_rows x.line rows) []) (eq-eqb x.line x.line refl), w.1)

module _ {S : Type 0} (M : Semantics S) (old new : S) (run run' : Run) where
  begin_seen : (given numbers : List ℕ) → begin_answer run given numbers ≡ first_check run.place (turns (turn_of run) asks.Begin) (begin_counts run given numbers)
  begin_seen given numbers = go (turns (turn_of run) asks.Begin)
    where
      go : (b : Bool) → elim (first_check run.place b true) as (λ z. Result (Unit {0}) RunFault) [ Err f ↦ Err f | Ok u ↦ if begin_counts run given numbers then Ok tt else Err (Counts run.place) ]
          ≡ first_check run.place b (begin_counts run given numbers)
      go true = refl
      go false = refl

  hears_none : (handle : ℕ) (result : Result (Unit {0}) RunFault) → Hears M old new run run' handle result → turns (turn_of run) asks.Hear ≡ true → M.means old handle ≡ None → result ≡ Err (Store Invalid run.place)
  hears_none handle result c turn invalid = go c
    where
      answer : turn_answer run asks.Hear ≡ Ok tt
      answer = ap (λ b. first_check run.place b true) turn

      nothing : valid_handles (M.means old) (handle ∷ []) ≡ []
      nothing = ap (λ (o : Option Tree). elim o as (λ z. List ℕ) [ None ↦ [] | Some v ↦ handle ∷ [] ]) invalid

      begun : (b : Bool) → run.begun ≡ b → turns (if b then line_turn (map lined (rows_ahead run)) else begins) asks.Hear ≡ true → turns (line_turn (map lined (rows_ahead run))) asks.Hear ≡ true
      begun true e t = t
      begun false e t = absurd (false≢true t)

      first : (row : Row) × (rest : List Row) × (q : ℕ) × (line_ahead run ≡ row ∷ rest) × (row.action ≡ Hear q)
      first = hear_first (rows_ahead run) (begun run.begun refl turn)

      stops : (y : State) (r : Result (Unit {0}) RunFault)
          → DoesLine M (line_ahead run) run.place old (record { registers = run.registers; inputs = valid_handles (M.means old) (handle ∷ []); numbers = numbers_left run }) new y r → r ≡ Err (Store Invalid run.place)
      stops y r d = no_input M d nothing first.0 first.1 first.2 first.3 first.4

      go : Hears M old new run run' handle result → result ≡ Err (Store Invalid run.place)
      go (at_once f e n r q) = absurd (cc)
      go (taken y e d b q) = let z = stops y (Ok tt) d in absurd (cc)
      go (refused f y e d u q) = q ∙ stops y (Err f) d

pub call_law : {S : Type 0} (M : Semantics S) → CallLaw M
call_law M = record {
  begins = λ old new run run' given numbers result c.
      call_leaves M old new run run' asks.Begin (λ run. begin_counts run given numbers) begin_line (begin_answer run given numbers) (begin_seen M old new run run' given numbers) (line_front 0 (rows_ahead run))
      (valid_handles (M.means old) given) numbers (valid_inputs (M.means old) given) (λ y. tt) result c;
  says = λ old new run run' result c.
      call_leaves M old new run run' asks.Say (λ run. true) line_ahead (turn_answer run asks.Say) refl (next_line run (line_ahead run) refl)
      [] (numbers_left run) tt (λ y. last_said y.registers (line_ahead run)) result c;
  hears = λ old new run run' handle result c.
      call_leaves M old new run run' asks.Hear (λ run. true) line_ahead (turn_answer run asks.Hear) refl (next_line run (line_ahead run) refl)
      (valid_handles (M.means old) (handle ∷ [])) (numbers_left run) (valid_inputs (M.means old) (handle ∷ [])) (λ y. tt) result c;
  hears_invalid = λ old new run run' handle result c. hears_none M old new run run' handle result c;
}
