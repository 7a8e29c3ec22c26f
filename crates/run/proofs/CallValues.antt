-- What a call of a run does to the plain run that it shows, from what it does on a store.
use Rattle.std.proofs.Common.{◌≡◌, ℕ, ◌+◌, ◌<◌, true, Some, Ok, Err, Result, List, length, map, drop, sym, refl, ap, ap₂, ◌∙◌, subst}
use Rattle.std.proofs.Math.Option as model
use Rattle.std.proofs.lemmas.List.{length-map, drop-drop, drop-map}
use mathlib.Core.Path.{subst⁻¹}
use Rattle.model.specs.Trees.{Tree}
use Rattle.model.specs.Roles.{Act}
use Rattle.model.specs.Runs.{Memory, Outcome, ended, stopped, attempt, answer}
use Rattle.model.specs.Sessions.{Answer, taken as was_taken, declined}
use Rattle.program.specs.declared.action.Row.{Row}
use Rattle.program.specs.Actions.{row_act}
use Rattle.program.specs.Held.{has}
use Rattle.store.specs.Semantics.{Semantics}
use Rattle.run.specs.declared.fault.StepFault.{StepFault}
use Rattle.run.specs.declared.fault.StepFault.TheVariants as steps
use Rattle.run.specs.declared.fault.RunFault.{RunFault}
use Rattle.run.specs.declared.run.Run.{Run}
use Rattle.run.specs.Plain.{Plain, Call, concluded, refused as declined_now, call}
use Rattle.run.specs.Faults.{fault_at, run_fault_number, run_fault_place, fault_of, IsLate}
use Rattle.run.specs.Filling.{lined, filled_by}
use Rattle.run.specs.Shown.{Small, StandFor, Holds}
use Rattle.run.specs.Turned.{rows_ahead}
use Rattle.run.specs.Actions.{State}
use Rattle.run.specs.Lines.{DoesLine, all_done, one_done, one_refused}
use Rattle.run.specs.Calls.{AreNext, Calls, at_once, taken, refused}
use Rattle.run.specs.Called.{bare, Shows, Took, Called, early}
use Rattle.run.proofs.Holding.{holds_still}
use Rattle.run.proofs.Moving.{of_rows}
use Rattle.run.proofs.LineValues.{line_kept, line_priced, line_closes, Closes}

-- what is seen before anything is done
abbrev pub early_of : Result (Unit {0}) RunFault → model.Option RunFault
early_of (Ok u) = model.none
early_of (Err f) = model.some f

none_or : {A : Type 0} (o : model.Option A) (f : A) → o ≡ model.none → o ≡ model.some f → ⊥
none_or model.none f e p = cc
none_or (model.some x) f e p = cc

-- a fault of a line comes once something is tried
abbrev pub Late : Result (Unit {0}) RunFault → Type 0
Late (Ok u) = Unit {0}
Late (Err f) = IsLate (model.some f)

is_late : (e : StepFault) (p : ℕ) → IsLate (model.some (fault_at e p))
is_late steps.Differs p = tt
is_late (steps.Store f) p = tt

pub line_late : {S : Type 0} {M : Semantics S} {rows : List Row} {place : ℕ} {s t : S} {x y : State} {r : Result (Unit {0}) RunFault} → DoesLine M rows place s x t y r → Late r
line_late all_done = tt
line_late (one_done d l) = line_late l
line_late (one_refused {place = place} f d) = is_late f place

-- actions on the values of a plain run
abbrev pub attempted : (Tree → ℕ) → List Act → ℕ → List ℕ → Plain → List Tree → Outcome
attempted c acts space numbers w vs = attempt c acts w.done (record { mem = w.memory; space = space; inputs = vs; numbers = numbers })

-- a call in general: what is seen first, what the definition of plain runs makes of that, and what a line makes of values
module _ {S : Type 0} (M : Semantics S) (small : (s : S) → Small (M.means s)) (old new : S) (run run' : Run) (e : Call)
    (check : Result (Unit {0}) RunFault) (seen : early (bare run) e ≡ early_of check)
    (line : List Row) (next : AreNext line run) (inputs numbers : List ℕ) where
  abbrev before : State
  before = record { registers = run.registers; inputs = inputs; numbers = numbers }

  abbrev tries : Plain → List Tree → Outcome
  tries w vs = attempted (M.cost old) (map row_act line) (M.space old) numbers w vs

  module _ (refusal : (f : RunFault) → check ≡ Err f → (w : Plain) → Shows (M.means old) run w
      → (call (M.cost old) w (M.space old) e ≡ declined_now (run_fault_number f) w (M.space old)) × (run_fault_place f ≡ run.place))
      (trial : check ≡ Ok tt → (w : Plain) → Shows (M.means old) run w
      → (vs : List Tree) × StandFor (M.means old) inputs vs × (call (M.cost old) w (M.space old) e ≡ concluded w (map row_act line) (tries w vs)))
      {A : Type 0} (reply : State → A) (result : Result A RunFault) (replies : Answer → Type 0)
      (declines : (f : RunFault) → result ≡ Err f → replies (declined (run_fault_number f) (run_fault_place f)))
      (takes : (y : State) → result ≡ Ok (reply y) → (memory : Memory) → Holds (M.means new) y.registers memory → replies (was_taken (answer (map row_act line) memory))) where
    room : (q : ℕ) → has q (filled_by line) ≡ true → q < length run.registers
    room q h = run.room q (of_rows run.program.rows.now line run.place next q h)

    closes : (w : Plain) → Shows (M.means old) run w → (vs : List Tree) → StandFor (M.means old) inputs vs → (y : State) (r : Result (Unit {0}) RunFault) → DoesLine M line run.place old before new y r
        → Closes M new y (tries w vs) r
    closes w shows vs stand y r d =
        subst⁻¹ (λ k. Closes M new y (attempt (M.cost old) (map row_act line) k (record { mem = w.memory; space = M.space old; inputs = vs; numbers = numbers })) r) shows.done
        (line_closes M small d room (record { mem = w.memory; space = M.space old; inputs = vs; numbers = numbers })
        (record { memory = shows.memory; space = refl; inputs = stand; numbers = refl }))

    pub value_called : Calls M check line before reply old new run run' result → Called M old new run run' e (fault_of result) replies
    value_called (at_once f c n r q) = record {
      kept = subst⁻¹ (λ t. (h : ℕ) (v : Tree) → M.means old h ≡ Some v → M.means t h ≡ Some v) n (λ h v p. p);
      priced = ap M.cost n;
      refused = λ g i. (n, r, ap fault_of q ∙ sym (seen ∙ ap early_of c) ∙ i);
      late = λ i. absurd (none_or (early (bare run) e) f i (seen ∙ ap early_of c));
      done = λ w shows.
          let (same, at) = refusal f c w shows in
          subst⁻¹ (λ a. Took M new run' replies a) same
          (record {
            shows = subst⁻¹ (λ t. Shows (M.means t) run' w) n (subst⁻¹ (λ z. Shows (M.means old) z w) r shows);
            paid = ap M.space n;
            replied = subst (λ k. replies (declined (run_fault_number f) k)) (at ∙ sym shows.done) (declines f q);
          });
    }
    value_called (taken y c d b q) = record {
      kept = line_kept M d;
      priced = line_priced M d;
      refused = λ g i. absurd (none_or (early (bare run) e) g (seen ∙ ap early_of c) i);
      late = λ i. subst⁻¹ (λ r. IsLate (fault_of r)) q tt;
      done = λ w shows.
          let (vs, stand, same) = trial c w shows in
          subst⁻¹ (λ a. Took M new run' replies a) same (go w shows (tries w vs) (closes w shows vs stand y (Ok tt) d));
    }
      where
        count : length (map row_act line) ≡ length line
        count = length-map line (λ r. row_act r)

        moved : rows_ahead run' ≡ drop (length line) (rows_ahead run)
        moved = ap₂ (λ (k : ℕ) (rows : List Row). drop k rows) b.place (ap (λ p. p.rows.now) b.program) ∙ sym (drop-drop (length line) run.place run.program.rows.now)

        go : (w : Plain) → Shows (M.means old) run w → (o : Outcome) → Closes M new y o (Ok tt) → Took M new run' replies (concluded w (map row_act line) o)
        go w shows (stopped k p left) z = absurd z
        go w shows (ended N) z = record {
          shows = record {
            begun = sym b.begun;
            done = ap₂ (λ x y. x + y) shows.done count ∙ sym b.place;
            ahead = ap₂ (λ (k : ℕ) (xs : List (ℕ × Act)). drop k xs) count shows.ahead ∙ drop-map lined (length line) (rows_ahead run) ∙ ap (map lined) (sym moved);
            numbers = z.numbers ∙ sym b.numbers;
            memory = subst⁻¹ (λ cells. Holds (M.means new) cells N.mem) b.registers z.memory;
          };
          paid = sym z.space;
          replied = takes y q N.mem z.memory;
        }
    value_called (refused f y c d u q) = record {
      kept = line_kept M d;
      priced = line_priced M d;
      refused = λ g i. absurd (none_or (early (bare run) e) g (seen ∙ ap early_of c) i);
      late = λ i. subst⁻¹ (λ r. IsLate (fault_of r)) q (line_late d);
      done = λ w shows.
          let (vs, stand, same) = trial c w shows in
          subst⁻¹ (λ a. Took M new run' replies a) same (go w shows (tries w vs) (closes w shows vs stand y (Err f) d));
    }
      where
        go : (w : Plain) → Shows (M.means old) run w → (o : Outcome) → Closes M new y o (Err f) → Took M new run' replies (concluded w (map row_act line) o)
        go w shows (ended N) z = absurd z
        go w shows (stopped k p left) z = record {
          shows = record {
            begun = shows.begun ∙ sym u.begun;
            done = shows.done ∙ sym u.place;
            ahead = shows.ahead ∙ ap₂ (λ (k : ℕ) (rows : List Row). map lined (drop k rows)) (sym u.place) (ap (λ p. p.rows.now) (sym u.program));
            numbers = shows.numbers ∙ ap₂ (λ (k : ℕ) (ns : List ℕ). drop k ns) (sym u.used) (sym u.numbers);
            memory = subst⁻¹ (λ cells. Holds (M.means new) cells w.memory) u.registers (holds_still (M.means old) (M.means new) (line_kept M d) run.registers w.memory shows.memory);
          };
          paid = sym z.2;
          replied = subst (λ n. replies (declined n p)) z.0 (subst (λ k. replies (declined (run_fault_number f) k)) z.1 (declines f q));
        }
