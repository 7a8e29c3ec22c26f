-- What begin, say and hear do to the plain run that a run shows.
use Rattle.std.proofs.Common.{◌≡◌, ℕ, ◌+◌, ◌<◌, Bool, true, false, cond, ◌&&◌, ◌==◌, Some, None, Ok, Err, Result, if◌then◌else◌, List, [], ◌∷◌, ◌++◌, length, map, drop, sym, refl, ap, ap₂, ◌∙◌, subst}
use Rattle.std.proofs.Common as std
use Rattle.std.proofs.Math.Option as model
use Rattle.std.proofs.lemmas.List.{length-map}
use Rattle.std.proofs.lemmas.Simd.{map-map}
use mathlib.Core.Path.{subst⁻¹}
use Rattle.model.specs.Trees.{Tree}
use Rattle.model.specs.Roles.{Act}
use Rattle.model.specs.Runs.{Memory, answer, later, says_of}
use Rattle.model.specs.Sessions.{taken as was_taken, declined, valid, gives, news}
use Rattle.program.specs.declared.action.Action.{Action}
use Rattle.program.specs.declared.action.Action.TheVariants.{Give, New, Hear, Say, Same, Crypt, Tuple, Apply, OpenCrypt, OpenTuple, OpenApply}
use Rattle.program.specs.declared.action.Row.{Row}
use Rattle.program.specs.Actions.{act_of, row_act}
use Rattle.store.specs.Semantics.{Semantics}
use Rattle.run.specs.declared.fault.RunFault.{RunFault}
use Rattle.run.specs.declared.fault.RunFault.TheVariants.{OutOfTurn, Counts}
use Rattle.run.specs.declared.run.Run.{Run}
use Rattle.run.specs.declared.turn.Asked.{Asked}
use Rattle.run.specs.declared.turn.Asked.TheVariants as asks
use Rattle.run.specs.Plain.{Plain, begin, say, hear, Turn, begins, says, hears, nobody, line_turn, line_ahead as acts_ahead, of_line, turn_now, counts_fit, After, concluded, tried, refused as declined_now, called, is_hear}
use Rattle.run.specs.Faults.{run_fault_number, run_fault_place, fault_of}
use Rattle.run.specs.Filling.{lined}
use Rattle.run.specs.Shown.{Meaning, Small, as_option, vacant, StandsFor, StandFor, Holds}
use Rattle.run.specs.Turned.{rows_ahead, line_ahead, first_line, turn_of, turns, turn_answer}
use Rattle.run.specs.Lines.{or_before, said_handle, last_said}
use Rattle.run.specs.Calls.{numbers_left, valid_handles, begin_line, begin_counts, begin_answer, Begins, Says, Hears}
use Rattle.run.specs.Called.{bare, Shows, Called, in_turn, said, did, unsaid, ValueLaw}
use Rattle.run.proofs.Holding.{stands_for}
use Rattle.run.proofs.Counting.{line_acts, line_front}
use Rattle.run.proofs.Trials.{next_line}
use Rattle.run.proofs.CallValues.{early_of, attempted, value_called}

-- handles that can be taken in stand for the values behind them
inputs_stand : (m : Meaning) (hs : List ℕ) → StandFor m (valid_handles m hs) (valid (map (λ h. as_option (m h)) hs))
inputs_stand m [] = tt
inputs_stand m (h ∷ hs) = go (m h) refl (inputs_stand m hs)
  where
    go : (o : std.Option Tree) → m h ≡ o → StandFor m (valid_handles m hs) (valid (map (λ h. as_option (m h)) hs))
        → StandFor m (elim o [ None ↦ [] | Some v ↦ h ∷ valid_handles m hs ]) (valid (as_option o ∷ map (λ h. as_option (m h)) hs))
    go None e s = tt
    go (Some v) e s = (e, s)

-- what a line says stands for what its actions say
module _ (m : Meaning) (fits : Small m) (cells : List ℕ) (memory : Memory) (holds : Holds m cells memory) where
  one_says : (a : Action) → StandsFor m (said_handle cells a) (says_of (act_of a) memory)
  one_says (Give t) = refl
  one_says (New t) = refl
  one_says (Hear t) = refl
  one_says (Say r) = holds r
  one_says (Same l r) = refl
  one_says (Crypt t x k) = refl
  one_says (Tuple t ps) = refl
  one_says (Apply t f ps) = refl
  one_says (OpenCrypt t r k) = refl
  one_says (OpenTuple f n r) = refl
  one_says (OpenApply f n r g) = refl

  stands_later : (h before : ℕ) (o p : model.Option Tree) → StandsFor m h o → StandsFor m before p → StandsFor m (or_before h before) (later o p)
  stands_later h before model.none p e f = subst⁻¹ (λ b. StandsFor m (if b then before else h) p) (std.eq-eqb h vacant e) f
  stands_later h before (model.some v) p e f = subst⁻¹ (λ b. StandsFor m (if b then before else h) (model.some v)) (std.ne_eqb h vacant (λ z. let l = fits h v e in omega std.arith)) e

  line_says : (rows : List Row) → StandsFor m (last_said cells rows) (answer (map row_act rows) memory)
  line_says [] = refl
  line_says (r ∷ rows) = stands_later (last_said cells rows) (said_handle cells r.action) (answer (map row_act rows) memory) (says_of (row_act r) memory) (line_says rows) (one_says r.action)

-- the line at the front
first_acts : (rows : List Row) → acts_ahead (map lined rows) ≡ map row_act (first_line rows)
first_acts [] = refl
first_acts (x ∷ rows) = sym (line_acts x.line (x ∷ rows))

shown_turn : (m : Meaning) (run : Run) (w : Plain) → Shows m run w → turn_now w ≡ turn_of run
shown_turn m run w shows = ap₂ (λ (b : Bool) (xs : List (ℕ × Act)). cond b (line_turn xs) begins) shows.begun shows.ahead

waits_or_not : (b : Bool) (xs : List (ℕ × Act)) (t : Turn) → (if b then line_turn xs else begins) ≡ t → (begins ≡ t → ⊥) → b ≡ true
waits_or_not true xs t e n = refl
waits_or_not false xs t e n = absurd (n e)

pub turn_waits : (b : Bool) (xs : List (ℕ × Act)) → (if b then line_turn xs else begins) ≡ begins → b ≡ false
turn_waits false xs e = refl
turn_waits true [] e = absurd (cc)
turn_waits true (x ∷ xs) e = absurd (go (is_hear x.1) e)
  where
    go : (b : Bool) → cond b hears says ≡ begins → ⊥
    go true e = cc
    go false e = cc

-- a call out of turn, before anything is done and on values
abbrev turn_check : ℕ → Turn → Asked → Result (Unit {0}) RunFault
turn_check p t a = if turns t a then Ok tt else Err (OutOfTurn p)

abbrev begin_check : ℕ → Turn → Bool → Result (Unit {0}) RunFault
begin_check p t b = elim (turn_check p t asks.Begin) [ Err f ↦ Err f | Ok u ↦ if b then Ok tt else Err (Counts p) ]

module _ (p : ℕ) where
  say_seen : (t : Turn) → cond (in_turn t say) model.none (model.some (OutOfTurn p)) ≡ early_of (turn_check p t asks.Say)
  say_seen begins = refl
  say_seen says = refl
  say_seen hears = refl
  say_seen nobody = refl

  hear_seen : (h : model.Option Tree) (t : Turn) → cond (in_turn t (hear h)) model.none (model.some (OutOfTurn p)) ≡ early_of (turn_check p t asks.Hear)
  hear_seen h begins = refl
  hear_seen h says = refl
  hear_seen h hears = refl
  hear_seen h nobody = refl

  begin_seen : (hs : List (model.Option Tree)) (ns : List ℕ) (t : Turn) (b : Bool) → cond (in_turn t (begin hs ns)) (cond b model.none (model.some (Counts p))) (model.some (OutOfTurn p)) ≡ early_of (begin_check p t b)
  begin_seen hs ns begins true = refl
  begin_seen hs ns begins false = refl
  begin_seen hs ns says b = refl
  begin_seen hs ns hears b = refl
  begin_seen hs ns nobody b = refl

  module _ (c : Tree → ℕ) (w : Plain) (space : ℕ) where
    abbrev Declines : RunFault → After → Type 0
    Declines f a = (a ≡ declined_now (run_fault_number f) w space) × (run_fault_place f ≡ p)

    late_call : (f : RunFault) → OutOfTurn p ≡ f → (declined_now 11 w space ≡ declined_now (run_fault_number f) w space) × (run_fault_place f ≡ p)
    late_call f q = subst (λ f. Declines f (declined_now 11 w space)) q (refl, refl)

    say_refused : (t : Turn) (f : RunFault) → turn_check p t asks.Say ≡ Err f → Declines f (called c w space t say)
    say_refused begins f e = late_call f (cc)
    say_refused says f e = absurd (cc)
    say_refused hears f e = late_call f (cc)
    say_refused nobody f e = late_call f (cc)

    hear_refused : (h : model.Option Tree) (t : Turn) (f : RunFault) → turn_check p t asks.Hear ≡ Err f → Declines f (called c w space t (hear h))
    hear_refused h begins f e = late_call f (cc)
    hear_refused h says f e = late_call f (cc)
    hear_refused h hears f e = absurd (cc)
    hear_refused h nobody f e = late_call f (cc)

    begin_refused : (hs : List (model.Option Tree)) (ns : List ℕ) (t : Turn) (b : Bool) → counts_fit w hs ns ≡ b → (f : RunFault) → begin_check p t b ≡ Err f → Declines f (called c w space t (begin hs ns))
    begin_refused hs ns begins true fits f e = absurd (cc)
    begin_refused hs ns begins false fits f e =
        let q : Counts p ≡ f = cc in
        subst⁻¹ (λ b. Declines f (cond b (tried c w space (valid hs) ns) (declined_now 13 w space))) fits
        (subst (λ f. Declines f (declined_now 13 w space)) q (refl, refl))
    begin_refused hs ns says b fits f e = late_call f (cc)
    begin_refused hs ns hears b fits f e = late_call f (cc)
    begin_refused hs ns nobody b fits f e = late_call f (cc)

say_turn : (p : ℕ) (t : Turn) → turn_check p t asks.Say ≡ Ok tt → t ≡ says
say_turn p begins e = absurd (cc)
say_turn p says e = refl
say_turn p hears e = absurd (cc)
say_turn p nobody e = absurd (cc)

hear_turn : (p : ℕ) (t : Turn) → turn_check p t asks.Hear ≡ Ok tt → t ≡ hears
hear_turn p begins e = absurd (cc)
hear_turn p says e = absurd (cc)
hear_turn p hears e = refl
hear_turn p nobody e = absurd (cc)

begin_turn : (p : ℕ) (t : Turn) (b : Bool) → begin_check p t b ≡ Ok tt → (t ≡ begins) × (b ≡ true)
begin_turn p begins true e = (refl, refl)
begin_turn p begins false e = absurd (cc)
begin_turn p says b e = absurd (cc)
begin_turn p hears b e = absurd (cc)
begin_turn p nobody b e = absurd (cc)

-- the counts of a begin
counts_are : (run : Run) (w : Plain) → w.ahead ≡ map lined (rows_ahead run) → (f : ℕ → model.Option Tree) (given ns : List ℕ) → counts_fit w (map f given) ns ≡ begin_counts run given ns
counts_are run w e f given ns =
    ap (λ (xs : List (ℕ × Act)). length (map f given) == gives (of_line 0 xs) && length ns == news (map (λ x. x.1) xs)) e
    ∙ ap₂ (λ (n : ℕ) (ys : List Act). n == gives ys && length ns == news (map (λ x. x.1) (map lined (rows_ahead run)))) (length-map given f) (sym (line_acts 0 (rows_ahead run)))
    ∙ ap (λ (ys : List Act). length given == gives (map row_act (begin_line run)) && length ns == news ys) (map-map (λ x. x.1) lined (rows_ahead run))

module _ {S : Type 0} (M : Semantics S) (small : (s : S) → Small (M.means s)) (old new : S) (run run' : Run) where
  -- the next line of a run that has begun, on values
  next_tried : run.begun ≡ true → (w : Plain) → Shows (M.means old) run w → (vs : List Tree)
      → tried (M.cost old) w (M.space old) vs w.numbers ≡ concluded w (map row_act (line_ahead run)) (attempted (M.cost old) (map row_act (line_ahead run)) (M.space old) (numbers_left run) w vs)
  next_tried begun w shows vs =
      ap₂ (λ (acts : List Act) (ns : List ℕ). concluded w acts (attempted (M.cost old) acts (M.space old) ns w vs))
      (ap₂ (λ (b : Bool) (xs : List (ℕ × Act)). cond b (acts_ahead xs) (of_line 0 xs)) (shows.begun ∙ begun) shows.ahead ∙ first_acts (rows_ahead run)) shows.numbers

  pub says_value : (result : Result ℕ RunFault) → Says M old new run run' result → Called M old new run run' say (fault_of result) (λ a. a ≡ said (M.means new) result)
  says_value result c =
      value_called M small old new run run' say (turn_answer run asks.Say) (say_seen run.place (turn_of run)) (line_ahead run) (next_line run (line_ahead run) refl) [] (numbers_left run)
      (λ f e w shows. subst⁻¹ (λ t. Declines run.place (M.cost old) w (M.space old) f (called (M.cost old) w (M.space old) t say)) (shown_turn (M.means old) run w shows)
      (say_refused run.place (M.cost old) w (M.space old) (turn_of run) f e))
      (λ e w shows. let t = say_turn run.place (turn_of run) e in (
        [],
        tt,
        ap (λ t. called (M.cost old) w (M.space old) t say) (shown_turn (M.means old) run w shows ∙ t)
            ∙ next_tried (waits_or_not run.begun (map lined (rows_ahead run)) says t (λ e. cc)) w shows [],
      ))
      (λ y. last_said y.registers (line_ahead run)) result (λ a. a ≡ said (M.means new) result)
      (λ f e. subst⁻¹ (λ r. declined (run_fault_number f) (run_fault_place f) ≡ said (M.means new) r) e refl)
      (λ y e memory holds. subst⁻¹ (λ r. was_taken (answer (map row_act (line_ahead run)) memory) ≡ said (M.means new) r) e
      (ap was_taken (stands_for (M.means new) (small new) (last_said y.registers (line_ahead run)) (answer (map row_act (line_ahead run)) memory)
      (line_says (M.means new) (small new) y.registers memory holds (line_ahead run)))))
      c

  pub hears_value : (handle : ℕ) (result : Result (Unit {0}) RunFault) → Hears M old new run run' handle result
      → Called M old new run run' (hear (as_option (M.means old handle))) (fault_of result) (λ a. unsaid a ≡ did result)
  hears_value handle result c =
      let h = as_option (M.means old handle) in
      value_called M small old new run run' (hear h) (turn_answer run asks.Hear) (hear_seen run.place h (turn_of run)) (line_ahead run) (next_line run (line_ahead run) refl)
      (valid_handles (M.means old) (handle ∷ [])) (numbers_left run)
      (λ f e w shows. subst⁻¹ (λ t. Declines run.place (M.cost old) w (M.space old) f (called (M.cost old) w (M.space old) t (hear h))) (shown_turn (M.means old) run w shows)
      (hear_refused run.place (M.cost old) w (M.space old) h (turn_of run) f e))
      (λ e w shows. let t = hear_turn run.place (turn_of run) e in (
        valid (h ∷ []),
        inputs_stand (M.means old) (handle ∷ []),
        ap (λ t. called (M.cost old) w (M.space old) t (hear h)) (shown_turn (M.means old) run w shows ∙ t)
            ∙ next_tried (waits_or_not run.begun (map lined (rows_ahead run)) hears t (λ e. cc)) w shows (valid (h ∷ [])),
      ))
      (λ y. tt) result (λ a. unsaid a ≡ did result)
      (λ f e. subst⁻¹ (λ r. declined (run_fault_number f) (run_fault_place f) ≡ did r) e refl)
      (λ y e memory holds. subst⁻¹ (λ r. was_taken model.none ≡ did r) e refl)
      c

  pub begins_value : (given ns : List ℕ) (result : Result (Unit {0}) RunFault) → Begins M old new run run' given ns result
      → Called M old new run run' (begin (map (λ h. as_option (M.means old h)) given) ns) (fault_of result) (λ a. unsaid a ≡ did result)
  begins_value given ns result c =
      let hs = map (λ h. as_option (M.means old h)) given in
      let fits = begin_counts run given ns in
      value_called M small old new run run' (begin hs ns) (begin_answer run given ns)
      (ap (λ b. cond (in_turn (turn_of run) (begin hs ns)) (cond b model.none (model.some (Counts run.place))) (model.some (OutOfTurn run.place))) (counts_are run (bare run) refl (λ h. as_option (M.means old h)) given ns)
      ∙ begin_seen run.place hs ns (turn_of run) fits)
      (begin_line run) (line_front 0 (rows_ahead run)) (valid_handles (M.means old) given) ns
      (λ f e w shows. subst⁻¹ (λ t. Declines run.place (M.cost old) w (M.space old) f (called (M.cost old) w (M.space old) t (begin hs ns))) (shown_turn (M.means old) run w shows)
      (begin_refused run.place (M.cost old) w (M.space old) hs ns (turn_of run) fits (counts_are run w shows.ahead (λ h. as_option (M.means old h)) given ns) f e))
      (λ e w shows. let q = begin_turn run.place (turn_of run) fits e in (
        valid hs,
        inputs_stand (M.means old) given,
        ap (λ t. called (M.cost old) w (M.space old) t (begin hs ns)) (shown_turn (M.means old) run w shows ∙ q.0)
            ∙ ap (λ b. cond b (tried (M.cost old) w (M.space old) (valid hs) ns) (declined_now 13 w (M.space old))) (counts_are run w shows.ahead (λ h. as_option (M.means old h)) given ns ∙ q.1)
            ∙ ap (λ (acts : List Act). concluded w acts (attempted (M.cost old) acts (M.space old) ns w (valid hs)))
            (ap₂ (λ (b : Bool) (xs : List (ℕ × Act)). cond b (acts_ahead xs) (of_line 0 xs)) (shows.begun ∙ turn_waits run.begun (map lined (rows_ahead run)) q.0) shows.ahead ∙ sym (line_acts 0 (rows_ahead run))),
      ))
      (λ y. tt) result (λ a. unsaid a ≡ did result)
      (λ f e. subst⁻¹ (λ r. declined (run_fault_number f) (run_fault_place f) ≡ did r) e refl)
      (λ y e memory holds. subst⁻¹ (λ r. was_taken model.none ≡ did r) e refl)
      c

pub value_law : {S : Type 0} (M : Semantics S) → ((s : S) → Small (M.means s)) → ValueLaw M
value_law M small = record {
  begins = λ old new run run' given ns result c. begins_value M small old new run run' given ns result c;
  says = λ old new run run' result c. says_value M small old new run run' result c;
  hears = λ old new run run' handle result c. hears_value M small old new run run' handle result c;
}
