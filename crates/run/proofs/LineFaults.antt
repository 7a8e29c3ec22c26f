-- What a run's call can be refused for, and what it leaves then.
use Rattle.std.proofs.Common.{◌≡◌, ℕ, ◌≤◌, Bool, true, false, List, [], ◌∷◌, length, Some, None, Ok, Err, Option, Result, ok_or, option_map, eqb, sym, ap, ◌∙◌, subst, map, arith}
use Rattle.std.specs.Prelude.{if◌then◌else◌}
use Rattle.std.proofs.lemmas.Bool.{le-leb}
use Rattle.std.proofs.lemmas.List.{length-map}
use mathlib.Core.Path.{subst⁻¹}
use Rattle.model.specs.Trees.{Head, tupled, crypted, applied, Tree, node, eq_tree}
use Rattle.program.specs.declared.action.Action.{Action}
use Rattle.program.specs.declared.action.Action.TheVariants.{Give, New, Hear, Say, Same, Crypt, Tuple, Apply, OpenCrypt, OpenTuple, OpenApply}
use Rattle.program.specs.declared.action.Row.{Row}
use Rattle.store.specs.declared.fault.StoreFault.{StoreFault}
use Rattle.store.specs.declared.fault.StoreFault.TheVariants as stores
use Rattle.store.specs.declared.shape.Shape.{Shape}
use Rattle.store.specs.declared.shape.Shape.TheVariants as shapes
use Rattle.store.specs.Semantics.{Semantics}
use Rattle.store.specs.Makers.{gathered, wanted, Makes}
use Rattle.store.specs.Questions.{text_of, unlocked_value, Answers}
use Rattle.run.specs.declared.fault.StepFault.{StepFault}
use Rattle.run.specs.declared.fault.StepFault.TheVariants as steps
use Rattle.run.specs.declared.fault.RunFault.{RunFault}
use Rattle.run.specs.declared.fault.RunFault.TheVariants.{OutOfTurn, Counts, Mismatch, Store}
use Rattle.run.specs.declared.run.Run.{Run}
use Rattle.run.specs.declared.turn.Asked.{Asked}
use Rattle.run.specs.Actions.{State, next_atom, Keeps, filled, compared, Opens, Builds, Does}
use Rattle.run.specs.Calls.{Calls, at_once, taken, refused, begin_answer, begin_counts}
use Rattle.run.specs.Faults.{fault_at}
use Rattle.run.specs.Lines.{DoesLine, all_done, one_done, one_refused}
use Rattle.run.specs.Shown.{Meaning, register, vacant}
use Rattle.run.specs.Supplies.{first_of}
use Rattle.run.specs.Turned.{turn_answer, turns, turn_of}
use Rattle.run.specs.declared.turn.Asked.TheVariants as asks

-- a store's fault within a line: never for a part that is not there
abbrev Possible : StoreFault → Type 0
Possible stores.Invalid = Unit {0}
Possible stores.NoPart = ⊥
Possible stores.Mismatch = Unit {0}
Possible stores.Full = Unit {0}

abbrev Fine : {A : Type 0} → Result A StoreFault → Type 0
Fine (Ok x) = Unit {0}
Fine (Err e) = Possible e

abbrev FineStep : Result (Unit {0}) StepFault → Type 0
FineStep (Ok x) = Unit {0}
FineStep (Err steps.Differs) = Unit {0}
FineStep (Err (steps.Store e)) = Possible e

keeps_fine : (cells cells' : List ℕ) (t : ℕ) (made : Result ℕ StoreFault) (r : Result (Unit {0}) StepFault) → Keeps cells cells' t made r → Fine made → FineStep r
keeps_fine cells cells' t (Ok h) r k f = subst⁻¹ FineStep k.1 tt
keeps_fine cells cells' t (Err e) r k f = subst⁻¹ FineStep k.1 f

ok_fine : {A : Type 0} (o : Option A) (e : StoreFault) → Possible e → Fine (ok_or o e)
ok_fine None e p = p
ok_fine (Some x) e p = tt

wanted_fine : (m : Meaning) (head : Head) (hs : List ℕ) → length hs ≤ 8 → Fine (wanted m head hs)
wanted_fine m head hs l =
    subst⁻¹ (λ b. Fine (if b then ok_or (option_map (node head) (gathered m hs)) stores.Invalid else Err stores.NoPart)) (le-leb (length hs) 8 l)
    (ok_fine (option_map (node head) (gathered m hs)) stores.Invalid tt)

atom_fine : (ns : List ℕ) → Fine (next_atom ns)
atom_fine [] = tt
atom_fine (n ∷ ns) = tt

first_fine : (hs : List ℕ) → Fine (first_of hs)
first_fine [] = tt
first_fine (h ∷ hs) = tt

unlocked_fine : (v w : Option Tree) → Fine (unlocked_value v w)
unlocked_fine None w = tt
unlocked_fine (Some v) None = tt
unlocked_fine (Some v) (Some w) = ok_fine (text_of v w) stores.Mismatch tt

answers_fine : (m : Meaning) (w : Result Tree StoreFault) (x : Result ℕ StoreFault) → Answers m w x → Fine w → Fine x
answers_fine m (Ok v) (Ok h) a f = tt
answers_fine m (Ok v) (Err e) a f = absurd a
answers_fine m (Err g) (Ok h) a f = tt
answers_fine m (Err g) (Err e) a f = subst⁻¹ Possible a f

filled_fine : (cells : List ℕ) (r : ℕ) → FineStep (filled cells r)
filled_fine cells r = go (eqb (register cells r) vacant)
  where
    go : (b : Bool) → FineStep (if b then Err (steps.Store stores.Invalid) else Ok tt)
    go true = tt
    go false = tt

compared_fine : (v w : Option Tree) → FineStep (compared v w)
compared_fine None w = tt
compared_fine (Some v) None = tt
compared_fine (Some v) (Some w) = go (eq_tree v w)
  where
    go : (b : Bool) → FineStep (if b then Ok tt else Err steps.Differs)
    go true = tt
    go false = tt

opens_fine : (m : Meaning) (cells cells' : List ℕ) (first : ℕ) (v : Option Tree) (shape : Shape) (r : Result (Unit {0}) StepFault) → Opens m cells cells' first v shape r → FineStep r
opens_fine m cells cells' first None shape r o = subst⁻¹ FineStep o.0 tt
opens_fine m cells cells' first (Some v) shape (Ok x) o = tt
opens_fine m cells cells' first (Some v) shape (Err e) o = subst⁻¹ (λ e. FineStep (Err e)) o.0 tt

-- the fault of a line comes from one of its actions
abbrev pub Late : RunFault → Type 0
Late (OutOfTurn p) = ⊥
Late (Counts p) = ⊥
Late (Mismatch p) = Unit {0}
Late (Store e p) = Possible e

-- and one that comes before anything is done
abbrev pub Early : RunFault → Type 0
Early (OutOfTurn p) = Unit {0}
Early (Counts p) = Unit {0}
Early (Mismatch p) = ⊥
Early (Store e p) = ⊥

abbrev OnFault : (RunFault → Type 0) → Result (Unit {0}) RunFault → Type 0
OnFault Q (Ok x) = Unit {0}
OnFault Q (Err f) = Q f

-- either comes without a part that is not there
abbrev pub Possibly : RunFault → Type 0
Possibly (OutOfTurn p) = Unit {0}
Possibly (Counts p) = Unit {0}
Possibly (Mismatch p) = Unit {0}
Possibly (Store e p) = Possible e

early_possibly : (f : RunFault) → Early f → Possibly f
early_possibly (OutOfTurn p) h = tt
early_possibly (Counts p) h = tt
early_possibly (Mismatch p) h = tt
early_possibly (Store e p) h = absurd h

late_possibly : (f : RunFault) → Late f → Possibly f
late_possibly (OutOfTurn p) h = tt
late_possibly (Counts p) h = tt
late_possibly (Mismatch p) h = tt
late_possibly (Store e p) h = h

late_early : (f : RunFault) → Late f → Early f → ⊥
late_early (OutOfTurn p) l h = l
late_early (Counts p) l h = l
late_early (Mismatch p) l h = h
late_early (Store e p) l h = h

err_same : {A : Type 0} {f g : RunFault} → ◌≡◌ {A = Result A RunFault} (Err f) (Err g) → f ≡ g
err_same e = cc

never : {A : Type 0} {x : A} {g : RunFault} → ◌≡◌ {A = Result A RunFault} (Ok x) (Err g) → ⊥
never e = absurd (cc)

module _ {S : Type 0} (M : Semantics S) where
  makes_fine : (old new : S) (w : Result Tree StoreFault) (x : Result ℕ StoreFault) → Makes M old new w x → Fine w → Fine x
  makes_fine old new (Ok v) (Ok h) m f = tt
  makes_fine old new (Ok v) (Err e) m f = subst⁻¹ Possible m.0 tt
  makes_fine old new (Err g) (Ok h) m f = tt
  makes_fine old new (Err g) (Err e) m f = subst⁻¹ Possible m.0 f

  builds_fine : (head : Head) (parts : List ℕ) (t : ℕ) (s s' : S) (cells cells' : List ℕ) (r : Result (Unit {0}) StepFault) → Builds M head parts t s s' cells cells' r → FineStep r
  builds_fine head parts t s s' cells cells' r b =
      let l : length (map (λ q. register cells q) parts) ≤ 8 = let e = length-map parts (λ q. register cells q) in let f = b.few in omega arith in
      keeps_fine cells cells' t b.made r b.keeps (makes_fine s s' (wanted (M.means s) head (map (λ q. register cells q) parts)) b.made b.makes (wanted_fine (M.means s) head (map (λ q. register cells q) parts) l))

  does_fine : (a : Action) (s : S) (x : State) (s' : S) (y : State) (r : Result (Unit {0}) StepFault) → Does M a s x s' y r → FineStep r
  does_fine (Give t) s x s' y r d = keeps_fine x.registers y.registers t (first_of x.inputs) r d.1 (first_fine x.inputs)
  does_fine (Hear t) s x s' y r d = keeps_fine x.registers y.registers t (first_of x.inputs) r d.1 (first_fine x.inputs)
  does_fine (New t) s x s' y r d = keeps_fine x.registers y.registers t d.0.made r d.0.keeps (makes_fine s s' (next_atom x.numbers) d.0.made d.0.makes (atom_fine x.numbers))
  does_fine (Say q) s x s' y r d = subst⁻¹ FineStep d.3 (filled_fine x.registers q)
  does_fine (Same q p) s x s' y r d = subst⁻¹ FineStep d.3 (compared_fine (M.means s (register x.registers q)) (M.means s (register x.registers p)))
  does_fine (Crypt t q k) s x s' y r d = builds_fine crypted _ t s s' x.registers y.registers r d.0
  does_fine (Tuple t ps) s x s' y r d = builds_fine tupled _ t s s' x.registers y.registers r d.0
  does_fine (Apply t f ps) s x s' y r d = builds_fine (applied f) _ t s s' x.registers y.registers r d.0
  does_fine (OpenCrypt t q k) s x s' y r d =
      let u = d.1 in
      keeps_fine x.registers y.registers t u.text r u.keeps
      (answers_fine (M.means s) (unlocked_value (M.means s (register x.registers q)) (M.means s (register x.registers k))) u.text u.answers
      (unlocked_fine (M.means s (register x.registers q)) (M.means s (register x.registers k))))
  does_fine (OpenTuple f n q) s x s' y r d = opens_fine (M.means s) x.registers y.registers f (M.means s (register x.registers q)) (shapes.Tuple n) r d.1
  does_fine (OpenApply f n q g) s x s' y r d = opens_fine (M.means s) x.registers y.registers f (M.means s (register x.registers q)) (shapes.Apply g n) r d.1

  step_late : (f : StepFault) (place : ℕ) → FineStep (Err f) → Late (fault_at f place)
  step_late steps.Differs place h = tt
  step_late (steps.Store e) place h = h

  line_late : {rows : List Row} {place : ℕ} {s t : S} {x y : State} {r : Result (Unit {0}) RunFault} → DoesLine M rows place s x t y r → OnFault Late r
  line_late all_done = tt
  line_late (one_done d rest) = line_late rest
  line_late (one_refused {row = row} {place = place} {s = s} {t = t} {x = x} {y = y} fault d) = step_late fault place (does_fine row.action s x t y (Err fault) d)

  -- how a call ends that is refused
  pub record Refuses {A : Type 0} (old new : S) (run run' : Run) (result : Result A RunFault) : Type 0 where
    pub kinds : (f : RunFault) → result ≡ Err f → (Early f → (new ≡ old) × (run' ≡ run)) × Possibly f
    pub registers : (f : RunFault) → result ≡ Err f → run'.registers ≡ run.registers

  pub refuses : {A : Type 0} (check : Result (Unit {0}) RunFault) (line : List Row) (x : State) (reply : State → A) (old new : S) (run run' : Run) (result : Result A RunFault)
      → OnFault Early check → Calls M check line x reply old new run run' result → Refuses old new run run' result
  refuses check line x reply old new run run' result early (at_once f c en er q) = record {
    kinds = λ g e. ((λ h. (en, er)), subst Possibly (err_same (sym q ∙ e)) (early_possibly f (subst (OnFault Early) c early)));
    registers = λ g e. ap (λ (z : Run). z.registers) er;
  }
  refuses check line x reply old new run run' result early (taken y c d b q) = record {
    kinds = λ g e. absurd (never (sym q ∙ e));
    registers = λ g e. absurd (never (sym q ∙ e));
  }
  refuses check line x reply old new run run' result early (refused f y c d u q) = record {
    kinds = λ g e. let l = subst Late (err_same (sym q ∙ e)) (line_late d) in ((λ h. absurd (late_early g l h)), late_possibly g l);
    registers = λ g e. u.registers;
  }

turn_early : (run : Run) (a : Asked) → OnFault Early (turn_answer run a)
turn_early run a = go (turns (turn_of run) a)
  where
    go : (b : Bool) → OnFault Early (if b then Ok tt else Err (OutOfTurn run.place))
    go true = tt
    go false = tt

pub say_early : (run : Run) → OnFault Early (turn_answer run asks.Say)
say_early run = turn_early run asks.Say

pub hear_early : (run : Run) → OnFault Early (turn_answer run asks.Hear)
hear_early run = turn_early run asks.Hear

pub begin_early : (run : Run) (given ns : List ℕ) → OnFault Early (begin_answer run given ns)
begin_early run given ns = go (turn_answer run asks.Begin) (turn_early run asks.Begin)
  where
    counted : (b : Bool) → OnFault Early (if b then Ok tt else Err (Counts run.place))
    counted true = tt
    counted false = tt

    go : (r : Result (Unit {0}) RunFault) → OnFault Early r → OnFault Early (elim r as (λ z. Result (Unit {0}) RunFault) [ Err f ↦ Err f | Ok u ↦ if begin_counts run given ns then Ok tt else Err (Counts run.place) ])
    go (Ok u) h = counted (begin_counts run given ns)
    go (Err f) h = h
