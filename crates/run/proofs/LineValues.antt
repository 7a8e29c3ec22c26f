-- What actions and lines do to values.
use Rattle.std.proofs.Common.{◌≡◌, ℕ, suc, ◌<◌, Bool, true, false, eqb, Some, None, Ok, Err, Option, Result, ok_or, option_map, if◌then◌else◌, List, [], ◌∷◌, length, map, drop, sym, refl, ap, ◌∙◌, subst, le-leb, eq-eqb, ne_eqb, arith}
use Rattle.std.proofs.Math.Option as model
use Rattle.std.proofs.lemmas.Bool.{or_left, or_right}
use Rattle.std.proofs.lemmas.List.{length-map}
use mathlib.Core.Path.{subst⁻¹}
use Rattle.model.specs.Trees.{Head, tupled, crypted, applied, Tree, leaf, node, eq_tree}
use Rattle.model.specs.Runs as runs
use Rattle.model.specs.Runs.{Machine, mismatch, broken, pay, need, need_all, take_number, check, open_crypt, open_up, reads, step, Outcome, ended, stopped, attempt}
use Rattle.program.specs.declared.action.Action.{Action}
use Rattle.program.specs.declared.action.Action.TheVariants.{Give, New, Hear, Say, Same, Crypt, Tuple, Apply, OpenCrypt, OpenTuple, OpenApply}
use Rattle.program.specs.declared.action.Row.{Row}
use Rattle.program.specs.Actions.{act_of, row_act}
use Rattle.program.specs.Held.{has, fills}
use Rattle.program.specs.Parts.{parts_of}
use Rattle.program.proofs.CheckLaw.{has_first}
use Rattle.program.proofs.Filling.{has_append}
use Rattle.store.specs.declared.fault.StoreFault.{StoreFault}
use Rattle.store.specs.declared.fault.StoreFault.TheVariants.{Invalid, NoPart}
use Rattle.store.specs.Refusals.{fault_number as store_number}
use Rattle.store.specs.Semantics.{Semantics}
use Rattle.store.specs.Makers.{Makes, gathered}
use Rattle.run.specs.declared.fault.StepFault.{StepFault}
use Rattle.run.specs.declared.fault.StepFault.TheVariants.{Store, Differs}
use Rattle.run.specs.declared.fault.RunFault.{RunFault}
use Rattle.run.specs.Plain.{fault_number}
use Rattle.run.specs.Faults.{fault_at, run_fault_number, run_fault_place}
use Rattle.run.specs.Shown.{Meaning, Small, as_option, vacant, register, StandsFor, StandFor, Kept}
use Rattle.run.specs.Actions.{State, TakesNothing, Keeps, next_atom, compared, Builds, Does}
use Rattle.run.specs.Filling.{filled_by}
use Rattle.run.specs.Lines.{DoesLine, all_done, one_done, one_refused}
use Rattle.run.proofs.Actions.{does_size}
use Rattle.run.proofs.Holding.{held, read_all}
use Rattle.run.proofs.Outcomes.{step_fault_number, Shown, Ends, with_numbers, makes_kept, makes_priced, made_ends, built_ends, takes_ends, unlocks_ends, tuple_ends, apply_ends}

-- the same is left to be taken in
shown_still : {m : Meaning} {free : ℕ} {cells : List ℕ} {x y : State} {N : Machine} → TakesNothing x y → Shown m free cells x N → Shown m free cells y N
shown_still {m = m} {N = N} takes shown = record {
  memory = shown.memory;
  space = shown.space;
  inputs = subst⁻¹ (λ hs. StandFor m hs N.inputs) takes.0 shown.inputs;
  numbers = shown.numbers ∙ sym takes.1;
}

module _ {S : Type 0} (M : Semantics S) where
  same_kept : (s t : S) → t ≡ s → Kept (M.means s) (M.means t)
  same_kept s t e = subst⁻¹ (λ t. Kept (M.means s) (M.means t)) e (λ h v p. p)

  -- valid handles keep their values, and values their costs
  pub does_kept : (a : Action) (s t : S) (x y : State) (r : Result (Unit {0}) StepFault) → Does M a s x t y r → Kept (M.means s) (M.means t)
  does_kept (Give q) s t x y r d = same_kept s t d.0
  does_kept (Hear q) s t x y r d = same_kept s t d.0
  does_kept (New q) s t x y r d = makes_kept M s t (next_atom x.numbers) d.0.made d.0.makes
  does_kept (Say q) s t x y r d = same_kept s t d.0
  does_kept (Same q p) s t x y r d = same_kept s t d.0
  does_kept (Crypt q p k) s t x y r d = makes_kept M s t _ d.0.made d.0.makes
  does_kept (Tuple q ps) s t x y r d = makes_kept M s t _ d.0.made d.0.makes
  does_kept (Apply q f ps) s t x y r d = makes_kept M s t _ d.0.made d.0.makes
  does_kept (OpenCrypt q p k) s t x y r d = same_kept s t d.0
  does_kept (OpenTuple f n q) s t x y r d = same_kept s t d.0
  does_kept (OpenApply f n q k) s t x y r d = same_kept s t d.0

  pub does_priced : (a : Action) (s t : S) (x y : State) (r : Result (Unit {0}) StepFault) → Does M a s x t y r → M.cost t ≡ M.cost s
  does_priced (Give q) s t x y r d = ap M.cost d.0
  does_priced (Hear q) s t x y r d = ap M.cost d.0
  does_priced (New q) s t x y r d = makes_priced M s t (next_atom x.numbers) d.0.made d.0.makes
  does_priced (Say q) s t x y r d = ap M.cost d.0
  does_priced (Same q p) s t x y r d = ap M.cost d.0
  does_priced (Crypt q p k) s t x y r d = makes_priced M s t _ d.0.made d.0.makes
  does_priced (Tuple q ps) s t x y r d = makes_priced M s t _ d.0.made d.0.makes
  does_priced (Apply q f ps) s t x y r d = makes_priced M s t _ d.0.made d.0.makes
  does_priced (OpenCrypt q p k) s t x y r d = ap M.cost d.0
  does_priced (OpenTuple f n q) s t x y r d = ap M.cost d.0
  does_priced (OpenApply f n q k) s t x y r d = ap M.cost d.0

  module _ (small : (s : S) → Small (M.means s)) where
    module _ (s : S) (x y : State) (N : Machine) (shown : Shown (M.means s) (M.space s) x.registers x N) (takes : TakesNothing x y) where
      -- a register says what it holds
      says_ends : (h : ℕ) (o : model.Option Tree) → StandsFor (M.means s) h o → Shown (M.means s) (M.space s) y.registers y N
          → Ends M s s y.registers y (need o (λ v. runs.ran N)) (if eqb h vacant then Err (Store Invalid) else Ok tt)
      says_ends h model.none e now = subst⁻¹ (λ b. Ends M s s y.registers y (runs.refused broken) (if b then Err (Store Invalid) else Ok tt)) (eq-eqb h vacant e) (refl, refl)
      says_ends h (model.some v) e now =
          subst⁻¹ (λ b. Ends M s s y.registers y (runs.ran N) (if b then Err (Store Invalid) else Ok tt)) (ne_eqb h vacant (λ z. let l = small s h v e in omega arith)) now

      -- two values are compared
      compares_ends : (o p : Option Tree) → Shown (M.means s) (M.space s) y.registers y N
          → Ends M s s y.registers y (need (as_option o) (λ v. need (as_option p) (λ w. check (eq_tree v w) mismatch (runs.ran N)))) (compared o p)
      compares_ends None p now = (refl, refl)
      compares_ends (Some v) None now = (refl, refl)
      compares_ends (Some v) (Some w) now = go (eq_tree v w)
        where
          go : (b : Bool) → Ends M s s y.registers y (check b mismatch (runs.ran N)) (if b then Ok tt else Err Differs)
          go true = now
          go false = (refl, refl)

      -- a compound is built of the values of some registers
      built : (t : S) (q : ℕ) (h : Head) (rs : List ℕ) (r : Result (Unit {0}) StepFault) → Builds M h rs q s t x.registers y.registers r → q < length x.registers
          → Ends M s t y.registers y (need_all (reads N.mem rs) (λ vs. pay (M.cost s) q (node h vs) N)) r
      built t q h rs r b room =
          let hs = map (λ r. register x.registers r) rs in
          subst⁻¹ (λ o. Ends M s t y.registers y (need_all o (λ vs. pay (M.cost s) q (node h vs) N)) r) (read_all (M.means s) (small s) x.registers N.mem shown.memory rs)
          (built_ends M s t x.registers y.registers y N (shown_still takes shown) q room r h (gathered (M.means s) hs) b.made
          (subst (λ w. Makes M s t (if w then ok_or (option_map (node h) (gathered (M.means s) hs)) Invalid else Err NoPart) b.made)
          (le-leb (length hs) 8 (omega (arith, b.few, length-map rs (λ r. register x.registers r)))) b.makes) b.keeps)

    -- an action ends as the machine's does
    pub does_ends : (a : Action) (s t : S) (x y : State) (r : Result (Unit {0}) StepFault) → Does M a s x t y r → ((q : ℕ) → has q (fills a) ≡ true → q < length x.registers)
        → (N : Machine) → Shown (M.means s) (M.space s) x.registers x N → Ends M s t y.registers y (step (M.cost s) (act_of a) N) r
    does_ends (Give q) s t x y r d room N shown =
        subst⁻¹ (λ t. Ends M s t y.registers y (step (M.cost s) (act_of (Give q)) N) r) d.0
        (takes_ends M s x.registers y.registers y N q (room q (has_first q [])) r shown.memory shown.space x.inputs N.inputs shown.inputs d.2.0 (shown.numbers ∙ sym d.2.1) d.1)
    does_ends (Hear q) s t x y r d room N shown =
        subst⁻¹ (λ t. Ends M s t y.registers y (step (M.cost s) (act_of (Hear q)) N) r) d.0
        (takes_ends M s x.registers y.registers y N q (room q (has_first q [])) r shown.memory shown.space x.inputs N.inputs shown.inputs d.2.0 (shown.numbers ∙ sym d.2.1) d.1)
    does_ends (New q) s t x y r d room N shown = subst⁻¹ (λ ns. Ends M s t y.registers y (take_number (M.cost s) q N ns) r) shown.numbers (go x.numbers d.1.1 d.0.made d.0.makes d.0.keeps)
      where
        go : (ns : List ℕ) → y.numbers ≡ drop 1 ns → (made : Result ℕ StoreFault) → Makes M s t (next_atom ns) made → Keeps x.registers y.registers q made r → Ends M s t y.registers y (take_number (M.cost s) q N ns) r
        go [] left (Ok h) m k = absurd m
        go [] left (Err f) m k = subst⁻¹ (λ r. Ends M s t y.registers y (runs.refused broken) r) k.1 (ap store_number m.0, ap M.space m.1)
        go (n ∷ ns) left made m k =
            made_ends M s t x.registers y.registers y (with_numbers ns N)
            (record { memory = shown.memory; space = shown.space; inputs = subst⁻¹ (λ hs. StandFor (M.means s) hs N.inputs) d.1.0 shown.inputs; numbers = sym left })
            q (room q (has_first q [])) r (leaf n) made m k
    does_ends (Say q) s t x y r d room N shown =
        subst⁻¹ (λ t. Ends M s t y.registers y (need (N.mem q) (λ v. runs.ran N)) r) d.0
        (subst⁻¹ (λ r. Ends M s s y.registers y (need (N.mem q) (λ v. runs.ran N)) r) d.3
        (says_ends s x y N shown d.2 (register x.registers q) (N.mem q) (shown.memory q)
        (subst⁻¹ (λ cells. Shown (M.means s) (M.space s) cells y N) d.1 (shown_still d.2 shown))))
    does_ends (Same q p) s t x y r d room N shown =
        subst⁻¹ (λ t. Ends M s t y.registers y (step (M.cost s) (act_of (Same q p)) N) r) d.0
        (subst⁻¹ (λ r. Ends M s s y.registers y (step (M.cost s) (act_of (Same q p)) N) r) d.3
        (subst⁻¹ (λ o. Ends M s s y.registers y (need o (λ v. need (N.mem p) (λ w. check (eq_tree v w) mismatch (runs.ran N)))) (compared (M.means s (register x.registers q)) (M.means s (register x.registers p))))
        (held (M.means s) (small s) x.registers N.mem shown.memory q)
        (subst⁻¹ (λ o. Ends M s s y.registers y (need (as_option (M.means s (register x.registers q))) (λ v. need o (λ w. check (eq_tree v w) mismatch (runs.ran N)))) (compared (M.means s (register x.registers q)) (M.means s (register x.registers p))))
        (held (M.means s) (small s) x.registers N.mem shown.memory p)
        (compares_ends s x y N shown d.2 (M.means s (register x.registers q)) (M.means s (register x.registers p))
        (subst⁻¹ (λ cells. Shown (M.means s) (M.space s) cells y N) d.1 (shown_still d.2 shown))))))
    does_ends (Crypt q p k) s t x y r d room N shown = built s x y N shown d.1 t q crypted (p ∷ k ∷ []) r d.0 (room q (has_first q []))
    does_ends (Tuple q ps) s t x y r d room N shown = built s x y N shown d.1 t q tupled (parts_of ps) r d.0 (room q (has_first q []))
    does_ends (Apply q f ps) s t x y r d room N shown = built s x y N shown d.1 t q (applied f) (parts_of ps) r d.0 (room q (has_first q []))
    does_ends (OpenCrypt q p k) s t x y r d room N shown =
        subst⁻¹ (λ t. Ends M s t y.registers y (step (M.cost s) (act_of (OpenCrypt q p k)) N) r) d.0
        (subst⁻¹ (λ o. Ends M s s y.registers y (need o (λ v. need (N.mem k) (λ w. open_crypt q v w N))) r) (held (M.means s) (small s) x.registers N.mem shown.memory p)
        (subst⁻¹ (λ o. Ends M s s y.registers y (need (as_option (M.means s (register x.registers p))) (λ v. need o (λ w. open_crypt q v w N))) r) (held (M.means s) (small s) x.registers N.mem shown.memory k)
        (unlocks_ends M s x.registers y.registers y N q (room q (has_first q [])) r (shown_still d.2 shown) (M.means s (register x.registers p)) (M.means s (register x.registers k)) d.1.text d.1.answers d.1.keeps)))
    does_ends (OpenTuple f n q) s t x y r d room N shown =
        subst⁻¹ (λ t. Ends M s t y.registers y (step (M.cost s) (act_of (OpenTuple f n q)) N) r) d.0
        (subst⁻¹ (λ o. Ends M s s y.registers y (need o (λ v. open_up f n tupled v N)) r) (held (M.means s) (small s) x.registers N.mem shown.memory q)
        (tuple_ends M s x.registers y.registers y N (shown_still d.2 shown) f n room (M.means s (register x.registers q)) r d.1))
    does_ends (OpenApply f n q k) s t x y r d room N shown =
        subst⁻¹ (λ t. Ends M s t y.registers y (step (M.cost s) (act_of (OpenApply f n q k)) N) r) d.0
        (subst⁻¹ (λ o. Ends M s s y.registers y (need o (λ v. open_up f n (applied k) v N)) r) (held (M.means s) (small s) x.registers N.mem shown.memory q)
        (apply_ends M s x.registers y.registers y N (shown_still d.2 shown) f n room k (M.means s (register x.registers q)) r d.1))

  -- a line keeps what each of its actions keeps
  pub line_kept : {rows : List Row} {place : ℕ} {s t : S} {x y : State} {r : Result (Unit {0}) RunFault} → DoesLine M rows place s x t y r → Kept (M.means s) (M.means t)
  line_kept all_done h v e = e
  line_kept (one_done {row = row} {s = s} {t = t} {x = x} {y = y} d l) h v e = line_kept l h v (does_kept row.action s t x y (Ok tt) d h v e)
  line_kept (one_refused {row = row} {s = s} {t = t} {x = x} {y = y} f d) h v e = does_kept row.action s t x y (Err f) d h v e

  pub line_priced : {rows : List Row} {place : ℕ} {s t : S} {x y : State} {r : Result (Unit {0}) RunFault} → DoesLine M rows place s x t y r → M.cost t ≡ M.cost s
  line_priced all_done = refl
  line_priced (one_done {row = row} {s = s} {t = t} {x = x} {y = y} d l) = line_priced l ∙ does_priced row.action s t x y (Ok tt) d
  line_priced (one_refused {row = row} {s = s} {t = t} {x = x} {y = y} f d) = does_priced row.action s t x y (Err f) d

-- a line ends as the machine's does
abbrev pub Closes : {S : Type 0} → Semantics S → S → State → Outcome → Result (Unit {0}) RunFault → Type 0
Closes M t y (ended N) (Ok u) = Shown (M.means t) (M.space t) y.registers y N
Closes M t y (ended N) (Err e) = ⊥
Closes M t y (stopped f k left) (Ok u) = ⊥
Closes M t y (stopped f k left) (Err e) = (run_fault_number e ≡ fault_number f) × (run_fault_place e ≡ k) × (left ≡ M.space t)

number_at : (e : StepFault) (p : ℕ) → run_fault_number (fault_at e p) ≡ step_fault_number e
number_at Differs p = refl
number_at (Store f) p = refl

place_at : (e : StepFault) (p : ℕ) → run_fault_place (fault_at e p) ≡ p
place_at Differs p = refl
place_at (Store f) p = refl

module _ {S : Type 0} (M : Semantics S) (small : (s : S) → Small (M.means s)) where
  pub line_closes : {rows : List Row} {place : ℕ} {s t : S} {x y : State} {r : Result (Unit {0}) RunFault} → DoesLine M rows place s x t y r
      → ((q : ℕ) → has q (filled_by rows) ≡ true → q < length x.registers) → (N : Machine) → Shown (M.means s) (M.space s) x.registers x N
      → Closes M t y (attempt (M.cost s) (map row_act rows) place N) r
  line_closes all_done room N shown = shown
  line_closes (one_done {row = row} {rows = rows} {place = place} {s = s} {t = t} {u = u} {x = x} {y = y} {z = z} {result = result} d l) room N shown =
      go (step (M.cost s) (act_of row.action) N) refl (does_ends M small row.action s t x y (Ok tt) d first N shown) (λ K e. line_closes l later K e)
    where
      first : (q : ℕ) → has q (fills row.action) ≡ true → q < length x.registers
      first q e = room q (has_append q (fills row.action) (filled_by rows) ∙ or_left (has q (fills row.action)) (has q (filled_by rows)) e)

      later : (q : ℕ) → has q (filled_by rows) ≡ true → q < length y.registers
      later q e = subst⁻¹ (λ n. q < n) (does_size M row.action s t x y (Ok tt) d) (room q (has_append q (fills row.action) (filled_by rows) ∙ or_right (has q (fills row.action)) (has q (filled_by rows)) e))

      go : (o : runs.Result) → step (M.cost s) (act_of row.action) N ≡ o → Ends M s t y.registers y o (Ok tt)
          → ((K : Machine) → Shown (M.means t) (M.space t) y.registers y K → Closes M u z (attempt (M.cost t) (map row_act rows) (suc place) K) result)
          → Closes M u z (attempt (M.cost s) (row_act row ∷ map row_act rows) place N) result
      go (runs.refused f) p e rest = absurd e
      go (runs.ran K) p e rest =
          subst⁻¹ (λ o. Closes M u z (elim o as (λ z. Outcome) [ runs.ran K ↦ attempt (M.cost s) (map row_act rows) (suc place) K | runs.refused f ↦ stopped f place N.space ]) result) p
          (subst (λ c. Closes M u z (attempt c (map row_act rows) (suc place) K) result) (does_priced M row.action s t x y (Ok tt) d) (rest K e))
  line_closes (one_refused {row = row} {rows = rows} {place = place} {s = s} {t = t} {x = x} {y = y} f d) room N shown =
      go (step (M.cost s) (act_of row.action) N) refl (does_ends M small row.action s t x y (Err f) d first N shown)
    where
      first : (q : ℕ) → has q (fills row.action) ≡ true → q < length x.registers
      first q e = room q (has_append q (fills row.action) (filled_by rows) ∙ or_left (has q (fills row.action)) (has q (filled_by rows)) e)

      go : (o : runs.Result) → step (M.cost s) (act_of row.action) N ≡ o → Ends M s t y.registers y o (Err f) → Closes M t y (attempt (M.cost s) (row_act row ∷ map row_act rows) place N) (Err (fault_at f place))
      go (runs.ran K) p e = absurd e
      go (runs.refused k) p e =
          subst⁻¹ (λ o. Closes M t y (elim o as (λ z. Outcome) [ runs.ran K ↦ attempt (M.cost s) (map row_act rows) (suc place) K | runs.refused f ↦ stopped f place N.space ]) (Err (fault_at f place))) p
          (number_at f place ∙ e.0, place_at f place, shown.space ∙ sym e.1)
