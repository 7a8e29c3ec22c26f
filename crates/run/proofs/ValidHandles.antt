-- Registers that a line fills hold valid handles.
use Rattle.std.proofs.Common.{◌≡◌, ℕ, suc, ◌+◌, ◌<◌, true, false, eqb, ◌⊎◌, inl, inr, Some, None, Ok, Err, Option, Result, List, [], ◌∷◌, length, drop, set, sym, refl, ap, ◌∙◌, subst, eq-eqb, arith}
use Rattle.std.proofs.lemmas.Bool.{false≢true, cases_eq, eqb-true, or_cases, or_left, or_right}
use Rattle.std.proofs.lemmas.List.{get_or-set_same, get_or-set_other}
use mathlib.Core.Path.{subst⁻¹}
use Rattle.model.specs.Trees.{Tree, Trees, none, more}
use Rattle.model.specs.Roles.{count}
use Rattle.program.specs.declared.action.Action.{Action}
use Rattle.program.specs.declared.action.Action.TheVariants.{Give, New, Hear, Say, Same, Crypt, Tuple, Apply, OpenCrypt, OpenTuple, OpenApply}
use Rattle.program.specs.declared.action.Row.{Row}
use Rattle.program.specs.Held.{has, from, fills}
use Rattle.program.proofs.Filling.{has_append}
use Rattle.store.specs.declared.fault.StoreFault.{StoreFault}
use Rattle.store.specs.declared.shape.Shape.{Shape}
use Rattle.store.specs.declared.shape.Shape.TheVariants as shapes
use Rattle.store.specs.Semantics.{Semantics}
use Rattle.store.specs.Makers.{Makes}
use Rattle.store.specs.Questions.{Answers, shape_of}
use Rattle.run.specs.declared.fault.StepFault.{StepFault}
use Rattle.run.specs.declared.fault.RunFault.{RunFault}
use Rattle.run.specs.Filling.{filled_by}
use Rattle.run.specs.Shown.{Meaning, Kept, vacant, register}
use Rattle.run.specs.Supplies.{first_of}
use Rattle.run.specs.Actions.{State, Keeps, Filled, no_more, one_more, Opens, parts_within, Does}
use Rattle.run.specs.Lines.{DoesLine, all_done, one_done, one_refused}
use Rattle.run.specs.Calls.{valid_handles}
use Rattle.run.specs.CallLaw.{Valid}
use Rattle.run.proofs.Actions.{does_size, tuple_parts, apply_parts}
use Rattle.run.proofs.Holding.{room_after}
use Rattle.run.proofs.LineValues.{does_kept}

valid_still : (m m' : Meaning) → Kept m m' → (h : ℕ) → Valid m h → Valid m' h
valid_still m m' k h (v, e) = (v, k h v e)

abbrev pub AllValid : Meaning → List ℕ → Type 0
AllValid m [] = Unit {0}
AllValid m (h ∷ hs) = Valid m h × AllValid m hs

all_still : (m m' : Meaning) → Kept m m' → (hs : List ℕ) → AllValid m hs → AllValid m' hs
all_still m m' k [] a = tt
all_still m m' k (h ∷ hs) a = (valid_still m m' k h a.0, all_still m m' k hs a.1)

all_but_first : (m : Meaning) (hs : List ℕ) → AllValid m hs → AllValid m (drop 1 hs)
all_but_first m [] a = tt
all_but_first m (h ∷ hs) a = a.1

pub valid_inputs : (m : Meaning) (hs : List ℕ) → AllValid m (valid_handles m hs)
valid_inputs m [] = tt
valid_inputs m (h ∷ hs) = go (m h) refl (valid_inputs m hs)
  where
    go : (o : Option Tree) → m h ≡ o → AllValid m (valid_handles m hs) → AllValid m (elim o [ None ↦ [] | Some v ↦ h ∷ valid_handles m hs ])
    go None e a = tt
    go (Some v) e a = ((v, e), a)

-- a register that is filled, or that holds a valid handle, holds one after a valid handle went into a register
set_valid : (m : Meaning) (cells : List ℕ) (t h q : ℕ) → t < length cells → Valid m h → (has q (t ∷ []) ≡ true) ⊎ Valid m (register cells q) → Valid m (register (set cells t h) q)
set_valid m cells t h q l v o = go (cases_eq q t) o
  where
    go : (q ≡ t) ⊎ (q ≡ t → ⊥) → (has q (t ∷ []) ≡ true) ⊎ Valid m (register cells q) → Valid m (register (set cells t h) q)
    go (inl p) o = subst⁻¹ (Valid m) (ap (λ x. register (set cells t h) x) p ∙ get_or-set_same cells t h vacant l) v
    go (inr n) (inl e) = elim (or_cases (eqb q t) false e) [ inl p ↦ absurd (n (eqb-true q t p)) | inr f ↦ absurd (false≢true f) ]
    go (inr n) (inr w) = subst⁻¹ (Valid m) (get_or-set_other cells t q h vacant n) w

keeps_valid : (m : Meaning) (cells cells' : List ℕ) (t : ℕ) (made : Result ℕ StoreFault) → Keeps cells cells' t made (Ok tt) → ((h : ℕ) → made ≡ Ok h → Valid m h) → t < length cells
    → (q : ℕ) → (has q (t ∷ []) ≡ true) ⊎ Valid m (register cells q) → Valid m (register cells' q)
keeps_valid m cells cells' t (Ok h) k f l q o = subst⁻¹ (λ c. Valid m (register c q)) k.0 (set_valid m cells t h q l (f h refl) o)
keeps_valid m cells cells' t (Err e) k f l q o = let z = k.1 in absurd (cc)

filled_valid : (m : Meaning) (cells cells' : List ℕ) (r : ℕ) (vs : Trees) → Filled m cells r vs cells' → ((q : ℕ) → has q (from r (count vs)) ≡ true → q < length cells)
    → (q : ℕ) → (has q (from r (count vs)) ≡ true) ⊎ Valid m (register cells q) → Valid m (register cells' q)
filled_valid m cells cells' r none no_more room q (inl e) = absurd (false≢true e)
filled_valid m cells cells' r none no_more room q (inr v) = v
filled_valid m cells cells' r (more v vs) (one_more h e f) room q o =
    let n : 1 + count vs ≡ suc (count vs) = omega arith in
    let all = subst (λ n. (q : ℕ) → has q (from r n) ≡ true → q < length cells) n room in
    filled_valid m (set cells r h) cells' (suc r) vs f (room_after m cells r h (count vs) all) q (go all (subst (λ n. (has q (from r n) ≡ true) ⊎ Valid m (register cells q)) n o))
  where
    go : ((q : ℕ) → has q (from r (suc (count vs))) ≡ true → q < length cells) → (has q (from r (suc (count vs))) ≡ true) ⊎ Valid m (register cells q)
        → (has q (from (suc r) (count vs)) ≡ true) ⊎ Valid m (register (set cells r h) q)
    go all (inr w) = inr (set_valid m cells r h q (all r (or_left (eqb r r) (has r (from (suc r) (count vs))) (eq-eqb r r refl))) (v, e) (inr w))
    go all (inl p) = elim (or_cases (eqb q r) (has q (from (suc r) (count vs))) p) [
      | inl z ↦ inr (set_valid m cells r h q (all r (or_left (eqb r r) (has r (from (suc r) (count vs))) (eq-eqb r r refl))) (v, e) (inl (or_left (eqb q r) false z)))
      | inr z ↦ inl z
    ]

opens_valid : (m : Meaning) (cells cells' : List ℕ) (f n : ℕ) (shape : Shape) → ((v : Tree) → shape_of v ≡ shape → count (parts_within v) ≡ n) → (o : Option Tree) → Opens m cells cells' f o shape (Ok tt)
    → ((q : ℕ) → has q (from f n) ≡ true → q < length cells) → (q : ℕ) → (has q (from f n) ≡ true) ⊎ Valid m (register cells q) → Valid m (register cells' q)
opens_valid m cells cells' f n shape fit None d room q o = let z = d.0 in absurd (cc)
opens_valid m cells cells' f n shape fit (Some v) d room q o =
    let e = fit v d.0 in
    filled_valid m cells cells' f (parts_within v) d.1 (subst⁻¹ (λ n. (q : ℕ) → has q (from f n) ≡ true → q < length cells) e room) q
    (subst⁻¹ (λ n. (has q (from f n) ≡ true) ⊎ Valid m (register cells q)) e o)

module _ {S : Type 0} (M : Semantics S) where
  makes_valid : (s t : S) (w : Result Tree StoreFault) (made : Result ℕ StoreFault) → Makes M s t w made → (h : ℕ) → made ≡ Ok h → Valid (M.means t) h
  makes_valid s t (Ok v) (Ok k) d h e = let q : k ≡ h = cc in (v, ap (M.means t) (sym q) ∙ d.named)
  makes_valid s t (Err f) (Ok k) d h e = absurd d
  makes_valid s t (Ok v) (Err f) d h e = absurd (cc)
  makes_valid s t (Err g) (Err f) d h e = absurd (cc)

  answers_valid : (m : Meaning) (w : Result Tree StoreFault) (text : Result ℕ StoreFault) → Answers m w text → (h : ℕ) → text ≡ Ok h → Valid m h
  answers_valid m (Ok v) (Ok k) d h e = let q : k ≡ h = cc in (v, ap m (sym q) ∙ d)
  answers_valid m (Err f) (Ok k) d h e = absurd d
  answers_valid m (Ok v) (Err f) d h e = absurd d
  answers_valid m (Err g) (Err f) d h e = absurd (cc)

  first_valid : (m : Meaning) (hs : List ℕ) → AllValid m hs → (h : ℕ) → first_of hs ≡ Ok h → Valid m h
  first_valid m [] a h e = absurd (cc)
  first_valid m (k ∷ hs) a h e = let q : k ≡ h = cc in subst (Valid m) q a.0

  -- an action that is done fills its registers with valid handles
  module _ (s t : S) (x y : State) (inputs : AllValid (M.means s) x.inputs) (q : ℕ) where
    first : (p : ℕ) → ((q : ℕ) → has q (p ∷ []) ≡ true → q < length x.registers) → p < length x.registers
    first p room = room p (or_left (eqb p p) false (eq-eqb p p refl))

    later : Kept (M.means s) (M.means t) → (a : Action) → (has q (fills a) ≡ true) ⊎ Valid (M.means s) (register x.registers q) → (has q (fills a) ≡ true) ⊎ Valid (M.means t) (register x.registers q)
    later k a (inl e) = inl e
    later k a (inr v) = inr (valid_still (M.means s) (M.means t) k (register x.registers q) v)

    stays : (a : Action) → fills a ≡ [] → Kept (M.means s) (M.means t) → y.registers ≡ x.registers → (has q (fills a) ≡ true) ⊎ Valid (M.means s) (register x.registers q) → Valid (M.means t) (register y.registers q)
    stays a fills_none k e (inl h) = absurd (false≢true (ap (has q) (sym fills_none) ∙ h))
    stays a fills_none k e (inr v) = subst⁻¹ (λ c. Valid (M.means t) (register c q)) e (valid_still (M.means s) (M.means t) k (register x.registers q) v)

    does_valid : (a : Action) → Does M a s x t y (Ok tt) → ((q : ℕ) → has q (fills a) ≡ true → q < length x.registers) → (has q (fills a) ≡ true) ⊎ Valid (M.means s) (register x.registers q) → Valid (M.means t) (register y.registers q)
    does_valid (Give p) d room o =
        let k = does_kept M (Give p) s t x y (Ok tt) d in
        keeps_valid (M.means t) x.registers y.registers p (first_of x.inputs) d.1 (first_valid (M.means t) x.inputs (all_still (M.means s) (M.means t) k x.inputs inputs)) (first p room) q (later k (Give p) o)
    does_valid (Hear p) d room o =
        let k = does_kept M (Hear p) s t x y (Ok tt) d in
        keeps_valid (M.means t) x.registers y.registers p (first_of x.inputs) d.1 (first_valid (M.means t) x.inputs (all_still (M.means s) (M.means t) k x.inputs inputs)) (first p room) q (later k (Hear p) o)
    does_valid (New p) d room o =
        keeps_valid (M.means t) x.registers y.registers p d.0.made d.0.keeps (makes_valid s t _ d.0.made d.0.makes) (first p room) q (later (does_kept M (New p) s t x y (Ok tt) d) (New p) o)
    does_valid (Say p) d room o = stays (Say p) refl (does_kept M (Say p) s t x y (Ok tt) d) d.1 o
    does_valid (Same p k) d room o = stays (Same p k) refl (does_kept M (Same p k) s t x y (Ok tt) d) d.1 o
    does_valid (Crypt p j k) d room o =
        keeps_valid (M.means t) x.registers y.registers p d.0.made d.0.keeps (makes_valid s t _ d.0.made d.0.makes) (first p room) q (later (does_kept M (Crypt p j k) s t x y (Ok tt) d) (Crypt p j k) o)
    does_valid (Tuple p ps) d room o =
        keeps_valid (M.means t) x.registers y.registers p d.0.made d.0.keeps (makes_valid s t _ d.0.made d.0.makes) (first p room) q (later (does_kept M (Tuple p ps) s t x y (Ok tt) d) (Tuple p ps) o)
    does_valid (Apply p f ps) d room o =
        keeps_valid (M.means t) x.registers y.registers p d.0.made d.0.keeps (makes_valid s t _ d.0.made d.0.makes) (first p room) q (later (does_kept M (Apply p f ps) s t x y (Ok tt) d) (Apply p f ps) o)
    does_valid (OpenCrypt p j k) d room o =
        valid_still (M.means s) (M.means t) (does_kept M (OpenCrypt p j k) s t x y (Ok tt) d) (register y.registers q)
        (keeps_valid (M.means s) x.registers y.registers p d.1.text d.1.keeps (answers_valid (M.means s) _ d.1.text d.1.answers) (first p room) q o)
    does_valid (OpenTuple f n p) d room o =
        valid_still (M.means s) (M.means t) (does_kept M (OpenTuple f n p) s t x y (Ok tt) d) (register y.registers q)
        (opens_valid (M.means s) x.registers y.registers f n (shapes.Tuple n) (tuple_parts n) (M.means s (register x.registers p)) d.1 room q o)
    does_valid (OpenApply f n p k) d room o =
        valid_still (M.means s) (M.means t) (does_kept M (OpenApply f n p k) s t x y (Ok tt) d) (register y.registers q)
        (opens_valid (M.means s) x.registers y.registers f n (shapes.Apply k n) (apply_parts k n) (M.means s (register x.registers p)) d.1 room q o)

  -- what is left to be taken in stays valid
  does_takes : (a : Action) (s t : S) (x y : State) (r : Result (Unit {0}) StepFault) → Does M a s x t y r → (y.inputs ≡ x.inputs) ⊎ (y.inputs ≡ drop 1 x.inputs)
  does_takes (Give p) s t x y r d = inr d.2.0
  does_takes (Hear p) s t x y r d = inr d.2.0
  does_takes (New p) s t x y r d = inl d.1.0
  does_takes (Say p) s t x y r d = inl d.2.0
  does_takes (Same p k) s t x y r d = inl d.2.0
  does_takes (Crypt p j k) s t x y r d = inl d.1.0
  does_takes (Tuple p ps) s t x y r d = inl d.1.0
  does_takes (Apply p f ps) s t x y r d = inl d.1.0
  does_takes (OpenCrypt p j k) s t x y r d = inl d.2.0
  does_takes (OpenTuple f n p) s t x y r d = inl d.2.0
  does_takes (OpenApply f n p k) s t x y r d = inl d.2.0

  does_inputs : (a : Action) (s t : S) (x y : State) (r : Result (Unit {0}) StepFault) → Does M a s x t y r → AllValid (M.means s) x.inputs → AllValid (M.means t) y.inputs
  does_inputs a s t x y r d v = go (does_takes a s t x y r d)
    where
      still : (hs : List ℕ) → AllValid (M.means s) hs → AllValid (M.means t) hs
      still = all_still (M.means s) (M.means t) (does_kept M a s t x y r d)

      go : (y.inputs ≡ x.inputs) ⊎ (y.inputs ≡ drop 1 x.inputs) → AllValid (M.means t) y.inputs
      go (inl e) = subst⁻¹ (AllValid (M.means t)) e (still x.inputs v)
      go (inr e) = subst⁻¹ (AllValid (M.means t)) e (still (drop 1 x.inputs) (all_but_first (M.means s) x.inputs v))

  -- a line that is done fills its registers with valid handles
  abbrev pub IsOk : Result (Unit {0}) RunFault → Type 0
  IsOk (Ok u) = Unit {0}
  IsOk (Err f) = ⊥

  pub line_valid : {rows : List Row} {place : ℕ} {s t : S} {x y : State} {r : Result (Unit {0}) RunFault} → DoesLine M rows place s x t y r → IsOk r → AllValid (M.means s) x.inputs
      → ((q : ℕ) → has q (filled_by rows) ≡ true → q < length x.registers) → (q : ℕ) → (has q (filled_by rows) ≡ true) ⊎ Valid (M.means s) (register x.registers q) → Valid (M.means t) (register y.registers q)
  line_valid all_done ok v room q (inl e) = absurd (false≢true e)
  line_valid all_done ok v room q (inr w) = w
  line_valid (one_refused f d) ok v room q o = absurd ok
  line_valid (one_done {row = row} {rows = rows} {s = s} {t = t} {x = x} {y = y} d l) ok v room q o =
      line_valid l ok (does_inputs row.action s t x y (Ok tt) d v) rest q (go o)
    where
      first : (q : ℕ) → has q (fills row.action) ≡ true → q < length x.registers
      first q e = room q (has_append q (fills row.action) (filled_by rows) ∙ or_left (has q (fills row.action)) (has q (filled_by rows)) e)

      rest : (q : ℕ) → has q (filled_by rows) ≡ true → q < length y.registers
      rest q e = subst⁻¹ (λ n. q < n) (does_size M row.action s t x y (Ok tt) d) (room q (has_append q (fills row.action) (filled_by rows) ∙ or_right (has q (fills row.action)) (has q (filled_by rows)) e))

      go : (has q (filled_by (row ∷ rows)) ≡ true) ⊎ Valid (M.means s) (register x.registers q) → (has q (filled_by rows) ≡ true) ⊎ Valid (M.means t) (register y.registers q)
      go (inr w) = inr (does_valid s t x y v q row.action d first (inr w))
      go (inl e) = elim (or_cases (has q (fills row.action)) (has q (filled_by rows)) (sym (has_append q (fills row.action) (filled_by rows)) ∙ e)) [
        | inl z ↦ inr (does_valid s t x y v q row.action d first (inl z))
        | inr z ↦ inl z
      ]
