-- The actions of a line, one after the other.
use Rattle.std.proofs.Common.{◌≡◌, ℕ, suc, ◌+◌, ◌<◌, ◌≤◌, Bool, true, false, ◌||◌, Ok, Err, Result, if◌then◌else◌, List, ◌∷◌, length, get_or, take, drop, sym, refl, ap, ◌∙◌, subst, arith}
use Rattle.std.proofs.lemmas.Bool.{or_left, or_parts}
use Rattle.std.proofs.lemmas.List.{take-append-drop, drop_more, drop_all, ext_get_or}
use mathlib.Core.Path.{subst⁻¹}
use Rattle.program.specs.declared.action.Row.{Row}
use Rattle.program.specs.Held.{has, fills}
use Rattle.program.proofs.Filling.{has_append}
use Rattle.store.specs.Semantics.{Semantics}
use Rattle.run.specs.declared.fault.StepFault.{StepFault}
use Rattle.run.specs.declared.fault.RunFault.{RunFault}
use Rattle.run.specs.declared.supply.Supply.{Supply}
use Rattle.run.specs.Faults.{fault_at}
use Rattle.run.specs.Shown.{vacant, register}
use Rattle.run.specs.Actions.{State, state_of, Does}
use Rattle.run.specs.Filling.{filled_by}
use Rattle.run.specs.Lines.{DoesLine, all_done, one_done, one_refused, Empties, Performs}
use Rattle.run.proofs.Actions.{does_size, does_other}
use Rattle.run.proofs.Emptying.{filled_append, filled_more}

-- registers of the first rows, and of one
pub filled_first : (rows : List Row) (i r : ℕ) → has r (filled_by (take i rows)) ≡ true → has r (filled_by rows) ≡ true
filled_first rows i r e =
    ap (λ (xs : List Row). has r (filled_by xs)) (sym (take-append-drop i rows)) ∙ ap (has r) (filled_append (take i rows) (drop i rows))
    ∙ has_append r (filled_by (take i rows)) (filled_by (drop i rows)) ∙ or_left (has r (filled_by (take i rows))) (has r (filled_by (drop i rows))) e

module _ {S : Type 0} (M : Semantics S) where
  -- a line keeps the number of registers, and those that it does not fill
  pub line_size : {rows : List Row} {place : ℕ} {s t : S} {x y : State} {r : Result (Unit {0}) RunFault} → DoesLine M rows place s x t y r → length y.registers ≡ length x.registers
  line_size all_done = refl
  line_size (one_done {row = row} {s = s} {t = t} {x = x} {y = y} d l) = line_size l ∙ does_size M row.action s t x y (Ok tt) d
  line_size (one_refused {row = row} {s = s} {t = t} {x = x} {y = y} f d) = does_size M row.action s t x y (Err f) d

  pub line_other : {rows : List Row} {place : ℕ} {s t : S} {x y : State} {r : Result (Unit {0}) RunFault} → DoesLine M rows place s x t y r
      → (q : ℕ) → has q (filled_by rows) ≡ false → register y.registers q ≡ register x.registers q
  line_other all_done q e = refl
  line_other (one_done {row = row} {rows = rows} {s = s} {t = t} {x = x} {y = y} d l) q e =
      let p = or_parts (has q (fills row.action)) (has q (filled_by rows)) (sym (has_append q (fills row.action) (filled_by rows)) ∙ e) in
      line_other l q p.1 ∙ does_other M row.action s t x y (Ok tt) d q p.0
  line_other (one_refused {row = row} {rows = rows} {s = s} {t = t} {x = x} {y = y} f d) q e =
      let p = or_parts (has q (fills row.action)) (has q (filled_by rows)) (sym (has_append q (fills row.action) (filled_by rows)) ∙ e) in
      does_other M row.action s t x y (Err f) d q p.0

module _ (rows : List Row) (i : ℕ) (x : Row) (is : x ≡ get_or rows i x) (l : i < length rows) where
  one_more : (r : ℕ) → has r (filled_by (take (i + 1) rows)) ≡ (has r (filled_by (take i rows)) || has r (fills x.action))
  one_more r = ap (has r) (filled_more rows i x is l) ∙ has_append r (filled_by (take i rows)) (fills x.action)

  left_rows : drop i rows ≡ x ∷ drop (i + 1) rows
  left_rows = drop_more rows i x l ∙ ap (λ (y : Row). y ∷ drop (i + 1) rows) (sym is)

module _ {S : Type 0} (M : Semantics S) (rows : List Row) (place : ℕ) (old : S) (cells : List ℕ) (supply : Supply) where
  -- the first so many actions were done: where the rest leads, all lead
  pub record Upto (i : ℕ) (now : S) (c : List ℕ) (left : Supply) : Type 0 where
    pub numbers : left.numbers.now ≡ supply.numbers.now
    pub size : length c ≡ length cells
    pub other : (r : ℕ) → has r (filled_by (take i rows)) ≡ false → register c r ≡ register cells r
    pub leads : (u : S) (z : State) (r : Result (Unit {0}) RunFault) → DoesLine M (drop i rows) (place + i) now (state_of c left) u z r → DoesLine M rows place old (state_of cells supply) u z r

  pub upto_none : Upto 0 old cells supply
  upto_none = record {
    numbers = refl;
    size = refl;
    other = λ r e. refl;
    leads = λ u z r d. let n : place + 0 ≡ place = omega arith in subst (λ k. DoesLine M rows k old (state_of cells supply) u z r) n d;
  }

  module _ (i : ℕ) (now : S) (c : List ℕ) (left : Supply) (upto : Upto i now c left) where
    pub upto_end : length rows ≤ i → left.used ≤ length left.numbers.now → Performs M rows place old now cells c supply (Ok left.used)
    upto_end l within = (
      left.handles.now,
      upto.leads now (record { registers = c; inputs = left.handles.now; numbers = drop left.used supply.numbers.now }) (Ok tt)
          (subst (λ ns. DoesLine M (drop i rows) (place + i) now (state_of c left) now (record { registers = c; inputs = left.handles.now; numbers = drop left.used ns }) (Ok tt)) upto.numbers
          (subst⁻¹ (λ (xs : List Row). DoesLine M xs (place + i) now (state_of c left) now (state_of c left) (Ok tt)) (drop_all i rows l) all_done)),
      subst (λ ns. left.used ≤ length ns) upto.numbers within,
    )

    module _ (x : Row) (is : x ≡ get_or rows i x) (l : i < length rows) (new : S) (c' : List ℕ) (left' : Supply) where
      pub upto_more : (u : Unit {0}) → Does M x.action now (state_of c left) new (state_of c' left') (Ok u) → left'.numbers.now ≡ left.numbers.now → Upto (i + 1) new c' left'
      upto_more u d n = record {
        numbers = n ∙ upto.numbers;
        size = does_size M x.action now new (state_of c left) (state_of c' left') (Ok u) d ∙ upto.size;
        other = λ r e.
            let p = or_parts (has r (filled_by (take i rows))) (has r (fills x.action)) (sym (one_more rows i x is l r) ∙ e) in
            does_other M x.action now new (state_of c left) (state_of c' left') (Ok u) d r p.1 ∙ upto.other r p.0;
        leads = λ u z r e.
            let k : place + (i + 1) ≡ suc (place + i) = omega arith in
            upto.leads u z r (subst⁻¹ (λ (xs : List Row). DoesLine M xs (place + i) now (state_of c left) u z r) (left_rows rows i x is l)
            (one_done d (subst (λ k. DoesLine M (drop (i + 1) rows) k new (state_of c' left') u z r) k e)));
      }

      -- an action is refused, and the registers are emptied
      pub upto_stops : (f : StepFault) → Does M x.action now (state_of c left) new (state_of c' left') (Err f) → ((r : ℕ) → has r (filled_by rows) ≡ true → register cells r ≡ vacant)
          → (c″ : List ℕ) → Empties (filled_by (take (i + 1) rows)) c' c″ → (e : RunFault) → e ≡ fault_at f (place + i) → Performs M rows place old new cells c″ supply (Err e)
      upto_stops f d empty c″ empties e is_fault = (
        state_of c' left',
        upto.leads new (state_of c' left') (Err e) (subst⁻¹ (λ (xs : List Row). DoesLine M xs (place + i) now (state_of c left) new (state_of c' left') (Err e)) (left_rows rows i x is l)
            (subst⁻¹ (λ e. DoesLine M (x ∷ drop (i + 1) rows) (place + i) now (state_of c left) new (state_of c' left') (Err e)) is_fault (one_refused f d))),
        ext_get_or vacant c″ cells size (λ r p. again r),
      )
        where
          size : length c″ ≡ length cells
          size = empties.0 ∙ does_size M x.action now new (state_of c left) (state_of c' left') (Err f) d ∙ upto.size

          by : (r : ℕ) (b : Bool) → has r (filled_by (take (i + 1) rows)) ≡ b → (if b then vacant else register c' r) ≡ register cells r
          by r true p = sym (empty r (filled_first rows (i + 1) r p))
          by r false p =
              let q = or_parts (has r (filled_by (take i rows))) (has r (fills x.action)) (sym (one_more rows i x is l r) ∙ p) in
              does_other M x.action now new (state_of c left) (state_of c' left') (Err f) d r q.1 ∙ upto.other r q.0

          again : (r : ℕ) → register c″ r ≡ register cells r
          again r = empties.1 r ∙ by r (has r (filled_by (take (i + 1) rows))) refl
