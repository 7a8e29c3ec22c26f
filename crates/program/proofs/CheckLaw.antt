-- The rows that pass the check are those that can be held.
use Rattle.std.proofs.Common.{◌≡◌, ℕ, zero, suc, ◌<◌, ◌≤◌, Bool, true, false, not, ◌&&◌, ◌||◌, eqb, leb, ◌⊎◌, List, [], ◌∷◌, ◌++◌, length, sym, refl, ap, ◌∙◌, ap₂, inl, inr, arith, eq-eqb, le-leb, leb-true}
use Rattle.std.proofs.lemmas.Bool.{false≢true, both_ways, not-true, eqb-true, and_parts, and_from, or_cases, or_parts, or_left, or_right, not_from_false, false_from_ne_true}
use mathlib.Core.Path.{subst⁻¹}
use Rattle.program.specs.declared.action.Row.{Row}
use Rattle.program.specs.Held.{reads, fills, counted, has, has_all, has_none, row_passes, passes_from, passes, at, Held, CheckLaw}
use Rattle.program.proofs.Filling.{has_append}

-- a register among those that are all, or none of them, filled
one_of_all : (rs qs : List ℕ) (r : ℕ) → has_all rs qs ≡ true → has r rs ≡ true → has r qs ≡ true
one_of_all [] qs r a h = absurd (false≢true h)
one_of_all (x ∷ rs) qs r a h = go (or_cases (eqb r x) (has r rs) h) (one_of_all rs qs r (and_parts _ _ a).1)
  where
    go : (eqb r x ≡ true) ⊎ (has r rs ≡ true) → (has r rs ≡ true → has r qs ≡ true) → has r qs ≡ true
    go (inl e) f = subst⁻¹ (λ z. has z qs ≡ true) (eqb-true r x e) (and_parts _ _ a).0
    go (inr i) f = f i

pub one_of_none : (rs qs : List ℕ) (r : ℕ) → has_none rs qs ≡ true → has r rs ≡ true → has r qs ≡ false
one_of_none [] qs r a h = absurd (false≢true h)
one_of_none (x ∷ rs) qs r a h = go (or_cases (eqb r x) (has r rs) h) (one_of_none rs qs r (and_parts _ _ a).1)
  where
    go : (eqb r x ≡ true) ⊎ (has r rs ≡ true) → (has r rs ≡ true → has r qs ≡ false) → has r qs ≡ false
    go (inl e) f = subst⁻¹ (λ z. has z qs ≡ false) (eqb-true r x e) (not-true (has x qs) (and_parts _ _ a).0)
    go (inr i) f = f i

pub has_first : (x : ℕ) (rs : List ℕ) → has x (x ∷ rs) ≡ true
has_first x rs = ap (λ b. b || has x rs) (eq-eqb x x refl)

has_later : (r x : ℕ) (rs : List ℕ) → has r rs ≡ true → has r (x ∷ rs) ≡ true
has_later r x rs e = or_right (eqb r x) (has r rs) e

all_of : (rs qs : List ℕ) → ((r : ℕ) → has r rs ≡ true → has r qs ≡ true) → has_all rs qs ≡ true
all_of [] qs f = refl
all_of (x ∷ rs) qs f = and_from (has x qs) (has_all rs qs) (f x (has_first x rs)) (all_of rs qs (λ r e. f r (has_later r x rs e)))

none_of : (rs qs : List ℕ) → ((r : ℕ) → has r rs ≡ true → has r qs ≡ false) → has_none rs qs ≡ true
none_of [] qs f = refl
none_of (x ∷ rs) qs f = and_from (not (has x qs)) (has_none rs qs) (not_from_false (has x qs) (f x (has_first x rs))) (none_of rs qs (λ r e. f r (has_later r x rs e)))

has_either : (r : ℕ) (a b : List ℕ) → has r (a ++ b) ≡ true → (has r a ≡ true) ⊎ (has r b ≡ true)
has_either r a b e = or_cases (has r a) (has r b) (sym (has_append r a b) ∙ e)

has_left : (r : ℕ) (a b : List ℕ) → has r a ≡ true → has r (a ++ b) ≡ true
has_left r a b e = has_append r a b ∙ or_left (has r a) (has r b) e

has_right : (r : ℕ) (a b : List ℕ) → has r b ≡ true → has r (a ++ b) ≡ true
has_right r a b e = has_append r a b ∙ or_right (has r a) (has r b) e

-- what holds of rows after others, which filled these registers, the last one in this line
pub record After (counts done : List ℕ) (line : ℕ) (rows : List Row) : Type 0 where
  pub reads_filled : (i r : ℕ) → i < length rows → has r (reads (at rows i).action) ≡ true
      → (has r done ≡ true) ⊎ ((j : ℕ) × (j < i) × (has r (fills (at rows j).action) ≡ true))
  pub fills_new : (i r : ℕ) → i < length rows → has r (fills (at rows i).action) ≡ true → has r done ≡ false
  pub fills_once : (i j r : ℕ) → i < length rows → j < i → has r (fills (at rows i).action) ≡ true → has r (fills (at rows j).action) ≡ true → ⊥
  pub lines_from : (i : ℕ) → i < length rows → line ≤ (at rows i).line
  pub lines_rise : (i j : ℕ) → i < length rows → j < i → (at rows j).line ≤ (at rows i).line
  pub counts_kept : (i : ℕ) → i < length rows → counted counts (at rows i).action ≡ true

module _ (counts : List ℕ) where
  -- one row before others
  before : (done : List ℕ) (line : ℕ) (x : Row) (rows : List Row) → row_passes counts done line x ≡ true → After counts (done ++ fills x.action) x.line rows → After counts done line (x ∷ rows)
  before done line x rows row later = record { reads_filled = one; fills_new = two; fills_once = three; lines_from = four; lines_rise = five; counts_kept = six }
    where
      above : (leb line x.line ≡ true) × ((has_all (reads x.action) done && (has_none (fills x.action) done && counted counts x.action)) ≡ true)
      above = and_parts _ _ row

      read : (has_all (reads x.action) done ≡ true) × ((has_none (fills x.action) done && counted counts x.action) ≡ true)
      read = and_parts _ _ above.1

      filled : (has_none (fills x.action) done ≡ true) × (counted counts x.action ≡ true)
      filled = and_parts _ _ read.1

      rises : line ≤ x.line
      rises = leb-true line x.line above.0

      one : (i r : ℕ) → i < length (x ∷ rows) → has r (reads (at (x ∷ rows) i).action) ≡ true
          → (has r done ≡ true) ⊎ ((j : ℕ) × (j < i) × (has r (fills (at (x ∷ rows) j).action) ≡ true))
      one zero r h q = inl (one_of_all (reads x.action) done r (read.0) q)
      one (suc i) r h q = go (later.reads_filled i r (omega arith) q)
        where
          go : (has r (done ++ fills x.action) ≡ true) ⊎ ((j : ℕ) × (j < i) × (has r (fills (at rows j).action) ≡ true))
              → (has r done ≡ true) ⊎ ((j : ℕ) × (j < suc i) × (has r (fills (at (x ∷ rows) j).action) ≡ true))
          go (inl p) = split (has_either r done (fills x.action) p)
            where
              split : (has r done ≡ true) ⊎ (has r (fills x.action) ≡ true) → (has r done ≡ true) ⊎ ((j : ℕ) × (j < suc i) × (has r (fills (at (x ∷ rows) j).action) ≡ true))
              split (inl a) = inl a
              split (inr a) = inr (0, omega arith, a)
          go (inr (j, l, p)) = inr (suc j, omega arith, p)

      old : (i r : ℕ) → i < length rows → has r (fills (at rows i).action) ≡ true → (has r done ≡ false) × (has r (fills x.action) ≡ false)
      old i r h q = or_parts (has r done) (has r (fills x.action)) (sym (has_append r done (fills x.action)) ∙ later.fills_new i r h q)

      two : (i r : ℕ) → i < length (x ∷ rows) → has r (fills (at (x ∷ rows) i).action) ≡ true → has r done ≡ false
      two zero r h q = one_of_none (fills x.action) done r (filled.0) q
      two (suc i) r h q = (old i r (omega arith) q).0

      three : (i j r : ℕ) → i < length (x ∷ rows) → j < i → has r (fills (at (x ∷ rows) i).action) ≡ true → has r (fills (at (x ∷ rows) j).action) ≡ true → ⊥
      three zero j r h l p q = absurd (omega arith)
      three (suc i) zero r h l p q = both_ways (has r (fills x.action)) (old i r (omega arith) p).1 q
      three (suc i) (suc j) r h l p q = later.fills_once i j r (omega arith) (omega arith) p q

      four : (i : ℕ) → i < length (x ∷ rows) → line ≤ (at (x ∷ rows) i).line
      four zero h = rises
      four (suc i) h = let a = later.lines_from i (omega arith) in let b = rises in omega arith

      five : (i j : ℕ) → i < length (x ∷ rows) → j < i → (at (x ∷ rows) j).line ≤ (at (x ∷ rows) i).line
      five zero j h l = absurd (omega arith)
      five (suc i) zero h l = later.lines_from i (omega arith)
      five (suc i) (suc j) h l = later.lines_rise i j (omega arith) (omega arith)

      six : (i : ℕ) → i < length (x ∷ rows) → counted counts (at (x ∷ rows) i).action ≡ true
      six zero h = filled.1
      six (suc i) h = later.counts_kept i (omega arith)

  sound : (done : List ℕ) (line : ℕ) (rows : List Row) → passes_from counts done line rows ≡ true → After counts done line rows
  sound done line [] e = record {
    reads_filled = λ i r h q. absurd (omega arith);
    fills_new = λ i r h q. absurd (omega arith);
    fills_once = λ i j r h l p q. absurd (omega arith);
    lines_from = λ i h. absurd (omega arith);
    lines_rise = λ i j h l. absurd (omega arith);
    counts_kept = λ i h. absurd (omega arith);
  }
  sound done line (x ∷ rows) e =
      before done line x rows (and_parts _ _ e).0
      (sound (done ++ fills x.action) x.line rows (and_parts _ _ e).1)

  whole : (done : List ℕ) (line : ℕ) (rows : List Row) → After counts done line rows → passes_from counts done line rows ≡ true
  whole done line [] a = refl
  whole done line (x ∷ rows) a = ap₂ (λ (p q : Bool). p && q) row (whole (done ++ fills x.action) x.line rows later)
    where
      here : 0 < length (x ∷ rows)
      here = omega arith

      read : (r : ℕ) → has r (reads x.action) ≡ true → has r done ≡ true
      read r q = go (a.reads_filled 0 r here q)
        where
          go : (has r done ≡ true) ⊎ ((j : ℕ) × (j < 0) × (has r (fills (at (x ∷ rows) j).action) ≡ true)) → has r done ≡ true
          go (inl p) = p
          go (inr (j, l, p)) = absurd (omega arith)

      row : row_passes counts done line x ≡ true
      row =
          rw (le-leb line x.line (a.lines_from 0 here), all_of (reads x.action) done read, none_of (fills x.action) done (λ r q. a.fills_new 0 r here q), a.counts_kept 0 here)

      later : After counts (done ++ fills x.action) x.line rows
      later = record {
        reads_filled = λ i r h q. reading i r (a.reads_filled (suc i) r (omega arith) q);
        fills_new = λ i r h q.
            has_append r done (fills x.action)
            ∙ ap₂ (λ (y z : Bool). y || z) (a.fills_new (suc i) r (omega arith) q) (false_from_ne_true (has r (fills x.action)) (λ p. a.fills_once (suc i) 0 r (omega arith) (omega arith) q p));
        fills_once = λ i j r h l p q. a.fills_once (suc i) (suc j) r (omega arith) (omega arith) p q;
        lines_from = λ i h. a.lines_rise (suc i) 0 (omega arith) (omega arith);
        lines_rise = λ i j h l. a.lines_rise (suc i) (suc j) (omega arith) (omega arith);
        counts_kept = λ i h. a.counts_kept (suc i) (omega arith);
      }
        where
          reading : (i r : ℕ) → (has r done ≡ true) ⊎ ((j : ℕ) × (j < suc i) × (has r (fills (at (x ∷ rows) j).action) ≡ true))
              → (has r (done ++ fills x.action) ≡ true) ⊎ ((j : ℕ) × (j < i) × (has r (fills (at rows j).action) ≡ true))
          reading i r (inl p) = inl (has_left r done (fills x.action) p)
          reading i r (inr (zero, l, p)) = inl (has_right r done (fills x.action) p)
          reading i r (inr (suc j, l, p)) = inr (j, omega arith, p)

pub check_law : CheckLaw
check_law counts rows = (forth, back)
  where
    forth : passes counts rows ≡ true → Held counts rows
    forth e =
        let a = sound counts [] 0 rows e in
        record {
          reads_filled = λ i r h q. elim (a.reads_filled i r h q) [ inl p ↦ absurd (false≢true p) | inr w ↦ w ];
          fills_once = a.fills_once;
          lines_rise = a.lines_rise;
          counts_kept = a.counts_kept;
        }

    back : Held counts rows → passes counts rows ≡ true
    back k =
        whole counts [] 0 rows (record {
          reads_filled = λ i r h q. inr (k.reads_filled i r h q);
          fills_new = λ i r h q. refl;
          fills_once = k.fills_once;
          lines_from = λ i h. omega arith;
          lines_rise = k.lines_rise;
          counts_kept = k.counts_kept;
        })
