-- A line of a program that passed the check fills no register that other rows fill.
use Rattle.std.proofs.Common.{◌≡◌, ℕ, ◌+◌, ◌≤◌, Bool, true, false, ◌||◌, ◌⊎◌, inl, inr, List, [], ◌∷◌, ◌++◌, length, take, drop, sym, refl, ap, ◌∙◌, arith}
use Rattle.std.proofs.lemmas.Bool.{false≢true, both_ways, and_parts, or_cases, or_left, or_right, or_parts, false_from_ne_true}
use Rattle.std.proofs.lemmas.List.{take-append-drop, length-append, length-drop, drop-drop}
use mathlib.Core.Path.{subst⁻¹}
use Rattle.program.specs.declared.action.Row.{Row}
use Rattle.program.specs.Held.{has, has_none, fills, passes_from, passes}
use Rattle.program.proofs.Filling.{has_append}
use Rattle.program.proofs.CheckLaw.{one_of_none}
use Rattle.run.specs.Filling.{filled_by}
use Rattle.run.specs.Shown.{vacant, register}
use Rattle.run.proofs.Emptying.{filled_append}

-- registers that the last rows fill
pub filled_last : (a b : List Row) (r : ℕ) → has r (filled_by b) ≡ true → has r (filled_by (a ++ b)) ≡ true
filled_last a b r e = ap (has r) (filled_append a b) ∙ has_append r (filled_by a) (filled_by b) ∙ or_right (has r (filled_by a)) (has r (filled_by b)) e

filled_front : (a b : List Row) (r : ℕ) → has r (filled_by a) ≡ true → has r (filled_by (a ++ b)) ≡ true
filled_front a b r e = ap (has r) (filled_append a b) ∙ has_append r (filled_by a) (filled_by b) ∙ or_left (has r (filled_by a)) (has r (filled_by b)) e

not_last : (a b : List Row) (r : ℕ) → has r (filled_by (a ++ b)) ≡ false → has r (filled_by b) ≡ false
not_last a b r e = (or_parts (has r (filled_by a)) (has r (filled_by b)) (sym (has_append r (filled_by a) (filled_by b)) ∙ ap (has r) (sym (filled_append a b)) ∙ e)).1

module _ (counts : List ℕ) where
  passed : (done : List ℕ) (line : ℕ) (x : Row) (rows : List Row) → passes_from counts done line (x ∷ rows) ≡ true → (has_none (fills x.action) done ≡ true) × (passes_from counts (done ++ fills x.action) x.line rows ≡ true)
  passed done line x rows p = let q = and_parts _ _ p in let a = and_parts _ _ q.0 in let b = and_parts _ _ a.1 in ((and_parts _ _ b.1).0, q.1)

  -- what was filled is not filled again
  filled_before : (done : List ℕ) (line : ℕ) (rows : List Row) (r : ℕ) → passes_from counts done line rows ≡ true → has r done ≡ true → has r (filled_by rows) ≡ false
  filled_before done line [] r p h = refl
  filled_before done line (x ∷ rows) r p h =
      let q = passed done line x rows p in
      let later = filled_before (done ++ fills x.action) x.line rows r q.1 (has_append r done (fills x.action) ∙ or_left (has r done) (has r (fills x.action)) h) in
      has_append r (fills x.action) (filled_by rows) ∙ both (has r (fills x.action)) (has r (filled_by rows)) (false_from_ne_true (has r (fills x.action)) (λ e. both_ways (has r done) (one_of_none (fills x.action) done r q.0 e) h)) later
    where
      both : (x y : Bool) → x ≡ false → y ≡ false → (x || y) ≡ false
      both x y e f = ap (λ z. z || y) e ∙ f

  filled_apart : (done : List ℕ) (line : ℕ) (a b : List Row) (r : ℕ) → passes_from counts done line (a ++ b) ≡ true → has r (filled_by a) ≡ true → has r (filled_by b) ≡ false
  filled_apart done line [] b r p h = absurd (false≢true h)
  filled_apart done line (x ∷ a) b r p h =
      let q = passed done line x (a ++ b) p in
      go (or_cases (has r (fills x.action)) (has r (filled_by a)) (sym (has_append r (fills x.action) (filled_by a)) ∙ h)) q.1 (λ e. filled_apart (done ++ fills x.action) x.line a b r q.1 e)
    where
      go : (has r (fills x.action) ≡ true) ⊎ (has r (filled_by a) ≡ true) → passes_from counts (done ++ fills x.action) x.line (a ++ b) ≡ true
          → (has r (filled_by a) ≡ true → has r (filled_by b) ≡ false) → has r (filled_by b) ≡ false
      go (inl e) p f = not_last a b r (filled_before (done ++ fills x.action) x.line (a ++ b) r p (has_append r done (fills x.action) ∙ or_right (has r done) (has r (fills x.action)) e))
      go (inr e) p f = f e

  last_passes : (done : List ℕ) (line : ℕ) (a b : List Row) → passes_from counts done line (a ++ b) ≡ true → (d : List ℕ) × (l : ℕ) × (passes_from counts d l b ≡ true)
  last_passes done line [] b p = (done, line, p)
  last_passes done line (x ∷ a) b p = last_passes (done ++ fills x.action) x.line a b (passed done line x (a ++ b) p).1

-- a line that is next in a program, at a place
module _ (rows line : List Row) (place : ℕ) (next : line ++ drop (length line) (drop place rows) ≡ drop place rows) where
  pub within : place ≤ length rows → place + length line ≤ length rows
  within l = omega (arith, ap length next, length-append line (drop (length line) (drop place rows)), length-drop place rows)

  ahead : (r : ℕ) → has r (filled_by (drop place rows)) ≡ true → has r (filled_by rows) ≡ true
  ahead r e = ap (λ (xs : List Row). has r (filled_by xs)) (sym (take-append-drop place rows)) ∙ filled_last (take place rows) (drop place rows) r e

  pub of_next : (r : ℕ) → has r (filled_by line) ≡ true → has r (filled_by (drop place rows)) ≡ true
  of_next r e = ap (λ (xs : List Row). has r (filled_by xs)) (sym next) ∙ filled_front line (drop (length line) (drop place rows)) r e

  pub of_rows : (r : ℕ) → has r (filled_by line) ≡ true → has r (filled_by rows) ≡ true
  of_rows r e = ahead r (of_next r e)

  -- the registers of later rows stay empty
  pub still_empty : (counts : List ℕ) → passes counts rows ≡ true → (cells cells' : List ℕ) → ((r : ℕ) → has r (filled_by (drop place rows)) ≡ true → register cells r ≡ vacant)
      → ((r : ℕ) → has r (filled_by line) ≡ false → register cells' r ≡ register cells r) → (r : ℕ) → has r (filled_by (drop (place + length line) rows)) ≡ true → register cells' r ≡ vacant
  still_empty counts p cells cells' empty other r e =
      other r apart ∙ empty r (ap (λ (xs : List Row). has r (filled_by xs)) (sym next) ∙ filled_last line (drop (length line) (drop place rows)) r later)
    where
      later : has r (filled_by (drop (length line) (drop place rows))) ≡ true
      later = ap (λ (xs : List Row). has r (filled_by xs)) (drop-drop (length line) place rows) ∙ e

      apart : has r (filled_by line) ≡ false
      apart = false_from_ne_true (has r (filled_by line)) (λ h. both_ways _ (go h) later)
        where
          go : has r (filled_by line) ≡ true → has r (filled_by (drop (length line) (drop place rows))) ≡ false
          go h =
              let (d, l, q) = last_passes counts [] 0 (take place rows) (drop place rows) (subst⁻¹ (λ (xs : List Row). passes_from counts [] 0 xs ≡ true) (take-append-drop place rows) p) in
              filled_apart counts d l line (drop (length line) (drop place rows)) r (subst⁻¹ (λ (xs : List Row). passes_from counts d l xs ≡ true) next q) h
