-- Marks of filled registers.
use Rattle.std.proofs.Common.{◌≡◌, ℕ, zero, suc, ◌+◌, ◌-◌, ◌<◌, ◌≤◌, Bool, true, false, not, ◌&&◌, ◌||◌, ◌⊎◌, inl, inr, eqb, List, [], ◌∷◌, ◌++◌, length, get_or, set, replicate, sym, refl, ap, ◌∙◌, subst, ap₂, arith, eq-eqb, ne_eqb}
use mathlib.Core.Path.{subst⁻¹}
use Rattle.std.proofs.Math.Bool.{or_assoc, and_assoc, or-true, or-false}
use Rattle.std.proofs.lemmas.Bool.{both_ways, cases_eq, or_cases, or_parts, and_right}
use Rattle.std.proofs.lemmas.List.{append_assoc, append-nil, get_or-set_same, get_or-set_other}
use Rattle.program.specs.Held.{from, has, has_none, has_all}
use Rattle.program.specs.Checked.{AreFilled}
use Rattle.program.specs.Marked.{marked_all}

-- marks that say what was filled
pub marked_has : (marks : List Bool) (done : List ℕ) → AreFilled marks done → (rs : List ℕ) → marked_all marks rs ≡ has_all rs done
marked_has marks done m [] = refl
marked_has marks done m (r ∷ rs) = ap₂ (λ (x y : Bool). x && y) (m r) (marked_has marks done m rs)

pub none_filled : (marks : List Bool) → marks ≡ replicate 65791 false → AreFilled marks []
none_filled marks e r = ap (λ xs. get_or xs r false) e ∙ all_false 65791 r
  where
    all_false : (n r : ℕ) → get_or (replicate n false) r false ≡ false
    all_false zero r = refl
    all_false (suc n) zero = refl
    all_false (suc n) (suc r) = all_false n r

pub has_append : (r : ℕ) (a b : List ℕ) → has r (a ++ b) ≡ (has r a || has r b)
has_append r [] b = refl
has_append r (x ∷ a) b = ap (λ z. eqb r x || z) (has_append r a b) ∙ sym (or_assoc (eqb r x) (has r a) (has r b))

pub from_more : (r n : ℕ) → from r (suc n) ≡ from r n ++ ((r + n) ∷ [])
from_more r zero = let e : r + zero ≡ r = omega arith in ap (λ z. z ∷ []) (sym e)
from_more r (suc n) = let e : suc r + n ≡ r + suc n = omega arith in ap (λ zs. r ∷ zs) (from_more (suc r) n ∙ ap (λ z. from (suc r) n ++ (z ∷ [])) e)

none_append : (a b done : List ℕ) → has_none (a ++ b) done ≡ (has_none a done && has_none b done)
none_append [] b done = refl
none_append (x ∷ a) b done = ap (λ z. not (has x done) && z) (none_append a b done) ∙ sym (and_assoc (not (has x done)) (has_none a done) (has_none b done))

-- registers of a row are below its end
below_row : (q r n : ℕ) → r + n ≤ q → has q (from r n) ≡ false
below_row q r zero h = refl
below_row q r (suc n) h = ap₂ (λ (x y : Bool). x || y) (ne_eqb q r (λ e. omega arith)) (below_row q (suc r) n (omega arith))

-- the first k registers of a row were filled
abbrev pub FilledUpto : List Bool → List Bool → ℕ → ℕ → Type 0
FilledUpto marks marks' r k = (done : List ℕ) → AreFilled marks done → AreFilled marks' (done ++ from r k) × (has_none (from r k) done ≡ true)

pub filled_none : (marks : List Bool) (r : ℕ) → FilledUpto marks marks r 0
filled_none marks r done m = (subst⁻¹ (AreFilled marks) (append-nil done) m, refl)

module _ (marks marks' : List Bool) (r k : ℕ) (long : length marks' ≡ 65791) (f : FilledUpto marks marks' r k) where
  -- the next one was not filled before
  module _ (h : r + k < 65791) (e : get_or marks' (r + k) false ≡ false) where
    free : (done : List ℕ) → AreFilled marks done → has (r + k) done ≡ false
    free done m = (or_parts _ (has (r + k) (from r k)) (sym (has_append (r + k) done (from r k)) ∙ sym ((f done m).0 (r + k)) ∙ e)).0

    pub filled_more : FilledUpto marks (set marks' (r + k) true) r (suc k)
    filled_more done m = (
      λ q. at q (cases_eq q (r + k)),
      ap (λ xs. has_none xs done) (from_more r k) ∙ none_append (from r k) ((r + k) ∷ []) done
          ∙ ap₂ (λ (x y : Bool). x && (not y && true)) (f done m).1 (free done m),
    )
      where
        list : done ++ from r (suc k) ≡ (done ++ from r k) ++ ((r + k) ∷ [])
        list = ap (λ xs. done ++ xs) (from_more r k) ∙ sym (append_assoc done (from r k) ((r + k) ∷ []))

        after : (q : ℕ) (b : Bool) → eqb q (r + k) ≡ b → has q (done ++ from r (suc k)) ≡ (has q (done ++ from r k) || (b || false))
        after q b z = ap (has q) list ∙ has_append q (done ++ from r k) ((r + k) ∷ []) ∙ ap (λ x. has q (done ++ from r k) || (x || false)) z

        at : (q : ℕ) → (q ≡ r + k) ⊎ (q ≡ r + k → ⊥) → get_or (set marks' (r + k) true) q false ≡ has q (done ++ from r (suc k))
        at q (inl z) =
            ap (λ x. get_or (set marks' (r + k) true) x false) z ∙ get_or-set_same marks' (r + k) true false (omega arith)
            ∙ sym (or-true (has q (done ++ from r k))) ∙ sym (after q true (eq-eqb q (r + k) z))
        at q (inr z) =
            get_or-set_other marks' (r + k) q true false z ∙ (f done m).0 q
            ∙ sym (or-false (has q (done ++ from r k))) ∙ sym (after q false (ne_eqb q (r + k) z))

  -- it was filled before: so none of the row may be filled
  pub filled_before : (n : ℕ) → k < n → get_or marks' (r + k) false ≡ true → (done : List ℕ) → AreFilled marks done → has_none (from r n) done ≡ false
  filled_before n l e done m = ap (λ xs. has_none xs done) (cut r n k l) ∙ none_append (from r k) ((r + k) ∷ from (suc (r + k)) (n - suc k)) done ∙ last
    where
      old : has (r + k) done ≡ true
      old = elim (or_cases _ (has (r + k) (from r k)) (sym (has_append (r + k) done (from r k)) ∙ sym ((f done m).0 (r + k)) ∙ e)) [
        | inl q ↦ q
        | inr q ↦ absurd (both_ways _ (below_row (r + k) r k (omega arith)) q)
      ]

      cut : (r n k : ℕ) → k < n → from r n ≡ from r k ++ ((r + k) ∷ from (suc (r + k)) (n - suc k))
      cut r zero k h = absurd (omega arith)
      cut r (suc n) zero h = let a : r + zero ≡ r = omega arith in let b : suc n - 1 ≡ n = omega arith in rw (a, b)
      cut r (suc n) (suc k) h =
          let a : suc r + k ≡ r + suc k = omega arith in let b : n - suc k ≡ suc n - suc (suc k) = omega arith in
          ap (λ xs. r ∷ xs) (cut (suc r) n k (omega arith) ∙ rw (a, b))

      last : (has_none (from r k) done && (not (has (r + k) done) && has_none (from (suc (r + k)) (n - suc k)) done)) ≡ false
      last = ap (λ x. has_none (from r k) done && (not x && has_none (from (suc (r + k)) (n - suc k)) done)) old ∙ and_right (has_none (from r k) done) false refl

-- the same, by the register that the loop is at
pub fill_none : (marks : List Bool) (r : ℕ) → FilledUpto marks marks r (r - r)
fill_none marks r done m =
    let e : r - r ≡ 0 = omega arith in
    subst⁻¹ (FilledUpto marks marks r) e (filled_none marks r) done m

module _ (marks marks' : List Bool) (r q : ℕ) (long : length marks' ≡ 65791) (h : r ≤ q) (f : FilledUpto marks marks' r (q - r)) where
  here : r + (q - r) ≡ q
  here = omega arith

  pub fill_more : q < 65791 → get_or marks' q false ≡ false → FilledUpto marks (set marks' q true) r (q + 1 - r)
  fill_more l e =
      let s : suc (q - r) ≡ q + 1 - r = omega arith in
      subst (λ n. FilledUpto marks (set marks' q true) r n) s
      (subst (λ x. FilledUpto marks (set marks' x true) r (suc (q - r))) here
      (filled_more marks marks' r (q - r) long f (omega arith) (ap (λ x. get_or marks' x false) here ∙ e)))

  pub fill_stops : (n : ℕ) → q < r + n → get_or marks' q false ≡ true → (done : List ℕ) → AreFilled marks done → has_none (from r n) done ≡ false
  fill_stops n m e = filled_before marks marks' r (q - r) long f n (omega arith) (ap (λ x. get_or marks' x false) here ∙ e)

  pub fill_ends : (n : ℕ) → q ≡ r + n → FilledUpto marks marks' r n
  fill_ends n e = let s : q - r ≡ n = omega arith in subst (λ k. FilledUpto marks marks' r k) s f
