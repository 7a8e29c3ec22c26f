-- What one more row does to a table.
use Rattle.std.proofs.Common.{◌≡◌, ℕ, zero, suc, ◌<◌, ◌≤◌, Bool, true, false, cond, List, [], ◌∷◌, ◌++◌, length, get_or, sym, refl, ap, ◌∙◌, arith, below_more}
use mathlib.Core.Path.{subst⁻¹}
use Rattle.std.proofs.lemmas.List.{length-map, length_push}
use Rattle.terms.specs.declared.term.TermRow.{TermRow}
use Rattle.terms.specs.Shapes.{grown, tree_of, two_parts, AllBelow, numbers}
use Rattle.terms.specs.Rows.{shape_of, shapes, row_at, term_tree, Ordered, Formed, Distinct}
use Rattle.terms.specs.Interned.{Fits, At, Absent, Numbers}
use Rattle.terms.proofs.Numbered.{agree, grown_same}
use Rattle.terms.proofs.Tables.{shape_at, shapes_below, stands}

-- it is there
pub already : (rows : List TermRow) (row : TermRow) (k : ℕ) → Ordered rows → Formed rows → At rows row k → Numbers rows rows (shape_of row) k
already rows row k o n a = record {
  within = a.0;
  tree = (stands rows o n k (row_at rows k) a.0 refl).tree ∙ ap (grown (term_tree rows)) a.1;
  longer = omega arith;
  kept = λ j h. refl;
}

module _ (rows : List TermRow) (r : TermRow) where
  abbrev pub longer : List TermRow
  longer = rows ++ r ∷ []

  at_left : (k : ℕ) → k < length rows → row_at longer k ≡ row_at rows k
  at_left k h = go rows k h
    where
      go : (rs : List TermRow) (k : ℕ) → k < length rs → row_at (rs ++ r ∷ []) k ≡ row_at rs k
      go [] k h = absurd (omega arith)
      go (x ∷ rs) zero h = refl
      go (x ∷ rs) (suc k) h = go rs k (omega arith)

  at_end : row_at longer (length rows) ≡ r
  at_end = go rows
    where
      go : (rs : List TermRow) → row_at (rs ++ r ∷ []) (length rs) ≡ r
      go [] = refl
      go (x ∷ rs) = go rs

  -- what holds of each row, and of the new one
  each : (Q : ℕ → TermRow → Type 0) → ((k : ℕ) → k < length rows → Q k (row_at rows k)) → Q (length rows) r → (k : ℕ) → k < length longer → Q k (row_at longer k)
  each Q f q k h =
      let n = length_push rows r in
      below_more (λ j. Q j (row_at longer j)) (length rows) (λ j l. subst⁻¹ (Q j) (at_left j l) (f j l)) (subst⁻¹ (Q (length rows)) at_end q) k (omega arith)

  below_at : (n : ℕ) (ks : List ℕ) (i : ℕ) → AllBelow n ks → i < length ks → get_or ks i 0 < n
  below_at n [] i b l = absurd (omega arith)
  below_at n (x ∷ ks) zero b l = b.0
  below_at n (x ∷ ks) (suc i) b l = below_at n ks i b.1 (omega arith)

  pub ordered_push : Ordered rows → Fits (length rows) r → Ordered longer
  ordered_push o f k i h l =
      each (λ j row. (i : ℕ) → i < length (numbers (shape_of row)) → get_or (numbers (shape_of row)) i 0 < j) (λ j m x y. o j x m y) (λ x y. below_at (length rows) (numbers (shape_of r)) x f.below y) k h i l

  pub formed_push : Formed rows → Fits (length rows) r → Formed longer
  formed_push o f k h = each (λ j row. two_parts (shape_of row) ≡ 2) o f.whole k h

  pub distinct_push : Distinct rows → Absent rows r → Distinct longer
  distinct_push d a i j h e =
      each (λ x row. (y : ℕ) → y < length longer → shape_of row ≡ shape_of (row_at longer y) → x ≤ y)
      (λ x m. each (λ y other. shape_of (row_at rows x) ≡ shape_of other → x ≤ y) (λ y l q. d x y (m, l) q) (λ q. omega arith))
      (each (λ y other. shape_of r ≡ shape_of other → length rows ≤ y) (λ y l q. absurd (a y l (sym q))) (λ q. omega arith))
      i h.0 j h.1 e

  module _ (o : Ordered rows) (n : Formed rows) (f : Fits (length rows) r) where
    kept_push : (j : ℕ) → j < length rows → term_tree longer j ≡ term_tree rows j
    unfolding tree_of
    kept_push j h =
        sym (agree (shapes rows) (shapes longer) (length rows)
        (λ k l. shape_at rows k ∙ ap shape_of (sym (at_left k l)) ∙ sym (shape_at longer k))
        (λ k l. let m = length-map rows shape_of in shapes_below rows o k (omega arith)) (suc j) j h)

    pub pushed : Numbers rows longer (shape_of r) (length rows)
    pushed =
        let l = length_push rows r in
        record {
          within = omega arith;
          tree = (stands longer (ordered_push o f) (formed_push n f) (length rows) (row_at longer (length rows)) (omega arith) refl).tree
              ∙ ap (λ row. grown (term_tree longer) (shape_of row)) at_end
              ∙ grown_same (term_tree longer) (term_tree rows) (length rows) (shape_of r) f.below kept_push;
          longer = omega arith;
          kept = kept_push;
        }

-- a table's invariants, as one fact
pub record Sound (rows : List TermRow) : Type 0 where
  pub ordered : Ordered rows
  pub whole : Formed rows
  pub distinct : Distinct rows
  pub numbered : length rows ≤ 65536

-- they hold also where there was no memory for the row
pub sound_push : (rows : List TermRow) (r : TermRow) → Sound rows → Fits (length rows) r → Absent rows r → length rows ≤ 65535 → (b : Bool) (rows' : List TermRow) → rows' ≡ cond b (rows ++ r ∷ []) rows → Sound rows'
sound_push rows r s f a l b rows' e = subst⁻¹ Sound e (go b)
  where
    go : (b : Bool) → Sound (cond b (rows ++ r ∷ []) rows)
    go true =
        let n = length_push rows r in
        record { ordered = ordered_push rows r s.ordered f; whole = formed_push rows r s.whole f; distinct = distinct_push rows r s.distinct a; numbered = omega arith }
    go false = s
