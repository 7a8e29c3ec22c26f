-- Going down rows to compare their values.
use Rattle.std.proofs.Common.{◌≡◌, ◌≢◌, ℕ, suc, ◌+◌, ◌<◌, ◌≤◌, max, Bool, T, false, true, ◌&&◌, List, [], ◌∷◌, length, drop, get_or, refl, sym, ap, ap₂, ◌∙◌}
use Rattle.std.proofs.Flags.{T_true}
use Rattle.std.proofs.Math.Bool.{and-false, and-true}
use Rattle.std.proofs.lemmas.List.{at_drop_more}
use Rattle.std.proofs.lemmas.List.Recursion.{max_bounds, max_least}
use Rattle.model.specs.Trees.{Tree, leaf, eq_tree, eq_trees}
use Rattle.model.proofs.Trees.{eq_tree_is, is_eq_tree}
use Rattle.rows.specs.declared.entry.Row.{Row}
use Rattle.rows.specs.declared.entry.Row.TheVariants.{Atom, Compound}
use Rattle.rows.specs.declared.entry.Entry.{Entry}
use Rattle.rows.specs.Rows.{values_at, row_value, values}
use Rattle.rows.specs.Classes.{place_of, parts_of, row_at, class_at, value_at, Classed, Earlier}
use Rattle.rows.specs.Answered.{alike}
use Rattle.rows.proofs.Finding.{value_at_row}

-- above all of some numbers
abbrev pub above : List ℕ → ℕ
above [] = 0
above (k ∷ ks) = max (suc k) (above ks)

pub above_each : (ks : List ℕ) (i : ℕ) → i < length ks → get_or ks i 0 < above ks
above_each ks i h = max_bounds above suc refl (λ x xs. refl) ks i 0 h

above_least : (ks : List ℕ) (m : ℕ) → ((i : ℕ) → i < length ks → get_or ks i 0 < m) → above ks ≤ m
above_least ks m f = max_least above suc refl (λ x xs. refl) ks 0 m f

module _ (vs : List Tree) where
  pub eq_of_rows : (r s : Row) → eq_tree (row_value vs r) (row_value vs s) ≡ (alike r s && eq_trees (values_at vs (parts_of r)) (values_at vs (parts_of s)))
  eq_of_rows (Atom m) (Atom n) = sym (and-true (alike (Atom m) (Atom n)))
  eq_of_rows (Atom m) (Compound l qs) = refl
  eq_of_rows (Compound k ps) (Atom n) = refl
  eq_of_rows (Compound k ps) (Compound l qs) = refl

  pub other_count : (ps qs : List ℕ) → length ps ≢ length qs → eq_trees (values_at vs ps) (values_at vs qs) ≡ false
  other_count [] [] d = absurd (d refl)
  other_count [] (q ∷ qs) d = refl
  other_count (p ∷ ps) [] d = refl
  other_count (p ∷ ps) (q ∷ qs) d =
      let b = eq_tree (get_or vs p (leaf 0)) (get_or vs q (leaf 0)) in
      ap (λ c. b && c) (other_count ps qs (λ e. d (ap suc e))) ∙ and-false b

  -- parts with equal values are passed
  pub parts_ahead : (ps qs : List ℕ) (i : ℕ) → i < length ps → i < length qs → eq_tree (get_or vs (get_or ps i 0) (leaf 0)) (get_or vs (get_or qs i 0) (leaf 0)) ≡ true
      → eq_trees (values_at vs (drop i ps)) (values_at vs (drop i qs)) ≡ eq_trees (values_at vs (drop (i + 1) ps)) (values_at vs (drop (i + 1) qs))
  parts_ahead ps qs i l m e =
      at_drop_more (λ ks. eq_trees (values_at vs ks) (values_at vs (drop i qs))) ps i 0 l
      ∙ at_drop_more (λ ks. eq_trees (values_at vs (get_or ps i 0 ∷ drop (i + 1) ps)) (values_at vs ks)) qs i 0 m
      ∙ ap (λ b. b && eq_trees (values_at vs (drop (i + 1) ps)) (values_at vs (drop (i + 1) qs))) e

module _ (es : List Entry) (classed : Classed es) where
  pub of_one_row : (j k : ℕ) → j ≡ k → eq_tree (value_at es j) (value_at es k) ≡ true
  of_one_row j k e = T_true (eq_tree (value_at es j) (value_at es k)) (is_eq_tree (value_at es j) (value_at es k) (ap (value_at es) e))

  -- two first rows have unlike values
  pub of_two_firsts : (j k : ℕ) → j < length es → k < length es → class_at es j ≡ j → class_at es k ≡ k → j ≢ k → eq_tree (value_at es j) (value_at es k) ≡ false
  of_two_firsts j k a b c d n = go (eq_tree (value_at es j) (value_at es k)) (eq_tree_is (value_at es j) (value_at es k))
    where
      go : (x : Bool) → (T x → value_at es j ≡ value_at es k) → x ≡ false
      go true f = absurd (n (sym c ∙ classed j a ∙ ap (λ v. place_of v (values es)) (f tt) ∙ sym (classed k b) ∙ d))
      go false f = refl

  module _ (earlier : Earlier es) where
    pub eq_at : (j k : ℕ) (r s : Row) → j < length es → k < length es → r ≡ row_at es j → s ≡ row_at es k
        → eq_tree (value_at es j) (value_at es k) ≡ (alike r s && eq_trees (values_at (values es) (parts_of r)) (values_at (values es) (parts_of s)))
    eq_at j k r s a b p q =
        ap₂ eq_tree (value_at_row es classed earlier j a ∙ ap (row_value (values es)) (sym p)) (value_at_row es classed earlier k b ∙ ap (row_value (values es)) (sym q))
        ∙ eq_of_rows (values es) r s

-- the parts of a row are earlier rows
pub parts_before : (es : List Entry) → Earlier es → (j : ℕ) → j < length es → above (parts_of (row_at es j)) ≤ j
parts_before es earlier j h = above_least (parts_of (row_at es j)) j (λ i l. earlier j i h l)
