-- Looking for a row along the chain of its hash.
use Rattle.std.proofs.Common.{◌≡◌, ◌≢◌, ℕ, suc, ◌-◌, ◌<◌, ◌≤◌, true, inl, inr, List, [], ◌∷◌, length, slice_index, refl, sym, ap, ap₂, ◌∙◌, subst, arith}
use Rattle.std.proofs.lemmas.Bool.{and_parts, and_from, eqb-true, eq-eqb, cases_lt}
use Rattle.std.proofs.lemmas.List.{get_or_default}
use Rattle.std.specs.List.{All}
use Rattle.program.specs.declared.kind.Kind.{Kind}
use Rattle.program.specs.declared.kind.Kind.TheVariants as kinds
use Rattle.program.specs.Actions.{head_of}
use Rattle.rows.specs.declared.entry.Row.{Row}
use Rattle.rows.specs.declared.entry.Row.TheVariants.{Atom, Compound}
use Rattle.rows.specs.declared.entry.Entry.{Entry}
use Rattle.rows.specs.contracts.entry.RowPartialEq.TheImpl as tests
use Rattle.program.proofs.Equality.{parts_is, kinds_is}
use Rattle.rows.specs.Rows.{values_at, row_value, values}
use Rattle.rows.specs.Classes.{place_of, entry_at, row_at, class_at, parts_of, value_at, Classed, Earlier, First, IsFirst, IsOfFirst}
use Rattle.rows.specs.Hashes.{chain_of}
use Rattle.rows.specs.Chains.{is_in_chain, last_in, Chained, Headed}
use Rattle.rows.specs.Fitting.{values_length}
use Rattle.rows.proofs.Values.{value_of_row}
use Rattle.rows.proofs.Places.{place_bound, place_is}
use Rattle.rows.proofs.Lasts.{last_bound, last_passes, last_most}

-- what is known on the way: a row that is looked for lies ahead
pub record Looks (es : List Entry) (r : Row) (at : ℕ) : Type 0 where
  pub within : at ≤ length es
  pub ahead : (j : ℕ) → j < length es → class_at es j ≡ j → row_at es j ≡ r → j < at
  pub chained : (k : ℕ) → at ≡ suc k → chain_of (row_at es k) ≡ chain_of r

-- below a row of the chain, or from its beginning
from_last : (es : List Entry) (r : Row) (n : ℕ) → n ≤ length es → ((j : ℕ) → j < length es → class_at es j ≡ j → row_at es j ≡ r → j < n) → Looks es r (last_in es (chain_of r) n)
unfolding last_in
from_last es r n m f =
    let p = is_in_chain es (chain_of r) in
    let l = last_bound p n in
    record {
      within = omega arith;
      ahead = λ j h c e. last_most p n j (f j h c e) (and_from _ _ (eq-eqb _ _ c) (eq-eqb _ _ (ap chain_of e)));
      chained = λ k e. eqb-true _ _ (and_parts _ _ (last_passes p n k e)).1;
    }

last_in_bound : (es : List Entry) (c n : ℕ) → last_in es c n ≤ n
unfolding last_in
last_in_bound es c n = last_bound (is_in_chain es c) n

pub begins : (heads : List ℕ) (es : List Entry) (r : Row) (at : ℕ) → Headed heads es → chain_of r < 4096 → at ≡ slice_index heads (chain_of r) → Looks es r at
begins heads es r at h b e = subst (Looks es r) (sym (e ∙ h (chain_of r) b)) (from_last es r (length es) (omega arith) (λ j l c q. l))

-- the row at hand is not the one: the next one is nearer the chain's end
pub goes_on : (es : List Entry) (r : Row) (at : ℕ) (e : Entry) → 0 < at → e ≡ entry_at es (at - 1) → Chained es → Looks es r at → e.row ≢ r → (e.next < at) × Looks es r e.next
goes_on es r at e p q c l d =
    let w = l.within in
    let k = at - 1 in
    let z : at ≡ suc k = omega arith in
    let n : e.next ≡ last_in es (chain_of r) k = ap (λ (x : Entry). x.next) q ∙ c k (omega arith) ∙ ap (λ h. last_in es h k) (l.chained k z) in
    let b = last_in_bound es (chain_of r) k in (
      omega arith,
      subst (Looks es r) (sym n)
          (from_last es r k (omega arith) (λ j h x y. let a = l.ahead j h x y in let o : j ≢ k = λ t. d (ap (λ (x : Entry). x.row) q ∙ ap (row_at es) (sym t) ∙ y) in omega arith)),
    )

-- rows of first parts have different values if they are different
head_same : (k l : Kind) → head_of k ≡ head_of l → k ≡ l
head_same kinds.Tuple kinds.Tuple e = refl
head_same kinds.Tuple kinds.Crypt e = absurd (cc)
head_same kinds.Tuple (kinds.Apply g) e = absurd (cc)
head_same kinds.Crypt kinds.Tuple e = absurd (cc)
head_same kinds.Crypt kinds.Crypt e = refl
head_same kinds.Crypt (kinds.Apply g) e = absurd (cc)
head_same (kinds.Apply f) kinds.Tuple e = absurd (cc)
head_same (kinds.Apply f) kinds.Crypt e = absurd (cc)
head_same (kinds.Apply f) (kinds.Apply g) e = cc

module _ (es : List Entry) (classed : Classed es) where
  -- firsts with one value are one
  one_first : (j k : ℕ) → IsFirst es j → IsFirst es k → value_at es j ≡ value_at es k → j ≡ k
  one_first j k a b e = sym a.1 ∙ classed j a.0 ∙ ap (λ v. place_of v (values es)) e ∙ sym (classed k b.0) ∙ b.1

  same_parts : (ks js : List ℕ) → All (IsFirst es) ks → All (IsFirst es) js → values_at (values es) ks ≡ values_at (values es) js → ks ≡ js
  same_parts [] [] a b e = refl
  same_parts [] (j ∷ js) a b e = absurd (cc)
  same_parts (k ∷ ks) [] a b e = absurd (cc)
  same_parts (k ∷ ks) (j ∷ js) a b e =
      ap₂ (λ (x : ℕ) (xs : List ℕ). x ∷ xs) (one_first k j (a 0 0 (omega arith)) (b 0 0 (omega arith)) (cc))
      (same_parts ks js (λ i d h. a (suc i) d (omega arith)) (λ i d h. b (suc i) d (omega arith)) (cc))

  same_row : (r s : Row) → IsOfFirst es r → IsOfFirst es s → row_value (values es) r ≡ row_value (values es) s → r ≡ s
  same_row (Atom m) (Atom n) a b e = cc
  same_row (Atom m) (Compound l qs) a b e = absurd (cc)
  same_row (Compound k ps) (Atom n) a b e = absurd (cc)
  same_row (Compound k ps) (Compound l qs) a b e = ap₂ Compound (head_same k l (cc)) (same_parts ps qs a b (cc))

  module _ (earlier : Earlier es) where
    pub value_at_row : (k : ℕ) → k < length es → value_at es k ≡ row_value (values es) (row_at es k)
    value_at_row k h = value_of_row es k h (λ i d l. subst (λ p. p < k) (get_or_default (parts_of (row_at es k)) i 0 d l) (earlier k i h l))

    -- the row that was found
    pub found : (r : Row) (at : ℕ) (e : Entry) → 0 < at → e ≡ entry_at es (at - 1) → Looks es r at → e.row ≡ r → e.class ≡ place_of (row_value (values es) r) (values es)
    found r at e p q l i =
        let w = l.within in
        let k = at - 1 in
        let m : k < length es = omega arith in
        ap (λ (x : Entry). x.class) q ∙ classed k m ∙ ap (λ v. place_of v (values es)) (value_at_row k m ∙ ap (row_value (values es)) (ap (λ (x : Entry). x.row) (sym q) ∙ i))

    module _ (first : First es) where
      pub of_first : (k : ℕ) → k < length es → IsOfFirst es (row_at es k)
      of_first k h i d l = subst (IsFirst es) (get_or_default (parts_of (row_at es k)) i 0 d l) (let e = earlier k i h l in omega arith, first k i h l)

      -- at a chain's end no row has the value
      pub missing : (r : Row) → IsOfFirst es r → Looks es r 0 → length es ≡ place_of (row_value (values es) r) (values es)
      missing r f l =
          let v = row_value (values es) r in
          let n = values_length [] es in
          let b = place_bound v (values es) in
          elim (cases_lt (place_of v (values es)) (length es)) [
            | inl h ↦
                let p = place_of v (values es) in
                let q : value_at es p ≡ v = place_is v (values es) (omega arith) in
                let c : class_at es p ≡ p = classed p h ∙ ap (λ w. place_of w (values es)) q in
                let z = l.ahead p h c (same_row (row_at es p) r (of_first p h) f (sym (value_at_row p h) ∙ q)) in
                absurd (omega arith)
            | inr h ↦ omega arith
          ]

-- rows that pass the test of equality are equal
pub rows_is : (a b : Row) → tests.ghosts.eq a b ≡ true → a ≡ b
rows_is (Atom m) (Atom n) e = ap Atom (eqb-true m n e)
rows_is (Atom m) (Compound l q) e = absurd (cc)
rows_is (Compound k p) (Atom n) e = absurd (cc)
rows_is (Compound k p) (Compound l q) e = let a = and_parts _ _ e in ap₂ Compound (kinds_is k l a.0) (parts_is p q a.1)
