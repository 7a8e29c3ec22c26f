-- A compound is taken apart.
use Rattle.std.proofs.Common.{◌≡◌, ℕ, zero, suc, ◌+◌, ◌<◌, ◌≤◌, Some, None, Ok, Err, Option, ok_or, sym, refl, ap, ◌∙◌, arith, List, subst, slice_set}
use Rattle.model.specs.Trees.{tupled, crypted, applied, Tree, leaf, node, Trees, none, more}
use Rattle.model.specs.Roles.{count}
use Rattle.store.specs.declared.fault.StoreFault.{StoreFault}
use Rattle.store.specs.declared.fault.StoreFault.TheVariants.{NoPart}
use Rattle.store.specs.declared.shape.Shape.{Shape}
use Rattle.store.specs.Numbers.{part_count}
use Rattle.store.specs.Questions.{shape_of, value_at, part_of, part_value, Answers}
use Rattle.run.specs.Shown.{Meaning}
use mathlib.Core.Path.{subst⁻¹}
use Rattle.run.specs.Actions.{parts_within, Filled, no_more, one_more, FitsShape, Opens}

-- what is left of some values after the first
abbrev pub left_of : ℕ → Trees → Trees
left_of zero vs = vs
left_of (suc n) none = none
left_of (suc n) (more v vs) = left_of n vs

left_next : (vs : Trees) (i : ℕ) (v : Tree) → value_at vs i ≡ Some v → left_of i vs ≡ more v (left_of (suc i) vs)
left_next none i v e = cc
left_next (more w vs) zero v e = let f : w ≡ v = cc in rw f
left_next (more w vs) (suc i) v e = left_next vs i v e

left_none : (vs : Trees) (i : ℕ) → count vs ≤ i → left_of i vs ≡ none
left_none none zero h = refl
left_none none (suc i) h = refl
left_none (more v vs) zero h = absurd (omega arith)
left_none (more v vs) (suc i) h = left_none vs i (omega arith)

found : (vs : Trees) (i : ℕ) → i < count vs → (w : Tree) × (value_at vs i ≡ Some w)
found none i h = absurd (omega arith)
found (more v vs) zero h = (v, refl)
found (more v vs) (suc i) h = found vs i (omega arith)

counted : (v : Tree) → part_count (shape_of v) ≡ count (parts_within v)
counted (leaf n) = refl
counted (node tupled vs) = refl
counted (node crypted vs) = refl
counted (node (applied f) vs) = refl

parted : (v : Tree) (i : ℕ) → part_of v i ≡ value_at (parts_within v) i
parted (leaf n) i = refl
parted (node tupled vs) i = refl
parted (node crypted vs) i = refl
parted (node (applied f) vs) i = refl

-- a part within the count is answered
module _ (m : Meaning) (v : Tree) (i : ℕ) (h : i < part_count (shape_of v)) where
  the_part : (w : Tree) × (value_at (parts_within v) i ≡ Some w)
  the_part = found (parts_within v) i (omega (arith, counted v))

  answered : part_value (Some v) i ≡ Ok the_part.0
  answered = ap (λ (o : Option Tree). ok_or o NoPart) (parted v i ∙ the_part.1)

  pub no_fault : (e : StoreFault) → Answers m (part_value (Some v) i) (Err e) → ⊥
  no_fault e a = subst (λ r. Answers m r (Err e)) answered a

  -- and it is the next of those that are left
  pub next_part : (k : ℕ) → Answers m (part_value (Some v) i) (Ok k) → (cells cells' : List ℕ) (r : ℕ) → Filled m (slice_set cells r k) (suc r) (left_of (suc i) (parts_within v)) cells' → Filled m cells r (left_of i (parts_within v)) cells'
  next_part k a cells cells' r f =
      subst⁻¹ (λ vs. Filled m cells r vs cells') (left_next (parts_within v) i the_part.0 the_part.1)
      (one_more k (subst (λ x. Answers m x (Ok k)) answered a) f)

module _ (m : Meaning) (h : ℕ) (wanted : Shape) (u : Unit {0}) where
  -- a handle whose value has the wanted shape
  pub fitting : (o : Option Tree) → FitsShape o wanted (Ok u) → (v : Tree) × (o ≡ Some v) × (shape_of v ≡ wanted)
  fitting None f = absurd (ok≢err f)
    where
      ok≢err : {A B : Type 0} {x : A} {y : B} → Ok x ≡ Err y → ⊥
      ok≢err e = cc
  fitting (Some v) f = (v, refl, f)

  -- no part is missing
  pub none_missing : (i : ℕ) → FitsShape (m h) wanted (Ok u) → i < part_count wanted → (e : StoreFault) → Answers m (part_value (m h) i) (Err e) → ⊥
  none_missing i f l e a =
      let (v, is, shape) = fitting (m h) f in
      no_fault m v i (subst⁻¹ (λ s. i < part_count s) shape l) e (subst (λ o. Answers m (part_value o i) (Err e)) is a)

  abbrev pub Upto : List ℕ → List ℕ → ℕ → ℕ → Type 0
  Upto cells now first i = (v : Tree) → m h ≡ Some v → (cells' : List ℕ) → Filled m now (first + i) (left_of i (parts_within v)) cells' → Filled m cells first (parts_within v) cells'

  pub none_yet : (cells : List ℕ) (first : ℕ) → Upto cells cells first 0
  none_yet cells first v e cells' f = let z : first + 0 ≡ first = omega arith in subst (λ r. Filled m cells r (parts_within v) cells') z f

  pub one_filled : (cells now : List ℕ) (first i k : ℕ) → FitsShape (m h) wanted (Ok u) → i < part_count wanted → Answers m (part_value (m h) i) (Ok k) → Upto cells now first i
      → Upto cells (slice_set now (first + i) k) first (i + 1)
  one_filled cells now first i k f l a before v e cells' g =
      let (w, is, shape) = fitting (m h) f in
      let same : w ≡ v = some_same (sym is ∙ e) in
      let r : first + (i + 1) ≡ suc (first + i) = omega arith in
      let n : i + 1 ≡ suc i = omega arith in
      before v e cells'
      (next_part m v i (subst⁻¹ (λ s. i < part_count s) (ap shape_of (sym same) ∙ shape) l) k (subst (λ o. Answers m (part_value o i) (Ok k)) e a) now cells' (first + i)
      (subst (λ x. Filled m (slice_set now (first + i) k) x (left_of (suc i) (parts_within v)) cells') r
      (subst (λ x. Filled m (slice_set now (first + i) k) (first + (i + 1)) (left_of x (parts_within v)) cells') n g)))
    where
      some_same : {x y : Tree} → Some x ≡ Some y → x ≡ y
      some_same p = cc

  pub all_filled : (cells now : List ℕ) (first i : ℕ) → FitsShape (m h) wanted (Ok u) → part_count wanted ≤ i → Upto cells now first i → Opens m cells now first (m h) wanted (Ok u)
  all_filled cells now first i f l before =
      let (v, is, shape) = fitting (m h) f in
      subst⁻¹ (λ o. Opens m cells now first o wanted (Ok u)) is (
        shape,
        before v is now (subst⁻¹ (λ vs. Filled m now (first + i) vs now) (left_none (parts_within v) i (omega (arith, counted v, ap part_count shape))) no_more),
      )
