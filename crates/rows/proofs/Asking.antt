-- What a sound table answers of the values of its handles.
use Rattle.std.proofs.Common.{◌≡◌, ℕ, zero, suc, ◌+◌, ◌<◌, ◌≤◌, List, [], ◌∷◌, ◌++◌, length, get_or, take, Some, None, Option, refl, sym, ap, ap₂, ◌∙◌, arith, below_more}
use mathlib.Core.Path.{subst⁻¹}
use Rattle.std.proofs.lemmas.Option.{slice_get_past, slice_get-get_or}
use Rattle.std.proofs.lemmas.List.{length_push, get_or_push, get_or_append_left, take_all}
use Rattle.std.specs.List.{All}
use Rattle.model.specs.Trees.{Tree, leaf}
use Rattle.model.specs.Roles.{count}
use Rattle.store.specs.Makers.{with_more, gathered}
use Rattle.rows.specs.declared.entry.Entry.{Entry}
use Rattle.rows.specs.Rows.{values_at, row_value, values, meaning}
use Rattle.rows.specs.Classes.{place_of, entry_at, class_at, value_at, Classed, Earlier, First, IsRow, IsFirst, IsOfFirst}
use Rattle.rows.specs.Fitting.{values_length}
use Rattle.rows.proofs.Places.{place_is, place_least}
use Rattle.rows.proofs.Finding.{value_at_row, of_first}

pub values_count : (vs : List Tree) (ks : List ℕ) → count (values_at vs ks) ≡ length ks
values_count vs [] = refl
values_count vs (k ∷ ks) = let h = values_count vs ks in omega arith

pub no_row : (es : List Entry) (h : ℕ) → length es ≤ h → meaning es h ≡ None
no_row es h l = let n = values_length [] es in slice_get_past (values es) h (omega arith)

pub some_row : (es : List Entry) (h : ℕ) → h < length es → meaning es h ≡ Some (value_at es h)
some_row es h l = let n = values_length [] es in slice_get-get_or (values es) h (leaf 0) (omega arith)

module _ (es : List Entry) (classed : Classed es) where
  -- a row's class is a first row with its value
  pub class_first : (h : ℕ) → h < length es → IsFirst es (class_at es h) × (value_at es (class_at es h) ≡ value_at es h)
  class_first h l =
      let n = values_length [] es in
      let v = value_at es h in
      let c = classed h l in
      let p = place_least v (values es) h (omega arith) refl in
      let q : value_at es (class_at es h) ≡ v = ap (value_at es) c ∙ place_is v (values es) (omega arith) in
      let m : class_at es h < length es = omega arith in
      ((m, classed (class_at es h) m ∙ ap (λ w. place_of w (values es)) q ∙ sym c), q)

  pub first_of : (h k : ℕ) (e : Entry) → IsRow es k → meaning es h ≡ Some (value_at es k) → e ≡ entry_at es k → IsFirst es e.class × (meaning es h ≡ Some (value_at es e.class))
  first_of h k e l m q =
      let f = class_first k l in
      subst⁻¹ (λ (x : Entry). IsFirst es x.class × (meaning es h ≡ Some (value_at es x.class))) q (f.0, m ∙ ap Some (sym f.1))

  pub row_of : Earlier es → First es → (h k : ℕ) (e : Entry) → IsRow es k → meaning es h ≡ Some (value_at es k) → e ≡ entry_at es k
      → IsOfFirst es e.row × (meaning es h ≡ Some (row_value (values es) e.row))
  row_of earlier first h k e l m q =
      subst⁻¹ (λ (x : Entry). IsOfFirst es x.row × (meaning es h ≡ Some (row_value (values es) x.row))) q
      (of_first es classed earlier first k l, m ∙ ap Some (value_at_row es classed earlier k l))

-- the values of some handles
gathered_all : (m : ℕ → Option Tree) (vs : List Tree) (hs ps : List ℕ) → length ps ≡ length hs → ((j : ℕ) → j < length hs → m (get_or hs j 0) ≡ Some (get_or vs (get_or ps j 0) (leaf 0))) → gathered m hs ≡ Some (values_at vs ps)
unfolding gathered
gathered_all m vs [] [] l f = refl
gathered_all m vs [] (p ∷ ps) l f = absurd (omega arith)
gathered_all m vs (h ∷ hs) [] l f = absurd (omega arith)
gathered_all m vs (h ∷ hs) (p ∷ ps) l f =
    ap₂ with_more (f 0 (omega arith)) (gathered_all m vs hs ps (omega arith) (λ j b. f (suc j) (omega arith)))

pub gathered_none : (m : ℕ → Option Tree) (hs : List ℕ) (j : ℕ) → j < length hs → m (get_or hs j 0) ≡ None → gathered m hs ≡ None
unfolding gathered
gathered_none m [] j b e = absurd (omega arith)
gathered_none m (h ∷ hs) zero b e = ap (λ o. with_more o (gathered m hs)) e
gathered_none m (h ∷ hs) (suc j) b e = ap (with_more (m h)) (gathered_none m hs j (omega arith) e) ∙ none_more (m h)
  where
    none_more : (o : Option Tree) → with_more o None ≡ None
    none_more None = refl
    none_more (Some v) = refl

-- first rows with the values of the first of some handles
pub record Gathers (es : List Entry) (hs : List ℕ) (n : ℕ) (ps : List ℕ) : Type 0 where
  pub firsts : All (IsFirst es) ps
  pub named : (j : ℕ) → j < n → meaning es (get_or hs j 0) ≡ Some (value_at es (get_or ps j 0))
  pub count : length ps ≡ n

module _ (es : List Entry) (hs : List ℕ) where
  pub gathers_none : (ps : List ℕ) → ps ≡ [] → Gathers es hs 0 ps
  gathers_none ps e = subst⁻¹ (Gathers es hs 0) e (record { firsts = λ j d b. absurd (omega arith); named = λ j b. absurd (omega arith); count = refl })

  gathers_longer : (n : ℕ) (ps : List ℕ) (k : ℕ) → Gathers es hs n ps → IsFirst es k → meaning es (get_or hs n 0) ≡ Some (value_at es k) → Gathers es hs (n + 1) (ps ++ k ∷ [])
  gathers_longer n ps k g f e =
      let l = length_push ps k in
      let c = g.count in
      let at : get_or (ps ++ k ∷ []) n 0 ≡ k = get_or_push ps k 0 n c in
      record {
        firsts = λ j d b. below_more (λ i. IsFirst es (get_or (ps ++ k ∷ []) i d)) n
            (λ i m. subst⁻¹ (IsFirst es) (get_or_append_left ps (k ∷ []) d i (omega arith)) (g.firsts i d (omega arith)))
            (subst⁻¹ (IsFirst es) (get_or_push ps k d n c) f) j (omega arith);
        named = below_more (λ i. meaning es (get_or hs i 0) ≡ Some (value_at es (get_or (ps ++ k ∷ []) i 0))) n
            (λ i m. g.named i m ∙ ap (λ p. Some (value_at es p)) (sym (get_or_append_left ps (k ∷ []) 0 i (omega arith))))
            (e ∙ ap (λ p. Some (value_at es p)) (sym at));
        count = omega arith;
      }

  pub gathers_more : (n : ℕ) (ps qs : List ℕ) (k h : ℕ) → Gathers es hs n ps → n < length hs → length hs ≤ 8 → h ≡ get_or hs n 0 → IsFirst es k → meaning es h ≡ Some (value_at es k) → qs ≡ take 8 (ps ++ k ∷ []) → Gathers es hs (n + 1) qs
  gathers_more n ps qs k h g b m q f e t =
      let l = length_push ps k in
      let c = g.count in
      subst⁻¹ (Gathers es hs (n + 1)) (t ∙ take_all 8 (ps ++ k ∷ []) (omega arith)) (gathers_longer n ps k g f (ap (meaning es) (sym q) ∙ e))

  pub gathers_count : (n : ℕ) (ps : List ℕ) → Gathers es hs n ps → n ≡ length hs → length ps ≡ length hs
  gathers_count n ps g l = g.count ∙ l

  pub gathers_all : (n : ℕ) (ps : List ℕ) → Gathers es hs n ps → n ≡ length hs → All (IsFirst es) ps × (gathered (meaning es) hs ≡ Some (values_at (values es) ps))
  gathers_all n ps g l = let c = g.count in (g.firsts, gathered_all (meaning es) (values es) hs ps (omega arith) (λ j b. g.named j (omega arith)))
