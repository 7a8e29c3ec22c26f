-- What one more row does to a table.
use Rattle.std.proofs.Common.{◌≡◌, ℕ, suc, ◌+◌, ◌<◌, ◌≤◌, Bool, true, false, inl, inr, ◌&&◌, ◌==◌, if◌then◌else◌, List, [], ◌∷◌, ◌++◌, length, get_or, Some, None, Option, set, replicate, slice_index, refl, sym, ap, ap₂, ◌∙◌, arith, below_more}
use mathlib.Core.Path.{subst⁻¹}
use Rattle.std.proofs.lemmas.Bool.{cases_eq, eq-eqb, ne_eqb, and_right}
use Rattle.std.proofs.lemmas.List.{length_push, length-set, get_or_append_left, get_or_push, get_or-replicate, get_or-set_same, get_or-set_other}
use Rattle.std.proofs.lemmas.Option.{slice_get_past, slice_get_within, slice_get-get_or, get_or_from_slice_get}
use Rattle.std.proofs.lemmas.List.Elements.{All-push}
use Rattle.std.specs.List.{All, slice_get}
use Rattle.model.specs.Storable.{Storable}
use Rattle.model.specs.Trees.{Tree, leaf}
use Rattle.rows.specs.declared.entry.Row.{Row}
use Rattle.rows.specs.declared.entry.Entry.{Entry}
use Rattle.rows.specs.Rows.{row_value, values_after, values, meaning}
use Rattle.rows.specs.Held.{Held}
use Rattle.rows.specs.Classes.{place_of, blank, entry_at, row_at, class_at, parts_of, value_at, Classed, Earlier, First, IsOfFirst}
use Rattle.rows.specs.Hashes.{chain_of}
use Rattle.rows.specs.Chains.{is_in_chain, last_in, head_after, Chained, Headed}
use Rattle.rows.specs.Fitting.{values_length}
use Rattle.rows.proofs.Values.{values_push}
use Rattle.rows.proofs.Places.{place_least, place_more, place_new}
use Rattle.rows.proofs.Lasts.{last_same}

-- a table's invariants, as one fact
pub record Sound (heads : List ℕ) (es : List Entry) : Type 0 where
  pub all : length heads ≡ 4096
  pub held : Held es
  pub classed : Classed es
  pub earlier : Earlier es
  pub first : First es
  pub chained : Chained es
  pub headed : Headed heads es

pub sound_empty : Sound (replicate 4096 0) []
unfolding last_in values_after
sound_empty = record {
  all = refl;
  held = λ i d h. absurd (omega arith);
  classed = λ k h. absurd (omega arith);
  earlier = λ k i h l. absurd (omega arith);
  first = λ k i h l. absurd (omega arith);
  chained = λ k h. absurd (omega arith);
  headed = λ c h. get_or-replicate 4096 c 0 0 h;
}

pub sound_begins : (heads : List ℕ) (es : List Entry) → heads ≡ replicate 4096 0 → es ≡ [] → Sound heads es
sound_begins heads es h e = subst⁻¹ (λ hs. Sound hs es) h (subst⁻¹ (Sound (replicate 4096 0)) e sound_empty)

module _ (heads : List ℕ) (es : List Entry) (r : Row) where
  abbrev pub class_new : ℕ
  class_new = place_of (row_value (values es) r) (values es)

  abbrev pub entry_new : Entry
  entry_new = record { row = r; class = class_new; next = slice_index heads (chain_of r) }

  abbrev pub longer : List Entry
  longer = es ++ entry_new ∷ []

  abbrev pub heads_new : List ℕ
  heads_new = set heads (chain_of r) (head_after class_new (length es) (slice_index heads (chain_of r)))

  at_left : (k : ℕ) → k < length es → entry_at longer k ≡ entry_at es k
  at_left k h = get_or_append_left es (entry_new ∷ []) blank k h

  at_end : entry_at longer (length es) ≡ entry_new
  at_end = get_or_push es entry_new blank (length es) refl

  -- what holds of each row, and of the new one
  each : (Q : ℕ → Entry → Type 0) → ((k : ℕ) → k < length es → Q k (entry_at es k)) → Q (length es) entry_new → (k : ℕ) → k < length longer → Q k (entry_at longer k)
  each Q f q k h =
      let n = length_push es entry_new in
      below_more (λ j. Q j (entry_at longer j)) (length es) (λ j l. subst⁻¹ (Q j) (at_left j l) (f j l)) (subst⁻¹ (Q (length es)) at_end q) k (omega arith)

  values_longer : values longer ≡ values es ++ row_value (values es) r ∷ []
  values_longer = values_push [] es entry_new

  pub value_left : (k : ℕ) → k < length es → value_at longer k ≡ value_at es k
  value_left k h = let n = values_length [] es in ap (λ vs. get_or vs k (leaf 0)) values_longer ∙ get_or_append_left (values es) (row_value (values es) r ∷ []) (leaf 0) k (omega arith)

  pub value_end : value_at longer (length es) ≡ row_value (values es) r
  value_end = let n = values_length [] es in ap (λ vs. get_or vs (length es) (leaf 0)) values_longer ∙ get_or_push (values es) (row_value (values es) r) (leaf 0) (length es) (omega arith)

  last_left : (c k : ℕ) → k ≤ length es → last_in longer c k ≡ last_in es c k
  unfolding last_in
  last_left c k h = last_same (is_in_chain longer c) (is_in_chain es c) k (λ j l. ap (λ (e : Entry). (e.class == j) && (chain_of e.row == c)) (at_left j (omega arith)))

  module _ (s : Sound heads es) (f : IsOfFirst es r) (v : Storable (row_value (values es) r)) where
    held_longer : Held longer
    held_longer = subst⁻¹ (All Storable) values_longer (All-push Storable (values es) (row_value (values es) r) s.held v)

    classed_longer : Classed longer
    classed_longer k h =
        let n = values_length [] es in
        each (λ j e. e.class ≡ place_of (value_at longer j) (values longer))
        (λ j l.
        let v = value_at es j in
        let p = place_least v (values es) j (omega arith) refl in
        s.classed j l ∙ sym (place_more v (values es) (row_value (values es) r ∷ []) (omega arith)) ∙ ap₂ place_of (sym (value_left j l)) (sym values_longer))
        (sym (place_new (row_value (values es) r) (values es)) ∙ ap₂ place_of (sym value_end) (sym values_longer))
        k h

    earlier_longer : Earlier longer
    earlier_longer k i h l =
        each (λ j e. (i : ℕ) → i < length (parts_of e.row) → slice_index (parts_of e.row) i < j) (λ j m i l. s.earlier j i m l) (λ i l. (f i 0 l).0) k h i l

    first_longer : First longer
    first_longer k i h l =
        each (λ j e. (i : ℕ) → i < length (parts_of e.row) → class_at longer (slice_index (parts_of e.row) i) ≡ slice_index (parts_of e.row) i)
        (λ j m i l. let b = s.earlier j i m l in ap (λ (e : Entry). e.class) (at_left _ (omega arith)) ∙ s.first j i m l)
        (λ i l. ap (λ (e : Entry). e.class) (at_left _ (f i 0 l).0) ∙ (f i 0 l).1)
        k h i l

    module _ (bound : chain_of r < 4096) where
      chained_longer : Chained longer
      chained_longer k h =
          each (λ j e. e.next ≡ last_in longer (chain_of e.row) j)
          (λ j l. s.chained j l ∙ sym (last_left (chain_of (row_at es j)) j (omega arith)))
          (s.headed (chain_of r) bound ∙ sym (last_left (chain_of r) (length es) (omega arith)))
          k h

      headed_step : (c : ℕ) → c < 4096 → slice_index heads_new c ≡ (if (class_new == length es) && (chain_of r == c) then suc (length es) else last_in longer c (length es))
      headed_step c h =
          elim (cases_eq c (chain_of r)) [
            | inl e ↦ same c e
            | inr d ↦ get_or-set_other heads (chain_of r) c _ 0 d ∙ s.headed c h ∙ sym (last_left c (length es) (omega arith))
                ∙ ap (λ b. if b then suc (length es) else last_in longer c (length es)) (sym (and_right (class_new == length es) (chain_of r == c) (ne_eqb (chain_of r) c (λ e. d (sym e)))))
          ]
        where
          both : (b d : Bool) → d ≡ true → (if b then length es + 1 else slice_index heads (chain_of r)) ≡ (if b && d then suc (length es) else slice_index heads (chain_of r))
          both true d e = rw e (omega arith)
          both false d e = refl

          same : (c : ℕ) → c ≡ chain_of r → slice_index heads_new c ≡ (if (class_new == length es) && (chain_of r == c) then suc (length es) else last_in longer c (length es))
          same c e =
              let a = s.all in
              ap (slice_index heads_new) e ∙ get_or-set_same heads (chain_of r) _ 0 (omega arith)
              ∙ both (class_new == length es) (chain_of r == c) (eq-eqb (chain_of r) c (sym e))
              ∙ ap (λ n. if (class_new == length es) && (chain_of r == c) then suc (length es) else n)
              (s.headed (chain_of r) bound ∙ sym (last_left (chain_of r) (length es) (omega arith)) ∙ ap (λ x. last_in longer x (length es)) (sym e))

      headed_longer : Headed heads_new longer
      unfolding last_in
      headed_longer c h =
          let n : length longer ≡ suc (length es) = omega (arith, length_push es entry_new) in
          headed_step c h
          ∙ ap (λ (e : Entry). if (e.class == length es) && (chain_of e.row == c) then suc (length es) else last_in longer c (length es)) (sym at_end)
          ∙ ap (last_in longer c) (sym n)

    pub sound_longer : chain_of r < 4096 → Sound heads_new longer
    sound_longer b = record {
      all = length-set heads (chain_of r) _ ∙ s.all;
      held = held_longer;
      classed = classed_longer;
      earlier = earlier_longer;
      first = first_longer;
      chained = chained_longer b;
      headed = headed_longer b;
    }

-- what a longer table means
pub record Extends (old new : ℕ → Option Tree) (v : Tree) (h : ℕ) : Type 0 where
  pub fresh : old h ≡ None
  pub named : new h ≡ Some v
  pub kept : (k : ℕ) → (w : Tree) → old k ≡ Some w → new k ≡ Some w

pub extends : (es : List Entry) (e : Entry) → Extends (meaning es) (meaning (es ++ e ∷ [])) (row_value (values es) e.row) (length es)
extends es e =
    let n = values_length [] es in
    let v = row_value (values es) e.row in
    let w = values_push [] es e in
    let l = length_push (values es) v in
    record {
      fresh = slice_get_past (values es) (length es) (omega arith);
      named = ap (λ vs. slice_get vs (length es)) w ∙ slice_get-get_or (values es ++ v ∷ []) (length es) (leaf 0) (omega arith) ∙ ap Some (get_or_push (values es) v (leaf 0) (length es) (omega arith));
      kept = λ k x q.
          let h = slice_get_within (values es) k x q in
          ap (λ vs. slice_get vs k) w ∙ slice_get-get_or (values es ++ v ∷ []) k (leaf 0) (omega arith)
          ∙ ap Some (get_or_append_left (values es) (v ∷ []) (leaf 0) k h ∙ get_or_from_slice_get (values es) k x (leaf 0) q);
    }

-- as the code adds a row
pub sound_added : (heads heads' : List ℕ) (es es' : List Entry) (r : Row) (class chain next head : ℕ) → Sound heads es → IsOfFirst es r → Storable (row_value (values es) r) → chain < 4096
    → class ≡ place_of (row_value (values es) r) (values es) → chain ≡ chain_of r → next ≡ slice_index heads chain → head ≡ head_after class (length es) next
    → heads' ≡ set heads chain head → es' ≡ es ++ record { row = r; class = class; next = next } ∷ [] → Sound heads' es'
sound_added heads heads' es es' r class chain next head s f v b c h n a hs e =
    let x : heads' ≡ heads_new heads es r = rw (hs, a, n, h, c) refl in
    let y : es' ≡ longer heads es r = rw (e, n, h, c) refl in
    subst⁻¹ (λ z. Sound z es') x (subst⁻¹ (Sound (heads_new heads es r)) y (sound_longer heads es r s f v (rw h at b)))

pub extended : (es es' : List Entry) (e : Entry) (h : ℕ) → es' ≡ es ++ e ∷ [] → h ≡ length es → Extends (meaning es) (meaning es') (row_value (values es) e.row) h
extended es es' e h q l = rw (q, l) (extends es e)
