-- Marking on sheets: the entry that is settled is explained.
use Rattle.std.proofs.Common.{◌≡◌, ℕ, ◌<◌, ◌||◌, T, eqb, ◌⊎◌, List, [], ◌∷◌, sym, ap, ◌∙◌, subst, inl, inr, eqb→eq}
use mathlib.Core.Option.{some}
use mathlib.Core.Path.{subst⁻¹}
use Rattle.model.specs.Lists.{Every}
use Rattle.model.specs.Trees.{Tree}
use Rattle.model.specs.Roles.{Entry, Role, mark, marked}
use Rattle.model.specs.Entries.{Held}
use Rattle.model.specs.Runs.{Memory}
use Rattle.model.proofs.Tests.{or_cases}
use Rattle.model.proofs.Entries.{every_both}
use Rattle.model.proofs.Marking.{mark_every, mark_ascends, mark_once}
use Rattle.model.proofs.Machine.{some_inj}
use Rattle.model.proofs.Grounds.{Explained, Good}

-- no register lacks its explanation
abbrev pub None : ℕ → Type 0
None q = ⊥

abbrev pub Only : ℕ → ℕ → Type 0
Only r q = q ≡ r

-- marking
mark_both : (X : Tree → ℕ → Type 0) (r : ℕ) (es : List Entry) → Every (λ e. X e.term e.at) es → Every (λ e. X e.term e.at) (mark r es)
mark_both X r [] a = tt
mark_both X r (e ∷ es) a = (a.0, mark_both X r es a.1)

mark_held : (r : ℕ) (es : List Entry) (t : Tree) (q : ℕ) → Held es t q → Held (mark r es) t q
mark_held r [] t q h = h
mark_held r (e ∷ es) t q (inl p) = inl p
mark_held r (e ∷ es) t q (inr h) = inr (mark_held r es t q h)

mark_why : (E : ℕ → Tree → Type 0) (r : ℕ) (es : List Entry) → Every (λ e. T e.settled → None e.at ⊎ E e.at e.term) es
    → Every (λ e. T e.settled → Only r e.at ⊎ E e.at e.term) (mark r es)
mark_why E r [] a = tt
mark_why E r (e ∷ es) a = (head, mark_why E r es a.1)
  where
    head : T (e.settled || eqb r e.at) → Only r e.at ⊎ E e.at e.term
    head c = elim (or_cases e.settled (eqb r e.at) c) [
      | inl s ↦ elim (a.0 s) [ inl x ↦ absurd x | inr y ↦ inr y ]
      | inr q ↦ inl (sym (eqb→eq r e.at q))
    ]

pub good_mark : (s : Role) (Γ : Memory) (k : ℕ) (r : ℕ) → Good s Γ k None → Good (marked r s) Γ k (Only r)
good_mark s Γ k r g =
    record {
      bound = g.bound;
      upto = g.upto;
      low = mark_every r (λ q. q < k) s.known g.low;
      ascends = mark_ascends r s.known g.ascends;
      once = mark_once r s.known g.once;
      entries = mark_both (λ t q. Γ q ≡ some t) r s.known g.entries;
      met = λ q t h e. let x = g.met q t h e in (x.0, mark_held r s.known t x.0 x.1, x.2);
      explained = mark_why (λ q t. Explained Γ s.acts q t) r s.known g.explained;
      formed = g.formed;
    }

-- the marked entry is explained
pub good_done : (s : Role) (Γ : Memory) (k : ℕ) (r : ℕ) (t : Tree) → Good s Γ k (Only r) → Γ r ≡ some t → Explained Γ s.acts r t → Good s Γ k None
good_done s Γ k r t g e x =
    record {
      bound = g.bound;
      upto = g.upto;
      low = g.low;
      ascends = g.ascends;
      once = g.once;
      entries = g.entries;
      met = g.met;
      explained = every_both (λ e. T e.settled → Only r e.at ⊎ Explained Γ s.acts e.at e.term) (λ e. Γ e.at ≡ some e.term)
          (λ e. T e.settled → None e.at ⊎ Explained Γ s.acts e.at e.term) one s.known g.explained g.entries;
      formed = g.formed;
    }
  where
    one : (y : Entry) → (T y.settled → Only r y.at ⊎ Explained Γ s.acts y.at y.term) → Γ y.at ≡ some y.term
        → T y.settled → None y.at ⊎ Explained Γ s.acts y.at y.term
    one y f p c = elim (f c) [
      | inl q ↦ inr (subst (λ u. Explained Γ s.acts y.at u) (some_inj (sym e ∙ ap Γ (sym q) ∙ p)) (subst⁻¹ (λ z. Explained Γ s.acts z t) q x))
      | inr z ↦ inr z
    ]
