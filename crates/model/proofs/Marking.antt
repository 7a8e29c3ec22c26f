-- Marking one entry as settled, and the amount that is still to be settled.
use Rattle.std.proofs.Common.{◌≡◌, ℕ, ◌+◌, ◌<◌, ◌≤◌, Bool, true, false, cond, not, ◌||◌, T, eqb, List, [], ◌∷◌, sym, ap, inl, inr, arith, eqb→eq}
use mathlib.Core.Path.{subst⁻¹}
use lib.Dec.{eqb_refl}
use Rattle.model.specs.Lists.{Every, SomeOf}
use Rattle.model.specs.Trees.{Tree, size}
use Rattle.model.specs.Deduction.{Party}
use Rattle.model.specs.Roles.{Entry, mark, unsettled}
use Rattle.model.specs.Entries.{Has, Ascends, Once}
use Rattle.model.proofs.Tests.{or_cases}
use Rattle.model.proofs.Lists.{every_map}
use Rattle.model.proofs.Entries.{with_one, Keeps}

-- the entry itself is in the list
abbrev pub Is : List Entry → Entry → Type 0
Is es e = SomeOf (λ x. e ≡ x) es

pub is_every : (X : Entry → Type 0) (es : List Entry) (e : Entry) → Every X es → Is es e → X e
is_every X [] e a i = elim i [ ]
is_every X (x ∷ es) e a (inl p) = subst⁻¹ X p a.0
is_every X (x ∷ es) e a (inr i) = is_every X es e a.1 i

pub is_has : (es : List Entry) (e : Entry) → Is es e → Has es e.term
is_has [] e i = i
is_has (x ∷ es) e (inl p) = inl (ap (λ (y : Entry). y.term) p)
is_has (x ∷ es) e (inr i) = inr (is_has es e i)

-- in a list that ascends, a register has one term
pub only_one : (es : List Entry) (e : Entry) → Ascends es → Is es e → Every (λ x. x.at ≡ e.at → x.term ≡ e.term) es
only_one [] e a i = tt
only_one (x ∷ es) e a (inl p) =
    let q : e.at ≡ x.at = ap (λ (y : Entry). y.at) p in (
      (λ k. sym (ap (λ (y : Entry). y.term) p)),
      every_map (λ y. x.at < y.at) (λ y. y.at ≡ e.at → y.term ≡ e.term) (λ y l k. absurd (omega arith)) es a.0,
    )
only_one (x ∷ es) e a (inr i) =
    let l : x.at < e.at = is_every (λ y. x.at < y.at) es e a.0 i in
    ((λ k. absurd (omega arith)), only_one es e a.1 i)

module _ (r : ℕ) where
  -- marking changes no term and no register
  pub mark_has : (es : List Entry) → Keeps (mark r es) es
  mark_has [] t h = h
  mark_has (e ∷ es) t (inl p) = inl p
  mark_has (e ∷ es) t (inr h) = inr (mark_has es t h)

  pub has_mark : (es : List Entry) → Keeps es (mark r es)
  has_mark [] t h = h
  has_mark (e ∷ es) t (inl p) = inl p
  has_mark (e ∷ es) t (inr h) = inr (has_mark es t h)

  pub mark_every : (X : ℕ → Type 0) (es : List Entry) → Every (λ e. X e.at) es → Every (λ e. X e.at) (mark r es)
  mark_every X [] a = tt
  mark_every X (e ∷ es) a = (a.0, mark_every X es a.1)

  pub mark_ascends : (es : List Entry) → Ascends es → Ascends (mark r es)
  mark_ascends [] a = tt
  mark_ascends (e ∷ es) a = (mark_every (λ n. e.at < n) es a.0, mark_ascends es a.1)

  pub mark_once : (es : List Entry) → Once es → Once (mark r es)
  mark_once [] a = tt
  mark_once (e ∷ es) a = ((λ h. a.0 (mark_has es e.term h)), mark_once es a.1)

  -- who is settled after marking was settled, or is the one that was marked
  pub mark_settled : (X Y : Tree → Type 0) → ((t : Tree) → X t → Y t) → (es : List Entry)
      → Every (λ e. T e.settled → X e.term) es → Every (λ e. e.at ≡ r → Y e.term) es → Every (λ e. T e.settled → Y e.term) (mark r es)
  mark_settled X Y f [] a b = tt
  mark_settled X Y f (e ∷ es) a b = (head, mark_settled X Y f es a.1 b.1)
    where
      head : T (e.settled || eqb r e.at) → Y e.term
      head c = elim (or_cases e.settled (eqb r e.at) c) [ inl s ↦ f e.term (a.0 s) | inr q ↦ b.0 (sym (eqb→eq r e.at q)) ]

-- the amount
module _ (P : Party) where
  pub unsettled_one : (es : List Entry) (e : Entry) → unsettled P (with_one es e) ≡ unsettled P es + cond e.settled 0 (size e.term)
  unfolding unsettled
  unsettled_one [] e = omega arith
  unsettled_one (x ∷ es) e = let h = unsettled_one es e in omega arith

  amount_less : (b c : Bool) (k : ℕ) → cond (b || c) 0 k ≤ cond b 0 k
  amount_less true c k = omega arith
  amount_less false true k = omega arith
  amount_less false false k = omega arith

  pub mark_less : (r : ℕ) (es : List Entry) → unsettled P (mark r es) ≤ unsettled P es
  unfolding unsettled
  mark_less r [] = omega arith
  mark_less r (e ∷ es) =
      let h = mark_less r es in
      let k = amount_less e.settled (eqb r e.at) (size e.term) in
      omega arith

  amount_gone : (b c : Bool) (k : ℕ) → T (not b) → T c → cond (b || c) 0 k + k ≤ cond b 0 k
  amount_gone true c k f g = elim f [ ]
  amount_gone false true k f g = omega arith
  amount_gone false false k f g = elim g [ ]

  mark_here : (x : Entry) (es : List Entry) → T (not x.settled) → unsettled P (mark x.at (x ∷ es)) + size x.term ≤ unsettled P (x ∷ es)
  unfolding unsettled
  mark_here x es f =
      let h = mark_less x.at es in
      let k = amount_gone x.settled (eqb x.at x.at) (size x.term) f (eqb_refl x.at) in
      omega arith

  -- the amount falls by the size of an entry that is marked
  pub mark_falls : (es : List Entry) (e : Entry) → Is es e → T (not e.settled) → unsettled P (mark e.at es) + size e.term ≤ unsettled P es
  unfolding unsettled
  mark_falls [] e i f = elim i [ ]
  mark_falls (x ∷ es) e (inl p) f =
      subst⁻¹ (λ (y : Entry). T (not y.settled) → unsettled P (mark y.at (x ∷ es)) + size y.term ≤ unsettled P (x ∷ es)) p (mark_here x es) f
  mark_falls (x ∷ es) e (inr i) f =
      let h = mark_falls es e i f in
      let k = amount_less x.settled (eqb e.at x.at) (size x.term) in
      omega arith
