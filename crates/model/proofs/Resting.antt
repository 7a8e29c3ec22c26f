-- The turns suffice: after settling nothing is due, and the list is saturated.
use Rattle.std.proofs.Common.{ℕ, zero, suc, ◌≤◌, Bool, true, false, cond, not, ◌&&◌, T, ◌⊎◌, ◌↔◌, List, [], ◌∷◌, refl, inl, inr, arith}
use mathlib.Core.Logic.Iff
use mathlib.Core.Option.{Option, none as nothing, some}
use mathlib.Core.Path.{subst⁻¹}
use Rattle.model.specs.Lists.{Every}
use Rattle.model.specs.Trees.{Head, tupled, crypted, applied, Tree, leaf, node, Trees, none, crypt, ◌among◌, size}
use Rattle.model.specs.Deduction.{Party, opens}
use Rattle.model.specs.Roles.{Entry, Role, due_parts, due, first_due, settle, settle_all, unsettled, settled}
use Rattle.model.specs.Entries.{Has}
use Rattle.model.specs.Keeping.{shown, Done, DoneAt, Nobody, Kept}
use Rattle.model.proofs.Tests.{or_left, and_left}
use Rattle.model.proofs.Deduction.{Saturated}
use Rattle.model.proofs.Entries.{Keeps, every_both}
use Rattle.model.proofs.Composing.{composes_can, Whole}
use Rattle.model.proofs.Marking.{Is}
use Rattle.model.proofs.Settling.{Turn, turn}

module _ (P : Party) where
  -- nothing of a list is due
  abbrev pub NoneDue : List Entry → List Entry → Type 0
  NoneDue es rest = Every (λ e. ¬ T (due P es e)) rest

  -- what `first_due` says
  abbrev pub FirstDue : List Entry → List Entry → Option Entry → Type 0
  FirstDue es rest (some e) = Is rest e × T (due P es e)
  FirstDue es rest nothing = NoneDue es rest

  pub first_is : (es rest : List Entry) → FirstDue es rest (first_due P es rest)
  unfolding first_due
  first_is es [] = tt
  first_is es (e ∷ rest) = go (due P es e) Iff.rfl (first_due P es rest) (first_is es rest)
    where
      go : (b : Bool) → (T b ↔ T (due P es e)) → (o : Option Entry) → FirstDue es rest o → FirstDue es (e ∷ rest) (cond b (some e) o)
      go true q o k = (inl refl, q.0 tt)
      go false q (some x) k = (inr k.0, k.1)
      go false q nothing k = (q.1, k)

  -- with nothing left to settle, nothing is due
  rest_due : (es : List Entry) (e : Entry) → cond e.settled 0 (size e.term) ≤ 0 → ¬ T (due P es e)
  unfolding due size
  rest_due es e l d = go e.settled e.term l (and_left (not e.settled) _ d)
    where
      go : (b : Bool) (t : Tree) → cond b 0 (size t) ≤ 0 → ¬ T (not b)
      go true t l f = f
      go false (leaf n) l f = omega arith
      go false (node h ts) l f = omega arith

  rest_none : (es rest : List Entry) → unsettled P rest ≤ 0 → NoneDue es rest
  unfolding unsettled
  rest_none es [] l = tt
  rest_none es (e ∷ rest) l = (rest_due es e (omega arith), rest_none es rest (omega arith))

  -- at rest: what a compound could be settled for is known
  Rests : List Entry → Tree → Type 0
  Rests es (leaf n) = Unit {0}
  Rests es (node h ts) = T (due_parts P h ts es) → (u : Tree) → u among (shown P h ts) → Has es u

  rests : (es : List Entry) (e : Entry) → DoneAt P Nobody es e → ¬ T (due P es e) → Rests es e.term
  unfolding due Rests
  rests es e d n = go e.settled e.term d n
    where
      go : (b : Bool) (t : Tree) → (T b → Nobody t ⊎ Done P es t) → ¬ T (not b && elim t [ leaf n ↦ false | node h ts ↦ due_parts P h ts es ]) → Rests es t
      go b (leaf n) d f = tt
      go true (node h ts) d f = λ x u i. elim (d tt) [ inl y ↦ absurd y | inr k ↦ k u i ]
      go false (node h ts) d f = λ x. absurd (f x)

  every_has : (X : Tree → Type 0) (es : List Entry) → Every (λ e. X e.term) es → (t : Tree) → Has es t → X t
  every_has X [] a t h = elim h [ ]
  every_has X (e ∷ es) a t (inl p) = subst⁻¹ X p a.0
  every_has X (e ∷ es) a t (inr h) = every_has X es a.1 t h

  opens_due : (h : Head) (ts : Trees) (es : List Entry) → T (opens P h) → T (due_parts P h ts es)
  unfolding due_parts
  opens_due tupled ts es o = tt
  opens_due (applied f) ts es o = or_left (not (P.one_way f)) _ o
  opens_due crypted ts es o = elim o [ ]

  opens_shown : (h : Head) (ts : Trees) (u : Tree) → T (opens P h) → u among ts → u among (shown P h ts)
  opens_shown tupled ts u o i = i
  opens_shown (applied f) ts u o i = go (P.one_way f) o
    where
      go : (b : Bool) → T (not b) → u among (cond b none ts)
      go true o = elim o [ ]
      go false o = i
  opens_shown crypted ts u o i = elim o [ ]

  -- where settled entries are done and nothing is due, the list is saturated
  pub saturated : (es : List Entry) → Every (DoneAt P Nobody es) es → NoneDue es es → Saturated P (Has es)
  unfolding Rests due_parts
  saturated es d n = record {
    parts = λ h ts t k o i. all (node h ts) k (opens_due h ts es o) t (opens_shown h ts t o i);
    texts = λ t k c m. all (crypt t k) c (composes_can P es m) t (inl refl);
  }
    where
      all : (t : Tree) → Has es t → Rests es t
      all = every_has (Rests es) es (every_both (DoneAt P Nobody es) (λ e. ¬ T (due P es e)) (λ e. Rests es e.term) (rests es) es d n)

module _ (P : Party) (H S : Tree → Type 0) (whole : Whole S) where
  pub record Rested (s s' : Role) : Type 0 where
    pub inv : Kept P H S s'
    pub keeps : Keeps s.known s'.known
    pub none_due : NoneDue P s'.known s'.known

  rested_after : (s s₁ s₂ : Role) → Turn P H S whole s s₁ → Rested s₁ s₂ → Rested s s₂
  rested_after s s₁ s₂ a b = record { inv = b.inv; keeps = λ u h. b.keeps u (a.keeps u h); none_due = b.none_due }

  -- as many turns as there is to settle
  pub rested : (n : ℕ) (s : Role) → Kept P H S s → unsettled P s.known ≤ n → Rested s (settle_all P n s)
  unfolding settle_all
  rested zero s v l = record { inv = v; keeps = λ u h. h; none_due = rest_none P s.known s.known l }
  rested (suc n) s v l = go (first_due P s.known s.known) (first_is P s.known s.known) (rested n)
    where
      go : (o : Option Entry) → FirstDue P s.known s.known o → ((s' : Role) → Kept P H S s' → unsettled P s'.known ≤ n → Rested s' (settle_all P n s'))
          → Rested s (elim o [ nothing ↦ s | some e ↦ settle_all P n (settle P e s) ])
      go nothing f k = record { inv = v; keeps = λ u h. h; none_due = f }
      go (some e) f k =
          let t = turn P H S whole e s v f.0 f.1 in
          rested_after s (settle P e s) _ t (k (settle P e s) t.inv (let a = t.falls in omega arith))

  pub settled_rests : (s : Role) → Kept P H S s → Rested s (settled P s)
  unfolding settled
  settled_rests s v = rested (unsettled P s.known) s v (omega arith)

  pub settled_saturated : (s : Role) → Kept P H S s → Saturated P (Has (settled P s).known)
  settled_saturated s v = let k = settled_rests s v in saturated P (settled P s).known k.inv.done k.none_due
