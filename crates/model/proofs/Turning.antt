-- Settling on sheets: each turn explains the entry that it settles.
use Rattle.std.proofs.Common.{◌≡◌, ℕ, zero, suc, ◌+◌, Bool, true, false, cond, not, ◌&&◌, ◌||◌, T, List, [], ◌∷◌, ◌++◌, sym, refl, ap, ◌∙◌, subst, inl, arith}
use mathlib.Core.Option.{Option, none as nothing, some}
use mathlib.Core.Path.{subst⁻¹}
use lib.Dec.{not_T}
use Rattle.model.specs.Lists.{Every}
use Rattle.model.specs.Trees.{Head, tupled, crypted, applied, Tree, leaf, node, Trees, none, more, crypt, ◌among◌}
use Rattle.model.specs.Deduction.{Party, may, opens}
use Rattle.model.specs.Roles.{Act, same, make, split, unlock, Entry, Role, act, fill, meet, Composed, got, lacks, ComposedAll, got_all, lacks_one, compose, compose_all, none_made, meet_all, count, marked, can_all, due_parts, due, first_due, open_parts, open_text, check_again, settle_node, settle, settle_all, unsettled, settled}
use Rattle.model.specs.Entries.{Has}
use Rattle.model.specs.Runs.{Memory, set, puts, reads}
use Rattle.model.proofs.Tests.{and_left as first, and_right as second}
use Rattle.model.proofs.Deduction.{Composes}
use Rattle.model.proofs.Composing.{composes_map, can_composes, can_all_composes, Base, AnyTree, Good as SoundOne, GoodAll as SoundAll, good, good_all}
use Rattle.model.proofs.Marking.{Is, is_every, has_mark}
use Rattle.model.proofs.Resting.{FirstDue, first_is}
use Rattle.model.proofs.Machine.{set_same, ⊑-set, ⊑-puts, reads_more, ⊑-reads, regs, reads_puts, regs_count}
use Rattle.model.proofs.Sheets.{sames, makes, splits, unlocks, facts_left, facts_right}
use Rattle.model.proofs.Grounds.{Explained, Good, good_same, good_meet, meet_next, good_meet_all}
use Rattle.model.proofs.Filling.{Grew, grew_none, grew_then, grew_one, grew_keeps, grew_meet, grew_meet_all, good_set, good_puts, Went, Made, MadeAll, made, made_all}
use Rattle.model.proofs.Marked.{None, Only, good_mark, good_done}

pub meet_all_next : (ts : Trees) (k : ℕ) (s : Role) → (meet_all ts k s).next ≡ s.next
meet_all_next none k s = refl
meet_all_next (more t ts) k s = meet_all_next ts (k + 1) (meet t k s) ∙ meet_next t k s

module _ (P : Party) where
  -- a compound that shows its parts
  turn_open : (r : ℕ) (h : Head) (ts : Trees) (s : Role) (Γ : Memory) → Good s Γ s.next (Only r) → Γ r ≡ some (node h ts) → T (opens P h)
      → Went P s Γ (open_parts P r h ts s) None [] []
  unfolding open_parts
  turn_open r h ts s Γ g e o =
      record {
        sheet = Γ₁;
        good = subst⁻¹ (λ k. Good (meet_all ts s.next s₁) Γ₁ k None) (meet_all_next ts s.next s₁) (good_meet_all ts s₁ Γ₁ s.next None g₂ (omega arith) held_parts);
        grew = grew_then P (grew_one P s s₁ Γ Γ₁ a [] [] refl (splits e o)) (grew_meet_all P ts s₁ Γ₁ s.next None g₂ (omega arith) held_parts);
      }
    where
      a : Act
      a = split s.next (count ts) h r

      s₁ : Role
      s₁ = record { known = s.known; next = s.next + count ts; acts = s.acts ++ (a ∷ []) }

      Γ₁ : Memory
      Γ₁ = puts Γ s.next ts

      held_parts : reads Γ₁ (regs ts s.next) ≡ some ts
      held_parts = reads_puts Γ s.next ts

      g₁ : Good s₁ Γ₁ s.next (Only r)
      g₁ = good_puts s Γ s.next (Only r) g a ts (g.formed r (node h ts) e).1

      why : Explained Γ₁ s₁.acts r (node h ts)
      why = (
        regs ts s.next,
        held_parts,
        λ m c.
            let z = (facts_right m s.acts (a ∷ []) c).0 in
            (z.0, ap (reads m) (regs_count ts z.0 s.next z.1) ∙ z.3, z.2),
      )

      g₂ : Good s₁ Γ₁ s.next None
      g₂ = good_done s₁ Γ₁ s.next r (node h ts) g₁ (⊑-puts Γ s.next ts g.bound r (node h ts) e) why

  -- nothing is made where no name may be
  none_of : (ns : List ℕ) → Every (λ n. T (none_made n)) ns → ns ≡ []
  none_of [] h = refl
  none_of (n ∷ ns) h = elim h.0 [ ]

  abbrev Succeeds : Composed → Type 0
  Succeeds (got s r) = Unit {0}
  Succeeds (lacks u) = ⊥

  abbrev SucceedsAll : ComposedAll → Type 0
  SucceedsAll (got_all s rs) = Unit {0}
  SucceedsAll (lacks_one u) = ⊥

  -- a ciphertext whose key was composed
  turn_text : (r : ℕ) (t k : Tree) (s : Role) (Γ : Memory) → Good s Γ s.next (Only r) → Γ r ≡ some (crypt t k)
      → (c : Composed) → Made P none_made (Only r) s Γ k c → Succeeds c → Went P s Γ (open_text P r t c s) None [] []
  unfolding open_text
  turn_text r t k s Γ g e (got s' q) (ns, w, i, sm, ev, lv) y =
      record {
        sheet = Γ₂;
        good = subst⁻¹ (λ j. Good (meet t s'.next s₁) Γ₂ j None) (meet_next t s'.next s₁) (good_meet s₁ Γ₂ s'.next None g₂ (omega arith) t here);
        grew = subst (λ l. Grew P s Γ (meet t s'.next s₁) Γ₂ [] (l ++ [])) (none_of ns ev)
            (grew_then P w.grew (grew_then P (grew_one P s' s₁ Γ₁ Γ₂ a [] [] refl (unlocks e₁ i)) (grew_meet P s₁ Γ₂ s'.next None g₂ t here)));
      }
    where
      a : Act
      a = unlock s'.next r q

      s₁ : Role
      s₁ = fill (λ x. unlock x r q) s'

      Γ₁ : Memory
      Γ₁ = w.sheet

      Γ₂ : Memory
      Γ₂ = set Γ₁ s'.next t

      here : Γ₂ s'.next ≡ some t
      here = set_same Γ₁ s'.next t

      e₁ : Γ₁ r ≡ some (crypt t k)
      e₁ = grew_keeps P w.grew g.bound r (crypt t k) e

      keep : (p : ℕ) (v : Tree) → Γ₁ p ≡ some v → Γ₂ p ≡ some v
      keep = ⊑-set Γ₁ s'.next t w.good.bound

      g₁ : Good s₁ Γ₂ s'.next (Only r)
      g₁ = good_set s' Γ₁ s'.next (Only r) w.good a t (g.formed r (crypt t k) e).1.0

      why : Explained Γ₂ s₁.acts r (crypt t k)
      why = (
        s'.next ∷ q ∷ [],
        reads_more Γ₂ s'.next (q ∷ []) t (more k none) here (reads_more Γ₂ q [] k none (keep q k i) refl),
        λ m c.
            let z = (facts_right m s'.acts (a ∷ []) c).0 in
            (more z.0 (more z.1 none), reads_more m s'.next (q ∷ []) z.0 (more z.1 none) z.4 (reads_more m q [] z.1 none z.3 refl), z.2),
      )

      g₂ : Good s₁ Γ₂ s'.next None
      g₂ = good_done s₁ Γ₂ s'.next r (crypt t k) g₁ (keep r (crypt t k) e₁) why
  turn_text r t k s Γ g e (lacks u) m y = elim y [ ]

  -- an application that is built once more and compared
  turn_again : (r : ℕ) (h : Head) (ts : Trees) (s : Role) (Γ : Memory) → Good s Γ s.next (Only r) → Γ r ≡ some (node h ts) → T (may P h)
      → (c : ComposedAll) → MadeAll P none_made (Only r) s Γ ts c → SucceedsAll c → Went P s Γ (check_again P r h c s) None [] []
  unfolding check_again
  turn_again r h ts s Γ g e p (got_all s' rs) (ns, w, i, sm, ev, lv) y =
      record {
        sheet = Γ₂;
        good = good_done s₂ Γ₂ (s'.next + 1) r (node h ts) g₂ e₂ why;
        grew = subst (λ l. Grew P s Γ s₂ Γ₂ [] (l ++ [])) (none_of ns ev)
            (grew_then P w.grew
            (grew_then P (grew_one P s' s₁ Γ₁ Γ₂ a [] [] refl (makes i p (g.formed r (node h ts) e).0))
            (grew_one P s₁ s₂ Γ₂ Γ₂ b [] [] refl (sames here e₂))));
      }
    where
      a : Act
      a = make s'.next h rs

      b : Act
      b = same s'.next r

      s₁ : Role
      s₁ = fill (λ x. make x h rs) s'

      s₂ : Role
      s₂ = act b s₁

      Γ₁ : Memory
      Γ₁ = w.sheet

      Γ₂ : Memory
      Γ₂ = set Γ₁ s'.next (node h ts)

      here : Γ₂ s'.next ≡ some (node h ts)
      here = set_same Γ₁ s'.next (node h ts)

      e₁ : Γ₁ r ≡ some (node h ts)
      e₁ = grew_keeps P w.grew g.bound r (node h ts) e

      e₂ : Γ₂ r ≡ some (node h ts)
      e₂ = ⊑-set Γ₁ s'.next (node h ts) w.good.bound r (node h ts) e₁

      g₁ : Good s₁ Γ₂ s'.next (Only r)
      g₁ = good_set s' Γ₁ s'.next (Only r) w.good a (node h ts) (g.formed r (node h ts) e)

      g₂ : Good s₂ Γ₂ (s'.next + 1) (Only r)
      g₂ = good_same s₁ Γ₂ s'.next (Only r) g₁ (omega arith) (node h ts) here r (w.good.bound r (node h ts) e₁) e₂

      why : Explained Γ₂ s₂.acts r (node h ts)
      why = (
        rs,
        ⊑-reads Γ₁ Γ₂ (⊑-set Γ₁ s'.next (node h ts) w.good.bound) rs ts i,
        λ m c.
            let y = (facts_right m s'.acts (a ∷ []) (facts_left m s₁.acts (b ∷ []) c)).0 in
            let z = (facts_right m s₁.acts (b ∷ []) c).0 in
            (y.0, y.1, z.2 ∙ sym z.1 ∙ y.2),
      )
  turn_again r h ts s Γ g e p (lacks_one u) m y = elim y [ ]

  -- what can be composed is composed
  succeeds : (t : Tree) (s : Role) → Composes P (Has s.known) t → Succeeds (compose P none_made t s)
  succeeds t s d = go (compose P none_made t s) (good P none_made AnyTree (λ h ts i u j. tt) t s tt)
    where
      go : (c : Composed) → SoundOne P none_made AnyTree s t c → Succeeds c
      go (got s' r) g = tt
      go (lacks u) g = g.2 (composes_map P (Has s.known) (Base none_made AnyTree s.known) (λ w i. inl i) d)

  succeeds_all : (ts : Trees) (s : Role) → ((t : Tree) → t among ts → Composes P (Has s.known) t) → SucceedsAll (compose_all P none_made ts s)
  succeeds_all ts s d = go (compose_all P none_made ts s) (good_all P none_made AnyTree (λ h ts i u j. tt) ts s (λ u i. tt))
    where
      go : (c : ComposedAll) → SoundAll P none_made AnyTree s ts c → SucceedsAll c
      go (got_all s' r) g = tt
      go (lacks_one u) g = g.2 (λ t i. composes_map P (Has s.known) (Base none_made AnyTree s.known) (λ w j. inl j) (d t i))

  turn_applied : (r f : ℕ) (ts : Trees) (s : Role) (Γ : Memory) (es : List Entry) → ((u : Tree) → Has es u → Has s.known u)
      → Good s Γ s.next (Only r) → Γ r ≡ some (node (applied f) ts)
      → (b : Bool) → (T (P.one_way f) → T b) → T (not b || (may P (applied f) && can_all P ts es))
      → Went P s Γ (cond b (check_again P r (applied f) (compose_all P none_made ts s) s) (open_parts P r (applied f) ts s)) None [] []
  turn_applied r f ts s Γ es i g e true k d =
      turn_again r (applied f) ts s Γ g e (first (may P (applied f)) (can_all P ts es) d) (compose_all P none_made ts s)
      (made_all P none_made (Only r) ts s Γ g (g.formed r (node (applied f) ts) e).1)
      (succeeds_all ts s (λ t j. composes_map P (Has es) (Has s.known) i (can_all_composes P es ts (second (may P (applied f)) (can_all P ts es) d) t j)))
  turn_applied r f ts s Γ es i g e false k d = turn_open r (applied f) ts s Γ g e (not_T (P.one_way f) k)

  turn_node : (r : ℕ) (h : Head) (ts : Trees) (s : Role) (Γ : Memory) (es : List Entry) → ((u : Tree) → Has es u → Has s.known u)
      → Good s Γ s.next (Only r) → Γ r ≡ some (node h ts) → T (due_parts P h ts es) → Went P s Γ (settle_node P r h ts s) None [] []
  unfolding settle_node due_parts
  turn_node r tupled ts s Γ es i g e d = turn_open r tupled ts s Γ g e tt
  turn_node r (applied f) ts s Γ es i g e d = turn_applied r f ts s Γ es i g e (P.one_way f) (λ x. x) d
  turn_node r crypted none s Γ es i g e d = elim d [ ]
  turn_node r crypted (more t none) s Γ es i g e d = elim d [ ]
  turn_node r crypted (more t (more k none)) s Γ es i g e d =
      turn_text r t k s Γ g e (compose P none_made k s) (made P none_made (Only r) k s Γ g (g.formed r (crypt t k) e).1.1.0)
      (succeeds k s (composes_map P (Has es) (Has s.known) i (can_composes P es k d)))
  turn_node r crypted (more t (more k (more u us))) s Γ es i g e d = elim d [ ]

  -- marking takes no action
  went_marked : (r : ℕ) (s s' : Role) (Γ : Memory) → Went P (marked r s) Γ s' None [] [] → Went P s Γ s' None [] []
  went_marked r s s' Γ w = record { sheet = w.sheet; good = w.good; grew = record { line = w.grew.line; adds = w.grew.adds; plan = w.grew.plan } }

  turn : (e : Entry) (s : Role) (Γ : Memory) → Good s Γ s.next None → Is s.known e → T (due P s.known e) → Went P s Γ (settle P e s) None [] []
  unfolding settle due
  turn e s Γ g i d = go e.term refl (second (not e.settled) _ d)
    where
      go : (t : Tree) → e.term ≡ t → T (elim t [ leaf n ↦ false | node h ts ↦ due_parts P h ts s.known ])
          → Went P s Γ (elim t [ leaf n ↦ s | node h ts ↦ settle_node P e.at h ts (marked e.at s) ]) None [] []
      go (leaf n) p x = elim x [ ]
      go (node h ts) p x =
          went_marked e.at s (settle_node P e.at h ts (marked e.at s)) Γ
          (turn_node e.at h ts (marked e.at s) Γ s.known (has_mark e.at s.known) (good_mark s Γ s.next e.at g)
          (is_every (λ y. Γ y.at ≡ some y.term) s.known e g.entries i ∙ ap some p) x)

  pub turns : (n : ℕ) (s : Role) (Γ : Memory) → Good s Γ s.next None → Went P s Γ (settle_all P n s) None [] []
  unfolding settle_all
  turns zero s Γ g = record { sheet = Γ; good = g; grew = grew_none P s Γ }
  turns (suc n) s Γ g = go (first_due P s.known s.known) (first_is P s.known s.known) (λ s' Γ' g'. turns n s' Γ' g')
    where
      go : (o : Option Entry) → FirstDue P s.known s.known o
          → ((s' : Role) (Γ' : Memory) → Good s' Γ' s'.next None → Went P s' Γ' (settle_all P n s') None [] [])
          → Went P s Γ (elim o [ nothing ↦ s | some e ↦ settle_all P n (settle P e s) ]) None [] []
      go nothing f k = record { sheet = Γ; good = g; grew = grew_none P s Γ }
      go (some e) f k =
          let w = turn e s Γ g f.0 f.1 in
          let v = k (settle P e s) w.sheet w.good in
          record { sheet = v.sheet; good = v.good; grew = grew_then P w.grew v.grew }

  pub went_settled : (s : Role) (Γ : Memory) → Good s Γ s.next None → Went P s Γ (settled P s) None [] []
  unfolding settled
  went_settled s Γ g = turns (unsettled P s.known) s Γ g
