-- Whatever joins a list, it keeps what it kept; and what meeting terms does to it.
use Rattle.std.proofs.Common.{◌≡◌, ℕ, ◌+◌, ◌≤◌, Bool, true, false, cond, not, T, List, refl, ◌∙◌, inl, inr, arith, T_not}
use mathlib.Core.Option.{Option, none as nothing, some}
use mathlib.Core.Path.{subst⁻¹}
use Rattle.model.specs.Trees.{Head, tupled, crypted, applied, Tree, leaf, node, Trees, none, more, ◌among◌, sizes}
use Rattle.model.specs.Deduction.{Party, Derives, build}
use Rattle.model.specs.Roles.{same, Entry, Role, find, act, enter, meet, meet_all, count, unsettled}
use Rattle.model.specs.Entries.{Has}
use Rattle.model.specs.Keeping.{shown, Done, DoneAt, Inv}
use Rattle.model.proofs.Lists.{every_map}
use Rattle.model.proofs.Entries.{entry, with_one, Keeps, held_has, Found, found, has_new}
use Rattle.model.proofs.Growing.{Grows, stay, pass, join, grows_trans, grows_has, grows_below, grows_ascends, grows_once, grows_all, grows_every}
use Rattle.model.proofs.Composing.{Makable, Built}
use Rattle.model.proofs.Marking.{unsettled_one}

shown_applied : (b : Bool) (ts : Trees) (u : Tree) → u among (cond b none ts) → u among ts
shown_applied true ts u i = elim i [ ]
shown_applied false ts u i = i

pub shown_among : (P : Party) (h : Head) (ts : Trees) (u : Tree) → u among (shown P h ts) → u among ts
shown_among P tupled ts u i = i
shown_among P (applied f) ts u i = shown_applied (P.one_way f) ts u i
shown_among P crypted none u i = i
shown_among P crypted (more t none) u i = elim i [ ]
shown_among P crypted (more t (more k none)) u (inl p) = inl p
shown_among P crypted (more t (more k none)) u (inr i) = elim i [ ]
shown_among P crypted (more t (more k (more v vs))) u i = elim i [ ]

pub done_more : (P : Party) (es fs : List Entry) → Keeps es fs → (t : Tree) → Done P es t → Done P fs t
done_more P es fs f (leaf n) d = tt
done_more P es fs f (node h ts) d = λ u i. f u (d u i)

-- a term that is met joins unsettled
abbrev pub Met : (Tree → Type 0) → List Entry → Entry → Type 0
Met X es e = T (not e.settled) × X e.term

module _ (P : Party) (H S : Tree → Type 0) where
  -- what may be met
  abbrev pub Welcome : Tree → Type 0
  Welcome u = Derives P H u × S u

  inv_grows : (Ok : List Entry → Entry → Type 0)
      → ((gs : List Entry) (e : Entry) → ((u : Tree) → Has gs u → Derives P H u) → Ok gs e → Derives P H e.term)
      → ((gs : List Entry) (e : Entry) → Ok gs e → S e.term)
      → ((gs : List Entry) (e : Entry) → Ok gs e → T e.settled → Done P gs e.term)
      → (Q : Tree → Type 0) {es : List Entry} {n : ℕ} {fs : List Entry} {m : ℕ} → Grows Ok es n fs m → Inv P H S Q es n → Inv P H S Q fs m
  inv_grows Ok d s k Q {es} {n} {fs} {m} g v = record {
    below = grows_below Ok g v.below;
    ascends = grows_ascends Ok g v.below v.ascends;
    once = grows_once Ok g v.once;
    sound = grows_all Ok (Derives P H) d g v.sound;
    seen = grows_all Ok S (λ gs e f o. s gs e o) g v.seen;
    done = grows_every Ok (DoneAt P Q fs) fs (λ gs e f o b. inr (done_more P gs fs f e.term (k gs e o b))) g (every_map (DoneAt P Q es) (DoneAt P Q fs) old es v.done) (λ u h. h);
  }
    where
      old : (e : Entry) → DoneAt P Q es e → DoneAt P Q fs e
      old e f b = elim (f b) [ inl q ↦ inl q | inr c ↦ inr (done_more P es fs (grows_has Ok g) e.term c) ]

  -- composing keeps it, if the names made are derivable
  makable_derives : (makes : ℕ → Bool) → ((n : ℕ) → T (makes n) → S (leaf n) → Derives P H (leaf n))
      → (gs : List Entry) (t : Tree) → ((u : Tree) → Has gs u → Derives P H u) → S t → Makable P makes gs t → Derives P H t
  makable_derives makes f gs (leaf n) d i m = f n m i
  makable_derives makes f gs (node h ts) d i m = build m.0 (λ u j. d u (m.1 u j))

  makable_done : (makes : ℕ → Bool) (gs : List Entry) (t : Tree) → Makable P makes gs t → Done P gs t
  makable_done makes gs (leaf n) m = tt
  makable_done makes gs (node h ts) m = λ u i. m.1 u (shown_among P h ts u i)

  pub inv_built : (makes : ℕ → Bool) → ((n : ℕ) → T (makes n) → S (leaf n) → Derives P H (leaf n))
      → (Q : Tree → Type 0) {es : List Entry} {n : ℕ} {fs : List Entry} {m : ℕ} → Grows (Built P makes S) es n fs m → Inv P H S Q es n → Inv P H S Q fs m
  inv_built makes f Q g v =
      inv_grows (Built P makes S)
      (λ gs e d o. makable_derives makes f gs e.term d o.1 o.2)
      (λ gs e o. o.1)
      (λ gs e o b. makable_done makes gs e.term o.2)
      Q g v

  -- meeting keeps it
  pub inv_met : (Q : Tree → Type 0) {es : List Entry} {n : ℕ} {fs : List Entry} {m : ℕ} → Grows (Met Welcome) es n fs m → Inv P H S Q es n → Inv P H S Q fs m
  inv_met Q g v =
      inv_grows (Met Welcome)
      (λ gs e d o. o.1.0)
      (λ gs e o. o.1.1)
      (λ gs e o b. absurd (T_not e.settled o.0 b))
      Q g v

-- terms are met: they are known then, the next register is as it was, and the amount rises by at most their sizes
pub record Meets (P : Party) (X : Tree → Type 0) (ts : Trees) (r : ℕ) (s s' : Role) : Type 0 where
  pub grows : Grows (Met X) s.known r s'.known (r + count ts)
  pub has : (u : Tree) → u among ts → Has s'.known u
  pub next_same : s'.next ≡ s.next
  pub amount : unsettled P s'.known ≤ unsettled P s.known + sizes ts

module _ (P : Party) (X : Tree → Type 0) where
  meets_one : (t : Tree) (r : ℕ) (s : Role) → X t → Meets P X (more t none) r s (meet t r s)
  unfolding sizes
  meets_one t r s x = go (find t s.known) (found s.known t)
    where
      new : Entry
      new = entry t r false

      has_one : (es : List Entry) → Has es t → (u : Tree) → u among (more t none) → Has es u
      has_one es h u (inl p) = subst⁻¹ (Has es) p h
      has_one es h u (inr i) = elim i [ ]

      go : (o : Option ℕ) → Found s.known t o → Meets P X (more t none) r s (elim o [ some old ↦ act (same r old) s | nothing ↦ enter t r false s ])
      go (some old) f = record {
        grows = pass stay (omega arith);
        has = has_one s.known (held_has s.known t old f);
        next_same = refl;
        amount = omega arith;
      }
      go nothing f = record {
        grows = join stay new f (tt, x) (omega arith) (omega arith);
        has = has_one (with_one s.known new) (has_new s.known new);
        next_same = refl;
        amount = let h = unsettled_one P s.known new in omega arith;
      }

  meets_then : (t : Tree) (ts : Trees) (r : ℕ) (s s₁ s₂ : Role) → Meets P X (more t none) r s s₁ → Meets P X ts (r + 1) s₁ s₂ → Meets P X (more t ts) r s s₂
  unfolding sizes
  meets_then t ts r s s₁ s₂ a b = record {
    grows = pass (grows_trans (Met X) (pass a.grows (omega arith)) b.grows) (omega arith);
    has = has;
    next_same = b.next_same ∙ a.next_same;
    amount = let h = a.amount in let k = b.amount in omega arith;
  }
    where
      has : (u : Tree) → u among (more t ts) → Has s₂.known u
      has u (inl p) = grows_has (Met X) b.grows u (a.has u (inl p))
      has u (inr i) = b.has u i

  pub meets : (ts : Trees) (r : ℕ) (s : Role) → ((u : Tree) → u among ts → X u) → Meets P X ts r s (meet_all ts r s)
  unfolding sizes
  meets none r s f = record { grows = pass stay (omega arith); has = λ u i. elim i [ ]; next_same = refl; amount = omega arith }
  meets (more t ts) r s f = meets_then t ts r s (meet t r s) (meet_all ts (r + 1) (meet t r s)) (meets_one t r s (f t (inl refl))) (meets ts (r + 1) (meet t r s) (λ u i. f u (inr i)))
