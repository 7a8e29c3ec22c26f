-- One turn of settling: it keeps what the list keeps, and the amount that is unsettled falls.
use Rattle.std.proofs.Common.{◌≡◌, ℕ, ◌+◌, ◌<◌, ◌≤◌, Bool, true, false, cond, not, T, ◌⊎◌, ◌↔◌, List, [], ◌∷◌, ◌++◌, refl, ap, subst, inl, inr, arith}
use mathlib.Core.Logic.Iff
use mathlib.Core.Path.{subst⁻¹}
use lib.Dec.{not_T}
use Rattle.model.specs.Trees.{Head, tupled, crypted, applied, Tree, leaf, node, Trees, none, more, crypt, ◌among◌, size, sizes}
use Rattle.model.specs.Deduction.{Party, opens, Derives, part, text}
use Rattle.model.specs.Roles.{split, unlock, Entry, Role, fill, Composed, got, lacks, ComposedAll, got_all, lacks_one, compose, compose_all, none_made, meet_all, count, mark, marked, due_parts, due, open_parts, open_text, check_again, settle_node, settle, unsettled}
use Rattle.model.specs.Entries.{Has}
use Rattle.model.specs.Keeping.{Done, DoneAt, Inv, Nobody, Kept}
use Rattle.model.proofs.Tests.{and_left, and_right}
use Rattle.model.proofs.Lists.{every_map}
use Rattle.model.proofs.Deduction.{Composes}
use Rattle.model.proofs.Entries.{Keeps, held_has}
use Rattle.model.proofs.Growing.{Grows, stay, pass, join, grows_has}
use Rattle.model.proofs.Composing.{composes_map, can_composes, Base, Whole, Built, Good, GoodAll, good, good_all}
use Rattle.model.proofs.Marking.{Is, is_has, only_one, mark_has, has_mark, mark_every, mark_ascends, mark_once, mark_settled, unsettled_one, mark_falls}
use Rattle.model.proofs.Keeping.{shown_among, done_more, Met, Welcome, inv_built, inv_met, Meets, meets}

-- composing leaves the amount as it is
module _ (P : Party) (makes : ℕ → Bool) (S : Tree → Type 0) where
  built_amount : {es : List Entry} {n : ℕ} {fs : List Entry} {m : ℕ} → Grows (Built P makes S) es n fs m → unsettled P fs ≤ unsettled P es
  built_amount stay = omega arith
  built_amount (pass g l) = built_amount g
  built_amount (join {fs = fs} g e a o l b) =
      let h = built_amount g in
      let k = unsettled_one P fs e in
      let z = nothing_more e.settled (size e.term) o.0 in
      omega arith
    where
      nothing_more : (b : Bool) (k : ℕ) → T b → cond b 0 k ≤ 0
      nothing_more true k t = omega arith
      nothing_more false k t = elim t [ ]

-- a one-way application shows nothing
shown_none : (b : Bool) (ts : Trees) (u : Tree) → T b → ¬ (u among (cond b none ts))
shown_none true ts u t i = i
shown_none false ts u t i = t

module _ (P : Party) (H S : Tree → Type 0) (whole : Whole S) where
  -- from a state in which `t` is marked and not yet done
  abbrev Marked : Tree → Role → Type 0
  Marked t s = Inv P H S (λ u. u ≡ t) s.known s.next

  -- to one in which it is, at most `k` is added to what is unsettled
  record Turned (s s' : Role) (k : ℕ) : Type 0 where
    inv : Kept P H S s'
    fewer : unsettled P s'.known ≤ unsettled P s.known + k
    keeps : Keeps s.known s'.known

  finish : (t : Tree) (es : List Entry) (n : ℕ) → Inv P H S (λ u. u ≡ t) es n → Done P es t → Inv P H S Nobody es n
  finish t es n v d = record {
    below = v.below;
    ascends = v.ascends;
    once = v.once;
    sound = v.sound;
    seen = v.seen;
    done = every_map (DoneAt P (λ u. u ≡ t) es) (DoneAt P Nobody es) now es v.done;
  }
    where
      now : (e : Entry) → DoneAt P (λ u. u ≡ t) es e → DoneAt P Nobody es e
      now e f b = elim (f b) [ inl p ↦ inr (subst⁻¹ (Done P es) p d) | inr c ↦ inr c ]

  -- a compound that shows its parts is opened
  opened : (r : ℕ) (h : Head) (ts : Trees) (s : Role) → Marked (node h ts) s → Has s.known (node h ts) → T (opens P h) → Turned s (open_parts P r h ts s) (sizes ts)
  unfolding open_parts
  opened r h ts s v k o = record {
    inv = finish (node h ts) _ _
        (subst⁻¹ (Inv P H S (λ u. u ≡ node h ts) _) m.next_same (inv_met P H S (λ u. u ≡ node h ts) m.grows v))
        (λ u i. m.has u (shown_among P h ts u i));
    fewer = m.amount;
    keeps = grows_has (Met (Welcome P H S)) m.grows;
  }
    where
      s₁ : Role
      s₁ = record { known = s.known; next = s.next + count ts; acts = s.acts ++ (split s.next (count ts) h r ∷ []) }

      m : Meets P (Welcome P H S) ts s.next s₁ (meet_all ts s.next s₁)
      m = meets P (Welcome P H S) ts s.next s₁ (λ u i. (part o (v.sound (node h ts) k) i, whole h ts (v.seen (node h ts) k) u i))

  unmade : (n : ℕ) → T (none_made n) → S (leaf n) → Derives P H (leaf n)
  unmade n m i = elim m [ ]

  -- a one-way application is built again
  checked : (r : ℕ) (f : ℕ) (ts : Trees) (s : Role) → Marked (node (applied f) ts) s → T (P.one_way f)
      → (c : ComposedAll) → GoodAll P none_made S s ts c → Turned s (check_again P r (applied f) c s) (sizes ts)
  unfolding check_again
  checked r f ts s v w (got_all s' rs) g = record {
    inv = finish (node (applied f) ts) _ _
        (inv_built P H S none_made unmade (λ u. u ≡ node (applied f) ts) (pass g.0 (omega arith)) v)
        (λ u i. absurd (shown_none (P.one_way f) ts u w i));
    fewer = let k = built_amount P none_made S g.0 in omega arith;
    keeps = grows_has (Built P none_made S) g.0;
  }
  checked r f ts s v w (lacks_one u) g = record {
    inv = finish (node (applied f) ts) _ _ v (λ u i. absurd (shown_none (P.one_way f) ts u w i));
    fewer = omega arith;
    keeps = λ u h. h;
  }

  -- a ciphertext is opened with its key
  unlocked : (r : ℕ) (t k : Tree) (s : Role) → Marked (crypt t k) s → Has s.known (crypt t k) → Composes P (Has s.known) k
      → (c : Composed) → Good P none_made S s k c → Turned s (open_text P r t c s) (sizes (more t (more k none)))
  unfolding open_text sizes
  unlocked r t k s v h c (got s' q) g = record {
    inv = finish (crypt t k) _ _
        (subst⁻¹ (Inv P H S (λ u. u ≡ crypt t k) _) m.next_same (inv_met P H S (λ u. u ≡ crypt t k) m.grows v'))
        m.has;
    fewer = let a = m.amount in let b = built_amount P none_made S g.0 in omega arith;
    keeps = λ u i. grows_has (Met (Welcome P H S)) m.grows u (grows_has (Built P none_made S) g.0 u i);
  }
    where
      v' : Marked (crypt t k) s'
      v' = inv_built P H S none_made unmade (λ u. u ≡ crypt t k) g.0 v

      x : Welcome P H S t
      x = (text (v.sound (crypt t k) h) (v'.sound k (held_has s'.known k q g.1)), whole crypted (more t (more k none)) (v.seen (crypt t k) h) t (inl refl))

      s₁ : Role
      s₁ = fill (λ y. unlock y r q) s'

      m : Meets P (Welcome P H S) (more t none) s'.next s₁ (meet_all (more t none) s'.next s₁)
      m = meets P (Welcome P H S) (more t none) s'.next s₁ (λ u. elim [ inl p ↦ subst⁻¹ (Welcome P H S) p x | inr i ↦ absurd i ])
  unlocked r t k s v h c (lacks u) g = absurd (g.2 (composes_map P (Has s.known) (Base none_made S s.known) (λ w i. inl i) c))

  turned_applied : (r : ℕ) (f : ℕ) (ts : Trees) (s : Role) → Marked (node (applied f) ts) s → Has s.known (node (applied f) ts) → (b : Bool) → (T b ↔ T (P.one_way f))
      → Turned s (cond b (check_again P r (applied f) (compose_all P none_made ts s) s) (open_parts P r (applied f) ts s)) (sizes ts)
  turned_applied r f ts s v h true q =
      checked r f ts s v (q.0 tt) (compose_all P none_made ts s) (good_all P none_made S whole ts s (whole (applied f) ts (v.seen (node (applied f) ts) h)))
  turned_applied r f ts s v h false q = opened r (applied f) ts s v h (not_T (P.one_way f) q.1)

  -- a compound that was due in `es`, before it was marked
  turned_node : (r : ℕ) (h : Head) (ts : Trees) (s : Role) (es : List Entry) → Marked (node h ts) s → Has s.known (node h ts) → Keeps es s.known → T (due_parts P h ts es)
      → Turned s (settle_node P r h ts s) (sizes ts)
  unfolding settle_node due_parts
  turned_node r tupled ts s es v h i d = opened r tupled ts s v h tt
  turned_node r (applied f) ts s es v h i d = turned_applied r f ts s v h (P.one_way f) Iff.rfl
  turned_node r crypted none s es v h i d = elim d [ ]
  turned_node r crypted (more t none) s es v h i d = elim d [ ]
  turned_node r crypted (more t (more k none)) s es v h i d =
      unlocked r t k s v h (composes_map P (Has es) (Has s.known) i (can_composes P es k d)) (compose P none_made k s)
      (good P none_made S whole k s (whole crypted (more t (more k none)) (v.seen (crypt t k) h) k (inr (inl refl))))
  turned_node r crypted (more t (more k (more u us))) s es v h i d = elim d [ ]

  -- an entry is marked: it alone need not be done
  marked_entry : (s : Role) (e : Entry) → Kept P H S s → Is s.known e → Marked e.term (marked e.at s)
  marked_entry s e v i = record {
    below = mark_every e.at (λ k. k < s.next) s.known v.below;
    ascends = mark_ascends e.at s.known v.ascends;
    once = mark_once e.at s.known v.once;
    sound = λ u h. v.sound u (mark_has e.at s.known u h);
    seen = λ u h. v.seen u (mark_has e.at s.known u h);
    done = mark_settled e.at (λ t. Nobody t ⊎ Done P s.known t) Now old s.known v.done
        (every_map (λ x. x.at ≡ e.at → x.term ≡ e.term) (λ x. x.at ≡ e.at → Now x.term) (λ x f p. inl (f p)) s.known (only_one s.known e v.ascends i));
  }
    where
      Now : Tree → Type 0
      Now t = (t ≡ e.term) ⊎ Done P (mark e.at s.known) t

      old : (t : Tree) → Nobody t ⊎ Done P s.known t → Now t
      old t (inl x) = absurd x
      old t (inr d) = inr (done_more P s.known (mark e.at s.known) (has_mark e.at s.known) t d)

  -- one turn
  pub record Turn (s s' : Role) : Type 0 where
    pub inv : Kept P H S s'
    pub falls : unsettled P s'.known < unsettled P s.known
    pub keeps : Keeps s.known s'.known

  turn_node : (e : Entry) (s : Role) (h : Head) (ts : Trees) → e.term ≡ node h ts → Kept P H S s → Is s.known e → T (not e.settled) → T (due_parts P h ts s.known)
      → Turn s (settle_node P e.at h ts (marked e.at s))
  unfolding size
  turn_node e s h ts p v i f d = record {
    inv = k.inv;
    falls = let a = k.fewer in let b = mark_falls P s.known e i f in let c : size e.term ≡ 1 + sizes ts = ap size p in omega arith;
    keeps = λ u x. k.keeps u (has_mark e.at s.known u x);
  }
    where
      m : Role
      m = marked e.at s

      has : Has m.known (node h ts)
      has = has_mark e.at s.known (node h ts) (subst (Has s.known) p (is_has s.known e i))

      k : Turned m (settle_node P e.at h ts m) (sizes ts)
      k = turned_node e.at h ts m s.known (subst (λ t. Marked t m) p (marked_entry s e v i)) has (has_mark e.at s.known) d

  pub turn : (e : Entry) (s : Role) → Kept P H S s → Is s.known e → T (due P s.known e) → Turn s (settle P e s)
  unfolding settle due
  turn e s v i d = go e.term refl (and_right (not e.settled) _ d)
    where
      go : (t : Tree) → e.term ≡ t → T (elim t [ leaf n ↦ false | node h ts ↦ due_parts P h ts s.known ])
          → Turn s (elim t [ leaf n ↦ s | node h ts ↦ settle_node P e.at h ts (marked e.at s) ])
      go (leaf n) p x = elim x [ ]
      go (node h ts) p x = turn_node e s h ts p v i (and_left (not e.settled) _ d) x
