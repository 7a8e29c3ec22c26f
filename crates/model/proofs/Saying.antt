-- To say, after a life: it succeeds exactly if the term derives, and what it leaves has all of the longer life.
use Rattle.std.proofs.Common.{◌≡◌, ℕ, Bool, true, false, not, ◌&&◌, T, ◌⊎◌, ◌↔◌, List, sym, refl, ap, subst, inl, inr, T_not}
use Rattle.model.specs.Lists.{Every}
use Rattle.model.specs.Trees.{Head, tupled, crypted, applied, Tree, leaf, node, Trees, none, more, crypt, ◌among◌, Within, itself, inside}
use Rattle.model.specs.Deduction.{Party, may, opens, Derives, held}
use Rattle.model.specs.Roles.{say, Entry, Role, act, Composed, got, lacks, compose, can, can_all, due_parts, due, Said, spoke, failed, say_composed, said}
use Rattle.model.specs.Entries.{Has}
use Rattle.model.specs.Keeping.{Inv, Nobody, Kept}
use Rattle.model.specs.Lives.{Life, says, Holdings, New}
use Rattle.model.proofs.Tests.{or_cases, or_left, or_right, and_both, and_left, and_right}
use Rattle.model.proofs.Trees.{within_trans, within_part}
use Rattle.model.proofs.Deduction.{Composes, known, compose as built, Saturated, complete}
use Rattle.model.proofs.Entries.{Keeps, held_has, every_both, has_every}
use Rattle.model.proofs.Growing.{Grows, grows_has, grows_every}
use Rattle.model.proofs.Composing.{composes_bind, can_composes, composes_can, Base, Built, Good, good, joined_composes, joined_parts}
use Rattle.model.proofs.Keeping.{inv_built}
use Rattle.model.proofs.Lived.{Seen, seen_whole, kept_more, Lived}

abbrev pub IsFailed : Said → Type 0
IsFailed (spoke s) = ⊥
IsFailed (failed u) = Unit {0}

abbrev pub failed_at : Said → Tree
failed_at (spoke s) = leaf 0
failed_at (failed u) = u

-- what is reported is a part of the tree, or the tree
pub fails_within : (P : Party) (makes : ℕ → Bool) (t : Tree) (s : Role) (u : Tree) → said P makes t s ≡ failed u → Within u t
unfolding said
fails_within P makes t s u = go (compose P makes t s) (good P makes (λ v. Within v t) (λ h ts w x i. within_part h ts t w x i) t s itself)
  where
    go : (c : Composed) → Good P makes (λ v. Within v t) s t c → say_composed c ≡ failed u → Within u t
    go (got s' r) g e = absurd (subst IsFailed (sym e) tt)
    go (lacks w) g e = subst (λ x. Within x t) (ap failed_at e) g.0

-- what composing starts from in a say: the list, and the names made now
abbrev pub Source : Life → (ℕ → Bool) → Tree → Role → Tree → Type 0
Source l makes t s = Base makes (Seen (says l makes t)) s.known

-- what the list becomes in composing
abbrev pub Became : Party → Life → (ℕ → Bool) → Tree → Role → List Entry → ℕ → Type 0
Became P l makes t s fs m = Grows (Built P makes (Seen (says l makes t))) s.known s.next fs m

-- saying, after a life
module _ (P : Party) (l : Life) (s : Role) (v : Lived P l s) (makes : ℕ → Bool) (new : New l makes) (t : Tree) where
  -- a name made now stands in no term seen before
  not_before : (u : Tree) → Seen l u → (n : ℕ) → T (makes n) → ¬ Within (leaf n) u
  not_before u k n m w = new n m k.0 k.1 (within_trans w k.2)

  -- it stands in this tree
  seen_here : (n : ℕ) → T (makes n) → Seen (says l makes t) (leaf n) → Within (leaf n) t
  seen_here n m (u, inl q, w) = absurd (new n m u q w)
  seen_here n m (u, inr p, w) = subst (Within (leaf n)) p w

  -- a term without it composes from what was known before
  strip : {u : Tree} → ((n : ℕ) → T (makes n) → ¬ Within (leaf n) u) → Composes P (Source l makes t s) u → Composes P (Has s.known) u
  strip f (known (inl h)) = known h
  strip {u = leaf n} f (known (inr m)) = absurd (f n m.0 itself)
  strip {u = node h ts} f (known (inr m)) = absurd m
  strip f (built m g) = built m (λ u i. strip (λ n k w. f n k (inside i w)) (g u i))

  -- so the names made now open nothing that was known before
  opened_before : (u k : Tree) → Has s.known (crypt u k) → Composes P (Source l makes t s) k → Has s.known u
  opened_before u k h c = v.sat.texts u k h (strip (not_before k key) c)
    where
      key : Seen l k
      key = seen_whole l crypted (more u (more k none)) (v.inv.seen (crypt u k) h) k (inr (inl refl))

  -- the source is saturated, and has all that is held
  source_saturated : Saturated P (Source l makes t s)
  source_saturated = record { parts = parts; texts = texts }
    where
      parts : (h : Head) (ts : Trees) (u : Tree) → Source l makes t s (node h ts) → T (opens P h) → u among ts → Source l makes t s u
      parts h ts u (inl k) o i = inl (v.sat.parts h ts u k o i)
      parts h ts u (inr k) o i = elim k [ ]

      texts : (u k : Tree) → Source l makes t s (crypt u k) → Composes P (Source l makes t s) k → Source l makes t s u
      texts u k (inl h) c = inl (opened_before u k h c)
      texts u k (inr h) c = elim h [ ]

  source_all : (u : Tree) → Holdings (says l makes t) u → Source l makes t s u
  source_all u (inl h) = inl (v.all u h)
  source_all (leaf n) (inr m) = inr (m.0, (t, inr refl, m.1))
  source_all (node h ts) (inr m) = elim m [ ]

  -- what is derivable composes
  pub derivable_composes : {u : Tree} → Derives P (Holdings (says l makes t)) u → Composes P (Source l makes t s) u
  derivable_composes = complete P (Holdings (says l makes t)) (Source l makes t s) source_saturated source_all

  pub composed_good : Good P makes (Seen (says l makes t)) s t (compose P makes t s)
  composed_good = good P makes (Seen (says l makes t)) (seen_whole (says l makes t)) t s (t, inr refl, itself)

  -- what has joined is derivable
  pub inv_after : {fs : List Entry} {m : ℕ} → Became P l makes t s fs m → Inv P (Holdings (says l makes t)) (Seen (says l makes t)) Nobody fs m
  inv_after g = inv_built P (Holdings (says l makes t)) (Seen (says l makes t)) makes (λ n m k. held (inr (m, seen_here n m k))) Nobody g before
    where
      before : Kept P (Holdings (says l makes t)) (Seen (says l makes t)) s
      before = kept_more P (Holdings l) (Holdings (says l makes t)) (Seen l) (Seen (says l makes t)) (λ u h. inl h) (λ u k. (k.0, inl k.1, k.2)) s v.inv

  -- the names made now join with the term
  made_joins : {fs : List Entry} {m : ℕ} → Became P l makes t s fs m → (n : ℕ) → T (makes n) → {u : Tree} → Within (leaf n) u → Has fs u → Has fs (leaf n)
  made_joins g n m itself h = h
  made_joins {fs = fs} g n m (inside {h = k} {ts = ts} {u = u} i w) h = joins (joined_parts P makes (Seen (says l makes t)) g k ts h) (made_joins g n m w)
    where
      joins : Has s.known (node k ts) ⊎ ((x : Tree) → x among ts → Has fs x) → (Has fs u → Has fs (leaf n)) → Has fs (leaf n)
      joins (inl x) f = absurd (not_before (node k ts) (v.inv.seen (node k ts) x) n m (inside i w))
      joins (inr x) f = f (x u i)

  -- what was said leaves the list saturated
  saturated_after : {fs : List Entry} {m : ℕ} → Became P l makes t s fs m → Saturated P (Has fs)
  saturated_after {fs = fs} g = record { parts = parts; texts = texts }
    where
      S : Tree → Type 0
      S = Seen (says l makes t)

      keeps : Keeps s.known fs
      keeps = grows_has (Built P makes S) g

      before : {k : Tree} → Composes P (Has fs) k → Composes P (Source l makes t s) k
      before = composes_bind P (Has fs) (Source l makes t s) (joined_composes P makes S g)

      parts : (h : Head) (ts : Trees) (u : Tree) → Has fs (node h ts) → T (opens P h) → u among ts → Has fs u
      parts h ts u k o i = elim (joined_parts P makes S g h ts k) [ inl x ↦ keeps u (v.sat.parts h ts u x o i) | inr f ↦ f u i ]

      texts : (u k : Tree) → Has fs (crypt u k) → Composes P (Has fs) k → Has fs u
      texts u k h c = elim (joined_parts P makes S g crypted (more u (more k none)) h) [ inl x ↦ keeps u (opened_before u k x (before c)) | inr f ↦ f u (inl refl) ]

  -- what is due after the say was due before: the names made now stand in no key, and in no part, of what was known
  composed_before : {fs : List Entry} {m : ℕ} → Became P l makes t s fs m → (u : Tree) → Seen l u → T (can P u fs) → T (can P u s.known)
  composed_before {fs = fs} g u x c =
      composes_can P s.known (strip (not_before u x)
      (composes_bind P (Has fs) (Source l makes t s) (joined_composes P makes (Seen (says l makes t)) g) (can_composes P fs u c)))

  all_before : {fs : List Entry} {m : ℕ} → Became P l makes t s fs m → (us : Trees) → ((u : Tree) → u among us → Seen l u) → T (can_all P us fs) → T (can_all P us s.known)
  unfolding can
  all_before g none x c = tt
  all_before {fs = fs} g (more u us) x c =
      and_both (can P u s.known) (can_all P us s.known) (composed_before g u (x u (inl refl)) (and_left (can P u fs) (can_all P us fs) c))
      (all_before g us (λ v i. x v (inr i)) (and_right (can P u fs) (can_all P us fs) c))

  due_before : {fs : List Entry} {m : ℕ} → Became P l makes t s fs m → (h : Head) (us : Trees) → Seen l (node h us) → T (due_parts P h us fs) → T (due_parts P h us s.known)
  unfolding due_parts
  due_before g tupled us x d = tt
  due_before {fs = fs} g (applied f) us x d =
      elim (or_cases (not (P.one_way f)) (may P (applied f) && can_all P us fs) d) [
        | inl o ↦ or_left (not (P.one_way f)) (may P (applied f) && can_all P us s.known) o
        | inr c ↦ or_right (not (P.one_way f)) (may P (applied f) && can_all P us s.known)
            (and_both (may P (applied f)) (can_all P us s.known) (and_left (may P (applied f)) (can_all P us fs) c)
            (all_before g us (seen_whole l (applied f) us x) (and_right (may P (applied f)) (can_all P us fs) c)))
      ]
  due_before g crypted none x d = d
  due_before g crypted (more u none) x d = d
  due_before g crypted (more u (more k none)) x d = composed_before g k (seen_whole l crypted (more u (more k none)) x k (inr (inl refl))) d
  due_before g crypted (more u (more k (more w ws))) x d = d

  rest_after : {fs : List Entry} {m : ℕ} → Became P l makes t s fs m → Every (λ e. ¬ T (due P fs e)) fs
  unfolding due
  rest_after {fs = fs} g =
      grows_every (Built P makes (Seen (says l makes t))) (λ e. ¬ T (due P fs e)) fs (λ gs e f b. joined e b.0) g
      (every_both (λ e. ¬ T (due P s.known e)) (λ e. Seen l e.term) (λ e. ¬ T (due P fs e)) old s.known v.rest (has_every (Seen l) s.known v.inv.seen))
      (λ u h. h)
    where
      -- what joined is settled
      joined : (e : Entry) → T e.settled → ¬ T (due P fs e)
      joined e b d = T_not e.settled (and_left (not e.settled) _ d) b

      old : (e : Entry) → ¬ T (due P s.known e) → Seen l e.term → ¬ T (due P fs e)
      old e n x d = go e.settled e.term n x d
        where
          go : (b : Bool) (u : Tree) → ¬ T (not b && elim u [ leaf n ↦ false | node h ts ↦ due_parts P h ts s.known ]) → Seen l u
              → ¬ T (not b && elim u [ leaf n ↦ false | node h ts ↦ due_parts P h ts fs ])
          go true u n x d = d
          go false (leaf a) n x d = d
          go false (node h us) n x d = n (due_before g h us x d)

  pub lived_say : (s' : Role) (r : ℕ) → Good P makes (Seen (says l makes t)) s t (got s' r) → Lived P (says l makes t) s'
  lived_say s' r g = record { inv = inv_after g.0; all = all; sat = saturated_after g.0; rest = rest_after g.0 }
    where
      all : (u : Tree) → Holdings (says l makes t) u → Has s'.known u
      all u (inl h) = grows_has (Built P makes (Seen (says l makes t))) g.0 u (v.all u h)
      all (leaf n) (inr m) = made_joins g.0 n m.0 m.1 (held_has s'.known t r g.1)
      all (node h ts) (inr m) = elim m [ ]

  -- the theorem, for a state that has all of a life
  pub said_iff : ((s' : Role) × (said P makes t s ≡ spoke s')) ↔ Derives P (Holdings (says l makes t)) t
  unfolding said
  said_iff = go (compose P makes t s) composed_good
    where
      go : (c : Composed) → Good P makes (Seen (says l makes t)) s t c → ((s' : Role) × (say_composed c ≡ spoke s')) ↔ Derives P (Holdings (says l makes t)) t
      go (got s' r) g = ((λ e. (inv_after g.0).sound t (held_has s'.known t r g.1)), λ d. (act (say r) s', refl))
      go (lacks u) g = ((λ e. absurd (subst IsFailed e.1 tt)), λ d. absurd (g.2 (derivable_composes d)))

  pub said_fails : (u : Tree) → said P makes t s ≡ failed u → ¬ Derives P (Holdings (says l makes t)) u
  unfolding said
  said_fails u = go (compose P makes t s) composed_good
    where
      go : (c : Composed) → Good P makes (Seen (says l makes t)) s t c → say_composed c ≡ failed u → ¬ Derives P (Holdings (says l makes t)) u
      go (got s' r) g e = absurd (subst IsFailed (sym e) tt)
      go (lacks w) g e = subst (λ x. ¬ Derives P (Holdings (says l makes t)) x) (ap failed_at e) (λ d. g.1 (derivable_composes d))
