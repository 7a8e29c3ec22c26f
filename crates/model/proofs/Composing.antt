-- Composing succeeds exactly where a term composes, and adds only what composes.
use Rattle.std.proofs.Common.{◌≡◌, ℕ, ◌≤◌, Bool, true, false, cond, ◌&&◌, T, ◌⊎◌, ◌↔◌, List, refl, inl, inr, arith}
use mathlib.Core.Logic.Iff
use mathlib.Core.Option.{Option, none as nothing, some}
use mathlib.Core.Path.{subst⁻¹}
use Rattle.model.specs.Trees.{Head, Tree, leaf, node, Trees, none, more, ◌among◌, size, sizes}
use Rattle.model.specs.Deduction.{Party, may}
use Rattle.model.specs.Roles.{new, Entry, Role, find, fill, enter, Composed, got, lacks, ComposedAll, got_all, lacks_one, and_then, put_together, compose, compose_all, knows, can, can_all}
use Rattle.model.specs.Entries.{Has, Held}
use Rattle.model.specs.Lives.{Fresh}
use Rattle.model.proofs.Tests.{or_cases, or_left, or_right, and_both, and_left, and_right}
use Rattle.model.proofs.Deduction.{Composes, known, compose as built}
use Rattle.model.proofs.Entries.{entry, with_one, held_has, Found, found, knows_has, has_old, held_new, has_split}
use Rattle.model.proofs.Growing.{Grows, stay, pass, join, grows_trans, grows_has, grows_all}

-- more is known, more composes
module _ (P : Party) (K L : Tree → Type 0) where
  pub composes_bind : ((u : Tree) → K u → Composes P L u) → {t : Tree} → Composes P K t → Composes P L t
  composes_bind f (known k) = f _ k
  composes_bind f (built m g) = built m (λ u i. composes_bind f (g u i))

  pub composes_map : ((u : Tree) → K u → L u) → {t : Tree} → Composes P K t → Composes P L t
  composes_map f = composes_bind (λ u k. known (f u k))

-- `can` is true exactly where the term composes from the list
module _ (P : Party) (es : List Entry) where
  mutual
    unfolding can

    pub can_composes : (t : Tree) → T (can P t es) → Composes P (Has es) t
    can_composes (leaf n) h = known ((knows_has es (leaf n)).0 h)
    can_composes (node h ts) c =
        elim (or_cases (knows es (node h ts)) (may P h && can_all P ts es) c) [
          | inl k ↦ known ((knows_has es (node h ts)).0 k)
          | inr b ↦ built (and_left (may P h) (can_all P ts es) b) (can_all_composes ts (and_right (may P h) (can_all P ts es) b))
        ]

    pub can_all_composes : (ts : Trees) → T (can_all P ts es) → (t : Tree) → t among ts → Composes P (Has es) t
    can_all_composes none c t i = elim i [ ]
    can_all_composes (more u us) c t (inl p) = subst⁻¹ (Composes P (Has es)) p (can_composes u (and_left (can P u es) (can_all P us es) c))
    can_all_composes (more u us) c t (inr i) = can_all_composes us (and_right (can P u es) (can_all P us es) c) t i

  can_known : (t : Tree) → Has es t → T (can P t es)
  unfolding can
  can_known (leaf n) h = (knows_has es (leaf n)).1 h
  can_known (node h ts) k = or_left (knows es (node h ts)) (may P h && can_all P ts es) ((knows_has es (node h ts)).1 k)

  can_all_of : (ts : Trees) → ((t : Tree) → t among ts → T (can P t es)) → T (can_all P ts es)
  unfolding can
  can_all_of none f = tt
  can_all_of (more u us) f = and_both (can P u es) (can_all P us es) (f u (inl refl)) (can_all_of us (λ t i. f t (inr i)))

  pub composes_can : {t : Tree} → Composes P (Has es) t → T (can P t es)
  unfolding can
  composes_can (known k) = can_known _ k
  composes_can (built {h = h} {ts = ts} m f) =
      or_right (knows es (node h ts)) (may P h && can_all P ts es) (and_both (may P h) (can_all P ts es) m (can_all_of ts (λ t i. composes_can (f t i))))

-- what may be made of a list: a name to be made here, a compound of what the list has
abbrev pub Makable : Party → (ℕ → Bool) → List Entry → Tree → Type 0
Makable P makes es (leaf n) = T (makes n)
Makable P makes es (node h ts) = T (may P h) × ((u : Tree) → u among ts → Has es u)

-- what composing starts from
abbrev pub Base : (ℕ → Bool) → (Tree → Type 0) → List Entry → Tree → Type 0
Base makes S es u = Has es u ⊎ Fresh makes S u

-- with a term its parts
abbrev pub Whole : (Tree → Type 0) → Type 0
Whole S = (h : Head) (ts : Trees) → S (node h ts) → (u : Tree) → u among ts → S u

-- every tree
abbrev pub AnyTree : Tree → Type 0
AnyTree t = Unit {0}

-- what joins in composing: settled, within `S`, and made of the list
abbrev pub Built : Party → (ℕ → Bool) → (Tree → Type 0) → List Entry → Entry → Type 0
Built P makes S es e = T e.settled × S e.term × Makable P makes es e.term

-- what joins is no larger than a bound
abbrev pub Small : List Entry → List Entry → ℕ → Type 0
Small es fs k = (u : Tree) → Has fs u → Has es u ⊎ (size u ≤ k)

pub small_one : (es fs : List Entry) (e : Entry) (k : ℕ) → size e.term ≤ k → Small es fs k → Small es (with_one fs e) k
small_one es fs e k l f u h =
    elim (has_split fs e u h) [
      | inl a ↦ f u a
      | inr p ↦ inr (subst⁻¹ (λ v. size v ≤ k) p l)
    ]

module _ (P : Party) (makes : ℕ → Bool) (S : Tree → Type 0) where
  -- what is promised of composing a term in a state: it is known then, and what joined was built;
  -- or what is reported does not compose, and nor does the term
  abbrev pub Good : Role → Tree → Composed → Type 0
  Good s t (got s' r) = Grows (Built P makes S) s.known s.next s'.known s'.next × Held s'.known t r × Small s.known s'.known (size t)
  Good s t (lacks u) = S u × (¬ Composes P (Base makes S s.known) u) × (¬ Composes P (Base makes S s.known) t)

  abbrev pub GoodAll : Role → Trees → ComposedAll → Type 0
  GoodAll s ts (got_all s' rs) =
      Grows (Built P makes S) s.known s.next s'.known s'.next × ((u : Tree) → u among ts → Has s'.known u) × Small s.known s'.known (sizes ts)
  GoodAll s ts (lacks_one u) = S u × (¬ Composes P (Base makes S s.known) u) × (¬ ((t : Tree) → t among ts → Composes P (Base makes S s.known) t))

  -- a term that is known
  good_known : (s : Role) (t : Tree) (r : ℕ) → Held s.known t r → Good s t (got s r)
  good_known s t r h = (stay, h, λ u k. inl k)

  -- a name that is not known: it is made, or it is lacking
  good_name : (s : Role) (n : ℕ) → S (leaf n) → ¬ Has s.known (leaf n) → (b : Bool) → (T b ↔ T (makes n))
      → Good s (leaf n) (cond b (got (enter (leaf n) s.next true (fill new s)) s.next) (lacks (leaf n)))
  good_name s n i a true q =
      let e : Entry = entry (leaf n) s.next true in (
        join stay e a (tt, i, q.0 tt) (omega arith) (omega arith),
        held_new s.known e,
        small_one s.known s.known e (size (leaf n)) (omega arith) (λ u h. inl h),
      )
  good_name s n i a false q = (i, never, never)
    where
      never : ¬ Composes P (Base makes S s.known) (leaf n)
      never (known (inl h)) = a h
      never (known (inr m)) = q.1 m.0

  good_leaf : (s : Role) (n : ℕ) → S (leaf n) → Good s (leaf n) (compose P makes (leaf n) s)
  unfolding compose
  good_leaf s n i = go (find (leaf n) s.known) (found s.known (leaf n))
    where
      go : (o : Option ℕ) → Found s.known (leaf n) o
          → Good s (leaf n) (elim o [ some r ↦ got s r | nothing ↦ cond (makes n) (got (enter (leaf n) s.next true (fill new s)) s.next) (lacks (leaf n)) ])
      go (some r) f = good_known s (leaf n) r f
      go nothing f = good_name s n i f (makes n) Iff.rfl

  -- a compound that is not known, of parts that were composed
  good_put : (s : Role) (h : Head) (ts : Trees) → S (node h ts) → T (may P h) → ¬ Has s.known (node h ts) → (c : ComposedAll) → GoodAll s ts c
      → Good s (node h ts) (put_together h ts c)
  unfolding size
  good_put s h ts i m a (got_all s' rs) g =
      let e : Entry = entry (node h ts) s'.next true in (
        join g.0 e lacking (tt, i, (m, g.1)) (omega arith) (omega arith),
        held_new s'.known e,
        small_one s.known s'.known e (size (node h ts)) (omega arith) wider,
      )
    where
      -- what joined with the parts is smaller
      lacking : ¬ Has s'.known (node h ts)
      lacking k = elim (g.2 (node h ts) k) [ inl b ↦ a b | inr l ↦ omega arith ]

      wider : Small s.known s'.known (size (node h ts))
      wider u k = elim (g.2 u k) [ inl b ↦ inl b | inr l ↦ inr (omega arith) ]
  good_put s h ts i m a (lacks_one u) g = (g.0, g.1, never)
    where
      never : ¬ Composes P (Base makes S s.known) (node h ts)
      never (known (inl k)) = a k
      never (known (inr k)) = k
      never (built n f) = g.2 f

  -- the right is looked at first
  good_right : (s : Role) (h : Head) (ts : Trees) → S (node h ts) → ¬ Has s.known (node h ts) → (c : ComposedAll) → GoodAll s ts c → (b : Bool) → (T b ↔ T (may P h))
      → Good s (node h ts) (cond b (put_together h ts c) (lacks (node h ts)))
  good_right s h ts i a c g true q = good_put s h ts i (q.0 tt) a c g
  good_right s h ts i a c g false q = (i, never, never)
    where
      never : ¬ Composes P (Base makes S s.known) (node h ts)
      never (known (inl x)) = a x
      never (known (inr x)) = x
      never (built m f) = q.1 m

  good_node : (s : Role) (h : Head) (ts : Trees) → S (node h ts) → GoodAll s ts (compose_all P makes ts s) → Good s (node h ts) (compose P makes (node h ts) s)
  unfolding compose
  good_node s h ts i g = go (find (node h ts) s.known) (found s.known (node h ts))
    where
      go : (o : Option ℕ) → Found s.known (node h ts) o
          → Good s (node h ts) (elim o [ some r ↦ got s r | nothing ↦ cond (may P h) (put_together h ts (compose_all P makes ts s)) (lacks (node h ts)) ])
      go (some r) f = good_known s (node h ts) r f
      go nothing f = good_right s h ts i f (compose_all P makes ts s) g (may P h) Iff.rfl

  -- the parts in order: the first, then the others from the state that it left
  good_then : (s s' : Role) (t : Tree) (r : ℕ) (ts : Trees) → Good s t (got s' r) → (c : ComposedAll) → GoodAll s' ts c → GoodAll s (more t ts) (and_then r c)
  unfolding size
  good_then s s' t r ts g (got_all s'' rs) k = (grows_trans (Built P makes S) g.0 k.0, has, small)
    where
      has : (u : Tree) → u among (more t ts) → Has s''.known u
      has u (inl p) = subst⁻¹ (Has s''.known) p (grows_has (Built P makes S) k.0 t (held_has s'.known t r g.1))
      has u (inr i) = k.1 u i

      small : Small s.known s''.known (sizes (more t ts))
      small u h =
          elim (k.2 u h) [
            | inl a ↦ elim (g.2 u a) [ inl b ↦ inl b | inr l ↦ inr (omega arith) ]
            | inr l ↦ inr (omega arith)
          ]
  good_then s s' t r ts g (lacks_one u) k = (k.0, (λ c. k.1 (later u c)), λ f. k.2 (λ v i. later v (f v (inr i))))
    where
      later : (v : Tree) → Composes P (Base makes S s.known) v → Composes P (Base makes S s'.known) v
      later v = composes_map P (Base makes S s.known) (Base makes S s'.known) (λ w. elim [ inl h ↦ inl (grows_has (Built P makes S) g.0 w h) | inr m ↦ inr m ])

  good_more : (s : Role) (t : Tree) (ts : Trees) (c : Composed) → Good s t c → ((s' : Role) → GoodAll s' ts (compose_all P makes ts s'))
      → GoodAll s (more t ts) (elim c [ got s' r ↦ and_then r (compose_all P makes ts s') | lacks u ↦ lacks_one u ])
  good_more s t ts (got s' r) g f = good_then s s' t r ts g (compose_all P makes ts s') (f s')
  good_more s t ts (lacks u) g f = (g.0, g.1, λ k. g.2 (k t (inl refl)))

  -- composing keeps its promise, for a term within `S`
  module _ (whole : Whole S) where
    mutual
      unfolding compose

      pub good : (t : Tree) (s : Role) → S t → Good s t (compose P makes t s)
      good (leaf n) s i = good_leaf s n i
      good (node h ts) s i = good_node s h ts i (good_all ts s (whole h ts i))

      pub good_all : (ts : Trees) (s : Role) → ((u : Tree) → u among ts → S u) → GoodAll s ts (compose_all P makes ts s)
      good_all none s i = (stay, (λ u k. elim k [ ]), λ u k. inl k)
      good_all (more t ts) s i = good_more s t ts (compose P makes t s) (good t s (i t (inl refl))) (λ s'. good_all ts s' (λ u k. i u (inr k)))

  -- what has joined composes from what was known before, and so does all that it composes
  pub joined_composes : {es : List Entry} {n : ℕ} {fs : List Entry} {m : ℕ} → Grows (Built P makes S) es n fs m → (u : Tree) → Has fs u → Composes P (Base makes S es) u
  joined_composes {es = es} g = grows_all (Built P makes S) (Composes P (Base makes S es)) (λ gs e f b. made gs f e.term b.1 b.2) g (λ u h. known (inl h))
    where
      made : (gs : List Entry) → ((u : Tree) → Has gs u → Composes P (Base makes S es) u) → (t : Tree) → S t → Makable P makes gs t → Composes P (Base makes S es) t
      made gs f (leaf n) i m = known (inr (m, i))
      made gs f (node h ts) i m = built m.0 (λ u j. f u (m.1 u j))

  -- what joins has its parts with it
  pub joined_parts : {es : List Entry} {n : ℕ} {fs : List Entry} {m : ℕ} → Grows (Built P makes S) es n fs m
      → (h : Head) (ts : Trees) → Has fs (node h ts) → Has es (node h ts) ⊎ ((u : Tree) → u among ts → Has fs u)
  joined_parts stay h ts k = inl k
  joined_parts (pass g l) h ts k = joined_parts g h ts k
  joined_parts {es = es} (join {fs = fs} g e a o l b) h ts k = last (has_split fs e (node h ts) k) (joined_parts g h ts)
    where
      Parts : List Entry → Type 0
      Parts gs = (u : Tree) → u among ts → Has gs u

      last : Has fs (node h ts) ⊎ (node h ts ≡ e.term) → (Has fs (node h ts) → Has es (node h ts) ⊎ Parts fs) → Has es (node h ts) ⊎ Parts (with_one fs e)
      last (inl x) f = elim (f x) [ inl y ↦ inl y | inr y ↦ inr (λ u i. has_old fs e u (y u i)) ]
      last (inr p) f = inr (λ u i. has_old fs e u ((subst⁻¹ (Makable P makes fs) p o.2).1 u i))
