-- Deduction by declared functions and counts, and readings by values that a store can hold: for declared terms they are those of the model.
use Rattle.std.proofs.Common.{◌≡◌, ℕ, ◌<◌, ◌≤◌, Bool, true, false, cond, T, eqb, ltb, ◌⊎◌, ◌↔◌, List, [], ◌∷◌, sym, refl, ap, ◌∙◌, subst, inl, inr, arith, ltb→lt, lt→ltb, eqb→eq}
use mathlib.Core.Path.{subst⁻¹}
use lib.Dec.{eqb_refl}
use Rattle.model.specs.Lists.{Every}
use Rattle.model.specs.Trees.{Head, tupled, crypted, applied, Tree, leaf, node, Trees, none, more, eq_tree, ◌among◌, map_trees, Shape}
use Rattle.model.specs.Deduction.{Party, Derives, held as has, build as builds, part as takes, text as reads}
use Rattle.model.specs.Roles.{count}
use Rattle.model.specs.Lives.{Holdings}
use Rattle.model.specs.Storable.{StorableAs, Storable, StorableAll}
use Rattle.model.specs.Readings.{OpenTo, shows as shown, unlocks as unlocked, rebuilds as rebuilt, Reading}
use Rattle.model.specs.Holdings.{Stock, TermOf, Readable}
use Rattle.model.specs.CountLaw.{Parts, Declared, DeclaredAll}
use Rattle.model.specs.Deducible.{Deducible, held, build, part, text, Open, shows, unlocks, rebuilds, Choice, ReadAsSpecified}
use Rattle.model.specs.DeductionLaw.{DeductionLaw}
use Rattle.model.proofs.Lists.{every_some}
use Rattle.model.proofs.Trees.{eq_tree_is, is_eq_tree, count_map}
use Rattle.model.proofs.Deduction.{Composes, known, compose, Saturated, complete}

every_both : {A : Type 0} (Q Q' Z : A → Type 0) → ((x : A) → Q x → Q' x → Z x) → (xs : List A) → Every Q xs → Every Q' xs → Every Z xs
every_both Q Q' Z f [] h k = tt
every_both Q Q' Z f (x ∷ xs) h k = (f x h.0 k.0, every_both Q Q' Z f xs h.1 k.1)

-- tests
abbrev Either : Type 0 → Type 0
Either Q = Q ⊎ (¬ Q)

both : {Q Z : Type 0} → Either Q → Either Z → Either (Q × Z)
both (inl q) (inl z) = inl (q, z)
both (inl q) (inr n) = inr (λ x. n x.1)
both (inr n) z = inr (λ x. n x.0)

below : (m n : ℕ) → Either (m < n)
below m n = go (ltb m n) refl
  where
    go : (b : Bool) → ltb m n ≡ b → Either (m < n)
    go true e = inl (ltb→lt m n (subst⁻¹ T e tt))
    go false e = inr (λ l. subst T e (lt→ltb m n l))

equal : (m n : ℕ) → Either (m ≡ n)
equal m n = go (eqb m n) refl
  where
    go : (b : Bool) → eqb m n ≡ b → Either (m ≡ n)
    go true e = inl (eqb→eq m n (subst⁻¹ T e tt))
    go false e = inr (λ q. subst T e (subst (λ k. T (eqb m k)) q (eqb_refl m)))

at_most_eight : (vs : Trees) → Either (count vs ≤ 8)
at_most_eight vs = go (below (count vs) 9)
  where
    go : Either (count vs < 9) → Either (count vs ≤ 8)
    go (inl l) = inl (omega arith)
    go (inr n) = inr (λ l. n (omega arith))

text_and_key : (vs : Trees) → Either (Shape crypted vs)
text_and_key none = inr (λ x. x)
text_and_key (more t none) = inr (λ x. x)
text_and_key (more t (more k none)) = inl tt
text_and_key (more t (more k (more u us))) = inr (λ x. x)

storable_as : (h : Head) (vs : Trees) → Either (StorableAs h vs)
storable_as tupled vs = at_most_eight vs
storable_as crypted vs = text_and_key vs
storable_as (applied f) vs = both (below f 256) (at_most_eight vs)

mutual
  storable : (v : Tree) → Either (Storable v)
  storable (leaf n) = below n 4294967296
  storable (node h vs) = both (storable_as h vs) (storable_all vs)

  storable_all : (vs : Trees) → Either (StorableAll vs)
  storable_all none = inl tt
  storable_all (more v vs) = both (storable v) (storable_all vs)

-- a compound with other parts, as many
keeps_count : (h : Head) (ts vs : Trees) → count vs ≡ count ts → StorableAs h ts → StorableAs h vs
keeps_count tupled ts vs e s = omega arith
keeps_count crypted none vs e s = elim s [ ]
keeps_count crypted (more t none) vs e s = elim s [ ]
keeps_count crypted (more t (more k none)) none e s = absurd (omega arith)
keeps_count crypted (more t (more k none)) (more v none) e s = absurd (omega arith)
keeps_count crypted (more t (more k none)) (more v (more w none)) e s = tt
keeps_count crypted (more t (more k none)) (more v (more w (more u us))) e s = absurd (omega arith)
keeps_count crypted (more t (more k (more u us))) vs e s = elim s [ ]
keeps_count (applied f) ts vs e s = let l = s.1 in (s.0, omega arith)

module _ (A : ℕ → ℕ) where
  has_parts : (h : Head) (n : ℕ) → Either (Parts A h n)
  has_parts tupled n = inl tt
  has_parts crypted n = equal n 2
  has_parts (applied f) n = equal n (A f)

  mutual
    is_declared : (t : Tree) → Either (Declared A t)
    is_declared (leaf n) = inl tt
    is_declared (node h ts) = both (has_parts h (count ts)) (all_declared ts)

    all_declared : (ts : Trees) → Either (DeclaredAll A ts)
    all_declared none = inl tt
    all_declared (more t ts) = both (is_declared t) (all_declared ts)

  declared_among : (ts : Trees) → DeclaredAll A ts → (t : Tree) → t among ts → Declared A t
  declared_among none d t i = elim i [ ]
  declared_among (more u us) d t (inl p) = subst⁻¹ (Declared A) p d.0
  declared_among (more u us) d t (inr i) = declared_among us d.1 t i

  module _ (P : Party) (H : Tree → Type 0) where
    derives : {t : Tree} → Deducible A P H t → Derives P H t
    derives (held h) = has h
    derives (build m p f) = builds m (λ t i. derives (f t i))
    derives (part o p d i) = takes o (derives d) i
    derives (text c d) = reads (derives c) (derives d)

    open_so : {t : Tree} → Open A P H t → OpenTo P H t
    open_so (shows o p) = shown o
    open_so (unlocks d) = unlocked (derives d)
    open_so (rebuilds m p f) = rebuilt m (λ t i. derives (f t i))

    pub deducible_map : (H' : Tree → Type 0) → ((u : Tree) → H u → H' u) → {t : Tree} → Deducible A P H t → Deducible A P H' t
    deducible_map H' f (held h) = held (f _ h)
    deducible_map H' f (build m p g) = build m p (λ u i. deducible_map H' f (g u i))
    deducible_map H' f (part o p d i) = part o p (deducible_map H' f d) i
    deducible_map H' f (text c d) = text (deducible_map H' f c) (deducible_map H' f d)

    module _ (all : (u : Tree) → H u → Declared A u) where
      -- what is declared and derives so
      abbrev Known : Tree → Type 0
      Known t = Deducible A P H t × Declared A t

      put_together : {t : Tree} → Composes P Known t → Declared A t → Deducible A P H t
      put_together (known k) d = k.0
      put_together (compose {ts = ts} m f) d = build m d.0 (λ t i. put_together (f t i) (declared_among ts d.1 t i))

      saturated : Saturated P Known
      saturated =
          record {
            parts = λ h ts t k o i. (part o k.1.0 k.0 i, declared_among ts k.1.1 t i);
            texts = λ t k c d. (text c.0 (put_together d c.1.1.1.0), c.1.1.0);
          }

      deducible : {t : Tree} → Derives P H t → Declared A t → Deducible A P H t
      deducible d = put_together (complete P H Known saturated (λ t h. (held h, all t h)) d)

      open_strictly : {t : Tree} → OpenTo P H t → Declared A t → Open A P H t
      open_strictly (shown o) d = shows o d.0
      open_strictly (unlocked k) d = unlocks (deducible k d.1.1.0)
      open_strictly (rebuilt {ts = ts} m f) d = rebuilds m d.0 (λ t i. deducible (f t i) (declared_among ts d.1 t i))

      -- a choice for what is declared, built on for all else
      module _ (R : Tree → Tree) (choice : Choice A P H R) where
        chosen : (t : Tree) → Either (Declared A t) → Tree → Tree
        chosen t (inl d) u = R t
        chosen t (inr n) u = u

        mutual
          built_on : Tree → Tree
          built_on (leaf n) = R (leaf n)
          built_on (node h ts) = chosen (node h ts) (is_declared (node h ts)) (node h (all_built_on ts))

          all_built_on : Trees → Trees
          all_built_on none = none
          all_built_on (more t ts) = more (built_on t) (all_built_on ts)

        built_each : (ts : Trees) → all_built_on ts ≡ map_trees built_on ts
        unfolding all_built_on
        built_each none = refl
        built_each (more t ts) = ap (more (built_on t)) (built_each ts)

        built_same : (t : Tree) → Declared A t → built_on t ≡ R t
        unfolding built_on chosen
        built_same (leaf n) d = refl
        built_same (node h ts) d = go (is_declared (node h ts))
          where
            go : (x : Either (Declared A (node h ts))) → chosen (node h ts) x (node h (all_built_on ts)) ≡ R (node h ts)
            go (inl y) = refl
            go (inr n) = absurd (n d)

        map_same : (ts : Trees) → DeclaredAll A ts → map_trees R ts ≡ map_trees built_on ts
        map_same none d = refl
        map_same (more t ts) d = λ i. more (sym (built_same t d.0) i) (map_same ts d.1 i)

        built_reading : Reading P H built_on
        unfolding built_on chosen
        built_reading h ts o = go (is_declared (node h ts))
          where
            go : (x : Either (Declared A (node h ts))) → chosen (node h ts) x (node h (all_built_on ts)) ≡ node h (map_trees built_on ts)
            go (inl d) = choice.built h ts (open_strictly o d) ∙ ap (node h) (map_same ts d.1)
            go (inr n) = ap (node h) (built_each ts)

    -- a reading, but with values that a store can hold
    module _ (R : Tree → Tree) (reading : Reading P H R) where
      or_zero : (v : Tree) → Either (Storable v) → Tree
      or_zero v (inl s) = v
      or_zero v (inr n) = leaf 0

      or_zero_kept : (v : Tree) (x : Either (Storable v)) → Storable (or_zero v x)
      unfolding or_zero
      or_zero_kept v (inl s) = s
      or_zero_kept v (inr n) = omega arith

      or_zero_same : (v : Tree) (x : Either (Storable v)) → Storable v → or_zero v x ≡ v
      unfolding or_zero
      or_zero_same v (inl s) k = refl
      or_zero_same v (inr n) k = absurd (n k)

      mutual
        kept : Tree → Tree
        kept (leaf n) = or_zero (R (leaf n)) (storable (R (leaf n)))
        kept (node h ts) = cond (eq_tree (R (node h ts)) (node h (map_trees R ts))) (node h (all_kept ts)) (or_zero (R (node h ts)) (storable (R (node h ts))))

        all_kept : Trees → Trees
        all_kept none = none
        all_kept (more t ts) = more (kept t) (all_kept ts)

      kept_each : (ts : Trees) → all_kept ts ≡ map_trees kept ts
      unfolding all_kept
      kept_each none = refl
      kept_each (more t ts) = ap (more (kept t)) (kept_each ts)

      mutual
        unfolding kept all_kept

        kept_storable : (t : Tree) → Storable t → Storable (kept t)
        kept_storable (leaf n) s = or_zero_kept (R (leaf n)) (storable (R (leaf n)))
        kept_storable (node h ts) s = go (eq_tree (R (node h ts)) (node h (map_trees R ts))) (all_kept_storable ts s.1)
          where
            go : (b : Bool) → StorableAll (all_kept ts) → Storable (cond b (node h (all_kept ts)) (or_zero (R (node h ts)) (storable (R (node h ts)))))
            go true k = (keeps_count h ts (all_kept ts) (ap count (kept_each ts) ∙ count_map kept ts) s.0, k)
            go false k = or_zero_kept (R (node h ts)) (storable (R (node h ts)))

        all_kept_storable : (ts : Trees) → StorableAll ts → StorableAll (all_kept ts)
        all_kept_storable none s = tt
        all_kept_storable (more t ts) s = (kept_storable t s.0, all_kept_storable ts s.1)

      mutual
        unfolding kept all_kept

        kept_same : (t : Tree) → Storable (R t) → kept t ≡ R t
        kept_same (leaf n) s = or_zero_same (R (leaf n)) (storable (R (leaf n))) s
        kept_same (node h ts) s = go (eq_tree (R (node h ts)) (node h (map_trees R ts))) (eq_tree_is (R (node h ts)) (node h (map_trees R ts))) (all_kept_same ts)
          where
            go : (b : Bool) → (T b → R (node h ts) ≡ node h (map_trees R ts)) → (StorableAll (map_trees R ts) → all_kept ts ≡ map_trees R ts)
                → cond b (node h (all_kept ts)) (or_zero (R (node h ts)) (storable (R (node h ts)))) ≡ R (node h ts)
            go true e f = let k : Storable (node h (map_trees R ts)) = subst Storable (e tt) s in ap (node h) (f k.1) ∙ sym (e tt)
            go false e f = or_zero_same (R (node h ts)) (storable (R (node h ts))) s

        all_kept_same : (ts : Trees) → StorableAll (map_trees R ts) → all_kept ts ≡ map_trees R ts
        all_kept_same none s = refl
        all_kept_same (more t ts) s = λ i. more (kept_same t s.0 i) (all_kept_same ts s.1 i)

      kept_choice : Choice A P H kept
      unfolding kept
      kept_choice = record { built = built; kept = kept_storable }
        where
          built : (h : Head) (ts : Trees) → Open A P H (node h ts) → kept (node h ts) ≡ node h (map_trees kept ts)
          built h ts o =
              subst⁻¹ (λ b. cond b (node h (all_kept ts)) (or_zero (R (node h ts)) (storable (R (node h ts)))) ≡ node h (map_trees kept ts))
              (is_true _ (is_eq_tree (R (node h ts)) (node h (map_trees R ts)) (reading h ts (open_so o))))
              (ap (node h) (kept_each ts))
            where
              is_true : (b : Bool) → T b → b ≡ true
              is_true true x = refl
              is_true false x = elim x [ ]

  module _ (P : Party) (h : Stock) (taken : Every (λ p. Declared A p.0 × Storable p.1) h.taken) (made : Every (λ p. p.1 < 4294967296) h.made) where
    terms_declared : (u : Tree) → TermOf h u → Declared A u
    terms_declared u (inl i) = every_some _ _ (Declared A u) (λ p d e. subst⁻¹ (Declared A) e d.0) h.taken taken i
    terms_declared u (inr i) = every_some _ _ (Declared A u) (λ p d e. subst⁻¹ (Declared A) e tt) h.made made i

    pub as_specified : Readable P h ↔ ReadAsSpecified A P h
    as_specified = (
      λ x. (
        kept P (TermOf h) x.0 x.1,
        kept_choice P (TermOf h) x.0 x.1,
        (
          every_both _ _ (λ p. kept P (TermOf h) x.0 x.1 p.0 ≡ p.1) (λ p d e. kept_same P (TermOf h) x.0 x.1 p.0 (subst⁻¹ Storable e d.1) ∙ e) h.taken taken x.2.0,
          every_both _ _ (λ p. kept P (TermOf h) x.0 x.1 (leaf p.0) ≡ leaf p.1) (λ p d e. kept_same P (TermOf h) x.0 x.1 (leaf p.0) (subst⁻¹ Storable e d) ∙ e) h.made made x.2.1,
        ),
      ),
      λ y. (
        built_on P (TermOf h) terms_declared y.0 y.1,
        built_reading P (TermOf h) terms_declared y.0 y.1,
        (
          every_both _ _ (λ p. built_on P (TermOf h) terms_declared y.0 y.1 p.0 ≡ p.1) (λ p d e. built_same P (TermOf h) terms_declared y.0 y.1 p.0 d.0 ∙ e) h.taken taken y.2.0,
          every_both _ _ (λ p. built_on P (TermOf h) terms_declared y.0 y.1 (leaf p.0) ≡ leaf p.1) (λ p d e. built_same P (TermOf h) terms_declared y.0 y.1 (leaf p.0) tt ∙ e) h.made made y.2.1,
        ),
      ),
    )

pub deduction_law : DeductionLaw
deduction_law =
    record {
      terms = λ A P l all t d. ((λ x. deducible A P (Holdings l) all x d), λ x. derives A P (Holdings l) x);
      readings = λ A P h taken made. as_specified A P h taken made;
    }
