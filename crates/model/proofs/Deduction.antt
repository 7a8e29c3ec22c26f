-- From a saturated list whatever derives composes; more is held, more is derivable.
use Rattle.std.proofs.Common.{T, refl, inl}
use Rattle.model.specs.Trees.{Head, Tree, node, Trees, crypt, ◌among◌}
use Rattle.model.specs.Deduction.{Party, may, opens, Derives, held, build, part, text}

-- what can be put together from what is known, taking nothing apart
pub data Composes (P : Party) (K : Tree → Type 0) : Tree → Type 0 where
  known : {t : Tree} → K t → Composes P K t
  compose : {h : Head} {ts : Trees} → T (may P h) → ((t : Tree) → t among ts → Composes P K t) → Composes P K (node h ts)

pub record Saturated (P : Party) (K : Tree → Type 0) : Type 0 where
  pub parts : (h : Head) (ts : Trees) (t : Tree) → K (node h ts) → T (opens P h) → t among ts → K t
  pub texts : (t k : Tree) → K (crypt t k) → Composes P K k → K t

module _ (P : Party) (H K : Tree → Type 0) (sat : Saturated P K) (all : (t : Tree) → H t → K t) where
  from_part : (h : Head) (ts : Trees) (t : Tree) → T (opens P h) → Composes P K (node h ts) → t among ts → Composes P K t
  from_part h ts t o (known k) i = known (sat.parts h ts t k o i)
  from_part h ts t o (compose m f) i = f t i

  from_text : (t k : Tree) → Composes P K (crypt t k) → Composes P K k → Composes P K t
  from_text t k (known c) d = known (sat.texts t k c d)
  from_text t k (compose m f) d = f t (inl refl)

  pub complete : {t : Tree} → Derives P H t → Composes P K t
  complete (held h) = known (all _ h)
  complete (build m f) = compose m (λ t i. complete (f t i))
  complete (part o d i) = from_part _ _ _ o (complete d) i
  complete (text c d) = from_text _ _ (complete c) (complete d)

-- more is held, more is derivable
pub derives_map : (P : Party) (H H' : Tree → Type 0) → ((u : Tree) → H u → H' u) → {t : Tree} → Derives P H t → Derives P H' t
derives_map P H H' f (held h) = held (f _ h)
derives_map P H H' f (build m g) = build m (λ u i. derives_map P H H' f (g u i))
derives_map P H H' f (part o d i) = part o (derives_map P H H' f d) i
derives_map P H H' f (text c d) = text (derives_map P H H' f c) (derives_map P H H' f d)
