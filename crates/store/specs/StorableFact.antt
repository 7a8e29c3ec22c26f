-- That a value can be held is a fact: it has one proof at most, so that a store may keep it.
use Rattle.std.proofs.Props.{props}
use mathlib.Core.HLevel.{×_prop, Unit-prop}
use Rattle.model.specs.Trees.{Head, tupled, crypted, applied, Tree, leaf, node, Trees, none, more}
use Rattle.model.specs.Storable.{StorableAs, Storable, StorableAll}

as_prop : (h : Head) (vs : Trees) → IsProp (StorableAs h vs)
as_prop tupled vs = hlevel props
as_prop crypted none = hlevel props
as_prop crypted (more t none) = hlevel props
as_prop crypted (more t (more k none)) = hlevel props
as_prop crypted (more t (more k (more u us))) = hlevel props
as_prop (applied f) vs = hlevel props

mutual
  pub storable_prop : (v : Tree) → IsProp (Storable v)
  storable_prop (leaf n) = hlevel props
  storable_prop (node h vs) = ×_prop (as_prop h vs) (all_prop vs)

  all_prop : (vs : Trees) → IsProp (StorableAll vs)
  all_prop none = Unit-prop
  all_prop (more v vs) = ×_prop (storable_prop v) (all_prop vs)
