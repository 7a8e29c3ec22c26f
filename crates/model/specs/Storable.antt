-- The values that a store can hold.
use Rattle.std.specs.Prelude.{◌<◌, ◌≤◌}
use Rattle.model.specs.Trees.{Head, tupled, crypted, applied, Tree, leaf, node, Trees, none, more, Shape}
use Rattle.model.specs.Roles.{count}

-- a tuple has at most eight parts; a ciphertext has a text and a key; an application has a function's number below 256 and at most eight parts
abbrev pub StorableAs : Head → Trees → Type 0
StorableAs tupled vs = count vs ≤ 8
StorableAs crypted vs = Shape crypted vs
StorableAs (applied f) vs = (f < 256) × (count vs ≤ 8)

-- an atom has a number below 2 to the power of 32, a compound is one of those, and so are its parts, all the way down
abbrev mutual
  pub Storable : Tree → Type 0
  Storable (leaf n) = n < 4294967296
  Storable (node h vs) = StorableAs h vs × StorableAll vs

  pub StorableAll : Trees → Type 0
  StorableAll none = Unit {0}
  StorableAll (more v vs) = Storable v × StorableAll vs
