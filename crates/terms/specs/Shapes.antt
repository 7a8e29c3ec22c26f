-- Numbered terms: a list of shapes, each over the numbers of earlier ones, and the tree that a number stands for.
use Rattle.std.specs.Prelude.{ℕ, zero, suc, ◌<◌, List, [], ◌∷◌, length, slice_index_or}
use Rattle.model.specs.Trees.{Head, tupled, crypted, applied, Tree, Trees, leaf, node, none, more}

pub data Shape : Type 0 where
  named : ℕ → Shape
  formed : Head → List ℕ → Shape

-- the tree of a shape, over the trees of the numbers
abbrev pub trees : (ℕ → Tree) → List ℕ → Trees
trees f [] = none
trees f (p ∷ ps) = more (f p) (trees f ps)

abbrev pub grown : (ℕ → Tree) → Shape → Tree
grown f (named n) = leaf n
grown f (formed h ps) = node h (trees f ps)

-- the tree of a number; the first argument bounds the depth
unfoldable pub tree_within : ℕ → List Shape → ℕ → Tree
tree_within zero ss k = leaf 0
tree_within (suc d) ss k = grown (tree_within d ss) (slice_index_or ss k (named 0))

unfoldable pub tree_of : List Shape → ℕ → Tree
tree_of ss k = tree_within (suc k) ss k

-- every number of a list is below k
abbrev pub AllBelow : ℕ → List ℕ → Type 0
AllBelow k [] = Unit {0}
AllBelow k (p ∷ ps) = (p < k) × AllBelow k ps

abbrev pub numbers : Shape → List ℕ
numbers (named n) = []
numbers (formed h ps) = ps

-- how many parts a ciphertext has; any other term counts as whole
abbrev pub two_parts : Shape → ℕ
two_parts (named n) = 2
two_parts (formed tupled ps) = 2
two_parts (formed crypted ps) = length ps
two_parts (formed (applied f) ps) = 2
