-- What a tree of nodes is: the tree of its definition.
use Rattle.std.specs.Prelude.{List, [], ◌∷◌, map}
use Rattle.text.specs.Trees.{Tree, quoted, integer, bracket, Trees, none, more}
use Rattle.text.specs.declared.node.Node.{Node}
use Rattle.text.specs.declared.node.Node.TheVariants as nodes
use Rattle.text.specs.declared.tree.Tree.{Tree as TreeValue, fold-Tree}
use Rattle.text.specs.declared.tree.Tree.TheOpen.{Tree-F}

abbrev pub trees : List Tree → Trees
trees [] = none
trees (t ∷ ts) = more t (trees ts)

-- one level, with what each tree in it is
abbrev pub tree_step : Tree-F Tree → Tree
tree_step (Tree-F.Quoted at p) = quoted at p
tree_step (Tree-F.Integer at n) = integer at n
tree_step (Tree-F.Bracket at s ns) = bracket at s (trees ns.items)

abbrev pub tree_of : TreeValue → Tree
tree_of = fold-Tree Tree tree_step

abbrev pub trees_of : List TreeValue → Trees
trees_of ns = trees (map tree_of ns)

-- the tree whose first node this is
abbrev pub shown : Node → Tree
shown (nodes.Quoted at p) = quoted at p
shown (nodes.Integer at n) = integer at n
shown (nodes.Bracket at s ts) = bracket at s (trees_of ts.now)
