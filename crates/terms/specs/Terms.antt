-- The terms of a table, as trees.
use Rattle.std.specs.Prelude.{◌≡◌, ℕ, ◌<◌, ◌≤◌, vec_items, vec_len}
use Rattle.model.specs.Trees.{Tree}
use Rattle.terms.specs.declared.table.TermTable.{TermTable}
use Rattle.terms.specs.Rows.{term_tree}

-- the tree that a number stands for
abbrev pub tree_in : TermTable → ℕ → Tree
tree_in t = term_tree (vec_items t.rows)

-- how many terms there are
abbrev pub size : TermTable → ℕ
size t = vec_len t.rows

-- a table after terms were added: each number still stands for its tree
pub record Grows (t t' : TermTable) : Type 0 where
  pub longer : size t ≤ size t'
  pub kept : (j : ℕ) → j < size t → tree_in t' j ≡ tree_in t j
