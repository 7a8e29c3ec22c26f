-- Trees of nodes with their places.
use Rattle.std.specs.Prelude.{ℕ, suc, ◌+◌}
use Rattle.text.specs.declared.part.Part.{Part}

-- A node has the place of its first byte: a quote, a digit, an opening bracket. A quoted text has the part of the text
-- between the quotes, a bracket that of its symbol.
mutual
  pub data Tree : Type 0 where
    quoted : ℕ → Part → Tree
    integer : ℕ → ℕ → Tree
    bracket : ℕ → Part → Trees → Tree

  pub data Trees : Type 0 where
    none : Trees
    more : Tree → Trees → Trees

-- How many nodes a tree has; a symbol is none.
unfoldable mutual
  pub size : Tree → ℕ
  size (quoted at p) = 1
  size (integer at n) = 1
  size (bracket at s ts) = suc (sizes ts)

  pub sizes : Trees → ℕ
  sizes none = 0
  sizes (more t ts) = size t + sizes ts

-- One part more, behind the others.
abbrev pub add : Trees → Tree → Trees
add none u = more u none
add (more t ts) u = more t (add ts u)
