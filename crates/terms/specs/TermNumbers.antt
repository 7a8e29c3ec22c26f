-- The numbers of terms: each term that was read is listed once, first read first, its parts before it.
use Rattle.std.specs.Prelude.{◌≡◌, ℕ, ◌<◌, false, List, [], ◌∷◌, ◌++◌, length, slice_index_or}
use Rattle.model.specs.Trees.{Head, Tree, Trees, leaf, node, none, more, ◌among◌}
use Rattle.terms.specs.Numbering.{has}

-- The terms within a term in the order of reading: parts from left to right, and then the whole.
abbrev mutual
  pub read_in : Tree → List Tree
  read_in (leaf n) = leaf n ∷ []
  read_in (node h ts) = read_in_all ts ++ (node h ts ∷ [])

  pub read_in_all : Trees → List Tree
  read_in_all none = []
  read_in_all (more t ts) = read_in t ++ read_in_all ts

-- the term with a number
abbrev pub numbered : List Tree → ℕ → Tree
numbered us k = slice_index_or us k (leaf 0)

-- Among the terms read, one stands before the other first does.
pub record ReadBefore (u v : Tree) (xs : List Tree) : Type 0 where
  pub before : List Tree
  pub after : List Tree
  pub all : xs ≡ before ++ (u ∷ after)
  pub not_yet : has v before ≡ false

-- Equal terms have one number, exactly the terms read have one, and of two the first read has the smaller.
pub record Numbers (xs us : List Tree) : Type 0 where
  pub one : (i j : ℕ) → i < length us → j < length us → numbered us i ≡ numbered us j → i ≡ j
  pub same : (u : Tree) → has u us ≡ has u xs
  pub in_order : (i j : ℕ) → i < j → j < length us → ReadBefore (numbered us i) (numbered us j) xs

-- A part has a smaller number than the whole.
abbrev pub PartsFirst : List Tree → Type 0
PartsFirst us = (k : ℕ) (h : Head) (ts : Trees) (p : Tree) → k < length us → numbered us k ≡ node h ts → p among ts → (j : ℕ) × (j < k) × (numbered us j ≡ p)

-- After a term was read behind others: the list of those before, and of those after.
pub record Follows (t : Tree) (us vs : List Tree) : Type 0 where
  pub numbers : Numbers (us ++ read_in t) vs
  pub parts : PartsFirst vs
