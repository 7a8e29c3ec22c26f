-- What the rows of a table are as shapes, and when a table is sound.
use Rattle.std.specs.Prelude.{◌≡◌, ℕ, ◌<◌, ◌≤◌, List, map, length, take, slice_index, slice_index_or}
use Rattle.model.specs.Trees.{Tree}
use Rattle.program.specs.Actions.{head_of}
use Rattle.terms.specs.declared.term.TermRow.{TermRow}
use Rattle.terms.specs.declared.term.TermRow.TheVariants.{Name, Compound}
use Rattle.terms.specs.Shapes.{Shape, named, formed, grown, tree_of, two_parts, AllBelow, numbers}

abbrev pub shape_of : TermRow → Shape
shape_of (Name n) = named n
shape_of (Compound k p) = formed (head_of k) p

abbrev pub shapes : List TermRow → List Shape
shapes rows = map shape_of rows

abbrev pub row_at : List TermRow → ℕ → TermRow
row_at rows k = slice_index_or rows k (Name 0)

-- the tree that the number of a row stands for
abbrev pub term_tree : List TermRow → ℕ → Tree
term_tree rows = tree_of (shapes rows)

-- A sound table, as facts that are plainly propositions: parts are earlier rows, a ciphertext has two, and no row stands twice.
abbrev pub Ordered : List TermRow → Type 0
Ordered rows = (k i : ℕ) → k < length rows → i < length (numbers (shape_of (row_at rows k))) → slice_index (numbers (shape_of (row_at rows k))) i < k

abbrev pub Formed : List TermRow → Type 0
Formed rows = (k : ℕ) → k < length rows → two_parts (shape_of (row_at rows k)) ≡ 2

abbrev pub Distinct : List TermRow → Type 0
Distinct rows = (i j : ℕ) → (i < length rows) × (j < length rows) → shape_of (row_at rows i) ≡ shape_of (row_at rows j) → i ≤ j

-- the rows that there were stand first
abbrev pub Begins : List TermRow → List TermRow → Type 0
Begins rows rows' = take (length rows) rows' ≡ rows

-- what is known of a row that was read
pub record Stands (rows : List TermRow) (k : ℕ) (row : TermRow) : Type 0 where
  pub tree : term_tree rows k ≡ grown (term_tree rows) (shape_of row)
  pub below : AllBelow k (numbers (shape_of row))
  pub whole : two_parts (shape_of row) ≡ 2
