-- What adding a row to a table does.
use Rattle.std.specs.Prelude.{◌≡◌, ℕ, ◌+◌, ◌<◌, ◌≤◌, ◌⊎◌, List, length, Ok, Err, Result, ◌≢◌}
use Rattle.terms.specs.declared.fault.TermFault.{TermFault}
use Rattle.terms.specs.declared.fault.TermFault.TheVariants.{Limit, Undeclared, WrongType, NoMemory}
use Rattle.terms.specs.declared.term.TermRow.{TermRow}
use Rattle.terms.specs.Shapes.{Shape, grown, two_parts, AllBelow, numbers}
use Rattle.terms.specs.Rows.{shape_of, row_at, term_tree}

-- a row over the first n rows
pub record Fits (n : ℕ) (row : TermRow) : Type 0 where
  pub below : AllBelow n (numbers (shape_of row))
  pub whole : two_parts (shape_of row) ≡ 2

abbrev pub At : List TermRow → TermRow → ℕ → Type 0
At rows row k = (k < length rows) × (shape_of (row_at rows k) ≡ shape_of row)

abbrev pub Absent : List TermRow → TermRow → Type 0
Absent rows row = (k : ℕ) → k < length rows → shape_of (row_at rows k) ≢ shape_of row

-- the number stands for the shape's tree, and each older number for what it stood for
pub record Numbers (rows rows' : List TermRow) (s : Shape) (k : ℕ) : Type 0 where
  pub within : k < length rows'
  pub tree : term_tree rows' k ≡ grown (term_tree rows) s
  pub longer : length rows ≤ length rows'
  pub kept : (j : ℕ) → j < length rows → term_tree rows' j ≡ term_tree rows j

-- it was there, and nothing changed; or it was not, there was room for it, and it is the last
abbrev pub Added : List TermRow → List TermRow → Shape → ℕ → ℕ → Type 0
Added rows rows' s most k =
    (rows' ≡ rows) ⊎ ((length rows' ≡ length rows + 1) × (k ≡ length rows) × (length rows < most) × ((j : ℕ) → j < length rows → shape_of (row_at rows j) ≢ s))

-- a refusal leaves the rows as they were; one too many is refused at its place, if it is not there and there are `most` already
abbrev pub Unchanged : List TermRow → List TermRow → Shape → ℕ → ℕ → TermFault → Type 0
Unchanged rows rows' s most p (Limit q) = (q ≡ p) × (rows' ≡ rows) × (most ≤ length rows ⊎ 65535 < length rows) × ((k : ℕ) → k < length rows → shape_of (row_at rows k) ≢ s)
Unchanged rows rows' s most p (Undeclared q) = ⊥
Unchanged rows rows' s most p (WrongType q) = ⊥
Unchanged rows rows' s most p (NoMemory w) = rows' ≡ rows

abbrev pub Interned : List TermRow → List TermRow → Shape → ℕ → ℕ → Result ℕ TermFault → Type 0
Interned rows rows' s most p (Ok k) = Numbers rows rows' s k × Added rows rows' s most k
Interned rows rows' s most p (Err f) = Unchanged rows rows' s most p f
