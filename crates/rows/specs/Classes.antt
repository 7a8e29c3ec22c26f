-- The class of a row: the number of the first row with an equal value.
use Rattle.std.specs.Prelude.{◌≡◌, ℕ, suc, ◌<◌, if◌then◌else◌, List, [], ◌∷◌, length, slice_index, slice_index_or, All}
use Rattle.model.specs.Trees.{Tree, leaf, eq_tree}
use Rattle.rows.specs.declared.entry.Row.{Row}
use Rattle.rows.specs.declared.entry.Row.TheVariants.{Atom, Compound}
use Rattle.rows.specs.declared.entry.Entry.{Entry}
use Rattle.rows.specs.Rows.{values}

-- the place of a value among some; their count, if it is none of them
abbrev pub place_of : Tree → List Tree → ℕ
place_of v [] = 0
place_of v (w ∷ ws) = if eq_tree v w then 0 else suc (place_of v ws)

abbrev pub blank : Entry
blank = record { row = Atom 0; class = 0; next = 0 }

abbrev pub entry_at : List Entry → ℕ → Entry
entry_at es k = slice_index_or es k blank

abbrev pub row_at : List Entry → ℕ → Row
row_at es k = (entry_at es k).row

abbrev pub class_at : List Entry → ℕ → ℕ
class_at es k = (entry_at es k).class

abbrev pub parts_of : Row → List ℕ
parts_of (Atom n) = []
parts_of (Compound k ps) = ps

abbrev pub value_at : List Entry → ℕ → Tree
value_at es k = slice_index_or (values es) k (leaf 0)

-- Each row has its class.
abbrev pub Classed : List Entry → Type 0
Classed es = (k : ℕ) → k < length es → class_at es k ≡ place_of (value_at es k) (values es)

-- The parts of a row are earlier rows, each the first with its value.
abbrev pub Earlier : List Entry → Type 0
Earlier es = (k i : ℕ) → k < length es → i < length (parts_of (row_at es k)) → slice_index (parts_of (row_at es k)) i < k

abbrev pub First : List Entry → Type 0
First es =
    (k i : ℕ) → k < length es → i < length (parts_of (row_at es k))
    → class_at es (slice_index (parts_of (row_at es k)) i) ≡ slice_index (parts_of (row_at es k)) i

-- a row of the table
abbrev pub IsRow : List Entry → ℕ → Type 0
IsRow es k = k < length es

-- and the first with its value
abbrev pub IsFirst : List Entry → ℕ → Type 0
IsFirst es k = IsRow es k × (class_at es k ≡ k)

abbrev pub IsOfFirst : List Entry → Row → Type 0
IsOfFirst es r = All (IsFirst es) (parts_of r)
