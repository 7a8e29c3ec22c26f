-- What rows mean: each has the value that it builds of those of earlier rows.
use Rattle.std.specs.Prelude.{ℕ, List, [], ◌∷◌, ◌++◌, Option, slice_get, slice_index_or}
use Rattle.model.specs.Trees.{Tree, leaf, node, Trees, none, more}
use Rattle.program.specs.Actions.{head_of}
use Rattle.rows.specs.declared.entry.Row.{Row}
use Rattle.rows.specs.declared.entry.Row.TheVariants.{Atom, Compound}
use Rattle.rows.specs.declared.entry.Entry.{Entry}

-- the values of some rows, of a list of values
abbrev pub values_at : List Tree → List ℕ → Trees
values_at vs [] = none
values_at vs (k ∷ ks) = more (slice_index_or vs k (leaf 0)) (values_at vs ks)

-- the value of a row over the values of the rows before it
abbrev pub row_value : List Tree → Row → Tree
row_value vs (Atom n) = leaf n
row_value vs (Compound k ps) = node (head_of k) (values_at vs ps)

unfoldable pub values_after : List Tree → List Entry → List Tree
values_after vs [] = vs
values_after vs (e ∷ es) = values_after (vs ++ row_value vs e.row ∷ []) es

abbrev pub values : List Entry → List Tree
values es = values_after [] es

-- the value that a handle names: it is the number of a row
abbrev pub meaning : List Entry → ℕ → Option Tree
meaning es h = slice_get (values es) h
