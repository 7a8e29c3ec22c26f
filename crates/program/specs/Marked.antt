-- Which of some numbers are marked.
use Rattle.std.specs.Prelude.{ℕ, Bool, false, List, slice_index_or}
use Rattle.std.specs.List.{list_all}

-- some numbers are all marked
abbrev pub marked_all : List Bool → List ℕ → Bool
marked_all marks numbers = list_all (λ n. slice_index_or marks n false) numbers
