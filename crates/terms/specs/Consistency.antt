-- When the tables of declarations fit together.
use Rattle.std.specs.Prelude.{◌≡◌, ℕ, ◌<◌, ◌≤◌, List, length, slice_index_or}
use Rattle.terms.specs.declared.declarations.Declared.{Declared}
use Rattle.terms.specs.declared.declarations.Function.{Function}
use Rattle.terms.specs.declared.declarations.Meaning.TheVariants as meaning
use Rattle.terms.specs.declared.declarations.Start.{Start}

-- a function's name stands for one of so many functions
abbrev pub Defined : List Declared → ℕ → Type 0
Defined names count = (k f : ℕ) (n : Declared) → k < length names → (slice_index_or names k n).meaning ≡ meaning.Function f → f < count

-- what a party starts from is one of so many terms
abbrev pub Started : List Start → ℕ → Type 0
Started starts count = (k : ℕ) (s : Start) → k < length starts → (slice_index_or starts k s).term < count

-- the types of each function's parameters stand among so many
abbrev pub Within : List Function → ℕ → Type 0
Within functions count = (k : ℕ) (f : Function) → k < length functions → ((slice_index_or functions k f).first ≤ (slice_index_or functions k f).end) × ((slice_index_or functions k f).end ≤ count)
