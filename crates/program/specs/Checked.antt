-- What the check of a program keeps.
use Rattle.std.specs.Prelude.{◌≡◌, ℕ, Bool, true, false, ◌&&◌, List, ◌++◌, nat_le, slice_index_or}
use Rattle.program.specs.declared.action.Action.{Action}
use Rattle.program.specs.declared.action.Action.TheVariants.{Give, New, Hear, Say, Same, Crypt, Tuple, Apply, OpenCrypt, OpenTuple, OpenApply}
use Rattle.program.specs.declared.check.Span.{Span}
use Rattle.program.specs.declared.action.Row.{Row}
use Rattle.program.specs.Held.{from, reads, fills, counted, has, has_none, row_passes}
use Rattle.program.specs.Marked.{marked_all}

abbrev pub span : ℕ → ℕ → Span
span r n = record { first = r; count = n }

-- the registers that an action fills, in a row
abbrev pub span_of : Action → Span
span_of (Give t) = span t 1
span_of (New t) = span t 1
span_of (Hear t) = span t 1
span_of (Say r) = span 0 0
span_of (Same l r) = span 0 0
span_of (Crypt t x k) = span t 1
span_of (Tuple t ps) = span t 1
span_of (Apply t f ps) = span t 1
span_of (OpenCrypt t s k) = span t 1
span_of (OpenTuple f n s) = span f n
span_of (OpenApply f n s g) = span f n

-- the marks say which registers were filled
abbrev pub AreFilled : List Bool → List ℕ → Type 0
AreFilled marks done = (r : ℕ) → slice_index_or marks r false ≡ has r done

-- a row passes, but for what it fills
abbrev pub is_ready : List ℕ → ℕ → Row → List Bool → Bool
is_ready counts line row marks = nat_le line row.line && (marked_all marks (reads row.action) && counted counts row.action)

-- some registers in a row were filled, if none of them was before
abbrev pub Fills : List Bool → List Bool → ℕ → ℕ → Bool → Type 0
Fills marks marks' r n true = (done : List ℕ) → AreFilled marks done → AreFilled marks' (done ++ from r n) × (has_none (from r n) done ≡ true)
Fills marks marks' r n false = (done : List ℕ) → AreFilled marks done → has_none (from r n) done ≡ false

-- a row was looked at, after rows that filled these registers
abbrev pub Steps : List ℕ → ℕ → Row → List Bool → List Bool → Bool → Type 0
Steps counts line row marks marks' true =
    (done : List ℕ) → AreFilled marks done → AreFilled marks' (done ++ fills row.action) × (row_passes counts done line row ≡ true)
Steps counts line row marks marks' false = (done : List ℕ) → AreFilled marks done → row_passes counts done line row ≡ false
