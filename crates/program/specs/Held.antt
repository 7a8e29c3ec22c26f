-- When a program can be held.
use Rattle.std.specs.Prelude.{◌≡◌, ℕ, zero, suc, ◌<◌, ◌≤◌, Bool, true, false, not, ◌&&◌, ◌||◌, ◌↔◌, List, [], ◌∷◌, ◌++◌, length, ◌==◌, ◌≢◌, nat_le, nat_lt, slice_index, slice_index_or}
use Rattle.program.specs.declared.action.Action.{Action}
use Rattle.program.specs.declared.action.Action.TheVariants.{Give, New, Hear, Say, Same, Crypt, Tuple, Apply, OpenCrypt, OpenTuple, OpenApply}
use Rattle.program.specs.declared.action.Row.{Row}
use Rattle.program.specs.Parts.{parts_of}

-- so many registers, from one on
abbrev pub from : ℕ → ℕ → List ℕ
from r zero = []
from r (suc n) = r ∷ from (suc r) n

-- the registers that an action reads, and those that it fills
abbrev pub reads : Action → List ℕ
reads (Give t) = []
reads (New t) = []
reads (Hear t) = []
reads (Say r) = r ∷ []
reads (Same l r) = l ∷ (r ∷ [])
reads (Crypt t x k) = x ∷ (k ∷ [])
reads (Tuple t ps) = parts_of ps
reads (Apply t f ps) = parts_of ps
reads (OpenCrypt t s k) = s ∷ (k ∷ [])
reads (OpenTuple f n s) = s ∷ []
reads (OpenApply f n s g) = s ∷ []

abbrev pub fills : Action → List ℕ
fills (Give t) = from t 1
fills (New t) = from t 1
fills (Hear t) = from t 1
fills (Say r) = from 0 0
fills (Same l r) = from 0 0
fills (Crypt t x k) = from t 1
fills (Tuple t ps) = from t 1
fills (Apply t f ps) = from t 1
fills (OpenCrypt t s k) = from t 1
fills (OpenTuple f n s) = from f n
fills (OpenApply f n s g) = from f n

-- the function is declared, with this count of parts
abbrev pub has_declared_count : List ℕ → ℕ → ℕ → Bool
has_declared_count counts f n = nat_lt f (length counts) && slice_index counts f == n

abbrev pub counted : List ℕ → Action → Bool
counted counts (Give t) = true
counted counts (New t) = true
counted counts (Hear t) = true
counted counts (Say r) = true
counted counts (Same l r) = true
counted counts (Crypt t x k) = true
counted counts (Tuple t ps) = true
counted counts (Apply t f ps) = has_declared_count counts f (length (parts_of ps))
counted counts (OpenCrypt t s k) = true
counted counts (OpenTuple f n s) = true
counted counts (OpenApply f n s g) = has_declared_count counts g n

abbrev pub has : ℕ → List ℕ → Bool
has r [] = false
has r (q ∷ qs) = r == q || has r qs

abbrev pub has_all : List ℕ → List ℕ → Bool
has_all [] qs = true
has_all (r ∷ rs) qs = has r qs && has_all rs qs

abbrev pub has_none : List ℕ → List ℕ → Bool
has_none [] qs = true
has_none (r ∷ rs) qs = not (has r qs) && has_none rs qs

-- one row, after rows that filled these registers, the last one in this line
abbrev pub row_passes : List ℕ → List ℕ → ℕ → Row → Bool
row_passes counts done line r =
    nat_le line r.line && (has_all (reads r.action) done && (has_none (fills r.action) done && counted counts r.action))

abbrev pub passes_from : List ℕ → List ℕ → ℕ → List Row → Bool
passes_from counts done line [] = true
passes_from counts done line (r ∷ rs) = row_passes counts done line r && passes_from counts (done ++ fills r.action) r.line rs

-- the check, row by row
abbrev pub passes : List ℕ → List Row → Bool
passes counts rows = passes_from counts [] 0 rows

-- What the check means: each register that an action reads was filled by an earlier action; none is filled twice; lines never
-- fall; each function has its declared count of parts.
abbrev pub at : List Row → ℕ → Row
at rows i = slice_index_or rows i (record { line = 0; action = Say 0 })

pub record Held (counts : List ℕ) (rows : List Row) : Type 0 where
  pub reads_filled : (i r : ℕ) → i < length rows → has r (reads (at rows i).action) ≡ true → (j : ℕ) × (j < i) × (has r (fills (at rows j).action) ≡ true)
  pub fills_once : (i j r : ℕ) → i < length rows → j < i → has r (fills (at rows i).action) ≡ true → has r (fills (at rows j).action) ≢ true
  pub lines_rise : (i j : ℕ) → i < length rows → j < i → (at rows j).line ≤ (at rows i).line
  pub counts_kept : (i : ℕ) → i < length rows → counted counts (at rows i).action ≡ true

-- the rows that pass are those that can be held
abbrev pub CheckLaw : Type 0
CheckLaw = (counts : List ℕ) (rows : List Row) → (passes counts rows ≡ true) ↔ Held counts rows
