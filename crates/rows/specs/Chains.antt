-- Chains of rows: each row that is the first with its value is in the chain of its hash, and a chain goes back to earlier rows.
use Rattle.std.specs.Prelude.{◌≡◌, ℕ, zero, suc, ◌+◌, ◌<◌, Bool, if◌then◌else◌, ◌&&◌, List, length, slice_index, ◌==◌}
use Rattle.rows.specs.declared.entry.Entry.{Entry}
use Rattle.rows.specs.Classes.{entry_at, row_at, class_at}
use Rattle.rows.specs.Hashes.{chain_of}

-- one more than the last number below a bound that passes, or 0
abbrev pub last_below : (ℕ → Bool) → ℕ → ℕ
last_below p zero = 0
last_below p (suc k) = if p k then suc k else last_below p k

abbrev pub is_in_chain : List Entry → ℕ → ℕ → Bool
is_in_chain es c k = (class_at es k == k) && (chain_of (row_at es k) == c)

-- the last row of a chain, of the rows below a bound
unfoldable pub last_in : List Entry → ℕ → ℕ → ℕ
last_in es c n = last_below (is_in_chain es c) n

-- Each row leads to the one before it in the chain of its hash.
abbrev pub Chained : List Entry → Type 0
Chained es = (k : ℕ) → k < length es → (entry_at es k).next ≡ last_in es (chain_of (row_at es k)) k

-- Each chain begins at its last row.
abbrev pub Headed : List ℕ → List Entry → Type 0
Headed heads es = (c : ℕ) → c < 4096 → slice_index heads c ≡ last_in es c (length es)

-- where a chain begins, once a row of a class has been added as number n
abbrev pub head_after : ℕ → ℕ → ℕ → ℕ
head_after class n next = if class == n then n + 1 else next
