-- What the builds of a program cost, as read.
use Rattle.std.specs.Prelude.{ℕ, ◌+◌, List, [], ◌∷◌}
use Rattle.std.proofs.Math.Option.{Option, none as nothing, some}
use Rattle.model.specs.Trees.{Tree}
use Rattle.model.specs.Roles.{Act, give, new, hear, say, same, make, split, unlock}
use Rattle.model.specs.Runs.{Memory, empty, Outcome, ended, stopped, attempt}

-- the costs of what actions make or build: `Γ` tells which term a register is for, `R` the term's reading
module _ (c : Tree → ℕ) (R : Tree → Tree) where
  abbrev pub price : Option Tree → ℕ
  price nothing = 0
  price (some t) = c (R t)

  abbrev pub bill : Memory → Act → ℕ
  bill Γ (give r) = 0
  bill Γ (hear r) = 0
  bill Γ (new r) = price (Γ r)
  bill Γ (say r) = 0
  bill Γ (same r q) = 0
  bill Γ (make r h rs) = price (Γ r)
  bill Γ (split f n h r) = 0
  bill Γ (unlock x r k) = 0

  abbrev pub bills : Memory → List Act → ℕ
  bills Γ [] = 0
  bills Γ (a ∷ rest) = bill Γ a + bills Γ rest

-- the terms that the registers of a program are for: the program, run on the terms themselves
abbrev pub memory_of : Outcome → Memory
memory_of (ended M) = M.mem
memory_of (stopped f k n) = empty

abbrev pub free : Tree → ℕ
free t = 0

unfoldable pub sheet_of : List Act → List Tree → List ℕ → Memory
sheet_of xs is ns = memory_of (attempt free xs 0 (record { mem = empty; space = 0; inputs = is; numbers = ns }))
