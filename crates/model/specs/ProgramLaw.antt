-- The law of programs: registers are filled in order, once, and read only when filled; lines never fall.
use Rattle.std.specs.Prelude.{◌≡◌, ℕ, zero, suc, ◌+◌, ◌≤◌, List, [], ◌∷◌, ◌++◌, map, length}
use Rattle.model.specs.Lists.{Every, SomeOf}
use Rattle.model.specs.Roles.{Act, give, new, hear, say, same, make, split, unlock}
use Rattle.model.specs.Specifications.{Specification}
use Rattle.model.specs.Programs.{program, Accepted}

-- so many numbers, from one on
abbrev pub from : ℕ → ℕ → List ℕ
from n zero = []
from n (suc k) = n ∷ from (n + 1) k

-- the registers that an action fills, and those that it reads
abbrev pub targets : Act → List ℕ
targets (give r) = r ∷ []
targets (new r) = r ∷ []
targets (hear r) = r ∷ []
targets (say r) = []
targets (same r q) = []
targets (make r h rs) = r ∷ []
targets (split f n h r) = from f n
targets (unlock x r k) = x ∷ []

abbrev pub sources : Act → List ℕ
sources (give r) = []
sources (new r) = []
sources (hear r) = []
sources (say r) = r ∷ []
sources (same r q) = r ∷ q ∷ []
sources (make r h rs) = rs
sources (split f n h r) = r ∷ []
sources (unlock x r k) = r ∷ k ∷ []

-- the registers that rows fill, in order
abbrev pub filled : List (ℕ × Act) → List ℕ
filled [] = []
filled (x ∷ xs) = targets x.1 ++ filled xs

-- no number stands twice; no number is lower than one before it
abbrev pub Distinct : List ℕ → Type 0
Distinct [] = Unit {0}
Distinct (x ∷ xs) = (¬ SomeOf (λ y. x ≡ y) xs) × Distinct xs

abbrev pub NeverFalls : List ℕ → Type 0
NeverFalls [] = Unit {0}
NeverFalls (x ∷ xs) = Every (λ y. x ≤ y) xs × NeverFalls xs

pub record Orderly (rows : List (ℕ × Act)) : Type 0 where
  -- each register that an action reads was filled by an earlier one
  pub reads_filled : (before after : List (ℕ × Act)) (x : ℕ × Act) → rows ≡ before ++ (x ∷ after)
      → Every (λ q. SomeOf (λ r. q ≡ r) (filled before)) (sources x.1)
  pub fills_once : Distinct (filled rows)
  -- registers are numbered from 0 as they are filled
  pub numbered : filled rows ≡ from 0 (length (filled rows))
  pub lines_rise : NeverFalls (map (λ x. x.0) rows)

-- every program of a translated specification
abbrev pub ProgramLaw : Type 0
ProgramLaw = (S : Specification) → Accepted S → (r : ℕ) → Orderly (program S r)
