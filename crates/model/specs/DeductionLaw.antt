-- The law of deduction: for the terms of a specification, and for values that a store can hold, functions that are not declared, or with other numbers of parts, and values that no store can hold make no difference.
use Rattle.std.specs.Prelude.{ℕ, ◌<◌, ◌↔◌}
use Rattle.model.specs.Lists.{Every}
use Rattle.model.specs.Trees.{Tree}
use Rattle.model.specs.Deduction.{Party, Derives}
use Rattle.model.specs.Lives.{Life, Holdings}
use Rattle.model.specs.Storable.{Storable}
use Rattle.model.specs.Holdings.{Stock, Readable}
use Rattle.model.specs.CountLaw.{Declared}
use Rattle.model.specs.Deducible.{Deducible, ReadAsSpecified}

pub record DeductionLaw : Type 0 where
  pub terms :
      (declared : ℕ → ℕ) (P : Party) (l : Life) → ((u : Tree) → Holdings l u → Declared declared u) → (t : Tree) → Declared declared t
      → Derives P (Holdings l) t ↔ Deducible declared P (Holdings l) t
  pub readings :
      (declared : ℕ → ℕ) (P : Party) (h : Stock) → Every (λ p. Declared declared p.0 × Storable p.1) h.taken → Every (λ p. p.1 < 4294967296) h.made
      → Readable P h ↔ ReadAsSpecified declared P h
