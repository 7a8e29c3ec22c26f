-- What the values of a type mean as stores.
use Rattle.std.specs.Prelude.{ℕ, Option}
use Rattle.model.specs.Trees.{Tree}

pub record Semantics (S : Type 0) : Type 0 where
  -- the value that a handle names, if it is valid
  pub means : S → ℕ → Option Tree
  -- how much may still be spent on values
  pub space : S → ℕ
  -- what each value costs, by the store's own list of prices
  pub cost : S → Tree → ℕ
