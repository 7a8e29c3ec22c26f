-- What becomes of a run's numbers as it begins.
use Rattle.std.specs.Prelude.{◌≡◌, ℕ, List, [], true, false}
use Rattle.run.specs.declared.run.Run.{Run}

-- nothing else changes
pub record Stays (run run' : Run) : Type 0 where
  pub program : run'.program ≡ run.program
  pub registers : run'.registers ≡ run.registers
  pub place : run'.place ≡ run.place

pub record Starts (run run' : Run) (given : List ℕ) : Type 0 where
  pub stays : Stays run run'
  pub begun : run'.begun ≡ true
  pub used : run'.used ≡ 0
  pub numbers : run'.numbers.items ≡ given

pub record Cancels (run run' : Run) : Type 0 where
  pub stays : Stays run run'
  pub begun : run'.begun ≡ false
  pub used : run'.used ≡ 0
  pub numbers : run'.numbers.items ≡ []
