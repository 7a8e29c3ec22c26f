-- A tape as a store.
use Rattle.std.specs.Prelude.{◌≡◌, ℕ, ◌-◌, List, take, Some, None, Ok, Err, Result, vec_len}
use Rattle.model.specs.Trees.{Tree}
use Rattle.store.specs.declared.fault.StoreFault.{StoreFault}
use Rattle.store.specs.declared.fault.StoreFault.TheVariants.{Invalid}
use Rattle.model.specs.Tape.{tape_cost}
use Rattle.store.specs.Semantics.{Semantics}
use Rattle.tape.specs.declared.tape.Tape.{Tape}
use Rattle.tape.specs.Values.{meaning, Begins}

-- the bytes that are used
abbrev pub bytes_of : Tape → List ℕ
bytes_of t = take t.used t.bytes.items

-- a handle is where an encoding starts; the space is the bytes that are left; a value costs as many as its encoding has
abbrev pub tape : Semantics Tape
tape = record { means = λ t h. meaning (bytes_of t) h; space = λ t. vec_len t.bytes - t.used; cost = λ t. tape_cost }

-- a handle's value, and the place of its encoding
pub record Names (t : Tape) (h at : ℕ) : Type 0 where
  pub value : Tree
  pub means : tape.means t h ≡ Some value
  pub begins : Begins (bytes_of t) at value

abbrev pub Finds : Tape → ℕ → Result ℕ StoreFault → Type 0
Finds t h (Ok at) = Names t h at
Finds t h (Err e) = (e ≡ Invalid) × (tape.means t h ≡ None)
