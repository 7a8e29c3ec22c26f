-- What waits in a row is taken one after the other.
use Rattle.std.specs.Prelude.{ℕ, List, [], ◌∷◌, Ok, Err, Result}
use Rattle.store.specs.declared.fault.StoreFault.{StoreFault}
use Rattle.store.specs.declared.fault.StoreFault.TheVariants.{Invalid}

-- the first of a list, or a fault where none is left
abbrev pub first_of : List ℕ → Result ℕ StoreFault
first_of [] = Err Invalid
first_of (n ∷ ns) = Ok n
