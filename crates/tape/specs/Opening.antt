-- What a value is made of.
use Rattle.std.specs.Prelude.{◌≡◌, ℕ, List, Some, None, Ok, Err, Option, Result}
use Rattle.model.specs.Trees.{Tree}
use Rattle.store.specs.declared.fault.StoreFault.{StoreFault}
use Rattle.tape.specs.Values.{Begins}

-- a place where the value that is wanted begins, or a fault if there is none
abbrev pub Gives : List ℕ → Option Tree → StoreFault → Result ℕ StoreFault → Type 0
Gives bs (Some v) f (Ok at) = Begins bs at v
Gives bs (Some v) f (Err e) = ⊥
Gives bs None f (Ok at) = ⊥
Gives bs None f (Err e) = e ≡ f
