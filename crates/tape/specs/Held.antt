-- Each value on a tape is one that a store can hold.
use Rattle.std.specs.Prelude.{◌≡◌, ℕ, ◌<◌, List, Some}
use Rattle.model.specs.Trees.{Tree}
use Rattle.model.specs.Storable.{Storable}
use Rattle.store.specs.declared.shape.Shape.{Shape}
use Rattle.store.specs.declared.shape.Shape.TheVariants.{Atom, Tuple, Crypt, Apply}
use Rattle.tape.specs.Values.{meaning}

abbrev pub Held : List ℕ → Type 0
Held bs = (h : ℕ) → (v : Tree) → meaning bs h ≡ Some v → Storable v

-- the numbers of a shape are such as a store can hold
abbrev pub IsNumbered : Shape → Type 0
IsNumbered (Atom n) = n < 4294967296
IsNumbered (Tuple c) = Unit {0}
IsNumbered Crypt = Unit {0}
IsNumbered (Apply f c) = f < 256
