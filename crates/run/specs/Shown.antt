-- What handles stand for, in a store: its meaning tells the value of a handle, if it is valid.
use Rattle.std.specs.Prelude.{◌≡◌, ◌<◌, ℕ, List, [], ◌∷◌, Some, None, slice_index_or}
use Rattle.std.specs.Prelude as std
use Rattle.std.proofs.Math.Option.{Option, none as nothing, some}
use Rattle.model.specs.Trees.{Tree}
use Rattle.model.specs.Runs.{Memory}

abbrev pub Meaning : Type 0
Meaning = ℕ → std.Option Tree

-- valid handles are below the greatest number
abbrev pub Small : Meaning → Type 0
Small m = (h : ℕ) (v : Tree) → m h ≡ Some v → h < 4294967295

-- the model's option
abbrev pub as_option : {A : Type 0} → std.Option A → Option A
as_option None = nothing
as_option (Some v) = some v

-- an empty register holds this number, which is no valid handle
abbrev pub vacant : ℕ
vacant = 4294967295

abbrev pub register : List ℕ → ℕ → ℕ
register cells r = slice_index_or cells r vacant

abbrev pub StandsFor : Meaning → ℕ → Option Tree → Type 0
StandsFor m h nothing = h ≡ vacant
StandsFor m h (some v) = m h ≡ Some v

abbrev pub StandFor : Meaning → List ℕ → List Tree → Type 0
StandFor m [] [] = Unit {0}
StandFor m [] (v ∷ vs) = ⊥
StandFor m (h ∷ hs) [] = ⊥
StandFor m (h ∷ hs) (v ∷ vs) = (m h ≡ Some v) × StandFor m hs vs

-- the registers hold handles of what a memory holds
abbrev pub Holds : Meaning → List ℕ → Memory → Type 0
Holds m cells memory = (r : ℕ) → StandsFor m (register cells r) (memory r)

-- valid handles keep their values
abbrev pub Kept : Meaning → Meaning → Type 0
Kept m m' = (h : ℕ) (v : Tree) → m h ≡ Some v → m' h ≡ Some v
