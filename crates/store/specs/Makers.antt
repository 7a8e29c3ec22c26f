-- What a call that makes a value does, by what stores mean.
use Rattle.std.specs.Prelude.{◌≡◌, ℕ, ◌+◌, ◌<◌, if◌then◌else◌, List, [], ◌∷◌, length, Some, None, Ok, Err, Option, Result, ok_or, option_map, nat_le}
use Rattle.model.specs.Trees.{Head, Tree, node, Trees, none, more}
use Rattle.store.specs.declared.fault.StoreFault.{StoreFault}
use Rattle.store.specs.declared.fault.StoreFault.TheVariants.{Invalid, NoPart, Full}
use Rattle.store.specs.Semantics.{Semantics}

-- the values of some handles, if all are valid
abbrev pub with_more : Option Tree → Option Trees → Option Trees
with_more None vs = None
with_more (Some v) vs = option_map (more v) vs

unfoldable pub gathered : (ℕ → Option Tree) → List ℕ → Option Trees
gathered m [] = Some none
gathered m (h ∷ hs) = with_more (m h) (gathered m hs)

-- the compound that is asked for: of at most eight parts, all with valid handles
abbrev pub wanted : (ℕ → Option Tree) → Head → List ℕ → Result Tree StoreFault
wanted m head hs = if nat_le (length hs) 8 then ok_or (option_map (node head) (gathered m hs)) Invalid else Err NoPart

module _ {S : Type 0} (M : Semantics S) where
  -- A value is made: its handle was not valid, every valid handle keeps its value, the space falls by the cost, and costs stay.
  pub record Made (old new : S) (v : Tree) (h : ℕ) : Type 0 where
    pub fresh : M.means old h ≡ None
    pub named : M.means new h ≡ Some v
    pub kept : (k : ℕ) → (w : Tree) → M.means old k ≡ Some w → M.means new k ≡ Some w
    pub paid : M.space new + M.cost old v ≡ M.space old
    pub priced : M.cost new ≡ M.cost old

  -- What is asked for is made, or refused as full, exactly if it costs more than the space; where nothing can be asked for,
  -- the call is refused for that. A refused call alters nothing.
  abbrev pub Makes : S → S → Result Tree StoreFault → Result ℕ StoreFault → Type 0
  Makes old new (Ok v) (Ok h) = Made old new v h
  Makes old new (Ok v) (Err e) = (e ≡ Full) × (new ≡ old) × (M.space old < M.cost old v)
  Makes old new (Err f) (Ok h) = ⊥
  Makes old new (Err f) (Err e) = (e ≡ f) × (new ≡ old)
