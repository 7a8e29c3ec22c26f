-- Readings: values for names and closed terms, built up for all others.
use Rattle.std.specs.Prelude.{◌≡◌, ℕ, T}
use Rattle.model.specs.Trees.{Head, applied, Tree, leaf, node, Trees, none, more, crypt, ◌among◌, map_trees}
use Rattle.model.specs.Deduction.{Party, may, opens, Derives}

-- a compound is open to a party that holds `H`: it shows its parts, its key derives, or the party can make it again; any other is closed
pub data OpenTo (P : Party) (H : Tree → Type 0) : Tree → Type 0 where
  shows : {h : Head} {ts : Trees} → T (opens P h) → OpenTo P H (node h ts)
  unlocks : {t k : Tree} → Derives P H k → OpenTo P H (crypt t k)
  rebuilds : {f : ℕ} {ts : Trees} → T (may P (applied f)) → ((t : Tree) → t among ts → Derives P H t) → OpenTo P H (node (applied f) ts)

-- a reading gives each name and closed term any value, and builds any other term's from its parts'
abbrev pub Reading : Party → (Tree → Type 0) → (Tree → Tree) → Type 0
Reading P H R = (h : Head) (ts : Trees) → OpenTo P H (node h ts) → R (node h ts) ≡ node h (map_trees R ts)

-- a choice for the names alone reads every compound from its parts
module _ (ρ : ℕ → Tree) where
  unfoldable mutual
    pub reading_of : Tree → Tree
    reading_of (leaf n) = ρ n
    reading_of (node h ts) = node h (readings_of ts)

    pub readings_of : Trees → Trees
    readings_of none = none
    readings_of (more t ts) = more (reading_of t) (readings_of ts)
