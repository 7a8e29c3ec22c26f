-- The term for which another cannot be derived: the first, in the order of composing, that is a name or a compound that the party may not make.
use Rattle.std.specs.Prelude.{ℕ, T}
use Rattle.model.specs.Trees.{Head, Tree, leaf, node, Trees, more}
use Rattle.model.specs.Deduction.{Party, may, Derives}

-- A name that does not derive is to blame for itself; so is a compound that does not derive and that the party may not make. For any other compound that does not
-- derive it is what is to blame for the first of its parts that does not.
mutual
  pub data Blame (P : Party) (H : Tree → Type 0) : Tree → Tree → Type 0 where
    name : {n : ℕ} → ¬ Derives P H (leaf n) → Blame P H (leaf n) (leaf n)
    no_right : {h : Head} {ts : Trees} → ¬ Derives P H (node h ts) → ¬ T (may P h) → Blame P H (node h ts) (node h ts)
    part : {h : Head} {ts : Trees} {u : Tree} → ¬ Derives P H (node h ts) → T (may P h) → FirstBlame P H ts u → Blame P H (node h ts) u

  -- the parts before derive
  pub data FirstBlame (P : Party) (H : Tree → Type 0) : Trees → Tree → Type 0 where
    here : {t : Tree} {ts : Trees} {u : Tree} → Blame P H t u → FirstBlame P H (more t ts) u
    later : {t : Tree} {ts : Trees} {u : Tree} → Derives P H t → FirstBlame P H ts u → FirstBlame P H (more t ts) u
