-- The law of settling: what a role's known list is at rest.
use Rattle.std.specs.Prelude.{◌≡◌, ℕ, ◌<◌, T, ◌↔◌, List, ◌++◌}
use Rattle.std.proofs.Math.Option.{some}
use Rattle.model.specs.Trees.{Head, Tree, node, Trees, crypt, ◌among◌}
use Rattle.model.specs.Deduction.{Party, opens, Derives}
use Rattle.model.specs.Roles.{Role, can}
use Rattle.model.specs.Entries.{Has, Ascends, Once, Below, AtRest}
use Rattle.model.specs.Lives.{Life, Holdings, run}
use Rattle.model.specs.Specifications.{Specification, Duty, own, life_to}

-- the state of a role after a life
pub record Settled (P : Party) (l : Life) (s : Role) : Type 0 where
  -- nothing is due
  pub at_rest : AtRest P s
  -- sound: each known term derives from the holdings; and each holding is known
  pub sound : (u : Tree) → Has s.known u → Derives P (Holdings l) u
  pub holdings : (u : Tree) → Holdings l u → Has s.known u
  -- saturated: with a compound that shows its parts they are known, and with a ciphertext whose key derives its text is
  pub parts : (h : Head) (ts : Trees) (u : Tree) → Has s.known (node h ts) → T (opens P h) → u among ts → Has s.known u
  pub texts : (t k : Tree) → Has s.known (crypt t k) → Derives P (Holdings l) k → Has s.known t
  -- so what composes from the list, no name made, is what derives
  pub composes : (u : Tree) → T (can P u s.known) ↔ Derives P (Holdings l) u
  -- each term stands once, in register order, below the next register
  pub once : Once s.known
  pub ascends : Ascends s.known
  pub below : Below s.known s.next

-- for every role of a specification, after its start and any number of its lines
abbrev pub SettlingLaw : Type 0
SettlingLaw =
    (S : Specification) (r : ℕ) → r < S.roles → (done left : List Duty) → own S r ≡ done ++ left
    → (s : Role) → run (S.party r) (life_to S r done) ≡ some s → Settled (S.party r) (life_to S r done) s
