-- The law of composing: a role can say exactly what it can derive.
use Rattle.std.specs.Prelude.{◌≡◌, ℕ, ◌<◌, Bool, ◌↔◌, List, [], ◌∷◌, ◌++◌}
use Rattle.std.proofs.Math.Option.{some}
use Rattle.model.specs.Trees.{Tree, Within}
use Rattle.model.specs.Blame.{Blame}
use Rattle.model.specs.Deduction.{Party, Derives}
use Rattle.model.specs.Roles.{Role, spoke, failed, said}
use Rattle.model.specs.Lives.{Life, starts, hears, says, Holdings, run}
use Rattle.model.specs.Specifications.{Specification, message, makes, Duty, begin, speak, listen, own, duties, life_to}
use Rattle.model.specs.Programs.{nobody_yet, Sayable}

-- to say a message after a life: it succeeds exactly if the message derives from the holdings, the names made now among them;
-- the term that a failure names does not derive from them, is the message or within it, and is to blame
pub record Decides (P : Party) (l : Life) (s : Role) (makes : ℕ → Bool) (t : Tree) : Type 0 where
  pub succeeds : ((s' : Role) × (said P makes t s ≡ spoke s')) ↔ Derives P (Holdings (says l makes t)) t
  pub fails : (u : Tree) → said P makes t s ≡ failed u → (¬ Derives P (Holdings (says l makes t)) u) × Within u t
  pub first : (u : Tree) → said P makes t s ≡ failed u → Blame P (Holdings (says l makes t)) t u

-- so it is for every role of a specification, at every line that it sends, if it came there
abbrev pub ComposingLaw : Type 0
ComposingLaw =
    (S : Specification) (r : ℕ) → r < S.roles → (done left : List Duty) (k : ℕ) → own S r ≡ done ++ (speak k (makes S k) ∷ left)
    → (s : Role) → run (S.party r) (life_to S r done) ≡ some s → Decides (S.party r) (life_to S r done) s (makes S k) (message S k)

-- each message that is sent derives from what was given, heard and made, in the line at hand too
abbrev pub Derivable : Specification → Party → Life → List Duty → Type 0
Derivable S P l [] = Unit {0}
Derivable S P l (begin ts ∷ ds) = Derivable S P (starts ts) ds
Derivable S P l (speak k mk ∷ ds) = Derives P (Holdings (says l mk (message S k))) (message S k) × Derivable S P (says l mk (message S k)) ds
Derivable S P l (listen k ∷ ds) = Derivable S P (hears l (message S k)) ds

-- a role can say all its lines exactly if it can derive each message that it sends
abbrev pub SendingLaw : Type 0
SendingLaw =
    (S : Specification) (r : ℕ) → r < S.roles
    → Sayable (message S) (S.party r) nobody_yet (duties S r) ↔ Derivable S (S.party r) (starts (S.knows r)) (own S r)
