-- Every life in which the names made are new: what its state has, and when a term can be said.
use Rattle.std.proofs.Common.{◌≡◌, ℕ, Bool, T, ◌↔◌, subst}
use mathlib.Core.Option.{Option, none as nothing, some}
use Rattle.model.specs.Trees.{Tree, Within}
use Rattle.model.specs.Deduction.{Party, Derives, build}
use Rattle.model.specs.Roles.{say, Role, act, Composed, got, lacks, compose, can, spoke, failed, say_composed, said}
use Rattle.model.specs.Entries.{Has}
use Rattle.model.specs.Lives.{Life, starts, hears, says, Holdings, New, Disciplined, after_hear, spoken, after_say, run}
use Rattle.model.proofs.Deduction.{Composes, known, compose as built, complete}
use Rattle.model.proofs.Composing.{can_composes, composes_can, Good}
use Rattle.model.proofs.Lived.{Seen, Lived, lived_start, lived_hear}
use Rattle.model.specs.Blame.{Blame}
use Rattle.model.proofs.Blame.{said_blames}
use Rattle.model.proofs.Saying.{fails_within, composed_good, lived_say, said_iff, said_fails}

-- every life that keeps the discipline
abbrev LivedTo : Party → Life → Option Role → Type 0
LivedTo P l nothing = Unit {0}
LivedTo P l (some s) = Lived P l s

lived_to : (P : Party) (l : Life) → Disciplined l → LivedTo P l (run P l)
unfolding run said
lived_to P (starts ts) d = lived_start P ts
lived_to P (hears l t) d = go (run P l) (lived_to P l d)
  where
    go : (o : Option Role) → LivedTo P l o → LivedTo P (hears l t) (after_hear P t o)
    go nothing v = tt
    go (some s) v = lived_hear P l t s v
lived_to P (says l makes t) d = go (run P l) (lived_to P l d.0)
  where
    -- the action `say` changes neither the list nor the next register
    ended : (s s' : Role) (r : ℕ) → Lived P (says l makes t) s' → Lived P (says l makes t) (act (say r) s')
    ended s s' r k = record { inv = k.inv; all = k.all; sat = k.sat; rest = k.rest }

    come : (s : Role) → Lived P l s → (c : Composed) → Good P makes (Seen (says l makes t)) s t c → LivedTo P (says l makes t) (spoken (say_composed c))
    come s v (got s' r) g = ended s s' r (lived_say P l s v makes d.1 t s' r g)
    come s v (lacks u) g = tt

    go : (o : Option Role) → LivedTo P l o → LivedTo P (says l makes t) (after_say P makes t o)
    go nothing v = tt
    go (some s) v = come s v (compose P makes t s) (composed_good P l s v makes d.1 t)

-- after any life that keeps the discipline
module _ (P : Party) (l : Life) (disciplined : Disciplined l) (s : Role) (ran : run P l ≡ some s) where
  pub lived : Lived P l s
  lived = subst (LivedTo P l) ran (lived_to P l disciplined)

  -- what can be composed without making names is what is derivable
  pub can_derivable : (u : Tree) → T (can P u s.known) ↔ Derives P (Holdings l) u
  can_derivable u = ((λ c. derives (can_composes P s.known u c)), λ d. composes_can P s.known (complete P (Holdings l) (Has s.known) lived.sat lived.all d))
    where
      derives : {w : Tree} → Composes P (Has s.known) w → Derives P (Holdings l) w
      derives (known h) = lived.inv.sound _ h
      derives (built m f) = build m (λ x i. derives (f x i))

  -- a tree can be said exactly if it is derivable, from the names made now too;
  -- what is reported otherwise is not derivable, and is the tree or within it
  module _ (makes : ℕ → Bool) (new : New l makes) (t : Tree) where
    pub says_derivable : ((s' : Role) × (said P makes t s ≡ spoke s')) ↔ Derives P (Holdings (says l makes t)) t
    says_derivable = said_iff P l s lived makes new t

    pub fails_underivable : (u : Tree) → said P makes t s ≡ failed u → (¬ Derives P (Holdings (says l makes t)) u) × Within u t
    fails_underivable u e = (said_fails P l s lived makes new t u e, fails_within P makes t s u e)

    pub fails_blamed : (u : Tree) → said P makes t s ≡ failed u → Blame P (Holdings (says l makes t)) t u
    fails_blamed u e = said_blames P l s lived makes new t u e
