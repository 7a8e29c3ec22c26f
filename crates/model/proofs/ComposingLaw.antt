-- The law of composing, proved.
use Rattle.std.proofs.Common.{◌≡◌, ℕ, ◌<◌, Bool, true, false, cond, T, ltb, ◌↔◌, List, [], ◌∷◌, ◌++◌, sym, refl, ap, ◌∙◌, subst, arith, lt→ltb}
use mathlib.Core.Option.{none as nothing, some}
use Rattle.model.specs.Lists.{Every}
use Rattle.model.specs.Trees.{Tree}
use Rattle.model.specs.Deduction.{Party, Derives}
use Rattle.model.specs.Roles.{Role, start, heard, Said, spoke, failed, said}
use Rattle.model.specs.Lives.{Life, starts, hears, says, Holdings, Disciplined, after_hear, spoken, after_say, run}
use Rattle.model.specs.Specifications.{Specification, message, makes, Duty, begin, speak, listen, own, life_on, life_to}
use Rattle.model.specs.Programs.{nobody_yet, Sayable}
use Rattle.model.specs.ComposingLaw.{ComposingLaw, Derivable, SendingLaw}
use Rattle.model.proofs.Lists.{every_right}
use Rattle.model.proofs.Lives.{says_derivable, fails_underivable, fails_blamed}
use Rattle.model.proofs.Duties.{IsLine, own_lines, disciplined_before, life_append}
use Rattle.model.proofs.Names.{disciplined}

module _ (S : Specification) where
  module _ (P : Party) where
    never_spoke : {u : Tree} {s : Role} → failed u ≡ spoke s → ⊥
    never_spoke e = let z : ◌≡◌ {A = ℕ} 0 1 = cc in omega arith

    sayable_derivable : (ds : List Duty) → Every IsLine ds → (l : Life) (s : Role) → run P l ≡ some s → Disciplined (life_on S l ds)
        → Sayable (message S) P s ds ↔ Derivable S P l ds
    unfolding run
    sayable_derivable [] i l s e d = ((λ x. tt), λ x. tt)
    sayable_derivable (begin ts ∷ ds) i l s e d = absurd i.0
    sayable_derivable (listen k ∷ ds) i l s e d = sayable_derivable ds i.1 (hears l (message S k)) (heard P (message S k) s) (ap (after_hear P (message S k)) e) d
    sayable_derivable (speak k mk ∷ ds) i l s e d =
        go (said P mk t s) refl (says_derivable P l b.0 s e mk b.1 t)
        (λ s' q. sayable_derivable ds i.1 (says l mk t) s' (ap (after_say P mk t) e ∙ ap spoken q) d)
      where
        t : Tree
        t = message S k

        b : Disciplined (says l mk t)
        b = disciplined_before S ds i.1 (says l mk t) d

        go : (x : Said) → said P mk t s ≡ x → ((s' : Role) × (said P mk t s ≡ spoke s')) ↔ Derives P (Holdings (says l mk t)) t
            → ((s' : Role) → said P mk t s ≡ spoke s' → Sayable (message S) P s' ds ↔ Derivable S P (says l mk t) ds)
            → (elim (spoken x) as (λ o. Type 0) [ some s' ↦ Sayable (message S) P s' ds | nothing ↦ ⊥ ]) ↔ Derivable S P l (speak k mk ∷ ds)
        go (spoke s') q w f = ((λ x. (w.0 (s', q), (f s' q).0 x)), λ y. (f s' q).1 y.1)
        go (failed u) q w f = ((λ x. absurd x), λ y. never_spoke (sym q ∙ (w.1 y.0).1))

  -- the life up to a line was disciplined
  pub disciplined_to : (r : ℕ) → r < S.roles → (done left : List Duty) → own S r ≡ done ++ left → Disciplined (life_on S (life_to S r done) left) × Every IsLine left
  disciplined_to r h done left e = (
    subst Disciplined (ap (life_to S r) e ∙ life_append S (starts (S.knows r)) done left) (disciplined S r h),
    every_right IsLine done left (subst (Every IsLine) e (own_lines S r 1 S.lines)),
  )

-- a role can say exactly what it can derive
pub composing_law : ComposingLaw
composing_law S r h done left k e s q =
    record {
      succeeds = says_derivable P l d.0 s q (makes S k) d.1 (message S k);
      fails = fails_underivable P l d.0 s q (makes S k) d.1 (message S k);
      first = fails_blamed P l d.0 s q (makes S k) d.1 (message S k);
    }
  where
    P : Party
    P = S.party r

    l : Life
    l = life_to S r done

    d : Disciplined (says l (makes S k) (message S k))
    d = let z = disciplined_to S r h done (speak k (makes S k) ∷ left) e in disciplined_before S left z.1.1 (says l (makes S k) (message S k)) z.0

-- and all its lines exactly if it can derive each message that it sends
pub sending_law : SendingLaw
unfolding run
sending_law S r h = go (ltb r S.roles) (lt→ltb r S.roles h)
  where
    go : (b : Bool) → T b → Sayable (message S) (S.party r) nobody_yet (cond b (begin (S.knows r) ∷ own S r) []) ↔ Derivable S (S.party r) (starts (S.knows r)) (own S r)
    go true i =
        sayable_derivable S (S.party r) (own S r) (own_lines S r 1 S.lines) (starts (S.knows r)) (start (S.party r) (S.knows r)) refl (disciplined S r h)
    go false i = elim i [ ]
