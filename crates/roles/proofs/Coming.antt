-- What a role came to by some duties, done one after the other.
use Rattle.std.proofs.Common.{◌≡◌, ℕ, List, [], ◌∷◌, ◌++◌, map, sym, refl, ap, ◌∙◌, append_assoc}
use mathlib.Core.Option.{Option, none as nothing, some}
use mathlib.Core.Path.{subst⁻¹}
use Rattle.model.specs.Lists.{Every}
use Rattle.model.specs.Trees.{Tree}
use Rattle.model.specs.Deduction.{Party}
use Rattle.model.specs.Roles.{Act, Role}
use Rattle.model.specs.Lives.{Life, hears, says, after_hear, after_say, run}
use Rattle.model.specs.Specifications.{Specification, message, Duty, begin, speak, listen, life_on}
use Rattle.model.specs.Programs.{next_role, Stage, stage, stages_from, line_of, rows_of, Sayable}
use Rattle.model.proofs.Duties.{IsLine}

pub rows_append : (xs ys : List Stage) → rows_of (xs ++ ys) ≡ rows_of xs ++ rows_of ys
rows_append [] ys = refl
rows_append (x ∷ xs) ys =
    let zs : List (ℕ × Act) = map (λ a. (line_of x.turn, a)) x.actions in ap (λ (l : List (ℕ × Act)). zs ++ l) (rows_append xs ys) ∙ sym (append_assoc zs (rows_of xs) (rows_of ys))

module _ (term : ℕ → Tree) (P : Party) where
  abbrev pub Came : Role → List Duty → Role → Type 0
  Came s [] s' = s ≡ s'
  Came s (d ∷ ds) s' = (m : Role) × (next_role term P d s ≡ some m) × Came m ds s'

  pub came_more : (s m s' : Role) (ds : List Duty) (d : Duty) → Came s ds m → next_role term P d m ≡ some s' → Came s (ds ++ (d ∷ [])) s'
  came_more s m s' [] d c e = (s', ap (next_role term P d) c ∙ e, refl)
  came_more s m s' (x ∷ ds) d c e = (c.0, c.1, came_more c.0 m s' ds d c.2 e)

  -- all could be said
  pub came_sayable : (s s' : Role) (ds : List Duty) → Came s ds s' → Sayable term P s ds
  came_sayable s s' [] c = tt
  came_sayable s s' (d ∷ ds) c = subst⁻¹ (λ o. elim o as (λ x. Type 0) [ some m ↦ Sayable term P m ds | nothing ↦ ⊥ ]) c.1 (came_sayable c.0 s' ds c.2)

  abbrev staged : Duty → List Duty → Role → Option Role → List Stage
  staged d ds s o = elim o [ some m ↦ stage term P d s m ∷ stages_from term P m ds | nothing ↦ [] ]

  -- one more stage
  pub came_stages : (s m s' : Role) (ds : List Duty) (d : Duty) → Came s ds m → next_role term P d m ≡ some s'
      → stages_from term P s (ds ++ (d ∷ [])) ≡ stages_from term P s ds ++ (stage term P d m s' ∷ [])
  came_stages s m s' [] d c e = ap (λ z. stages_from term P z (d ∷ [])) c ∙ ap (staged d [] m) e
  came_stages s m s' (x ∷ ds) d c e =
      subst⁻¹ (λ o. staged x (ds ++ (d ∷ [])) s o ≡ staged x ds s o ++ (stage term P d m s' ∷ [])) c.1
      (ap (λ l. stage term P x s c.0 ∷ l) (came_stages c.0 m s' ds d c.2 e))

-- its state is that after its life
module _ (S : Specification) (P : Party) where
  pub came_life : (ds : List Duty) (l : Life) (s s' : Role) → Every IsLine ds → run P l ≡ some s → Came (message S) P s ds s' → run P (life_on S l ds) ≡ some s'
  unfolding run
  came_life [] l s s' i e c = e ∙ ap some c
  came_life (begin ts ∷ ds) l s s' i e c = absurd i.0
  came_life (speak k mk ∷ ds) l s s' i e c = came_life ds (says l mk (message S k)) c.0 s' i.1 (ap (after_say P mk (message S k)) e ∙ c.1) c.2
  came_life (listen k ∷ ds) l s s' i e c = came_life ds (hears l (message S k)) c.0 s' i.1 (ap (after_hear P (message S k)) e ∙ c.1) c.2
