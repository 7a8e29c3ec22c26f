-- What a duty adds to a role's program, in a state that it fits; all duties of an accepted specification fit.
use Rattle.std.proofs.Common.{◌≡◌, ℕ, zero, suc, ◌<◌, Bool, true, false, cond, T, ltb, ◌⊎◌, List, [], ◌∷◌, ◌++◌, refl, ap, ◌∙◌, subst, inl, inr, arith, ltb→lt}
use mathlib.Core.Option.{Option, none as nothing, some}
use mathlib.Core.Path.{subst⁻¹, fun_ext}
use Rattle.model.specs.Lists.{Every}
use Rattle.model.specs.Trees.{Tree, Formed}
use Rattle.model.specs.Deduction.{Party}
use Rattle.model.specs.Roles.{Act, say, Role, start, Said, spoke, failed, said}
use Rattle.model.specs.Lives.{spoken}
use Rattle.model.specs.Runs.{Memory, empty, says_of, later, answer}
use Rattle.model.specs.Specifications.{Line, Specification, message_at, message, Duty, begin, begin as to_start, speak, listen, own, duties}
use Rattle.model.specs.Programs.{nobody_yet, next_role, given, line, takes, new_names, names, Sayable, Accepted}
use Rattle.model.proofs.Machine.{some_inj, no_some, Below}
use Rattle.model.proofs.Grounds.{Good}
use Rattle.model.proofs.Filling.{Went}
use Rattle.model.proofs.Marked.{None}
use Rattle.model.proofs.Lines.{went_heard, went_start}
use Rattle.model.proofs.Adding.{line_is, said_went, names_are}
use Rattle.model.proofs.Duties.{IsLine, own_lines}

pub answer_last : (xs : List Act) (r : ℕ) (m : Memory) (v : Tree) → m r ≡ some v → answer (xs ++ (say r ∷ [])) m ≡ some v
answer_last [] r m v e = e
answer_last (x ∷ xs) r m v e = ap (λ o. later o (says_of x m)) (answer_last xs r m v e)

module _ (term : ℕ → Tree) where
  abbrev pub Fit : Duty → Role → Type 0
  Fit (begin ts) s = (s ≡ nobody_yet) × Every Formed ts
  Fit (speak l mk) s = Formed (term l)
  Fit (listen l) s = Formed (term l)

  abbrev pub Told : Duty → Role → Role → Memory → Type 0
  Told (begin ts) s s' Γ = Unit {0}
  Told (speak l mk) s s' Γ = (r : ℕ) × (xs : List Act) × (line s s' ≡ xs ++ (say r ∷ [])) × (Γ r ≡ some (term l))
  Told (listen l) s s' Γ = Unit {0}

  none_below : (Γ : Memory) → Below 0 Γ → empty ≡ Γ
  none_below Γ b = fun_ext (λ r. go r (Γ r) refl)
    where
      go : (r : ℕ) (o : Option Tree) → Γ r ≡ o → nothing ≡ o
      go r nothing e = refl
      go r (some t) e = let h = b r t e in absurd (omega arith)

  pub went_duty : (P : Party) (d : Duty) (s s' : Role) (Γ : Memory) → Good s Γ s.next None → Fit d s → next_role term P d s ≡ some s'
      → (w : Went P s Γ s' None (takes term P d) (names d s s')) × Told d s s' w.sheet
  went_duty P (begin ts) s s' Γ g f e = (
    subst (λ z. Went P s Γ z None (given P ts) []) (some_inj e)
        (subst⁻¹ (λ z. (Δ : Memory) → Good z Δ z.next None → Went P z Δ (start P ts) None (given P ts) []) f.0
        (λ Δ k. subst (λ z. Went P nobody_yet z (start P ts) None (given P ts) []) (none_below Δ k.bound) (went_start P ts f.1).0) Γ g),
    tt,
  )
  went_duty P (listen l) s s' Γ g f e =
      (subst (λ z. Went P s Γ z None (term l ∷ []) []) (some_inj e) (went_heard P (term l) s Γ g f).0, tt)
  went_duty P (speak l mk) s s' Γ g f e = go (said P mk (term l) s) refl e
    where
      go : (x : Said) → said P mk (term l) s ≡ x → spoken x ≡ some s' → (w : Went P s Γ s' None [] (new_names s s')) × Told (speak l mk) s s' w.sheet
      go (spoke u) p q =
          let z = said_went P mk (term l) s s' Γ g f (p ∙ ap spoke (some_inj q)) in
          subst⁻¹ (λ k. (w : Went P s Γ s' None [] k) × Told (speak l mk) s s' w.sheet) (names_are P s s' z.0 z.3)
          (z.1, (z.4, z.5, line_is P z.1.grew ∙ z.6, z.7))
      go (failed u) p q = absurd (no_some q)

  -- duties that can be done in a state: each line can be said
  abbrev pub Fitting : Party → Role → List Duty → Type 0
  Fitting P s [] = Unit {0}
  Fitting P s (d ∷ ds) = Fit d s × elim (next_role term P d s) [ some s' ↦ Fitting P s' ds | nothing ↦ ⊥ ]

module _ (S : Specification) where
  formed_at : (xs : List Line) → Every (λ x. Formed x.message) xs → (k : ℕ) → Formed (message_at xs k)
  formed_at [] f k = (tt, tt)
  formed_at (x ∷ xs) f zero = f.0
  formed_at (x ∷ xs) f (suc k) = formed_at xs f.1 k

  module _ (acc : Accepted S) where
    formed_message : (l : ℕ) → Formed (message S l)
    formed_message zero = (tt, tt)
    formed_message (suc k) = formed_at S.lines acc.formed_lines k

    line_fit : (d : Duty) (s : Role) → IsLine d → Fit (message S) d s
    line_fit (to_start ts) s i = elim i [ ]
    line_fit (speak l mk) s i = formed_message l
    line_fit (listen l) s i = formed_message l

    lines_fitting : (P : Party) (ds : List Duty) (s : Role) → Every IsLine ds → Sayable (message S) P s ds → Fitting (message S) P s ds
    lines_fitting P [] s i h = tt
    lines_fitting P (d ∷ ds) s i h = (line_fit d s i.0, go (next_role (message S) P d s) (λ s'. lines_fitting P ds s' i.1) h)
      where
        go : (o : Option Role) → ((s' : Role) → Sayable (message S) P s' ds → Fitting (message S) P s' ds)
            → elim o as (λ x. Type 0) [ some s' ↦ Sayable (message S) P s' ds | nothing ↦ ⊥ ]
            → elim o as (λ x. Type 0) [ some s' ↦ Fitting (message S) P s' ds | nothing ↦ ⊥ ]
        go (some s') f x = f s' x
        go nothing f x = x

    pub all_fitting : (r : ℕ) → Fitting (message S) (S.party r) nobody_yet (duties S r)
    all_fitting r = go (ltb r S.roles) (ltb→lt r S.roles) (acc.sayable r)
      where
        go : (b : Bool) → (T b → r < S.roles)
            → (r < S.roles → Sayable (message S) (S.party r) nobody_yet (cond b (to_start (S.knows r) ∷ own S r) []))
            → Fitting (message S) (S.party r) nobody_yet (cond b (to_start (S.knows r) ∷ own S r) [])
        go true f h = (
          (refl, acc.formed_starts r (f tt)),
          lines_fitting (S.party r) (own S r) (start (S.party r) (S.knows r)) (own_lines S r 1 S.lines) (h (f tt)),
        )
        go false f h = tt

  pub role_or_nothing : (r : ℕ) → (r < S.roles) ⊎ (duties S r ≡ [])
  role_or_nothing r = go (ltb r S.roles) (ltb→lt r S.roles)
    where
      go : (b : Bool) → (T b → r < S.roles) → (r < S.roles) ⊎ (cond b (to_start (S.knows r) ∷ own S r) [] ≡ [])
      go true f = inl (f tt)
      go false f = inr refl
