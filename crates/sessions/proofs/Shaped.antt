-- The stages of a program: which action a line begins with, and that lines rise.
use Rattle.std.proofs.Common.{◌≡◌, ℕ, suc, ◌≤◌, Bool, true, false, cond, eqb, ltb, List, [], ◌∷◌, ◌++◌, refl, ap, ◌∙◌, subst, arith}
use mathlib.Core.Option.{Option, none as nothing, some}
use mathlib.Core.Path.{subst⁻¹}
use Rattle.model.specs.Lists.{Every}
use Rattle.model.specs.Trees.{Tree}
use Rattle.model.specs.Deduction.{Party}
use Rattle.model.specs.Roles.{Act, give, new, hear, say, same, make, split, unlock, Role, Said, spoke, failed, said}
use Rattle.model.specs.Lives.{spoken}
use Rattle.model.specs.Runs.{Memory, empty}
use Rattle.model.specs.Specifications.{Line, Specification, message, makes, Duty, begin, speak, listen, own_from, own, duties}
use Rattle.model.specs.Programs.{nobody_yet, next_role, line, Turn, begins, says_line, hears_line, Stage, turn_of, stage, stages_from, stages, line_of, Accepted}
use Rattle.model.proofs.Machine.{some_inj, no_some}
use Rattle.model.proofs.Grounds.{Good}
use Rattle.model.proofs.Marked.{None}
use Rattle.model.proofs.Lines.{good_nobody}
use Rattle.model.proofs.Fitting.{Fit, went_duty, Fitting, all_fitting}
use Rattle.model.proofs.Speaking.{Builds, said_builds}
use Rattle.model.proofs.Tried.{hear_acts}
use Rattle.run.specs.Plain.{is_hear}

-- the first of some actions hears, or does not
abbrev pub OpensAs : Bool → List Act → Type 0
OpensAs b [] = ⊥
OpensAs b (a ∷ xs) = is_hear a ≡ b

-- the last of some actions says
abbrev pub SaysLast : List Act → Type 0
SaysLast xs = (r : ℕ) × (ys : List Act) × (xs ≡ ys ++ (say r ∷ []))

-- a line that is heard first hears; one that is said does not, and its last action says
abbrev pub Opens : Turn → List Act → Type 0
Opens begins xs = Unit {0}
Opens (says_line l) xs = OpensAs false xs × SaysLast xs
Opens (hears_line l) xs = OpensAs true xs

-- stages in lines that rise, from one on
abbrev pub Shaped : ℕ → List Stage → Type 0
Shaped l [] = Unit {0}
Shaped l (st ∷ rest) = (l ≤ line_of st.turn) × Opens st.turn st.actions × Shaped (suc (line_of st.turn)) rest

abbrev Ascends : ℕ → List Duty → Type 0
Ascends l [] = Unit {0}
Ascends l (d ∷ ds) = (l ≤ line_of (turn_of d)) × Ascends (suc (line_of (turn_of d))) ds

ascends_less : (k l : ℕ) (ds : List Duty) → k ≤ l → Ascends l ds → Ascends k ds
ascends_less k l [] h a = tt
ascends_less k l (d ∷ ds) h a = let q = a.0 in (omega arith, a.1)

own_ascends : (S : Specification) (r l : ℕ) (xs : List Line) → Ascends l (own_from S r l xs)
own_ascends S r l [] = tt
own_ascends S r l (x ∷ xs) = go (eqb r x.sender) (eqb r x.receiver) (own_ascends S r (suc l) xs)
  where
    rest : List Duty
    rest = own_from S r (suc l) xs

    go : (a b : Bool) → Ascends (suc l) rest → Ascends l (cond a (speak l (makes S l) ∷ rest) (cond b (listen l ∷ rest) rest))
    go true b h = (omega arith, h)
    go false true h = (omega arith, h)
    go false false h = ascends_less l (suc l) rest (omega arith) h

-- what builds does not hear
build_is_silent : (a : Act) → Builds a → is_hear a ≡ false
build_is_silent (give r) b = elim b [ ]
build_is_silent (new r) b = refl
build_is_silent (hear r) b = elim b [ ]
build_is_silent (say r) b = refl
build_is_silent (same r q) b = elim b [ ]
build_is_silent (make r h rs) b = refl
build_is_silent (split f n h r) b = elim b [ ]
build_is_silent (unlock x r k) b = elim b [ ]

say_opens : (r : ℕ) (xs : List Act) → Every Builds (xs ++ (say r ∷ [])) → OpensAs false (xs ++ (say r ∷ []))
say_opens r [] b = refl
say_opens r (a ∷ xs) b = build_is_silent a b.0

module _ (term : ℕ → Tree) (P : Party) where
  duty_opens : (d : Duty) (s s' : Role) (Γ : Memory) → Good s Γ s.next None → Fit term d s → next_role term P d s ≡ some s' → Opens (turn_of d) (line s s')
  duty_opens (begin ts) s s' Γ g f e = tt
  duty_opens (listen l) s s' Γ g f e =
      subst⁻¹ (OpensAs true) (hear_acts term P (listen l) s s' Γ g tt f e).2 refl
  duty_opens (speak l mk) s s' Γ g f e = go (said P mk (term l) s) refl e
    where
      go : (x : Said) → said P mk (term l) s ≡ x → spoken x ≡ some s' → Opens (says_line l) (line s s')
      go (spoke u) p q =
          let b = said_builds P mk (term l) s s' (p ∙ ap spoke (some_inj q)) in
          let t = (went_duty term P (speak l mk) s s' Γ g f e).1 in
          (subst⁻¹ (OpensAs false) t.2 (say_opens t.0 t.1 (subst (Every Builds) t.2 b)), (t.0, t.1, t.2))
      go (failed u) p q = absurd (no_some q)

  stages_shaped : (ds : List Duty) (s : Role) (Γ : Memory) (l : ℕ) → Good s Γ s.next None → Fitting term P s ds → Ascends l ds
      → Shaped l (stages_from term P s ds)
  stages_shaped [] s Γ l g f a = tt
  stages_shaped (d ∷ ds) s Γ l g f a = go (next_role term P d s) refl f.1 (λ s' Δ h k. stages_shaped ds s' Δ (suc (line_of (turn_of d))) h k a.1)
    where
      go : (o : Option Role) → next_role term P d s ≡ o → elim o as (λ x. Type 0) [ some s' ↦ Fitting term P s' ds | nothing ↦ ⊥ ]
          → ((s' : Role) (Δ : Memory) → Good s' Δ s'.next None → Fitting term P s' ds → Shaped (suc (line_of (turn_of d))) (stages_from term P s' ds))
          → Shaped l (elim o as (λ x. List Stage) [ some s' ↦ stage term P d s s' ∷ stages_from term P s' ds | nothing ↦ [] ])
      go nothing e x k = elim x [ ]
      go (some s') e x k =
          let w = (went_duty term P d s s' Γ g f.0 e).0 in
          (a.0, duty_opens d s s' Γ g f.0 e, k s' w.sheet w.good x)

-- the stages of a role of an accepted specification
pub program_shaped : (S : Specification) → Accepted S → (r : ℕ) → Shaped 0 (stages S r)
program_shaped S acc r =
    stages_shaped (message S) (S.party r) (duties S r) nobody_yet empty 0 good_nobody (all_fitting S acc r) (go (ltb r S.roles))
  where
    go : (b : Bool) → Ascends 0 (cond b (begin (S.knows r) ∷ own S r) [])
    go true = (omega arith, own_ascends S r 1 S.lines)
    go false = tt
