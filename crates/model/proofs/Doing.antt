-- A duty done on values: when it is taken, and what else can become of it.
use Rattle.std.proofs.Common.{◌≡◌, ℕ, ◌+◌, T, ◌↔◌, [], length, refl, ap, ◌∙◌, subst}
use mathlib.Core.Option.{some}
use mathlib.Core.Path.{subst⁻¹}
use Rattle.model.specs.Lists.{Every}
use Rattle.model.specs.Trees.{Tree}
use Rattle.model.specs.Deduction.{Party, Derives}
use Rattle.model.specs.Roles.{Role, Said, spoke, failed, said}
use Rattle.model.specs.Entries.{AtRest}
use Rattle.model.specs.Lives.{spoken}
use Rattle.model.specs.Runs.{Memory, full, Machine, ran, refused, answer}
use Rattle.model.specs.Holdings.{Stock, add, ValueOf, Readable}
use Rattle.model.specs.Specifications.{Duty, begin as to_start, speak, listen}
use Rattle.model.specs.Programs.{next_role, line, takes, names, says_line, turn_of}
use Rattle.model.specs.Sessions.{to_say, told}
use Rattle.model.specs.CountLaw.{Counted}
use Rattle.model.specs.Deducible.{Deducible}
use Rattle.model.proofs.Machine.{some_inj, no_some, All}
use Rattle.model.proofs.Exec.{exec}
use Rattle.model.proofs.Feeding.{Fed, fed_map, fed_enough}
use Rattle.model.proofs.After.{After}
use Rattle.model.proofs.Unbroken.{Unbroken, Whole}
use Rattle.model.proofs.Filling.{Went}
use Rattle.model.proofs.Marked.{None}
use Rattle.model.proofs.Lines.{went_heard, went_start}
use Rattle.model.proofs.Standing.{Stands, line_after, stands_line, line_taken, line_unbroken, line_whole}
use Rattle.model.proofs.Adding.{line_is}
use Rattle.model.proofs.Fitting.{answer_last, Fit, Told, went_duty}
use Rattle.model.proofs.Speaking.{said_builds, NoMismatch, builds_fit}

-- one duty done by a role that stands
module _ (term : ℕ → Tree) (P : Party) (c : Tree → ℕ) where
  pub duty_done : (d : Duty) (s s' : Role) (Γ : Memory) (h : Stock) (M : Machine) → Stands P s Γ M.mem h → Fit term d s → next_role term P d s ≡ some s'
      → (M' : Machine) → exec c (line s s') M ≡ ran M'
      → (let h' = add h (takes term P d) M.inputs (names d s s') M.numbers in
      (Γ' : Memory) × Stands P s' Γ' M'.mem h' × ((A : ℕ → ℕ) → Every (Counted A) s'.acts → Every (λ p. Deducible A P (ValueOf h') p.1) (told (turn_of d) (answer (line s s') M'.mem)))
      × Fed (λ t v. Unit {0}) (takes term P d) M.inputs M'.inputs × Fed (λ a k. Unit {0}) (names d s s') M.numbers M'.numbers
      × Every (λ p. Derives P (ValueOf h') p.1) (told (turn_of d) (answer (line s s') M'.mem)))
  duty_done d s s' Γ h M st f e M' x = (
    u.0.sheet,
    now,
    λ A q. said_now (Deducible A P (ValueOf h')) d s s' M' u.0.sheet h' now u.1 (now.values A q),
    fed_map _ (λ t v. Unit {0}) (λ t v i. tt) (takes term P d) M.inputs M'.inputs done.fed,
    fed_map _ (λ a k. Unit {0}) (λ a k i. tt) (names d s s') M.numbers M'.numbers done.numbered,
    said_now (Derives P (ValueOf h')) d s s' M' u.0.sheet h' now u.1 now.values_derive,
  )
    where
      h' : Stock
      h' = add h (takes term P d) M.inputs (names d s s') M.numbers

      u : (w : Went P s Γ s' None (takes term P d) (names d s s')) × Told term d s s' w.sheet
      u = went_duty term P d s s' Γ st.good f e

      done : After s'.next u.0.sheet u.0.grew.line (takes term P d) (names d s s') M M'
      done = line_after P c s s' Γ (takes term P d) (names d s s') u.0 M h st M' (subst (λ l. exec c l M ≡ ran M') (line_is P u.0.grew) x)

      now : Stands P s' u.0.sheet M'.mem h'
      now = stands_line P c s s' Γ (takes term P d) (names d s s') u.0 M h st M' (subst (λ l. exec c l M ≡ ran M') (line_is P u.0.grew) x)

      said_now : (D : Tree → Type 0) (d : Duty) (s s' : Role) (M' : Machine) (Δ : Memory) (h' : Stock) → Stands P s' Δ M'.mem h' → Told term d s s' Δ
          → All (λ r v. D v) M'.mem → Every (λ p. D p.1) (told (turn_of d) (answer (line s s') M'.mem))
      said_now D (to_start ts) s s' M' Δ h' k t f = tt
      said_now D (listen l) s s' M' Δ h' k t f = tt
      said_now D (speak l mk) s s' M' Δ h' k t f =
          let y = k.filled t.0 (term l) t.3 in
          subst⁻¹ (λ o. Every (λ p. D p.1) (told (says_line l) o))
          (ap (λ xs. answer xs M'.mem) t.2 ∙ answer_last t.1 t.0 M'.mem y.0 y.1)
          (f t.0 y.0 y.1, tt)

  abbrev pub TakesIn : Duty → Type 0
  TakesIn (to_start ts) = Unit {0}
  TakesIn (speak l mk) = ⊥
  TakesIn (listen l) = Unit {0}

  -- after the start, and after a line heard, nothing is due
  rests : (d : Duty) (s s' : Role) (Γ m : Memory) (h : Stock) → TakesIn d → Stands P s Γ m h → Fit term d s → next_role term P d s ≡ some s' → AtRest P s'
  rests (to_start ts) s s' Γ m h i st f e = subst (AtRest P) (some_inj e) (went_start P ts f.1).1
  rests (speak l mk) s s' Γ m h i st f e = elim i [ ]
  rests (listen l) s s' Γ m h i st f e = subst (AtRest P) (some_inj e) (went_heard P (term l) s Γ st.good f).1

  no_names : (d : Duty) (s s' : Role) → TakesIn d → names d s s' ≡ []
  no_names (to_start ts) s s' i = refl
  no_names (speak l mk) s s' i = elim i [ ]
  no_names (listen l) s s' i = refl

  -- what takes in is taken exactly if all holdings can be read, but for space
  pub duty_taken : (d : Duty) (s s' : Role) (Γ : Memory) (h : Stock) (M : Machine) → TakesIn d → Stands P s Γ M.mem h → Fit term d s → next_role term P d s ≡ some s'
      → Fed (λ t v. Unit {0}) (takes term P d) M.inputs [] → ¬ (exec c (line s s') M ≡ refused full)
      → ((M' : Machine) × (exec c (line s s') M ≡ ran M')) ↔ Readable P (add h (takes term P d) M.inputs [] [])
  duty_taken d s s' Γ h M i st f e fi n =
      let u = went_duty term P d s s' Γ st.good f e in
      let l = line_is P u.0.grew in
      let z = no_names d s s' i in
      subst⁻¹ (λ xs. ((M' : Machine) × (exec c xs M ≡ ran M')) ↔ Readable P (add h (takes term P d) M.inputs [] [])) l
      (subst (λ ns. ((M' : Machine) × (exec c u.0.grew.line M ≡ ran M')) ↔ Readable P (add h (takes term P d) M.inputs ns M.numbers)) z
      (line_taken P c s s' Γ (takes term P d) (names d s s') u.0 M h st (λ t v. Unit {0}) (λ a b. Unit {0}) [] M.numbers fi
      (subst⁻¹ (λ ns. Fed (λ a b. Unit {0}) ns M.numbers M.numbers) z refl)
      (rests d s s' Γ M.mem h i st f e) (subst (λ xs. ¬ (exec c xs M ≡ refused full)) l n)))

  -- with values and numbers enough, what is not taken is a mismatch or full
  pub duty_unbroken : (d : Duty) (s s' : Role) (Γ : Memory) (h : Stock) (M : Machine) → Stands P s Γ M.mem h → Fit term d s → next_role term P d s ≡ some s'
      → Fed (λ t v. Unit {0}) (takes term P d) M.inputs [] → (n : ℕ) → length M.numbers ≡ length (names d s s') + n → Unbroken (exec c (line s s') M)
  duty_unbroken d s s' Γ h M st f e fi n many =
      let u = went_duty term P d s s' Γ st.good f e in
      let k = fed_enough (names d s s') M.numbers n many in
      subst⁻¹ (λ xs. Unbroken (exec c xs M)) (line_is P u.0.grew)
      (line_unbroken P c s s' Γ (takes term P d) (names d s s') u.0 M h st (λ t v. Unit {0}) (λ a b. Unit {0}) [] k.0 fi k.1)

  pub duty_whole : (d : Duty) (s s' : Role) (Γ : Memory) (h : Stock) (M : Machine) → Stands P s Γ M.mem h → Fit term d s → next_role term P d s ≡ some s'
      → (n : ℕ) → length M.numbers ≡ length (names d s s') + n → Whole (exec c (line s s') M)
  duty_whole d s s' Γ h M st f e n many =
      let u = went_duty term P d s s' Γ st.good f e in
      let k = fed_enough (names d s s') M.numbers n many in
      subst⁻¹ (λ xs. Whole (exec c xs M)) (line_is P u.0.grew)
      (line_whole P c s s' Γ (takes term P d) (names d s s') u.0 M h st (λ a b. Unit {0}) k.0 k.1)

  -- a say only builds
  pub duty_builds : (d : Duty) (s s' : Role) (M : Machine) → T (to_say (turn_of d)) → next_role term P d s ≡ some s' → NoMismatch (exec c (line s s') M)
  duty_builds (to_start ts) s s' M h e = elim h [ ]
  duty_builds (listen l) s s' M h e = elim h [ ]
  duty_builds (speak l mk) s s' M h e = go (said P mk (term l) s) refl e
    where
      go : (x : Said) → said P mk (term l) s ≡ x → spoken x ≡ some s' → NoMismatch (exec c (line s s') M)
      go (spoke u) p q = builds_fit c (line s s') M (said_builds P mk (term l) s s' (p ∙ ap spoke (some_inj q)))
      go (failed u) p q = absurd (no_some q)
