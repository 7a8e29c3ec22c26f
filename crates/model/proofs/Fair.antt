-- From new runs on: while all start from one choice, lines arrive as said and space suffices, no call in turn is refused.
use Rattle.std.proofs.Common.{◌≡◌, ℕ, zero, suc, ◌+◌, ◌-◌, ◌≤◌, Bool, true, false, cond, T, ltb, leb, ◌⊎◌, List, [], ◌∷◌, ◌++◌, sym, refl, ap, ◌∙◌, subst, inl, inr, append_assoc, append-nil}
use mathlib.Core.Option.{Option, none as nothing, some}
use mathlib.Core.Path.{subst⁻¹}
use Rattle.model.specs.Trees.{Tree}
use Rattle.model.specs.Deduction.{Party}
use Rattle.model.specs.Roles.{Role}
use Rattle.model.specs.Runs.{Memory, empty}
use Rattle.model.specs.Specifications.{Specification, message, Duty, begin as to_start, own, duties}
use Rattle.model.specs.Programs.{nobody_yet, next_role, line, takes, names, Turn, begins, Stage, stage, stages_from, stages, all_actions, all_takes, all_makes, Accepted}
use Rattle.model.specs.Costs.{bills, sheet_of}
use Rattle.model.specs.Sessions.{State, new_runs, Event, begin, say, hear, build, other, Answer, taken, declined, only, to_begin, to_say, to_hear, begins_next, handled, call, after}
use Rattle.model.specs.SessionLaw.{Along, StartsFrom, AsSaid, Unbuilt, program_cost, costs, Suffices, Fair, NotRefused, AllRead, AllShare}
use Rattle.model.proofs.Machine.{no_some}
use Rattle.model.proofs.Grounds.{Good, held_every}
use Rattle.model.proofs.Marked.{None}
use Rattle.model.proofs.Lines.{good_nobody}
use Rattle.model.proofs.Adding.{line_is}
use Rattle.model.proofs.Fitting.{went_duty, Fitting, all_fitting}
use Rattle.model.proofs.Actors.{Ready, cost}
use Rattle.model.proofs.Bills.{finish, program_bill}
use Rattle.model.proofs.Attends.{new_attend}
use Rattle.model.proofs.Sums.{sum}
use Rattle.model.proofs.Following.{R, Fine}
use Rattle.model.proofs.Choosing.{not_refused, fine_along, fine_reads}

module _ (S : Specification) (c : Tree → ℕ) (ρ : ℕ → Tree) where
  -- what a role's builds cost, line by line, is what its program builds
  abbrev Finished : Role → List Tree → List ℕ → List Stage → Option (Role × List Tree × List ℕ) → Type 0
  Finished s is ns xs nothing = ⊥
  Finished s is ns xs (some z) = (z.0.acts ≡ s.acts ++ all_actions xs) × (z.1 ≡ is ++ all_takes xs) × (z.2 ≡ ns ++ all_makes xs)

  finishes : (P : Party) (ds : List Duty) (s : Role) (Γ : Memory) (is : List Tree) (ns : List ℕ) → Good s Γ s.next None → Fitting (message S) P s ds
      → Finished s is ns (stages_from (message S) P s ds) (finish c (R S c ρ) (message S) P s is ns ds)
  finishes P [] s Γ is ns g f = (sym (append-nil s.acts), sym (append-nil is), sym (append-nil ns))
  finishes P (d ∷ ds) s Γ is ns g f = go (next_role (message S) P d s) refl f.1 (λ s' Δ is' ns'. finishes P ds s' Δ is' ns')
    where
      more_done : (s' : Role) → s'.acts ≡ s.acts ++ line s s' → (o : Option (Role × List Tree × List ℕ))
          → Finished s' (is ++ takes (message S) P d) (ns ++ names d s s') (stages_from (message S) P s' ds) o
          → Finished s is ns (stage (message S) P d s s' ∷ stages_from (message S) P s' ds) o
      more_done s' e nothing h = h
      more_done s' e (some z) h = (
        h.0 ∙ ap (λ l. l ++ all_actions (stages_from (message S) P s' ds)) e ∙ append_assoc s.acts (line s s') (all_actions (stages_from (message S) P s' ds)),
        h.1 ∙ append_assoc is (takes (message S) P d) (all_takes (stages_from (message S) P s' ds)),
        h.2 ∙ append_assoc ns (names d s s') (all_makes (stages_from (message S) P s' ds)),
      )

      go : (o : Option Role) → next_role (message S) P d s ≡ o → elim o as (λ x. Type 0) [ some s' ↦ Fitting (message S) P s' ds | nothing ↦ ⊥ ]
          → ((s' : Role) (Δ : Memory) (is' : List Tree) (ns' : List ℕ) → Good s' Δ s'.next None → Fitting (message S) P s' ds
          → Finished s' is' ns' (stages_from (message S) P s' ds) (finish c (R S c ρ) (message S) P s' is' ns' ds))
          → Finished s is ns (elim o as (λ x. List Stage) [ some s' ↦ stage (message S) P d s s' ∷ stages_from (message S) P s' ds | nothing ↦ [] ])
          (elim o as (λ x. Option (Role × List Tree × List ℕ))
          [ some s' ↦ finish c (R S c ρ) (message S) P s' (is ++ takes (message S) P d) (ns ++ names d s s') ds | nothing ↦ nothing ])
      go nothing e x k = elim x [ ]
      go (some s') e x k =
          let w = (went_duty (message S) P d s s' Γ g f.0 e).0 in
          more_done s' (w.grew.adds ∙ ap (λ l. s.acts ++ l) (sym (line_is P w.grew))) _
          (k s' w.sheet (is ++ takes (message S) P d) (ns ++ names d s s') w.good x)

  module _ (acc : Accepted S) where
    role_cost : (r : ℕ) → cost (message S) c (R S c ρ) (S.party r) nobody_yet [] [] (duties S r) ≡ program_cost S c (R S c ρ) (stages S r)
    role_cost r = go (finish c (R S c ρ) (message S) P nobody_yet [] [] (duties S r)) refl (finishes P (duties S r) nobody_yet empty [] [] good_nobody (all_fitting S acc r))
      where
        P : Party
        P = S.party r

        go : (o : Option (Role × List Tree × List ℕ)) → finish c (R S c ρ) (message S) P nobody_yet [] [] (duties S r) ≡ o → Finished nobody_yet [] [] (stages S r) o
            → cost (message S) c (R S c ρ) P nobody_yet [] [] (duties S r) ≡ program_cost S c (R S c ρ) (stages S r)
        go nothing e h = elim h [ ]
        go (some z) e h = program_bill c (R S c ρ) (message S) P (duties S r) (all_fitting S acc r) z e ∙ λ i. bills c (R S c ρ) (sheet_of (h.0 i) (h.1 i) (h.2 i)) (h.0 i)

    first_owed : ℕ → ℕ
    first_owed r = cost (message S) c (R S c ρ) (S.party r) nobody_yet [] [] (duties S r)

    all_costs : (n : ℕ) → sum n first_owed ≡ costs S c (R S c ρ) n
    unfolding first_owed
    all_costs zero = refl
    all_costs (suc n) = λ i. role_cost n i + all_costs n i

    new_ready : (r : ℕ) → T (begins_next (stages S r)) ⊎ Ready (message S) c (R S c ρ) (S.party r) nobody_yet (duties S r) []
    new_ready r = go (ltb r S.roles)
      where
        go : (b : Bool) → (let ds = cond b (to_start (S.knows r) ∷ own S r) [] in
            T (begins_next (stages_from (message S) (S.party r) nobody_yet ds)) ⊎ Ready (message S) c (R S c ρ) (S.party r) nobody_yet ds [])
        go true = inl tt
        go false = inr tt

    new_fine : (n : ℕ) → costs S c (R S c ρ) S.roles ≤ n → Fine S c ρ (new_runs S n)
    unfolding first_owed
    new_fine n h =
        record {
          owed = first_owed;
          follows = λ r. record { attends = new_attend S acc n r; reads = (tt, tt); log = tt; ready = new_ready r; owes = refl };
          room = subst⁻¹ (λ k. k ≤ n) (all_costs S.roles) h;
        }

    -- before the first begin nothing else is in turn
    new_only : (p : Turn → Bool) → ¬ T (p begins) → (r : ℕ) → only p (stages S r) ≡ nothing
    new_only p no_begin r = go (ltb r S.roles)
      where
        one : (b : Bool) → ¬ T b → (st : Stage) → cond b (some st) nothing ≡ nothing
        one true h st = absurd (h tt)
        one false h st = refl

        go : (b : Bool) → only p (stages_from (message S) (S.party r) nobody_yet (cond b (to_start (S.knows r) ∷ own S r) [])) ≡ nothing
        go true = one (p begins) no_begin _
        go false = refl

    not_begun : (xs : List Stage) → begins_next xs ≡ false → only to_begin xs ≡ nothing
    not_begun [] e = refl
    not_begun (st ∷ rest) e = ap (λ y. cond y (some st) nothing) e

    abbrev GoesWell : State → List Event → Type 0
    GoesWell s es = Along c (NotRefused c) s es × AllRead (R S c ρ) (after c s es)

    later : (e : Event) (es : List Event) (n m : ℕ) → (call c (new_runs S n) e).0 ≡ new_runs S m → NotRefused c (new_runs S n) e
        → Along c (StartsFrom S ρ) (call c (new_runs S n) e).0 es → Along c AsSaid (call c (new_runs S n) e).0 es → Suffices S c (R S c ρ) (call c (new_runs S n) e).0 es
        → (Along c (StartsFrom S ρ) (new_runs S m) es → Along c AsSaid (new_runs S m) es → Suffices S c (R S c ρ) (new_runs S m) es → GoesWell (new_runs S m) es)
        → GoesWell (new_runs S n) (e ∷ es)
    later e es n m p nr a b u k =
        let x = subst⁻¹ (λ s. GoesWell s es) p
        (k (subst (λ s. Along c (StartsFrom S ρ) s es) p a) (subst (λ s. Along c AsSaid s es) p b) (subst (λ s. Suffices S c (R S c ρ) s es) p u)) in
        ((nr, x.0), x.1)

    -- from the runs' making on
    goes_well : (es : List Event) (n : ℕ) → Along c (StartsFrom S ρ) (new_runs S n) es → Along c AsSaid (new_runs S n) es → Suffices S c (R S c ρ) (new_runs S n) es
        → GoesWell (new_runs S n) es
    goes_well [] n a b u = (tt, λ r. tt)
    goes_well (begin r hs ns ∷ es) n a b u = go (begins_next (stages S r)) refl u (goes_well es n)
      where
        s : State
        s = new_runs S n

        go : (y : Bool) → begins_next (stages S r) ≡ y
            → cond y ((costs S c (R S c ρ) S.roles ≤ n) × Along c (Unbuilt c) (call c s (begin r hs ns)).0 es) (Suffices S c (R S c ρ) (call c s (begin r hs ns)).0 es)
            → (Along c (StartsFrom S ρ) s es → Along c AsSaid s es → Suffices S c (R S c ρ) s es → GoesWell s es)
            → GoesWell s (begin r hs ns ∷ es)
        go false q x k =
            let p = not_begun (stages S r) q in
            later (begin r hs ns) es n n (ap (λ o. (handled c s (begin r hs ns) o).0) p) (not_refused S c ρ s (begin r hs ns) (λ st i. absurd (no_some (sym p ∙ i)))) a.1 b.1 x k
        go true q x k =
            let y = fine_along S c ρ (begin r hs ns ∷ es) s (new_fine n x.0) a b (tt, x.1) in
            (y.0, fine_reads S c ρ (after c s (begin r hs ns ∷ es)) y.1)
    goes_well (say r ∷ es) n a b u =
        let q = new_only to_say (λ h. h) r in
        later (say r) es n n (ap (λ o. (handled c (new_runs S n) (say r) o).0) q) (not_refused S c ρ (new_runs S n) (say r) (λ st i. absurd (no_some (sym q ∙ i)))) a.1 b.1 u (goes_well es n)
    goes_well (hear r h ∷ es) n a b u =
        let q = new_only to_hear (λ h. h) r in
        later (hear r h) es n n (ap (λ o. (handled c (new_runs S n) (hear r h) o).0) q) (not_refused S c ρ (new_runs S n) (hear r h) (λ st i. absurd (no_some (sym q ∙ i)))) a.1 b.1 u (goes_well es n)
    goes_well (build v ∷ es) n a b u =
        later (build v) es n (cond (leb (c v) n) (n - c v) n) (go (leb (c v) n)) tt a.1 b.1 u (goes_well es (cond (leb (c v) n) (n - c v) n))
      where
        go : (b : Bool) → (cond {A = State × Answer} b (new_runs S (n - c v), taken nothing) (new_runs S n, declined 15 0)).0 ≡ new_runs S (cond b (n - c v) n)
        go true = refl
        go false = refl
    goes_well (other ∷ es) n a b u = later other es n n refl tt a.1 b.1 u (goes_well es n)

    -- two roles share one value for a term that both hold
    shares : (s : State) → AllRead (R S c ρ) s → AllShare s
    shares s h r q t i j x y = (
      R S c ρ t,
      held_every (λ u k. (s.views r).memory k ≡ some (R S c ρ u)) (s.views r).known (h r) t i x,
      held_every (λ u k. (s.views q).memory k ≡ some (R S c ρ u)) (s.views q).known (h q) t j y,
    )

    pub fair_goes : (es : List Event) (space : ℕ) → Fair S c ρ (new_runs S space) es
        → Along c (NotRefused c) (new_runs S space) es × AllRead (R S c ρ) (after c (new_runs S space) es) × AllShare (after c (new_runs S space) es)
    fair_goes es space f =
        let x = goes_well es space f.start f.arrive f.suffice in
        (x.0, x.1, shares (after c (new_runs S space) es) x.1)
