-- A stage that is tried: when it is taken, and what its first actions take in.
use Rattle.std.proofs.Common.{◌≡◌, ℕ, suc, ◌+◌, ◌<◌, T, ◌⊎◌, ◌↔◌, List, [], ◌∷◌, ◌++◌, map, length, sym, refl, ap, ◌∙◌, subst, inl, inr, arith}
use mathlib.Core.Option.{Option, none as nothing, some}
use mathlib.Core.Path.{subst⁻¹}
use Rattle.model.specs.Lists.{Every}
use Rattle.model.specs.Trees.{Tree}
use Rattle.model.specs.Deduction.{Party}
use Rattle.model.specs.Roles.{Act, give, new, hear as hear_it, say as say_it, same, make, split, unlock, Role, start}
use Rattle.model.specs.Runs.{Memory, set, Fault, mismatch, full, invalid, broken, Machine, ran, refused, Outcome, ended, stopped, attempt}
use Rattle.model.specs.Holdings.{add, Readable}
use Rattle.model.specs.Specifications.{Specification, message, Duty, begin as to_start, speak, listen}
use Rattle.model.specs.Programs.{next_role, given, line, takes, Stage, turn_of, stage, all_makes}
use Rattle.model.specs.Sessions.{State, Answer, declined, number_of, rest_of_stages, to_begin, to_say, to_hear, valid, gives, concluded, machine_for, tried}
use Rattle.model.specs.SessionLaw.{Taken, Refused}
use Rattle.model.proofs.Machine.{some_inj, never_ran}
use Rattle.model.proofs.Exec.{exec, result_of, attempt_exec}
use Rattle.model.proofs.Feeding.{Fed}
use Rattle.model.proofs.Unbroken.{Unbroken}
use Rattle.model.proofs.Grounds.{Good}
use Rattle.model.proofs.Marked.{None}
use Rattle.model.proofs.Fitting.{Fit}
use Rattle.model.proofs.Speaking.{NoMismatch}
use Rattle.model.proofs.Counts.{Gives, start_gives, start_first, hear_first}
use Rattle.model.proofs.Doing.{TakesIn, duty_taken, duty_unbroken, duty_builds}
use Rattle.model.proofs.Attends.{Attends, AllAttend}
use Rattle.model.proofs.Coming.{Comes}
use Rattle.model.proofs.Attending.{makes_first}

abbrev pub TakenOr1415 : Answer → Type 0
TakenOr1415 a = Taken a ⊎ (Refused 14 a ⊎ Refused 15 a)

fault_same : {f g : Fault} → refused f ≡ refused g → f ≡ g
fault_same e = cc

pub valid_each : (vs : List Tree) → valid (map some vs) ≡ vs
valid_each [] = refl
valid_each (v ∷ vs) = ap (λ l. v ∷ l) (valid_each vs)

pub valid_until : (vs : List Tree) (hs : List (Option Tree)) → valid (map some vs ++ (nothing ∷ hs)) ≡ vs
valid_until [] hs = refl
valid_until (v ∷ vs) hs = ap (λ l. v ∷ l) (valid_until vs hs)

pub longer : (vs : List Tree) (hs : List (Option Tree)) → length vs < length (map some vs ++ (nothing ∷ hs))
longer [] hs = omega arith
longer (v ∷ vs) hs = let p = longer vs hs in omega arith

pub length_each : {A B : Type 0} (f : A → B) (xs : List A) → length (map f xs) ≡ length xs
length_each f [] = refl
length_each f (x ∷ xs) = ap suc (length_each f xs)

pub fed_counted : {A B : Type 0} (xs : List A) (ys : List B) → length ys ≡ length xs → Fed (λ x y. Unit {0}) xs ys []
fed_counted [] [] e = refl
fed_counted [] (y ∷ ys) e = absurd (omega arith)
fed_counted (x ∷ xs) [] e = absurd (omega arith)
fed_counted (x ∷ xs) (y ∷ ys) e = (tt, fed_counted xs ys (omega arith))

pub begins_in : (term : ℕ → Tree) (P : Party) (c : Tree → ℕ) (d : Duty) → T (to_begin (turn_of d)) → TakesIn term P c d
begins_in term P c (to_start ts) h = tt
begins_in term P c (speak l mk) h = h
begins_in term P c (listen l) h = tt

pub hears_in : (term : ℕ → Tree) (P : Party) (c : Tree → ℕ) (d : Duty) → T (to_hear (turn_of d)) → TakesIn term P c d
hears_in term P c (to_start ts) h = tt
hears_in term P c (speak l mk) h = h
hears_in term P c (listen l) h = tt

-- a hear brings one value, and a begin with right counts one for each term
pub hear_fed : (term : ℕ → Tree) (P : Party) (d : Duty) (v : Tree) → T (to_hear (turn_of d)) → Fed (λ t w. Unit {0}) (takes term P d) (v ∷ []) []
hear_fed term P (to_start ts) v h = elim h [ ]
hear_fed term P (speak l mk) v h = elim h [ ]
hear_fed term P (listen l) v h = (tt, refl)

pub say_fed : (term : ℕ → Tree) (P : Party) (d : Duty) → T (to_say (turn_of d)) → Fed {B = Tree} (λ t w. Unit {0}) (takes term P d) [] []
say_fed term P (to_start ts) h = elim h [ ]
say_fed term P (speak l mk) h = refl
say_fed term P (listen l) h = elim h [ ]

pub begin_gives : (term : ℕ → Tree) (P : Party) (d : Duty) (s s' : Role) → T (to_begin (turn_of d)) → Fit term d s → next_role term P d s ≡ some s'
    → gives (line s s') ≡ length (takes term P d)
begin_gives term P (to_start ts) s s' h f e =
    subst (λ z. gives (line s z) ≡ length (given P ts)) (some_inj e)
    (subst⁻¹ (λ z. gives (line z (start P ts)) ≡ length (given P ts)) f.0 (start_gives P ts f.1))
begin_gives term P (speak l mk) s s' h f e = elim h [ ]
begin_gives term P (listen l) s s' h f e = elim h [ ]

-- giving stops where no valid value is left
pub gives_invalid : (c : Tree → ℕ) (xs ys : List Act) → Every Gives xs → (k : ℕ) (m : Memory) (n : ℕ) (vs : List Tree) (ns : List ℕ) → length vs < length xs
    → attempt c (xs ++ ys) k (record { mem = m; space = n; inputs = vs; numbers = ns }) ≡ stopped invalid (k + length vs) n
gives_invalid c [] ys g k m n vs ns h = absurd (omega arith)
gives_invalid c (give r ∷ xs) ys g k m n [] ns h = let e : k ≡ k + 0 = omega arith in ap (λ j. stopped invalid j n) e
gives_invalid c (give r ∷ xs) ys g k m n (v ∷ vs) ns h =
    let e : suc k + length vs ≡ k + suc (length vs) = omega arith in
    gives_invalid c xs ys g.1 (suc k) (set m r v) n vs ns (omega arith) ∙ ap (λ j. stopped invalid j n) e
gives_invalid c (new r ∷ xs) ys g k m n vs ns h = absurd g.0
gives_invalid c (hear_it r ∷ xs) ys g k m n vs ns h = absurd g.0
gives_invalid c (say_it r ∷ xs) ys g k m n vs ns h = absurd g.0
gives_invalid c (same r q ∷ xs) ys g k m n vs ns h = absurd g.0
gives_invalid c (make r j rs ∷ xs) ys g k m n vs ns h = absurd g.0
gives_invalid c (split f j i r ∷ xs) ys g k m n vs ns h = absurd g.0
gives_invalid c (unlock x r j ∷ xs) ys g k m n vs ns h = absurd g.0

-- the actions of a stage that begins first give, those of one that hears first hear
pub begin_acts : (term : ℕ → Tree) (P : Party) (d : Duty) (s s' : Role) → T (to_begin (turn_of d)) → Fit term d s → next_role term P d s ≡ some s'
    → (xs : List Act) × (ys : List Act) × (line s s' ≡ xs ++ ys) × Every Gives xs × (gives (line s s') ≡ length xs)
begin_acts term P (to_start ts) s s' h f e =
    subst (λ z. (xs : List Act) × (ys : List Act) × (line s z ≡ xs ++ ys) × Every Gives xs × (gives (line s z) ≡ length xs)) (some_inj e)
    (subst⁻¹ (λ z. (xs : List Act) × (ys : List Act) × (line z (start P ts) ≡ xs ++ ys) × Every Gives xs × (gives (line z (start P ts)) ≡ length xs)) f.0
    (start_first P ts f.1))
begin_acts term P (speak l mk) s s' h f e = elim h [ ]
begin_acts term P (listen l) s s' h f e = elim h [ ]

pub hear_acts : (term : ℕ → Tree) (P : Party) (d : Duty) (s s' : Role) (Γ : Memory) → Good s Γ s.next None → T (to_hear (turn_of d)) → Fit term d s
    → next_role term P d s ≡ some s' → (n : ℕ) × (xs : List Act) × (line s s' ≡ hear_it n ∷ xs)
hear_acts term P (to_start ts) s s' Γ g h f e = elim h [ ]
hear_acts term P (speak l mk) s s' Γ g h f e = elim h [ ]
hear_acts term P (listen l) s s' Γ g h f e =
    let x = hear_first P (term l) s Γ g f in
    (s.next, x.0, subst (λ z. line s z ≡ hear_it s.next ∷ x.0) (some_inj e) x.1)

module _ (S : Specification) (c : Tree → ℕ) (s : State) (all : AllAttend S s) where
  pub tried_taken : (r : ℕ) (st : Stage) (k : Comes S r (s.views r) (all r) st) (vs : List Tree) (ns : List ℕ) → TakesIn (message S) (S.party r) c k.duty
      → Fed (λ t v. Unit {0}) (takes (message S) (S.party r) k.duty) vs [] → ¬ Refused 15 (tried c r st vs ns s).1
      → Taken (tried c r st vs ns s).1 ↔ Readable (S.party r) (add (s.views r).holdings st.takes vs [] [])
  tried_taken r st k vs ns i fi =
      subst⁻¹ (λ z. ¬ Refused 15 (tried c r z vs ns s).1 → Taken (tried c r z vs ns s).1 ↔ Readable (S.party r) (add (s.views r).holdings z.takes vs [] [])) k.is
      (go (attempt c (line a.role k.role') (s.views r).done M) (attempt_exec c (line a.role k.role') (s.views r).done M))
    where
      a : Attends S r (s.views r)
      a = all r

      M : Machine
      M = machine_for r vs ns s

      st' : Stage
      st' = stage (message S) (S.party r) k.duty a.role k.role'

      iff : ¬ (exec c (line a.role k.role') M ≡ refused full)
          → ((M' : Machine) × (exec c (line a.role k.role') M ≡ ran M')) ↔ Readable (S.party r) (add (s.views r).holdings st'.takes vs [] [])
      iff = duty_taken (message S) (S.party r) c k.duty a.role k.role' a.sheet (s.views r).holdings M i a.stands k.fit k.programmed fi

      go : (x : Outcome) → result_of x ≡ exec c (line a.role k.role') M → ¬ Refused 15 (concluded r st' vs ns s x).1
          → Taken (concluded r st' vs ns s x).1 ↔ Readable (S.party r) (add (s.views r).holdings st'.takes vs [] [])
      go (ended M') q n = ((λ t. (iff (λ e. never_ran (sym (q ∙ e)))).0 (M', sym q)), λ y. tt)
      go (stopped f j m) q n = (
        (λ t. absurd t),
        λ y. absurd (never_ran (q ∙ ((iff (λ e. n (ap number_of (fault_same (q ∙ e))))).1 y).1)),
      )

  -- what else can become of a stage
  pub tried_answer : (r : ℕ) (st : Stage) (k : Comes S r (s.views r) (all r) st) (vs : List Tree) (ns : List ℕ)
      → Fed (λ t v. Unit {0}) (takes (message S) (S.party r) k.duty) vs [] → length ns ≡ length (all_makes (s.views r).ahead)
      → TakenOr1415 (tried c r st vs ns s).1 × (T (to_say st.turn) → Taken (tried c r st vs ns s).1 ⊎ Refused 15 (tried c r st vs ns s).1)
  tried_answer r st k vs ns fi many =
      subst⁻¹ (λ z. TakenOr1415 (tried c r z vs ns s).1 × (T (to_say z.turn) → Taken (tried c r z vs ns s).1 ⊎ Refused 15 (tried c r z vs ns s).1)) k.is
      (go (attempt c (line a.role k.role') (s.views r).done M) (attempt_exec c (line a.role k.role') (s.views r).done M))
    where
      a : Attends S r (s.views r)
      a = all r

      M : Machine
      M = machine_for r vs ns s

      st' : Stage
      st' = stage (message S) (S.party r) k.duty a.role k.role'

      whole : Unbroken (exec c (line a.role k.role') M)
      whole =
          duty_unbroken (message S) (S.party r) c k.duty a.role k.role' a.sheet (s.views r).holdings M a.stands k.fit k.programmed fi
          (length (all_makes (rest_of_stages (s.views r).ahead))) (many ∙ makes_first S c r (s.views r) a st k)

      fits : T (to_say (turn_of k.duty)) → NoMismatch (exec c (line a.role k.role') M)
      fits h = duty_builds (message S) (S.party r) c k.duty a.role k.role' M h k.programmed

      refused_as : (f : Fault) (j m : ℕ) → Unbroken (refused f) → (T (to_say (turn_of k.duty)) → NoMismatch (refused f))
          → TakenOr1415 (declined (number_of f) j) × (T (to_say (turn_of k.duty)) → ⊥ ⊎ (number_of f ≡ 15))
      refused_as mismatch j m u w = (inr (inl refl), λ h. absurd (w h))
      refused_as full j m u w = (inr (inr refl), λ h. inr refl)
      refused_as invalid j m u w = elim u [ ]
      refused_as broken j m u w = elim u [ ]

      go : (x : Outcome) → result_of x ≡ exec c (line a.role k.role') M
          → TakenOr1415 (concluded r st' vs ns s x).1
          × (T (to_say (turn_of k.duty)) → Taken (concluded r st' vs ns s x).1 ⊎ Refused 15 (concluded r st' vs ns s x).1)
      go (ended M') q = (inl tt, λ h. inl tt)
      go (stopped f j m) q = refused_as f j m (subst⁻¹ Unbroken q whole) (λ h. subst⁻¹ NoMismatch q (fits h))
