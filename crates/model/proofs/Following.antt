-- A run that keeps to the choice: its next stage is taken.
use Rattle.std.proofs.Common.{◌≡◌, ℕ, ◌+◌, ◌<◌, ◌≤◌, Bool, true, false, cond, T, eqb, ◌⊎◌, ◌↔◌, List, [], ◌∷◌, map, length, sym, refl, ap, ◌∙◌, subst, inl, inr, arith}
use mathlib.Core.Option.{Option, none as nothing, some}
use mathlib.Core.Path.{subst⁻¹}
use Rattle.model.specs.Lists.{Every, firsts}
use Rattle.model.specs.Trees.{Tree, leaf}
use Rattle.model.specs.Deduction.{Party}
use Rattle.model.specs.Roles.{Role}
use Rattle.model.specs.Runs.{Machine, ran, Outcome, ended, stopped, attempt, answer}
use Rattle.model.specs.Readings.{reading_of}
use Rattle.model.specs.Holdings.{ReadsAs}
use Rattle.model.specs.Specifications.{Specification, message, Duty, begin as to_start, speak, listen}
use Rattle.model.specs.Programs.{next_role, line, takes, names, Turn, Stage, turn_of, stage, stages_from, all_makes}
use Rattle.model.specs.Sessions.{View, State, only, to_begin, begins_next, valid, told, went_on, put, concluded, machine_for, tried}
use Rattle.model.specs.SessionLaw.{Taken}
use Rattle.model.proofs.Lists.{every_join}
use Rattle.model.proofs.Machine.{some_inj, ran_inj, never_ran, eqb_iff}
use Rattle.model.proofs.Exec.{exec, result_of, attempt_exec}
use Rattle.model.proofs.Feeding.{Fed, fed_split}
use Rattle.model.proofs.Chosen.{reading_total}
use Rattle.model.proofs.Fitting.{Fitting}
use Rattle.model.proofs.Actors.{Actor, told as told_of, Ready, cost, remaining, TrueLog, after_call, Well, Taken as TakenBy, take_call}
use Rattle.model.proofs.Attends.{Attends}
use Rattle.model.proofs.Coming.{Comes, only_first}
use Rattle.model.proofs.Attending.{is_role, attends_stage}
use Rattle.model.proofs.Sums.{sum, with_one, sum_with, sum_has}

module _ (S : Specification) (c : Tree → ℕ) (ρ : ℕ → Tree) where
  abbrev pub R : Tree → Tree
  R = reading_of ρ

  abbrev pub Names : ℕ → ℕ → Type 0
  Names a k = R (leaf a) ≡ leaf k

  -- the values and numbers of a begin that starts from the choice
  pub fed_each : (ts : List Tree) → Fed (λ t v. R t ≡ v) ts (map R ts) []
  fed_each [] = refl
  fed_each (t ∷ ts) = (refl, fed_each ts)

  pub valid_readings : (ts : List Tree) → valid (map (λ t. some (R t)) ts) ≡ map R ts
  valid_readings [] = refl
  valid_readings (t ∷ ts) = ap (λ l. R t ∷ l) (valid_readings ts)

  first_of : {x y : Tree} {xs ys : List Tree} → x ∷ xs ≡ y ∷ ys → x ≡ y
  first_of e = cc

  rest_same : {x y : Tree} {xs ys : List Tree} → x ∷ xs ≡ y ∷ ys → xs ≡ ys
  rest_same e = cc

  apart : {x : Tree} {xs : List Tree} → [] ≡ x ∷ xs → ⊥
  apart e = let z : ◌≡◌ {A = ℕ} 0 1 = cc in omega arith

  pub fed_numbers : (xs ns : List ℕ) → map leaf ns ≡ map ρ xs → Fed Names xs ns []
  unfolding reading_of
  fed_numbers [] [] e = refl
  fed_numbers [] (n ∷ ns) e = absurd (apart (sym e))
  fed_numbers (a ∷ xs) [] e = absurd (apart e)
  fed_numbers (a ∷ xs) (n ∷ ns) e = (sym (first_of e), fed_numbers xs ns (rest_same e))

  -- numbers for all names of a program serve each of its lines
  pub ready_of : (P : Party) (ds : List Duty) (s : Role) (ks : List ℕ) → Fitting (message S) P s ds → Fed Names (all_makes (stages_from (message S) P s ds)) ks []
      → Ready (message S) c R P s ds ks
  ready_of P [] s ks f h = tt
  ready_of P (d ∷ ds) s ks f h = (f.0, go (next_role (message S) P d s) f.1 h (λ s' ks'. ready_of P ds s' ks'))
    where
      go : (o : Option Role) → elim o as (λ x. Type 0) [ some s' ↦ Fitting (message S) P s' ds | nothing ↦ ⊥ ]
          → Fed Names (all_makes (elim o as (λ x. List Stage) [ some s' ↦ stage (message S) P d s s' ∷ stages_from (message S) P s' ds | nothing ↦ [] ])) ks []
          → ((s' : Role) (ks' : List ℕ) → Fitting (message S) P s' ds → Fed Names (all_makes (stages_from (message S) P s' ds)) ks' [] → Ready (message S) c R P s' ds ks')
          → elim o as (λ x. Type 0) [ some s' ↦ (ks' : List ℕ) × Fed Names (names d s s') ks ks' × Ready (message S) c R P s' ds ks' | nothing ↦ ⊥ ]
      go nothing x i k = elim x [ ]
      go (some s') x i k =
          let y = fed_split Names (names d s s') (all_makes (stages_from (message S) P s' ds)) ks [] i in
          (y.0, y.1, k s' y.0 x y.2)

  told_same : (d : Duty) (o : Option Tree) → told_of (message S) d o ≡ told (turn_of d) o
  told_same (to_start ts) o = refl
  told_same (speak l mk) nothing = refl
  told_same (speak l mk) (some v) = refl
  told_same (listen l) o = refl

  -- a run that keeps to the choice, with what its builds still cost
  pub record Follows (r : ℕ) (v : View) (owed : ℕ) : Type 0 where
    pub attends : Attends S r v
    pub reads : ReadsAs R v.holdings
    pub log : Every (λ p. R (message S p.0) ≡ p.1) v.said
    pub ready : T (begins_next v.ahead) ⊎ Ready (message S) c R (S.party r) attends.role attends.left v.numbers
    pub owes : cost (message S) c R (S.party r) attends.role (firsts v.holdings.taken) (firsts v.holdings.made) attends.left ≡ owed

  pub record Fine (s : State) : Type 0 where
    pub owed : ℕ → ℕ
    pub follows : (r : ℕ) → Follows r (s.views r) (owed r)
    pub room : sum S.roles owed ≤ s.space

  less_than : (o t n : ℕ) (r : ℕ) → r ≡ o → o ≤ t → t ≤ n → r ≤ n
  less_than o t n r p q w = omega arith

  room_left : (t t' o n m r k : ℕ) → t' + o ≡ t + k → t ≤ n → m + r ≡ n + k → r ≡ o → t' ≤ m
  room_left t t' o n m r k a b d e = omega arith

  -- a stage in turn is taken
  pub fine_tried : (s : State) (f : Fine s) (r : ℕ) (st : Stage) (k : Comes S r (s.views r) (f.follows r).attends st) (vs : List Tree) (ns : List ℕ)
      → Fed (λ t v. R t ≡ v) (takes (message S) (S.party r) k.duty) vs []
      → Ready (message S) c R (S.party r) (f.follows r).attends.role (f.follows r).attends.left ns → length ns ≡ length (all_makes (s.views r).ahead)
      → Taken (tried c r st vs ns s).1 × Fine (tried c r st vs ns s).0
  fine_tried s f r st k vs ns fi rd many =
      subst⁻¹ (λ z. Taken (tried c r z vs ns s).1 × Fine (tried c r z vs ns s).0) k.is
      (go (attempt c (line a.role k.role') v.done M) (attempt_exec c (line a.role k.role') v.done M))
    where
      v : View
      v = s.views r

      g : Follows r v (f.owed r)
      g = f.follows r

      a : Attends S r v
      a = g.attends

      P : Party
      P = S.party r

      M : Machine
      M = machine_for r vs ns s

      actor : Actor
      actor = record { party = P; role = a.role; memory = v.memory; holdings = v.holdings; numbers = ns; duties = a.left }

      inside : r < S.roles
      inside = is_role S c r v a st k

      done_so : TakenBy (message S) c R actor s.space vs k.duty k.later
      done_so =
          take_call (message S) c R (reading_total ρ) actor s.space vs k.duty k.later k.first
          (record { sheet = a.sheet; stands = a.stands; reads = g.reads; ready = rd }) fi
          (less_than (f.owed r) (sum S.roles f.owed) s.space (remaining (message S) c R actor) g.owes (sum_has f.owed r S.roles inside) f.room)

      Q : Role → Type 0
      Q z =
          (M' : Machine) × (exec c (line a.role z) M ≡ ran M')
          × Well (message S) c R (after_call (message S) c R actor k.duty k.later vs z M')
          × (M'.space + remaining (message S) c R actor ≡ s.space + remaining (message S) c R (after_call (message S) c R actor k.duty k.later vs z M'))
          × TrueLog (message S) c R (told_of (message S) k.duty (answer (line a.role z) M'.mem))

      ran_on : Q k.role'
      ran_on = subst Q (some_inj (sym done_so.programmed ∙ k.programmed)) (done_so.machine', done_so.runs, done_so.well, done_so.pays, done_so.says)

      M' : Machine
      M' = ran_on.0

      st' : Stage
      st' = stage (message S) P k.duty a.role k.role'

      v' : View
      v' = went_on v st' vs ns M'

      n' : ℕ
      n' = remaining (message S) c R (after_call (message S) c R actor k.duty k.later vs k.role' M')

      here : Follows r v' n'
      here =
          record {
            attends = attends_stage S c r v a st k s.space vs ns many M' ran_on.1;
            reads = ran_on.2.reads;
            log = every_join _ v.said _ g.log (subst (TrueLog (message S) c R) (told_same k.duty _) ran_on.4);
            ready = inr ran_on.2.ready;
            owes = refl;
          }

      all : (q : ℕ) → Follows q (put s.views r v' q) (with_one f.owed r n' q)
      all q = at (eqb r q) (eqb_iff r q)
        where
          at : (b : Bool) → (T b ↔ (r ≡ q)) → Follows q (cond b v' (s.views q)) (cond b n' (f.owed q))
          at true e = subst (λ z. Follows z v' n') (e.0 tt) here
          at false e = f.follows q

      fine : Fine (record { space = M'.space; views = put s.views r v' })
      fine =
          record {
            owed = with_one f.owed r n';
            follows = all;
            room = room_left (sum S.roles f.owed) (sum S.roles (with_one f.owed r n')) (f.owed r) s.space M'.space (remaining (message S) c R actor) n'
                (sum_with f.owed r n' S.roles inside) f.room ran_on.3 g.owes;
          }

      go : (x : Outcome) → result_of x ≡ exec c (line a.role k.role') M
          → Taken (concluded r st' vs ns s x).1 × Fine (concluded r st' vs ns s x).0
      go (ended N) q = (tt, subst (λ z. Fine (concluded r st' vs ns s (ended z)).0) (ran_inj (sym ran_on.1 ∙ sym q)) fine)
      go (stopped e j m) q = absurd (never_ran (q ∙ ran_on.1))

  -- a run that has begun has its numbers
  pub has_begun : (r : ℕ) (v : View) (n : ℕ) (g : Follows r v n) (p : Turn → Bool) → ((t : Turn) → T (to_begin t) → T (p t) → ⊥) → (st : Stage) → only p v.ahead ≡ some st
      → Ready (message S) c R (S.party r) g.attends.role g.attends.left v.numbers
  has_begun r v n g p no_both st e =
      let x = only_first p v.ahead st e in
      elim g.ready [ inl h ↦ absurd (no_both st.turn (subst (λ l. T (begins_next l)) x.1 h) x.2) | inr h ↦ h ]
