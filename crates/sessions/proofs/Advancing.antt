-- What one call of the model does to a role: it takes its next stage, or stays.
use Rattle.std.proofs.Common.{◌≡◌, ℕ, Bool, true, false, cond, T, ◌⊎◌, List, [], ◌∷◌, sym, refl, inl, inr}
use mathlib.Core.Option.{Option, none as nothing, some}
use Rattle.model.specs.Trees.{Tree}
use Rattle.model.specs.Runs.{Machine, ran, Outcome, ended, stopped, attempt, answer}
use Rattle.model.specs.Programs.{Turn, Stage}
use Rattle.model.specs.Sessions.{State, begin, say, hear, Answer, taken, declined, number_of, only, to_begin, to_say, to_hear, in_turn, valid, went_on, put, concluded, machine_for, tried, counts_right, handled, call}
use Rattle.model.proofs.Exec.{exec, result_of, attempt_exec}

module _ (c : Tree → ℕ) (s : State) (r : ℕ) where
  -- a stage of a role was taken
  pub record Advances (p : Turn → Bool) (vs : List Tree) (ns : List ℕ) (x : State × Answer) : Type 0 where
    pub stage : Stage
    pub machine : Machine
    pub first : only p (s.views r).ahead ≡ some stage
    pub ran_to : exec c stage.actions (machine_for r vs ns s) ≡ ran machine
    pub views : x.0.views ≡ put s.views r (went_on (s.views r) stage vs ns machine)
    pub answered : x.1 ≡ taken (answer stage.actions machine.mem)

  pub record Stays (x : State × Answer) : Type 0 where
    pub number : ℕ
    pub place : ℕ
    pub views : x.0.views ≡ s.views
    pub answered : x.1 ≡ declined number place

  abbrev pub Turns : (Turn → Bool) → List Tree → List ℕ → State × Answer → Type 0
  Turns p vs ns x = Advances p vs ns x ⊎ Stays x

  tried_turns : (st : Stage) (p : Turn → Bool) → only p (s.views r).ahead ≡ some st → (vs : List Tree) (ns : List ℕ) → Turns p vs ns (tried c r st vs ns s)
  tried_turns st p e vs ns = go (attempt c st.actions (s.views r).done (machine_for r vs ns s)) (attempt_exec c st.actions (s.views r).done (machine_for r vs ns s))
    where
      go : (x : Outcome) → result_of x ≡ exec c st.actions (machine_for r vs ns s) → Turns p vs ns (concluded r st vs ns s x)
      go (ended M) q = inl (record { stage = st; machine = M; first = e; ran_to = sym q; views = refl; answered = refl })
      go (stopped f k n) q = inr (record { number = number_of f; place = k; views = refl; answered = refl })

  pub begin_turns : (hs : List (Option Tree)) (ns : List ℕ) → (Advances to_begin (valid hs) ns (call c s (begin r hs ns)) × T (counts_right (s.views r).ahead hs ns)) ⊎ Stays (call c s (begin r hs ns))
  begin_turns hs ns = go (in_turn s (begin r hs ns)) refl
    where
      with : (b : Bool) → (T b → T (counts_right (s.views r).ahead hs ns)) → (st : Stage) → only to_begin (s.views r).ahead ≡ some st
          → (let x = cond {A = State × Answer} b (tried c r st (valid hs) ns s) (s, declined 13 (s.views r).done) in (Advances to_begin (valid hs) ns x × T (counts_right (s.views r).ahead hs ns)) ⊎ Stays x)
      with true t st e = more (tried_turns st to_begin e (valid hs) ns)
        where
          more : Turns to_begin (valid hs) ns (tried c r st (valid hs) ns s)
              → (Advances to_begin (valid hs) ns (tried c r st (valid hs) ns s) × T (counts_right (s.views r).ahead hs ns)) ⊎ Stays (tried c r st (valid hs) ns s)
          more (inl a) = inl (a, t tt)
          more (inr b) = inr b
      with false t st e = inr (record { number = 13; place = (s.views r).done; views = refl; answered = refl })

      go : (o : Option Stage) → in_turn s (begin r hs ns) ≡ o
          → (Advances to_begin (valid hs) ns (handled c s (begin r hs ns) o) × T (counts_right (s.views r).ahead hs ns)) ⊎ Stays (handled c s (begin r hs ns) o)
      go nothing e = inr (record { number = 11; place = (s.views r).done; views = refl; answered = refl })
      go (some st) e = with (counts_right (s.views r).ahead hs ns) (λ t. t) st e

  pub say_turns : Turns to_say [] (s.views r).numbers (call c s (say r))
  say_turns = go (in_turn s (say r)) refl
    where
      go : (o : Option Stage) → in_turn s (say r) ≡ o → Turns to_say [] (s.views r).numbers (handled c s (say r) o)
      go nothing e = inr (record { number = 11; place = (s.views r).done; views = refl; answered = refl })
      go (some st) e = tried_turns st to_say e [] (s.views r).numbers

  pub hear_turns : (h : Option Tree) → Turns to_hear (valid (h ∷ [])) (s.views r).numbers (call c s (hear r h))
  hear_turns h = go (in_turn s (hear r h)) refl
    where
      go : (o : Option Stage) → in_turn s (hear r h) ≡ o → Turns to_hear (valid (h ∷ [])) (s.views r).numbers (handled c s (hear r h) o)
      go nothing e = inr (record { number = 11; place = (s.views r).done; views = refl; answered = refl })
      go (some st) e = tried_turns st to_hear e (valid (h ∷ [])) (s.views r).numbers
