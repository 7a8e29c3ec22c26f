-- Which calls are refused before they are tried: out of turn, or a begin with wrong counts.
use Rattle.std.proofs.Common.{◌≡◌, ℕ, ◌-◌, Bool, true, false, cond, T, leb, ◌⊎◌, ◌↔◌, List, [], ◌∷◌, sym, refl, inl, inr, arith}
use mathlib.Core.Option.{Option, none as nothing, some}
use Rattle.model.specs.Trees.{Tree}
use Rattle.model.specs.Runs.{Fault, mismatch, full, invalid, broken, Outcome, ended, stopped, attempt}
use Rattle.model.specs.Programs.{Turn, begins, says_line, hears_line, Stage}
use Rattle.model.specs.Sessions.{State, Event, begin, say, hear, build, other, Answer, taken, declined, number_of, only, to_begin, to_say, to_hear, turn_now, valid, concluded, machine_for, tried, counts_right, handled}
use Rattle.model.specs.SessionLaw.{Refused, answered}
use Rattle.model.specs.RefusalLaw.{InTurn, WrongCounts}
use Rattle.model.proofs.Machine.{no_some}

-- the numbers of refusals that come before a stage is tried
abbrev pub Before : ℕ → Type 0
Before n = (n ≡ 11) ⊎ (n ≡ 13)

pub fault_later : (n : ℕ) → Before n → (f : Fault) → ¬ (number_of f ≡ n)
fault_later n b mismatch e = elim b [ inl p ↦ omega arith | inr p ↦ omega arith ]
fault_later n b full e = elim b [ inl p ↦ omega arith | inr p ↦ omega arith ]
fault_later n b invalid e = elim b [ inl p ↦ omega arith | inr p ↦ omega arith ]
fault_later n b broken e = elim b [ inl p ↦ omega arith | inr p ↦ omega arith ]

tried_later : (n : ℕ) → Before n → (c : Tree → ℕ) (r : ℕ) (st : Stage) (vs : List Tree) (ns : List ℕ) (s : State) → ¬ Refused n (tried c r st vs ns s).1
tried_later n b c r st vs ns s = go (attempt c st.actions (s.views r).done (machine_for r vs ns s))
  where
    go : (x : Outcome) → ¬ Refused n (concluded r st vs ns s x).1
    go (ended M) h = h
    go (stopped f k m) h = fault_later n b f h

-- turns apart
says_begins : {l : ℕ} → some (says_line l) ≡ some begins → ⊥
says_begins e = let z : ◌≡◌ {A = ℕ} 0 1 = cc in omega arith

hears_begins : {l : ℕ} → some (hears_line l) ≡ some begins → ⊥
hears_begins e = let z : ◌≡◌ {A = ℕ} 0 1 = cc in omega arith

hears_says : {l k : ℕ} → some (hears_line l) ≡ some (says_line k) → ⊥
hears_says e = let z : ◌≡◌ {A = ℕ} 0 1 = cc in omega arith

module _ (c : Tree → ℕ) (s : State) where
  begin_eleven : (r : ℕ) (hs : List (Option Tree)) (ns : List ℕ) (xs : List Stage)
      → Refused 11 (handled c s (begin r hs ns) (only to_begin xs)).1 ↔ (¬ (turn_now xs ≡ some begins))
  begin_eleven r hs ns [] = ((λ h e. no_some e), λ f. refl)
  begin_eleven r hs ns (st ∷ rest) = go st.turn
    where
      counted : (b : Bool) → ¬ Refused 11 (cond {A = State × Answer} b (tried c r st (valid hs) ns s) (s, declined 13 (s.views r).done)).1
      counted true h = tried_later 11 (inl refl) c r st (valid hs) ns s h
      counted false h = omega arith

      go : (t : Turn) → Refused 11 (handled c s (begin r hs ns) (cond (to_begin t) (some st) nothing)).1 ↔ (¬ (some t ≡ some begins))
      go begins = ((λ h. absurd (counted (counts_right (s.views r).ahead hs ns) h)), λ f. absurd (f refl))
      go (says_line l) = ((λ h e. says_begins e), λ f. refl)
      go (hears_line l) = ((λ h e. hears_begins e), λ f. refl)

  begin_thirteen : (r : ℕ) (hs : List (Option Tree)) (ns : List ℕ) (xs : List Stage)
      → Refused 13 (handled c s (begin r hs ns) (only to_begin xs)).1 ↔ ((turn_now xs ≡ some begins) × (¬ T (counts_right (s.views r).ahead hs ns)))
  begin_thirteen r hs ns [] = ((λ h. absurd (omega arith)), λ p. absurd (no_some p.0))
  begin_thirteen r hs ns (st ∷ rest) = go st.turn
    where
      counted : (b : Bool) → Refused 13 (cond {A = State × Answer} b (tried c r st (valid hs) ns s) (s, declined 13 (s.views r).done)).1
          ↔ ((some begins ≡ some begins) × (¬ T b))
      counted true = ((λ h. absurd (tried_later 13 (inr refl) c r st (valid hs) ns s h)), λ p. absurd (p.1 tt))
      counted false = ((λ h. (refl, λ x. x)), λ p. refl)

      go : (t : Turn) → Refused 13 (handled c s (begin r hs ns) (cond (to_begin t) (some st) nothing)).1
          ↔ ((some t ≡ some begins) × (¬ T (counts_right (s.views r).ahead hs ns)))
      go begins = counted (counts_right (s.views r).ahead hs ns)
      go (says_line l) = ((λ h. absurd (omega arith)), λ p. absurd (says_begins p.0))
      go (hears_line l) = ((λ h. absurd (omega arith)), λ p. absurd (hears_begins p.0))

  say_eleven : (r : ℕ) (xs : List Stage) → Refused 11 (handled c s (say r) (only to_say xs)).1 ↔ (¬ ((l : ℕ) × (turn_now xs ≡ some (says_line l))))
  say_eleven r [] = ((λ h e. no_some e.1), λ f. refl)
  say_eleven r (st ∷ rest) = go st.turn
    where
      go : (t : Turn) → Refused 11 (handled c s (say r) (cond (to_say t) (some st) nothing)).1 ↔ (¬ ((l : ℕ) × (some t ≡ some (says_line l))))
      go begins = ((λ h e. says_begins (sym e.1)), λ f. refl)
      go (says_line l) = ((λ h. absurd (tried_later 11 (inl refl) c r st [] (s.views r).numbers s h)), λ f. absurd (f (l, refl)))
      go (hears_line l) = ((λ h e. hears_says e.1), λ f. refl)

  hear_eleven : (r : ℕ) (v : Option Tree) (xs : List Stage) → Refused 11 (handled c s (hear r v) (only to_hear xs)).1 ↔ (¬ ((l : ℕ) × (turn_now xs ≡ some (hears_line l))))
  hear_eleven r v [] = ((λ h e. no_some e.1), λ f. refl)
  hear_eleven r v (st ∷ rest) = go st.turn
    where
      go : (t : Turn) → Refused 11 (handled c s (hear r v) (cond (to_hear t) (some st) nothing)).1 ↔ (¬ ((l : ℕ) × (some t ≡ some (hears_line l))))
      go begins = ((λ h e. hears_begins (sym e.1)), λ f. refl)
      go (says_line l) = ((λ h e. hears_says (sym e.1)), λ f. refl)
      go (hears_line l) = ((λ h. absurd (tried_later 11 (inl refl) c r st (valid (v ∷ [])) (s.views r).numbers s h)), λ f. absurd (f (l, refl)))

  -- a say, a hear and a build are never refused with 13
  say_counts : (r : ℕ) (o : Option Stage) → ¬ Refused 13 (handled c s (say r) o).1
  say_counts r nothing h = omega arith
  say_counts r (some st) h = tried_later 13 (inr refl) c r st [] (s.views r).numbers s h

  hear_counts : (r : ℕ) (v : Option Tree) (o : Option Stage) → ¬ Refused 13 (handled c s (hear r v) o).1
  hear_counts r v nothing h = omega arith
  hear_counts r v (some st) h = tried_later 13 (inr refl) c r st (valid (v ∷ [])) (s.views r).numbers s h

  built_later : (n : ℕ) → Before n → (v : Tree) (b : Bool)
      → ¬ Refused n (cond {A = State × Answer} b (record { space = s.space - c v; views = s.views }, taken nothing) (s, declined 15 0)).1
  built_later n x v true h = h
  built_later n x v false h = elim x [ inl p ↦ omega arith | inr p ↦ omega arith ]

  pub eleven : (e : Event) → Refused 11 (answered c s e) ↔ (¬ InTurn s e)
  eleven (begin r hs ns) = begin_eleven r hs ns (s.views r).ahead
  eleven (say r) = say_eleven r (s.views r).ahead
  eleven (hear r v) = hear_eleven r v (s.views r).ahead
  eleven (build v) = ((λ h. absurd (built_later 11 (inl refl) v (leb (c v) s.space) h)), λ f. absurd (f tt))
  eleven other = ((λ h. absurd h), λ f. f tt)

  pub thirteen : (e : Event) → Refused 13 (answered c s e) ↔ WrongCounts s e
  thirteen (begin r hs ns) = begin_thirteen r hs ns (s.views r).ahead
  thirteen (say r) = ((λ h. say_counts r (only to_say (s.views r).ahead) h), λ x. absurd x)
  thirteen (hear r v) = ((λ h. hear_counts r v (only to_hear (s.views r).ahead) h), λ x. absurd x)
  thirteen (build v) = ((λ h. built_later 13 (inr refl) v (leb (c v) s.space) h), λ x. absurd x)
  thirteen other = ((λ h. h), λ x. x)
