-- The law of refusals: which calls are refused before they are tried, and what a call leaves.
use Rattle.std.specs.Prelude.{◌≡◌, ℕ, ◌≤◌, T, ◌⊎◌, ◌↔◌}
use Rattle.std.proofs.Math.Option.{some}
use Rattle.model.specs.Trees.{Tree}
use Rattle.model.specs.Programs.{begins, says_line, hears_line}
use Rattle.model.specs.Sessions.{State, Event, begin, say, hear, build, other, next_turn, counts_right, call}
use Rattle.model.specs.SessionLaw.{Taken, Refused, answered}

-- begin is in turn until taken, then say or hear as the next own line asks; the store's calls always are
abbrev pub InTurn : State → Event → Type 0
InTurn s (begin r hs ns) = next_turn s r ≡ some begins
InTurn s (say r) = (l : ℕ) × (next_turn s r ≡ some (says_line l))
InTurn s (hear r h) = (l : ℕ) × (next_turn s r ≡ some (hears_line l))
InTurn s (build v) = Unit {0}
InTurn s other = Unit {0}

-- a begin in turn has too many or too few givens or numbers
abbrev pub WrongCounts : State → Event → Type 0
WrongCounts s (begin r hs ns) = (next_turn s r ≡ some begins) × (¬ T (counts_right (s.views r).ahead hs ns))
WrongCounts s (say r) = ⊥
WrongCounts s (hear r h) = ⊥
WrongCounts s (build v) = ⊥
WrongCounts s other = ⊥

pub record Refusals (c : Tree → ℕ) (s : State) (e : Event) : Type 0 where
  -- 11 comes exactly out of turn, 13 exactly at a begin in turn with wrong counts; then nothing is altered
  pub eleven : Refused 11 (answered c s e) ↔ (¬ InTurn s e)
  pub thirteen : Refused 13 (answered c s e) ↔ WrongCounts s e
  pub unaltered : Refused 11 (answered c s e) ⊎ Refused 13 (answered c s e) → (call c s e).0 ≡ s
  -- a call that is not taken changes no run: registers, place and numbers are as they were
  pub runs_kept : ¬ Taken (answered c s e) → (call c s e).0.views ≡ s.views
  -- no call raises the space
  pub space_falls : (call c s e).0.space ≤ s.space

-- in every state, whatever the costs
abbrev pub RefusalLaw : Type 0
RefusalLaw = (c : Tree → ℕ) (s : State) (e : Event) → Refusals c s e
