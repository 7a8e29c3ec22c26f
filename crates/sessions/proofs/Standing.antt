-- The runs of a session in a store, as plain runs over one space.
use Rattle.std.specs.Prelude.{◌≡◌, ◌≢◌, ℕ, ◌<◌, List, length, slice_index_or}
use Rattle.std.proofs.Math.Option.{Option, none as nothing, some}
use Rattle.model.specs.Runs.{Memory}
use Rattle.model.specs.Sessions.{Event, begin, say, hear, build, other, Answer}
use Rattle.store.specs.Semantics.{Semantics}
use Rattle.run.specs.declared.run.Run.{Run}
use Rattle.run.specs.Called.{Shows}
use Rattle.run.specs.Shown.{Meaning, Kept}
use Rattle.sessions.specs.Plays.{Playing, play}

-- they show plain runs
pub record Stands (m : Meaning) (free : ℕ) (runs : List Run) (p : Playing) : Type 0 where
  pub space : p.space ≡ free
  pub each : (k : ℕ) (run : Run) → k < length runs → Shows m (slice_index_or runs k run) (p.runs k)

-- the role that an event calls
abbrev pub role_of : Event → Option ℕ
role_of (begin r hs ns) = some r
role_of (say r) = some r
role_of (hear r h) = some r
role_of (build v) = nothing
role_of other = nothing

module _ {S : Type 0} (M : Semantics S) where
  -- an event takes runs and a store to what it does to the plain runs; what is replied depends on their registers and on the answer
  pub record Moves (old new : S) (runs runs' : List Run) (e : Event) (Replied : (ℕ → Memory) → Answer → Type 0) : Type 0 where
    pub kept : Kept (M.means old) (M.means new)
    pub priced : M.cost new ≡ M.cost old
    pub many : length runs' ≡ length runs
    -- no run moves but that of the role that is called
    pub others : (k : ℕ) (run : Run) → role_of e ≢ some k → slice_index_or runs' k run ≡ slice_index_or runs k run
    pub stands : (p : Playing) → Stands (M.means old) (M.space old) runs p → Stands (M.means new) (M.space new) runs' (play (M.cost old) p e).0
    pub replied : (p : Playing) → Stands (M.means old) (M.space old) runs p → Replied (λ r. (p.runs r).memory) (play (M.cost old) p e).1
