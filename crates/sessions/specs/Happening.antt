-- Requests that were performed one after the other on runs over a store.
use Rattle.std.specs.Prelude.{◌≡◌, List, [], ◌∷◌, ◌++◌}
use Rattle.store.specs.Semantics.{Semantics}
use Rattle.run.specs.declared.run.Run.{Run}
use Rattle.sessions.specs.declared.reply.Reply.{Reply}
use Rattle.sessions.specs.Replies.{Does}
use Rattle.sessions.specs.Observed.{Step}

-- where some steps have led
module _ {S : Type 0} where
  abbrev pub store_at : S → List (Step S) → S
  store_at s [] = s
  store_at s (e ∷ es) = store_at e.after es

  abbrev pub runs_at : List Run → List (Step S) → List Run
  runs_at runs [] = runs
  runs_at runs (e ∷ es) = runs_at e.runs_after es

  -- the handles of each were named by the replies to those before it, and to some earlier ones
  abbrev pub Named : List Reply → List (Step S) → Type 0
  Named rs [] = Unit {0}
  Named rs (e ∷ es) = (e.earlier ≡ rs) × Named (rs ++ (e.reply ∷ [])) es

module _ {S : Type 0} (M : Semantics S) where
  -- one step, from where those before it have led: it did what the contract of one call says
  pub record Did (s : S) (runs : List Run) (e : Step S) : Type 0 where
    pub before : e.before ≡ s
    pub runs_before : e.runs_before ≡ runs
    pub does : Does M e.before e.after e.runs_before e.runs_after e.earlier e.asked e.reply

  -- steps in order, to a store and runs
  abbrev pub Happened : S → List Run → List (Step S) → S → List Run → Type 0
  Happened s runs [] s' runs' = (s' ≡ s) × (runs' ≡ runs)
  Happened s runs (e ∷ es) s' runs' = Did s runs e × Happened e.after e.runs_after es s' runs'
