-- Plain runs of a specification's programs go as the model's sessions go, so that the law of sessions speaks of them.
use Rattle.std.specs.Prelude.{◌≡◌, ℕ, List}
use Rattle.model.specs.Trees.{Tree}
use Rattle.model.specs.Specifications.{Specification}
use Rattle.model.specs.Programs.{Accepted}
use Rattle.model.specs.Sessions as model
use Rattle.model.specs.Sessions.{Event, new_runs}
use Rattle.model.specs.SessionLaw.{Lawful}
use Rattle.sessions.specs.Plays.{new_plays, plays_of, after, answers}

-- after a list of calls
pub record PlaysAlike (S : Specification) (c : Tree → ℕ) (space : ℕ) (es : List Event) : Type 0 where
  -- the space and every run are those of the model
  pub state : after c (new_plays S space) es ≡ plays_of (model.after c (new_runs S space) es)
  -- each call was answered as in the model
  pub replies : answers c (new_plays S space) es ≡ model.answers c (new_runs S space) es
  -- and there the law holds
  pub lawful : Lawful S c space es

-- for every accepted specification, whatever the costs, the space and the calls
abbrev pub PlainLaw : Type 0
PlainLaw = (S : Specification) → Accepted S → (c : Tree → ℕ) (space : ℕ) (es : List Event) → PlaysAlike S c space es
