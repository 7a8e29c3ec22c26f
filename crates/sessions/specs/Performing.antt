-- What performing a list of requests answers, for any text, any store, any runs that are lent, and any requests.
use Rattle.std.specs.Prelude.{◌≡◌, ℕ, List, [], ◌++◌, map, Ok, Err, Result, vec_items, Vec}
use Rattle.base.specs.declared.memory.NoMemory.{NoMemory as Lack}
use Rattle.std.specs.declared.alloc.Global.{Global}
use Rattle.model.specs.Specifications.{Specification}
use Rattle.terms.specs.declared.limits.Limits.{Limits}
use Rattle.roles.specs.Specified.{specified}
use Rattle.roles.specs.Staging.{Translates}
use Rattle.roles.specs.Translating.{translation}
use Rattle.store.specs.Semantics.{Semantics}
use Rattle.run.specs.declared.run.Run.{Run}
use Rattle.sessions.specs.declared.fault.SessionFault.{SessionFault}
use Rattle.sessions.specs.declared.fault.SessionFault.TheVariants.{Translation, NoMemory}
use Rattle.sessions.specs.declared.reply.Reply.{Reply}
use Rattle.sessions.specs.declared.request.Request.{Request}
use Rattle.sessions.specs.Starting.{Begins, TextRuns}
use Rattle.sessions.specs.Happening.{store_at, runs_at, Named, Happened}
use Rattle.sessions.specs.Observed.{Step}
use Rattle.sessions.specs.RunLaw.{Lawful}

module _ {S : Type 0} (M : Semantics S) where
  -- Requests were performed on runs, one step each.
  pub record Performed (old new : S) (runs runs' : List Run) (requests : List Request) (replies : List Reply) : Type 0 where
    pub history : List (Step S)
    pub asked : map (λ e. e.asked) history ≡ requests
    pub replied : map (λ e. e.reply) history ≡ replies
    pub named : Named [] history
    pub happened : Happened M old runs history new runs'
    -- The law holds at every point, where these runs were, or had come from, new runs of the roles of an accepted specification.
    pub lawful : (X : Specification) (first : S) (fresh : List Run) (past : List (Step S)) → Begins X fresh → Happened M first fresh past old runs
        → (es rest : List (Step S)) → history ≡ es ++ rest → Lawful M X (past ++ es) (store_at old es) (runs_at runs es)

  -- Where memory lacked, nothing was performed.
  abbrev pub PerformsOn : S → S → List Run → List Run → List Request → Result (Vec Reply Global) Lack → Type 0
  PerformsOn old new runs runs' requests (Ok replies) = Performed old new runs runs' requests (vec_items replies)
  PerformsOn old new runs runs' requests (Err e) = (new ≡ old) × (runs' ≡ runs)

  module _ (limits : Limits) (text : List ℕ) where
    -- The text is accepted, the requests were performed on new runs of its roles, and the law of runs holds of them at every point.
    pub record PerformedText (requests : List Request) (old new : S) (replies : List Reply) : Type 0 where
      pub fresh : List Run
      pub left : List Run
      pub roles : TextRuns limits text fresh
      pub session : Performed old new fresh left requests replies
      pub lawful : (es rest : List (Step S)) → session.history ≡ es ++ rest
          → Lawful M (specified text roles.scope roles.spec.lines) es (store_at old es) (runs_at fresh es)

    -- A text that is not translated is refused as translation refuses it; then, and where memory lacked, nothing was performed.
    abbrev pub Performs : List Request → S → S → Result (Vec Reply Global) SessionFault → Type 0
    Performs requests old new (Ok replies) = PerformedText requests old new (vec_items replies)
    Performs requests old new (Err (Translation f)) = Translates (translation limits text) (Err f) × (new ≡ old)
    Performs requests old new (Err (NoMemory w)) = new ≡ old
