-- The law of plain runs, proved.
use Rattle.std.proofs.Common.{◌≡◌, ℕ, Bool, true, false, cond, ltb, List, [], ◌∷◌, refl, ap, ◌∙◌}
use mathlib.Core.Path.{fun_ext}
use Rattle.model.specs.Trees.{Tree}
use Rattle.model.specs.Specifications.{Specification, message, begin as to_start, own}
use Rattle.model.specs.Programs.{nobody_yet, stages_from, rows_of}
use Rattle.model.specs.Sessions as model
use Rattle.model.specs.Sessions.{State, Event, new_view, new_runs}
use Rattle.model.proofs.Attends.{AllAttend, new_attend}
use Rattle.model.proofs.Attending.{call_attends}
use Rattle.model.proofs.Answering.{decides}
use Rattle.model.proofs.SessionLaw.{session_law}
use Rattle.run.specs.Plain.{new_plain}
use Rattle.sessions.specs.Plays.{plain_of, plays_of, no_run, new_plays, after, answers}
use Rattle.sessions.specs.PlainLaw.{PlainLaw}
use Rattle.sessions.proofs.Shaped.{program_shaped}
use Rattle.sessions.proofs.Playing.{AllShaped, play_same, call_shaped}

-- new runs are new in the model
new_same : (S : Specification) (space : ℕ) → new_plays S space ≡ plays_of (new_runs S space)
new_same S space = ap (λ f. record { space = space; runs = f }) (fun_ext (λ r. go r (ltb r S.roles)))
  where
    go : (r : ℕ) (b : Bool) → (let xs = stages_from (message S) (S.party r) nobody_yet (cond b (to_start (S.knows r) ∷ own S r) []) in
        cond b (new_plain (rows_of xs)) no_run ≡ plain_of (new_view xs))
    go r true = refl
    go r false = refl

module _ (S : Specification) (c : Tree → ℕ) where
  -- whatever is called
  after_same : (es : List Event) (s : State) → AllAttend S s → AllShaped s
      → (after c (plays_of s) es ≡ plays_of (model.after c s es)) × (answers c (plays_of s) es ≡ model.answers c s es)
  after_same [] s a h = (refl, refl)
  after_same (e ∷ es) s a h =
      let x = model.call c s e in
      let p = play_same c s h e ((decides S c s a).numbered e) in
      let k = after_same es x.0 (call_attends S c s e a) (call_shaped c s h e) in
      (ap (λ y. after c y.0 es) p ∙ k.0, ap (λ y. y.1 ∷ answers c y.0 es) p ∙ ap (λ l. x.1 ∷ l) k.1)

pub plain_law : PlainLaw
plain_law S acc c space es =
    record {
      state = ap (λ p. after c p es) (new_same S space) ∙ same.0;
      replies = ap (λ p. answers c p es) (new_same S space) ∙ same.1;
      lawful = session_law S acc c space es;
    }
  where
    same : (after c (plays_of (new_runs S space)) es ≡ plays_of (model.after c (new_runs S space) es))
        × (answers c (plays_of (new_runs S space)) es ≡ model.answers c (new_runs S space) es)
    same = after_same S c es (new_runs S space) (new_attend S acc space) (λ r. (0, program_shaped S acc r))
