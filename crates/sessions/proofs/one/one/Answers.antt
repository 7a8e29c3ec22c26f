use Rattle.std.proofs.Common.{ℕ, List, ap, subst, ◌∙◌}
use mathlib.Core.Path.{subst⁻¹}
use Rattle.sessions.specs.Replies.{BeginsAt, HearsAt, Does}
use Rattle.sessions.specs.Requests.{handles_of}
use Rattle.sessions.proofs.one.one.Goals as goal

pub returns-in-Begin-clause-does : goal.returns-in-Begin-clause-does
returns-in-Begin-clause-does g c =
    let D = λ (hs ns : List ℕ). BeginsAt g.S.Store.semantics c.args.store.now c.begin.new.store c.args.runs.now c.begin.new.runs c.in-Begin.role hs ns c.begin.result in
    subst⁻¹ (λ q. Does g.S.Store.semantics c.args.store.now c.begin.new.store c.args.runs.now c.begin.new.runs c.args.past.replies.now q c.begin.result) c.in-Begin.is
    (subst (λ hs. D hs c.in-Begin.numbers.items) (c.as_slice-in-Begin.ensures.value ∙ c.handles.ensures.items ∙ ap (handles_of c.args.past.replies.now) c.as_slice.ensures.value)
    (subst (D c.as_slice-in-Begin.result.now) c.as_slice-in-Begin-2.ensures.value c.begin.ensures))

pub returns-in-Hear-clause-does : goal.returns-in-Hear-clause-does
returns-in-Hear-clause-does g c =
    subst⁻¹ (λ q. Does g.S.Store.semantics c.args.store.now c.hear.new.store c.args.runs.now c.hear.new.runs c.args.past.replies.now q c.hear.result) c.in-Hear.is
    (subst (λ h. HearsAt g.S.Store.semantics c.args.store.now c.hear.new.store c.args.runs.now c.hear.new.runs c.in-Hear.role h c.hear.result) c.handle.ensures c.hear.ensures)
