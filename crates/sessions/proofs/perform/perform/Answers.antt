use Rattle.std.proofs.Common.{Err, map, ◌∙◌, ap, subst}
use mathlib.Core.Path.{subst⁻¹}
use Rattle.sessions.specs.Starting.{short_count, TextRuns, RunsOf}
use Rattle.sessions.proofs.Beginning.{never_unsound, performed}
use Rattle.sessions.proofs.perform.perform.Goals as goal

pub unreachable-requires : goal.unreachable-requires
unreachable-requires g c =
    let T = c.in_ok-translation.translation in
    let counts = c.as_slice.result.now in
    never_unsound c.args.limits c.args.text.now T c.in_ok-translation.ensures.answers c.in_ok-translation.ensures.held counts
    (c.as_slice.ensures.value ∙ c.in_ok-counts.ensures ∙ ap (map short_count) c.functions.ensures)
    (subst (RunsOf T counts) (c.in-Err-Unsound.is ∙ ap Err c.in-Err-Unsound.field-0-is) c.runs_of.ensures)

pub returns : goal.returns
returns g c =
    let k = c.in_ok-translation in
    let z = subst (RunsOf k.translation c.as_slice.result.now) c.in-Ok.is c.runs_of.ensures in
    performed g.S.Store.semantics c.args.limits c.args.text.now c.args.store.now c.perform_on.new.store c.as_mut_slice.result.now c.perform_on.new.runs
    (subst⁻¹ (TextRuns c.args.limits c.args.text.now) c.as_mut_slice.ensures.value (z.1 c.args.limits c.args.text.now k.ensures.answers))
    c.args.requests.now c.in_ok-perform_on.field-0.items c.in_ok-perform_on.ensures
