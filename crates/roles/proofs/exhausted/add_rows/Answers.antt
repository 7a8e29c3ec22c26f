use Rattle.std.proofs.Common.{ap, length, min, vec_items, ◌∙◌, rules}
use Rattle.std.proofs.lemmas.Iterator.{YieldsList-from_slice, YieldsList-from_map}
use Rattle.std.proofs.lemmas.Iterator.Adapters.{items_from_extend}
use Rattle.std.proofs.lemmas.Iterator.Consumers.{YieldsList-at}
use Rattle.roles.specs.Ended.{row}
use Rattle.roles.proofs.NewActions.{rest_from}
use Rattle.roles.proofs.exhausted.add_rows.Goals as goal

pub returns-in-Ok : goal.returns-in-Ok
returns-in-Ok c =
    let all = c.args.actions.now in
    let place = c.min-done.ensures ∙ ap (λ n. min n (length all)) (c.len.ensures ∙ c.args.rows.now.ok.0) in
    let rest = c.iter-added.ensures.rest ∙ rest_from all (length (vec_items c.args.rows.now)) c.min-done.result place in
    let added = items_from_extend c.extend.result c.extend.ensures.ran
    (YieldsList-from_map _ (row c.args.line) (YieldsList-at c.map.ensures.source (YieldsList-from_slice _ rest)) c.map.ensures.closure (λ x r q k. search rules)) in
    search rules
