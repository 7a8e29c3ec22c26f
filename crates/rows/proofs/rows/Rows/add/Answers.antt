use Rattle.std.proofs.Common.{◌≡◌, length, rules, [], vec_items, refl, ap, ◌∙◌, arith}
use Rattle.std.proofs.lemmas.List.{get_or_read}
use Rattle.rows.specs.Rows.{values, row_value}
use Rattle.rows.specs.Chains.{head_after}
use Rattle.rows.proofs.Adding.{sound_added, extended}
use Rattle.rows.proofs.Places.{place_bound}
use Rattle.rows.specs.Fitting.{values_length}
use Rattle.rows.proofs.rows.Rows.add.Goals as goal

pub overflow_cast-class : goal.overflow_cast-class
overflow_cast-class c =
    let es = vec_items c.args.self.now.entries in
    let b = place_bound (row_value (values es) c.args.row) (values es) in
    let n = values_length [] es in
    let r = c.class_of-class.ensures in
    let l = c.args.self.now.entries.ok.0 in
    let f = c.args.self.now.few in
    omega (arith, c.len-number.ensures)

pub invariant_of-self : goal.invariant_of-self
invariant_of-self c =
    let t = c.args.self.now in
    let a = t.all in
    let l : c.len-number.result ≡ length (vec_items t.entries) = search rules in
    let s = sound_added (vec_items t.heads) _ (vec_items t.entries) (vec_items c.push_reserved.new.self) c.args.row c.class_of-class.result c.chain-chain.result _ c.head_of_chain.result
    (record { all = t.all; held = t.held; classed = t.classed; earlier = t.earlier; first = t.first; chained = t.chained; headed = t.headed })
    c.requires.first c.requires.held c.chain-chain.ensures.bound c.class_of-class.ensures c.chain-chain.ensures.value
    (get_or_read (vec_items t.heads) c.chain-chain.result c.index-next.result.now (omega (arith, c.chain-chain.ensures.bound)) c.index-next.ensures 0)
    (c.head_of_chain.ensures ∙ ap (λ n. head_after c.class_of-class.result n c.index-next.result.now) l)
    refl c.push_reserved.ensures.items in
    record { few = search rules; all = s.all; held = s.held; classed = s.classed; earlier = s.earlier; first = s.first; chained = s.chained; headed = s.headed }

pub returns : goal.returns
returns c =
    let t = c.args.self.now in
    let x = extended (vec_items t.entries) (vec_items c.push_reserved.new.self) _ c.len-number.result c.push_reserved.ensures.items (search rules) in
    record { fresh = x.fresh; named = x.named; kept = x.kept; paid = search rules; priced = refl }
