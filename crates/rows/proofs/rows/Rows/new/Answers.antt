use Rattle.std.proofs.Common.{◌≡◌, rules, vec_items, replicate, ap, ◌∙◌}
use Rattle.rows.specs.Rows.{meaning}
use Rattle.rows.proofs.Adding.{sound_begins}
use Rattle.rows.proofs.Values.{none_there}
use Rattle.rows.proofs.rows.Rows.new.Goals as goal

pub invariant_of-result : goal.invariant_of-result
invariant_of-result c =
    let h : vec_items c.in_ok-repeated.field-0 ≡ replicate 4096 0 = search rules in
    let s = sound_begins (vec_items c.in_ok-repeated.field-0) (vec_items c.in_ok-with_room.field-0) h (search rules) in
    record { few = search rules; all = s.all; held = s.held; classed = s.classed; earlier = s.earlier; first = s.first; chained = s.chained; headed = s.headed }

pub returns-clause-empty : goal.returns-clause-empty
returns-clause-empty c h = ap (λ es. meaning es h) c.in_ok-with_room.ensures.empty ∙ none_there h
