use Rattle.std.proofs.Common.{rules, vec_items}
use Rattle.rows.proofs.HeldValues.{compound_held}
use Rattle.rows.proofs.rows.Rows.make_compound.Goals as goal

pub add-requires-clause-held : goal.add-requires-clause-held
add-requires-clause-held c =
    let t = c.args.self.now in
    let f = c.in_ok-parts.ensures in
    compound_held (vec_items t.entries) t.held c.args.kind c.args.parts.now c.in_ok-parts.parts c.requires (search rules) f.count f.values.0
