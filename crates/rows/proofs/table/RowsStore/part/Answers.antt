use Rattle.std.proofs.Common.{rules, vec_items}
use Rattle.rows.proofs.Answering.{part_some, part_none}
use Rattle.rows.proofs.table.RowsStore.part.Goals as goal

pub returns-in-Some : goal.returns-in-Some
returns-in-Some c =
    let r = c.in_ok-row.ensures in
    part_some (vec_items c.args.self.now.entries) c.in_ok-row.field-0.now c.args.handle c.args.index c.in-Some.part r.0 r.1 (search rules)

pub returns-in-None : goal.returns-in-None
returns-in-None c =
    let r = c.in_ok-row.ensures in
    part_none (vec_items c.args.self.now.entries) c.in_ok-row.field-0.now c.args.handle c.args.index r.1 (search rules)
