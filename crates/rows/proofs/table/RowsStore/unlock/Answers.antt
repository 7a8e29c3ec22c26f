use Rattle.std.proofs.Common.{rules, vec_items}
use Rattle.rows.proofs.Answering.{two_there, unlock_some}
use Rattle.rows.proofs.table.RowsStore.unlock.Goals as goal

pub returns-in-Some : goal.returns-in-Some
returns-in-Some c =
    let r = c.in_ok-row.ensures in
    let k = c.in_ok-key.ensures in
    unlock_some (vec_items c.args.self.now.entries) c.in_ok-row.row.now c.args.handle c.args.key c.in-Some.text c.in-Some.own c.in_ok-key.key r.0 r.1 k.1 (search rules) (search rules)

pub equal-requires-clause-left : goal.equal-requires-clause-left
equal-requires-clause-left c =
    (two_there (vec_items c.args.self.now.entries) c.in_ok-row.row.now c.in-Some.text c.in-Some.own c.in_ok-row.ensures.0 (search rules)).1
