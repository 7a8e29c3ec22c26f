use Rattle.std.proofs.Common.{vec_items}
use Rattle.rows.proofs.Asking.{row_of}
use Rattle.rows.proofs.rows.Rows.row.Goals as goal

pub returns : goal.returns
returns c =
    let t = c.args.self.now in
    let n = c.in_ok-number.ensures in
    row_of (vec_items t.entries) t.classed t.earlier t.first c.args.handle c.in_ok-number.field-0 c.entry.result.now n.0 n.1 c.entry.ensures
