use Rattle.std.proofs.Common.{rules, vec_items}
use Rattle.rows.proofs.Asking.{first_of}
use Rattle.rows.proofs.rows.Rows.first.Goals as goal

pub returns : goal.returns
returns c =
    let t = c.args.self.now in
    let n = c.in_ok-number.ensures in
    first_of (vec_items t.entries) t.classed c.args.handle c.in_ok-number.field-0 c.entry.result.now n.0 n.1 (search rules)
