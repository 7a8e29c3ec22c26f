use Rattle.std.proofs.Common.{rules, vec_items, refl}
use Rattle.rows.proofs.Asking.{no_row, some_row}
use Rattle.rows.proofs.rows.Rows.number.Goals as goal

pub returns-then-handle-len : goal.returns-then-handle-len
returns-then-handle-len c = (refl, no_row (vec_items c.args.self.now.entries) c.args.handle (search rules))

pub returns : goal.returns
returns c = (search rules, some_row (vec_items c.args.self.now.entries) c.args.handle (search rules))
