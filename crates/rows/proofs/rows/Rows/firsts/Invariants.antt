use Rattle.std.proofs.Common.{vec_items}
use Rattle.rows.proofs.Asking.{Gathers}
use Rattle.rows.proofs.rows.Rows.firsts.Given as goal

abbrev pub invariant-loop-handle : goal.invariant-loop-handle
invariant-loop-handle l = Gathers (vec_items l.self.entries) l.handles l.handle-index l.parts
