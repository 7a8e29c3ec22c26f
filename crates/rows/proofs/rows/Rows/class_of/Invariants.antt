use Rattle.std.proofs.Common.{vec_items}
use Rattle.rows.proofs.Finding.{Looks}
use Rattle.rows.proofs.rows.Rows.class_of.Given as goal

abbrev pub invariant-loop-at : goal.invariant-loop-at
invariant-loop-at l = Looks (vec_items l.self.entries) l.row l.at

abbrev pub decreases-loop-at : goal.decreases-loop-at
decreases-loop-at l = l.at
