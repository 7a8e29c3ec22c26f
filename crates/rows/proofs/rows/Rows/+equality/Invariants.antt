use Rattle.std.proofs.Common.{◌≡◌, ◌+◌, ◌*◌, vec_items, drop}
use Rattle.model.specs.Trees.{eq_trees}
use Rattle.rows.specs.Rows.{values, values_at}
use Rattle.rows.proofs.Equality.{above}
use Rattle.rows.proofs.rows.Rows.+equality.Given as goal

-- the number of the left row, or of one above all left rows
abbrev pub decreases-equal : goal.decreases-equal
decreases-equal l = l.left * 2 + 1

abbrev pub decreases-equal_parts : goal.decreases-equal_parts
decreases-equal_parts l = above l.left.now * 2

abbrev pub invariant-equal_parts-loop-place : goal.invariant-equal_parts-loop-place
invariant-equal_parts-loop-place l =
    let vs = values (vec_items l.self.entries) in
    eq_trees (values_at vs l.left) (values_at vs l.right) ≡ eq_trees (values_at vs (drop l.place l.left)) (values_at vs (drop l.place l.right))
