use Rattle.std.proofs.Common.{◌+◌, ◌-◌, ◌*◌, ◌≤◌, length}
use Rattle.model.specs.Trees.{Tree}
use Rattle.tape.specs.Values.{Stands}
use Rattle.tape.proofs.Ending.{Unread}
use Rattle.tape.proofs.walk.end_of.Given as goal

abbrev pub invariant-loop-left : goal.invariant-loop-left
invariant-loop-left l = record {
  few : l.left ≤ 1 + 255 * l.at;
  unread : (v : Tree) → Stands l.bytes l.start v → Unread l.bytes l.start v l.at l.left;
}

abbrev pub decreases-loop-left : goal.decreases-loop-left
decreases-loop-left l = length l.bytes - l.at
