use Rattle.std.proofs.Common.{◌-◌, length}
use Rattle.tape.proofs.Walking.{Passed}
use Rattle.tape.proofs.walk.starts.Given as goal

abbrev pub invariant-loop-at : goal.invariant-loop-at
invariant-loop-at l = Passed l.bytes l.handle l.at

abbrev pub decreases-loop-at : goal.decreases-loop-at
decreases-loop-at l = length l.bytes - l.at
