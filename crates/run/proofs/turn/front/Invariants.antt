use Rattle.run.proofs.Counting.{Fronted}
use Rattle.run.proofs.turn.front.Given as goal

abbrev pub invariant-loop-i : goal.invariant-loop-i
invariant-loop-i l = Fronted l.line l.rows l.i
