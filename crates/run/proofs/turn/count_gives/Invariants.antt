use Rattle.model.specs.Sessions.{gives}
use Rattle.run.proofs.Counting.{Counted}
use Rattle.run.proofs.turn.count_gives.Given as goal

abbrev pub invariant-loop-row : goal.invariant-loop-row
invariant-loop-row l = Counted (λ acts. gives acts) l.rows l.row-index l.count
