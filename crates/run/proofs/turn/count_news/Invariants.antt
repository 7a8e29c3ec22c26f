use Rattle.model.specs.Sessions.{news}
use Rattle.run.proofs.Counting.{Counted}
use Rattle.run.proofs.turn.count_news.Given as goal

abbrev pub invariant-loop-row : goal.invariant-loop-row
invariant-loop-row l = Counted (λ acts. news acts) l.rows l.row-index l.count
