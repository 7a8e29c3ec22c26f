use Rattle.run.proofs.Lines.{Upto}
use Rattle.run.proofs.line.perform.Given as goal

abbrev pub invariant-loop-i : goal.invariant-loop-i
invariant-loop-i g l = Upto g.S.Store.semantics l.rows l.place l.initial.store l.initial.registers l.supply l.i l.store l.registers l.left
