use Rattle.run.proofs.Opening.{Upto}
use Rattle.run.proofs.open.open.Given as goal

-- where the parts that are left go, all the parts went
abbrev pub invariant-loop-i : goal.invariant-loop-i
invariant-loop-i g l = Upto (g.S.Store.semantics.means l.store) l.handle l.fn.wanted tt l.initial.registers l.registers l.first l.i
