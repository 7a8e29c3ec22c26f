use Rattle.run.proofs.Inputs.{ValidUpto}
use Rattle.run.proofs.valid.valid.Given as goal

abbrev pub invariant-loop-i : goal.invariant-loop-i
invariant-loop-i g l = ValidUpto (g.S.Store.semantics.means l.store) l.handles l.i
