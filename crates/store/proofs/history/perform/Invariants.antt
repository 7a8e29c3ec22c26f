use Rattle.std.proofs.Common.{◌≡◌, drop}
use Rattle.store.specs.History.{Performed}
use Rattle.store.proofs.history.perform.Given as goal

abbrev pub invariant-loop-i : goal.invariant-loop-i
invariant-loop-i g l = Performed g.S.Store.semantics l.calls l.answers l.initial.store l.i l.store × (drop l.i l.answers ≡ drop l.i l.initial.answers)
