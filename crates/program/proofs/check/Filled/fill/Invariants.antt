use Rattle.std.proofs.Common.{◌-◌}
use Rattle.program.proofs.Filling.{FilledUpto}
use Rattle.program.proofs.check.Filled.fill.Given as goal

abbrev pub invariant-loop-register : goal.invariant-loop-register
invariant-loop-register l = FilledUpto l.initial.self.marks l.self.marks l.first (l.register - l.first)
