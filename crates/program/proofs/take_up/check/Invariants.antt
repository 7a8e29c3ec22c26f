use Rattle.std.proofs.Common.{◌≡◌, ℕ, List, drop}
use Rattle.program.specs.Held.{passes, passes_from}
use Rattle.program.specs.Checked.{AreFilled}
use Rattle.program.proofs.take_up.check.Given as goal

-- the rows pass exactly if those that are left do, after the registers that were filled
abbrev pub invariant-loop-row : goal.invariant-loop-row
invariant-loop-row l = (done : List ℕ) × AreFilled l.filled.marks done × (passes l.counts l.rows ≡ passes_from l.counts done l.line (drop l.row-index l.rows))
