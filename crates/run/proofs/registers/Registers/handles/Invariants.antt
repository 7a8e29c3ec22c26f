use Rattle.std.proofs.Common.{◌≡◌, length, map, take}
use Rattle.run.specs.Shown.{register}
use Rattle.run.proofs.registers.Registers.handles.Given as goal

abbrev pub invariant-loop-i : goal.invariant-loop-i
invariant-loop-i l = (length l.handles ≡ 8) × (take l.i l.handles ≡ map (λ r. register l.self r) (take l.i l.numbers))
