use Rattle.std.proofs.Common.{◌≡◌, take}
use Rattle.program.proofs.parts.Parts.from_slice.Given as goal

abbrev pub invariant-loop-item : goal.invariant-loop-item
invariant-loop-item l = l.parts ≡ take 8 (take l.item-index l.items)
