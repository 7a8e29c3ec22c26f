use Rattle.tape.proofs.Sizing.{Copied}
use Rattle.tape.proofs.encode.copy_parts.Given as goal

abbrev pub invariant-loop-part : goal.invariant-loop-part
invariant-loop-part l = Copied l.used l.parts l.fn.out l.out l.part-index l.at
