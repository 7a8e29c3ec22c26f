use Rattle.tape.proofs.Sizing.{Sized}
use Rattle.tape.proofs.parts.parts_size.Given as goal

abbrev pub invariant-loop-part : goal.invariant-loop-part
invariant-loop-part l = Sized l.bytes l.parts l.part-index l.size
