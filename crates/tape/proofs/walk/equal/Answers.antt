use Rattle.std.proofs.lemmas.Bool.Decides.{Decides-eqb}
use Rattle.std.proofs.lemmas.Slice.Eq.{slice_eq-Decides}
use Rattle.tape.proofs.Comparing.{equal_encodings}
use Rattle.tape.proofs.walk.equal.Goals as goal

pub returns : goal.returns
returns c = λ v w k m.
    equal_encodings v w k.formed m.formed c.encoding.result.now c.encoding-2.result.now (c.encoding.ensures v k) (c.encoding-2.ensures w m) c.eq.result
    (slice_eq-Decides Decides-eqb _ _ _ c.eq.ensures)
