use Rattle.store.specs.Makers.{gathered}
use Rattle.tape.proofs.calls.TapeStore.make_atom.Goals as goal

pub returns : goal.returns
unfolding gathered
returns c = c.make.ensures
