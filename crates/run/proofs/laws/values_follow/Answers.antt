use Rattle.run.proofs.ValueLaw.{value_law}
use Rattle.run.proofs.laws.values_follow.Goals as goal

pub returns : goal.returns
returns g c = value_law g.S.Store.semantics g.met.S.Store.each_fits
