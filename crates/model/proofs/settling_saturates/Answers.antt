use Rattle.model.proofs.SettlingLaw.{settling_law}
use Rattle.model.proofs.settling_saturates.Goals as goal

pub returns : goal.returns
returns c = settling_law
