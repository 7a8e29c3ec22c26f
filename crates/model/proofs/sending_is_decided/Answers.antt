use Rattle.model.proofs.ComposingLaw.{sending_law}
use Rattle.model.proofs.sending_is_decided.Goals as goal

pub returns : goal.returns
returns c = sending_law
