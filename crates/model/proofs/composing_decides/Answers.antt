use Rattle.model.proofs.ComposingLaw.{composing_law}
use Rattle.model.proofs.composing_decides.Goals as goal

pub returns : goal.returns
returns c = composing_law
