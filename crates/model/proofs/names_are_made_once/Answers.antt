use Rattle.model.proofs.Names.{names_law}
use Rattle.model.proofs.names_are_made_once.Goals as goal

pub returns : goal.returns
returns c = names_law
