use Rattle.model.proofs.CountLaw.{count_law}
use Rattle.model.proofs.functions_keep_their_counts.Goals as goal

pub returns : goal.returns
returns c = count_law
