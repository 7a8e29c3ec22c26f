use Rattle.model.proofs.Narration.{narrated}
use Rattle.model.proofs.narration_holds.Goals as goal

pub returns : goal.returns
returns c = narrated
