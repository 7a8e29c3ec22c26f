use Rattle.model.proofs.WorkedExamples.{worked_examples}
use Rattle.model.proofs.worked_examples_hold.Goals as goal

pub returns : goal.returns
returns c = worked_examples
