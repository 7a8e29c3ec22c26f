use Rattle.roles.proofs.WorkedExamples.{worked_examples}
use Rattle.roles.proofs.examples.worked_examples_hold.Goals as goal

pub returns : goal.returns
returns c = worked_examples
