use Rattle.model.proofs.OrderExamples.{order_examples}
use Rattle.model.proofs.order_examples_hold.Goals as goal

pub returns : goal.returns
returns c = order_examples
