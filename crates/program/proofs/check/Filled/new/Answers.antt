use Rattle.program.proofs.Filling.{none_filled}
use Rattle.program.proofs.check.Filled.new.Goals as goal

pub returns : goal.returns
returns c = none_filled c.in_ok-new.field-0 c.in_ok-new.ensures
