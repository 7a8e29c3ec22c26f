use Rattle.std.proofs.Common.{◌∙◌}
use Rattle.syntax.proofs.Spelled.{any_spelled}
use Rattle.syntax.proofs.symbol.is_one_of.Goals as goal

pub returns : goal.returns
returns c = c.contains.ensures.value ∙ any_spelled c.args.name.now c.args.names.now
