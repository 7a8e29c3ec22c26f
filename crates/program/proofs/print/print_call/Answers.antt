use Rattle.std.proofs.Common.{ap, arith}
use Rattle.std.proofs.lemmas.Grind.{common_steps}
use Rattle.program.specs.Printed.{written}
use Rattle.program.proofs.Printing.{name_written}
use Rattle.program.proofs.print.print_call.Goals as goal

pub returns : goal.returns
returns c = rw (name_written (λ x. x.now) c.args.functions.now c.args.function) (grind (arith, common_steps, ap written c.name_of.ensures))
