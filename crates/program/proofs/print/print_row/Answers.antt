use Rattle.std.proofs.Common.{sym, arith}
use Rattle.std.proofs.lemmas.Grind.{common_steps}
use Rattle.program.proofs.Printing.{narrow_written}
use Rattle.program.proofs.print.print_row.Goals as goal

pub returns-clause-narrow : goal.returns-clause-narrow
returns-clause-narrow c n = rw (sym (narrow_written (λ x. x.now) c.args.functions.now n)) (grind (arith, common_steps))
