use Rattle.std.proofs.Common.{arith}
use Rattle.std.proofs.lemmas.Grind.{common_steps}
use Rattle.std.proofs.lemmas.Str.{encodes-IsAscii}
use Rattle.program.proofs.Printing.{written_more}
use Rattle.program.proofs.print.print_name.Goals as goal

pub loop-byte-preserved : goal.loop-byte-preserved
loop-byte-preserved c = grind (arith, common_steps, written_more, c.loop-byte.invariant)

pub returns-clause-narrow : goal.returns-clause-narrow
returns-clause-narrow c a = grind (arith, common_steps, encodes-IsAscii c.args.name.now a, c.loop-byte.invariant)
