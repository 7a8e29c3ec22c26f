use Rattle.program.proofs.CheckLaw.{check_law}
use Rattle.program.proofs.held.Program.from_rows.Goals as goal

pub returns-in_err-check-clause-law : goal.returns-in_err-check-clause-law
returns-in_err-check-clause-law c = check_law

pub returns-clause-law : goal.returns-clause-law
returns-clause-law c = check_law
