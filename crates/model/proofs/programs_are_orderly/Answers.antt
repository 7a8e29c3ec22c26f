use Rattle.model.proofs.ProgramLaw.{program_law}
use Rattle.model.proofs.programs_are_orderly.Goals as goal

pub returns : goal.returns
returns c = program_law
