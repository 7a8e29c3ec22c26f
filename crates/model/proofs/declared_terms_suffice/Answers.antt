use Rattle.model.proofs.Deducible.{deduction_law}
use Rattle.model.proofs.declared_terms_suffice.Goals as goal

pub returns : goal.returns
returns c = deduction_law
