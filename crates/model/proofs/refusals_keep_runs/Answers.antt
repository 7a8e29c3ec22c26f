use Rattle.model.proofs.RefusalLaw.{refusal_law}
use Rattle.model.proofs.refusals_keep_runs.Goals as goal

pub returns : goal.returns
returns c = refusal_law
