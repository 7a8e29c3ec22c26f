use Rattle.run.proofs.CallLaw.{call_law}
use Rattle.run.proofs.laws.calls_keep_runs.Goals as goal

pub returns : goal.returns
returns g c = call_law g.S.Store.semantics
