use Rattle.std.proofs.Common.{subst}
use Rattle.sessions.specs.Starting.{AllNew}
use Rattle.sessions.proofs.Beginning.{runs_of}
use Rattle.sessions.proofs.runs.runs_of.Goals as goal

pub returns : goal.returns
returns c =
    runs_of c.args.translation.now c.args.counts.now c.all_new.result
    (subst (λ rs. AllNew c.args.counts.now rs c.all_new.result) c.as_slice.ensures.value c.all_new.ensures)
