use Rattle.sessions.proofs.PlainLaw.{plain_law}
use Rattle.sessions.proofs.plain_sessions_follow.Goals as goal

pub returns : goal.returns
returns c = plain_law
