use Rattle.model.proofs.SessionLaw.{session_law}
use Rattle.model.proofs.sessions_are_lawful.Goals as goal

pub returns : goal.returns
returns c = session_law
