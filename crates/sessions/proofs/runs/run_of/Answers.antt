use Rattle.std.proofs.Common.{map, subst}
use Rattle.run.specs.Called.{Shows}
use Rattle.run.specs.Filling.{lined}
use Rattle.run.specs.Plain.{new_plain}
use Rattle.sessions.proofs.runs.run_of.Goals as goal

pub returns : goal.returns
returns c = (
  c.in_ok-program.ensures.held.0,
  λ m. subst (λ xs. Shows m c.in_ok-new.field-0 (new_plain (map lined xs))) c.in_ok-program.ensures.held.1 (c.in_ok-new.ensures.shows m),
)
