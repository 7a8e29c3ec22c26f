use Rattle.std.proofs.Common.{refl}
use Rattle.roles.proofs.Answers.{beginning_decides, programs_answered}
use Rattle.roles.proofs.answer.Answer.to.Goals as goal

pub returns-in-Ok-listing-clause-answers : goal.returns-in-Ok-listing-clause-answers
returns-in-Ok-listing-clause-answers c = programs_answered c.args.limits c.args.text.now c.in-Ok.translation _ c.in-Ok.ensures.answers c.in-Ok-listing.ensures refl

pub returns-in-Ok-listing-clause-decided : goal.returns-in-Ok-listing-clause-decided
returns-in-Ok-listing-clause-decided c = beginning_decides c.args.limits c.args.text.now

pub returns-in-Ok-clause-decided : goal.returns-in-Ok-clause-decided
returns-in-Ok-clause-decided c = beginning_decides c.args.limits c.args.text.now

pub returns-in-Some-clause-decided : goal.returns-in-Some-clause-decided
returns-in-Some-clause-decided c = beginning_decides c.args.limits c.args.text.now

pub returns-clause-decided : goal.returns-clause-decided
returns-clause-decided c = beginning_decides c.args.limits c.args.text.now
