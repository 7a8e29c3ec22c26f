use Rattle.std.proofs.Common.{[], refl, sym, ◌∙◌}
use Rattle.std.proofs.lemmas.Bool.{false≢true}
use Rattle.tape.specs.Values.{values}
use Rattle.tape.specs.Fitting.{means_starts}
use Rattle.tape.proofs.Law.{tape_law}
use Rattle.tape.proofs.Reaching.{nowhere}
use Rattle.tape.proofs.Starting.{starts_nowhere}
use Rattle.tape.proofs.tape.Tape.new.Goals as goal

pub returns-in_err-repeated-clause-law : goal.returns-in_err-repeated-clause-law
returns-in_err-repeated-clause-law c = tape_law

pub invariant_of-result-clause-whole : goal.invariant_of-result-clause-whole
unfolding values
invariant_of-result-clause-whole c = refl

pub invariant_of-result-clause-held : goal.invariant_of-result-clause-held
invariant_of-result-clause-held c h v e = absurd (false≢true (sym (starts_nowhere h) ∙ means_starts [] h v e))

pub returns-clause-law : goal.returns-clause-law
returns-clause-law c = tape_law

pub returns-clause-empty : goal.returns-clause-empty
returns-clause-empty c = λ h. nowhere [] h (starts_nowhere h)
