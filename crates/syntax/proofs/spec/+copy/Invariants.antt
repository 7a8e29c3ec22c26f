use Rattle.std.proofs.Common.{◌≡◌, take, map}
use Rattle.syntax.specs.Views.{term_of}
use Rattle.syntax.proofs.spec.+copy.Given as goal

abbrev pub invariant-copy_terms-loop-term : goal.invariant-copy_terms-loop-term
invariant-copy_terms-loop-term l = map term_of l.copies.items ≡ map term_of (take l.term-index l.term-items)
