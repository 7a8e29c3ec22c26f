use Rattle.std.proofs.Common.{◌+◌, ◌*◌}
use Rattle.text.specs.Nodes.{tree_of, trees_of}
use Rattle.text.specs.Trees.{size, sizes}
use Rattle.syntax.specs.Shape.{term, terms}
use Rattle.syntax.specs.Views.{term_of, terms_of}
use Rattle.syntax.proofs.Rest.{Rest}
use Rattle.syntax.proofs.source.Source.+term.Given as goal

abbrev pub decreases-term : goal.decreases-term
decreases-term l = 3 * size (tree_of l.node.now)

abbrev pub decreases-terms : goal.decreases-terms
decreases-terms l = 3 * sizes (trees_of l.parts.now) + 1

abbrev pub decreases-tuple : goal.decreases-tuple
decreases-tuple l = 3 * sizes (trees_of l.parts.now) + 2

abbrev pub decreases-ciphertext : goal.decreases-ciphertext
decreases-ciphertext l = 3 * sizes (trees_of l.parts.now) + 2

abbrev pub decreases-application : goal.decreases-application
decreases-application l = 3 * sizes (trees_of l.parts.now) + 2

abbrev pub invariant-terms-loop-part : goal.invariant-terms-loop-part
invariant-terms-loop-part l = Rest (term l.self.text.now) (terms l.self.text.now) term_of terms_of l.parts l.part-index l.terms.items
