use Rattle.std.proofs.Common.{◌≡◌, take, map}
use Rattle.text.specs.Nodes.{tree_of}
use Rattle.text.proofs.tree.+copy.Given as goal

abbrev pub invariant-copy_parts-loop-part : goal.invariant-copy_parts-loop-part
invariant-copy_parts-loop-part l = map tree_of l.copies.items ≡ map tree_of (take l.part-index l.part-items)
