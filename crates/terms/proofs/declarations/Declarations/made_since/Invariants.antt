use Rattle.std.proofs.Common.{◌≡◌, take, vec_items}
use Rattle.std.specs.List.{filter_map}
use Rattle.terms.proofs.Collecting.{made_name}
use Rattle.terms.proofs.declarations.Declarations.made_since.Given as goal

abbrev pub invariant-loop-row : goal.invariant-loop-row
invariant-loop-row l = vec_items l.made ≡ filter_map (made_name (vec_items l.self.names)) (take l.row-index l.row-items)
