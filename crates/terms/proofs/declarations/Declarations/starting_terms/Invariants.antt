use Rattle.std.proofs.Common.{◌≡◌, map, take, vec_items}
use Rattle.std.specs.List.{filter}
use Rattle.terms.specs.declared.declarations.Start.{Start}
use Rattle.terms.proofs.Collecting.{starts_test}
use Rattle.terms.proofs.declarations.Declarations.starting_terms.Given as goal

abbrev pub invariant-loop-start : goal.invariant-loop-start
invariant-loop-start l = vec_items l.terms ≡ map (λ (s : Start). s.term) (filter (starts_test l.name) (take l.start-index l.start-items))
