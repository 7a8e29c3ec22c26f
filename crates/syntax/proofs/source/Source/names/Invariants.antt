use Rattle.std.proofs.Common.{map}
use Rattle.syntax.specs.Shape.{a_name, each}
use Rattle.syntax.proofs.Rest.{Behind}
use Rattle.syntax.proofs.source.Source.names.Given as goal

abbrev pub invariant-loop-part : goal.invariant-loop-part
invariant-loop-part l = Behind (a_name l.self.text.now) (each (a_name l.self.text.now)) (λ n. n) (map (λ n. n)) l.parts l.part-index l.initial.names.items l.names.items
