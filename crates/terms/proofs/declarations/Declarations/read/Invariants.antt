use Rattle.std.proofs.Common.{map, drop}
use Rattle.syntax.specs.Views.{declared_of}
use Rattle.terms.proofs.Adding.{LeftAll}
use Rattle.terms.proofs.declarations.Declarations.read.Given as goal

abbrev pub invariant-loop-declaration : goal.invariant-loop-declaration
invariant-loop-declaration l = LeftAll l.text l.fn.limits (map (declared_of l.spec) l.declaration-items) l.declarations (map (declared_of l.spec) (drop l.declaration-index l.declaration-items))
