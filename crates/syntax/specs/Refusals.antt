-- The refusals of a tree's shape.
use Rattle.std.specs.Prelude.{None, Option}
use Rattle.base.specs.Refusals.{refuse}
use Rattle.base.specs.declared.refusal.Cause.TheVariants as causes
use Rattle.base.specs.declared.refusal.Layer.TheVariants.{Shape}
use Rattle.base.specs.declared.refusal.Refusal.{Refusal}
use Rattle.syntax.specs.declared.fault.ShapeFault.{ShapeFault}
use Rattle.syntax.specs.declared.fault.ShapeFault.TheVariants as shape

abbrev pub shape_refusal : ShapeFault → Option Refusal
shape_refusal (shape.Limit p) = refuse causes.Limit Shape p
shape_refusal (shape.Misfit p) = refuse causes.Misfit Shape p
shape_refusal (shape.NotCarried p) = refuse causes.NotCarried Shape p
shape_refusal (shape.NoName p) = refuse causes.NoName Shape p
shape_refusal (shape.NoMemory w) = None
