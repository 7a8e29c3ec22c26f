-- From a text to the roles with their programs: the text, the tree's shape, the declarations and the lines, each ended before the next.
use Rattle.std.specs.Prelude.{ℕ, List, [], Result}
use Rattle.text.specs.Reading.{reading}
use Rattle.syntax.specs.Shape.{shape}
use Rattle.terms.specs.declared.limits.Limits.{Limits}
use Rattle.terms.specs.Declaring.{bind, declared}
use Rattle.roles.specs.declared.translation_fault.TranslationFault.{TranslationFault}
use Rattle.roles.specs.declared.translation_fault.TranslationFault.TheVariants.{Text, Shape, Declarations, Lines}
use Rattle.roles.specs.Stages.{Stage, refused_by, lines}

abbrev pub translation : Limits → List ℕ → Result Stage TranslationFault
translation limits text =
    bind (refused_by Text (reading text)) (λ t.
    bind (refused_by Shape (shape text t)) (λ S.
    bind (refused_by Declarations (declared text limits S)) (λ U.
    refused_by Lines (lines limits text [] S.lines (record { scope = U; players = [] })))))
