-- The refusals of lines and of translations.
use Rattle.std.specs.Prelude.{None, Option}
use Rattle.base.specs.Refusals.{refuse}
use Rattle.text.specs.Refusals.{text_refusal}
use Rattle.base.specs.declared.refusal.Cause.TheVariants as causes
use Rattle.base.specs.declared.refusal.Layer.TheVariants as layers
use Rattle.base.specs.declared.refusal.Refusal.{Refusal}
use Rattle.syntax.specs.Refusals.{shape_refusal}
use Rattle.terms.specs.declared.fault.TermFault.{TermFault}
use Rattle.terms.specs.declared.fault.TermFault.TheVariants as term
use Rattle.terms.specs.Refusals.{declaration_refusal}
use Rattle.roles.specs.declared.line_fault.LineFault.{LineFault}
use Rattle.roles.specs.declared.line_fault.LineFault.TheVariants as line
use Rattle.roles.specs.declared.translation_fault.TranslationFault.{TranslationFault}
use Rattle.roles.specs.declared.translation_fault.TranslationFault.TheVariants.{Text, Shape, Declarations, Lines}

abbrev pub line_refusal : LineFault → Option Refusal
line_refusal (line.Limit p) = refuse causes.Limit layers.Lines p
line_refusal (line.Undeclared p) = refuse causes.Undeclared layers.Lines p
line_refusal (line.WrongType p) = refuse causes.WrongType layers.Lines p
line_refusal (line.Repeated p) = refuse causes.Repeated layers.Lines p
line_refusal (line.Underivable p r t) = refuse causes.Underivable layers.Lines p
line_refusal (line.Exhausted w) = None

-- a term's fault in a line
abbrev pub to_line : TermFault → LineFault
to_line (term.Limit p) = line.Limit p
to_line (term.Undeclared p) = line.Undeclared p
to_line (term.WrongType p) = line.WrongType p
to_line (term.NoMemory w) = line.Exhausted (record { seen = tt })

abbrev pub translation_refusal : TranslationFault → Option Refusal
translation_refusal (Text f) = text_refusal f
translation_refusal (Shape f) = shape_refusal f
translation_refusal (Declarations f) = declaration_refusal f
translation_refusal (Lines f) = line_refusal f
