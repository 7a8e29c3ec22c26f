-- The refusals of the declarations.
use Rattle.std.specs.Prelude.{None, Option}
use Rattle.base.specs.Refusals.{refuse}
use Rattle.base.specs.declared.refusal.Cause.TheVariants as causes
use Rattle.base.specs.declared.refusal.Layer.TheVariants.{Declarations}
use Rattle.base.specs.declared.refusal.Refusal.{Refusal}
use Rattle.terms.specs.declared.fault.TermFault.{TermFault}
use Rattle.terms.specs.declared.fault.TermFault.TheVariants as term
use Rattle.terms.specs.declared.fault.DeclarationFault.{DeclarationFault}
use Rattle.terms.specs.declared.fault.DeclarationFault.TheVariants as declaration

abbrev pub declaration_refusal : DeclarationFault → Option Refusal
declaration_refusal (declaration.Limit p) = refuse causes.Limit Declarations p
declaration_refusal (declaration.Redeclared p) = refuse causes.Redeclared Declarations p
declaration_refusal (declaration.Undeclared p) = refuse causes.Undeclared Declarations p
declaration_refusal (declaration.WrongType p) = refuse causes.WrongType Declarations p
declaration_refusal (declaration.NoMemory w) = None

-- a term's fault in a declaration
abbrev pub to_declaration : TermFault → DeclarationFault
to_declaration (term.Limit p) = declaration.Limit p
to_declaration (term.Undeclared p) = declaration.Undeclared p
to_declaration (term.WrongType p) = declaration.WrongType p
to_declaration (term.NoMemory w) = declaration.NoMemory w
