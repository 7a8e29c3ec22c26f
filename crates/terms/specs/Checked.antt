-- The function that the check of a term finds.
use Rattle.std.specs.Prelude.{Ok, Err, Result}
use Rattle.terms.specs.declared.declarations.Declarations.{Declarations}
use Rattle.terms.specs.declared.declarations.Function.{Function}
use Rattle.terms.specs.declared.fault.TermFault.{TermFault}
use Rattle.terms.specs.Scope.{Signature}
use Rattle.terms.specs.Meanings.{types_of, signature_in}

abbrev pub found : Declarations → Result Function TermFault → Result Signature TermFault
found d (Ok f) = Ok (signature_in (types_of d) f)
found d (Err e) = Err e
