use Rattle.std.proofs.Common.{ap, ◌∙◌}
use Rattle.std.specs.Option.{ok_or}
use Rattle.terms.specs.declared.fault.TermFault.TheVariants.{WrongType}
use Rattle.terms.specs.Checked.{found}
use Rattle.terms.proofs.Checking.{function_found}
use Rattle.terms.proofs.declarations.Declarations.applied.Goals as goal

pub returns : goal.returns
returns c =
    ap (found c.args.self.now) (c.ok_or.ensures.value ∙ ap (λ o. ok_or o (WrongType c.args.name.at)) c.copied.ensures)
    ∙ function_found c.args.text.now c.args.self.now c.args.name c.in-Function.number (cc) c.deref.result.now c.deref.ensures.value c.get.result c.get.ensures.lookup
