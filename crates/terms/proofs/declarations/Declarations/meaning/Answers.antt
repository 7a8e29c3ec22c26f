use Rattle.std.proofs.Common.{◌≡◌, Some, vec_items, sym, ap, ◌∙◌, arith}
use Rattle.std.specs.Prelude.{option_map, slice_get}
use Rattle.std.proofs.lemmas.Grind.{common_steps}
use Rattle.std.proofs.lemmas.Option.{slice_get_read}
use Rattle.terms.specs.declared.declarations.Declared.{Declared}
use Rattle.terms.specs.Scope.{declares}
use Rattle.terms.proofs.Naming.{found_there, found_nowhere}
use Rattle.terms.proofs.declarations.Declarations.meaning.Goals as goal

pub returns-in_err-number : goal.returns-in_err-number
returns-in_err-number c =
    let e = found_nowhere (declares c.args.text.now c.args.name) (vec_items c.args.self.now.names) (sym c.find.ensures ∙ c.in_err-number.was) in
    c.from_residual.ensures ∙ sym (ap (option_map (λ (d : Declared). d.meaning)) e)

pub returns : goal.returns
returns c =
    let e = found_there (declares c.args.text.now c.args.name) (vec_items c.args.self.now.names) c.in_ok-number.number (sym c.find.ensures ∙ c.in_ok-number.was) in
    let n : slice_get (vec_items c.args.self.now.names) c.in_ok-number.number ≡ Some c.in_ok-get.field-0.now = grind (arith, common_steps, slice_get_read) in
    sym (ap (option_map (λ (d : Declared). d.meaning)) (e ∙ n))
