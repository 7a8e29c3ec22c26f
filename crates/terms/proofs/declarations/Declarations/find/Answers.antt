use Rattle.std.proofs.Common.{vec_items, ◌∙◌, sym, rules, tests}
use Rattle.std.proofs.lemmas.Iterator.{YieldsList-from_slice}
use Rattle.std.proofs.lemmas.Iterator.Search.{position_from_yields_List}
use Rattle.terms.specs.Scope.{declares}
use Rattle.terms.proofs.declarations.Declarations.find.Goals as goal

pub returns-in_err-number : goal.returns-in_err-number
returns-in_err-number c =
    c.from_residual.ensures ∙ sym c.in_err-number.was
    ∙ position_from_yields_List (declares c.args.text.now c.args.name) _ _ _ c.position.ensures.ran (YieldsList-from_slice (vec_items c.args.self.now.names) (cc)) (λ x b q k. search (rules, tests))

pub returns : goal.returns
returns c =
    sym c.in_ok-number.was
    ∙ position_from_yields_List (declares c.args.text.now c.args.name) _ _ _ c.position.ensures.ran (YieldsList-from_slice (vec_items c.args.self.now.names) (cc)) (λ x b q k. search (rules, tests))
