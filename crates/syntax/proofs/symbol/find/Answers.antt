use Rattle.std.proofs.Common.{eqb, rules, tests}
use Rattle.std.proofs.lemmas.Iterator.{YieldsList-from_slice}
use Rattle.std.proofs.lemmas.Iterator.Search.{find_from_yields_List}
use lib.Pointwise.{pointwise}
use Rattle.syntax.proofs.Spelled.{first_found, none_found}
use Rattle.syntax.proofs.symbol.find.Goals as goal

pub returns-in_err-symbol : goal.returns-in_err-symbol
returns-in_err-symbol c =
    let h = find_from_yields_List (λ e. pointwise eqb e.0.now c.args.name.now) _ _ c.find.result c.find.ensures.ran (YieldsList-from_slice c.args.table.now cc) (λ x b q k. search (rules, tests)) in
    rw c.from_residual.ensures (none_found c.args.name.now c.args.table.now c.find.result c.in_err-symbol.was h)

pub returns : goal.returns
returns c =
    let h = find_from_yields_List (λ e. pointwise eqb e.0.now c.args.name.now) _ _ c.find.result c.find.ensures.ran (YieldsList-from_slice c.args.table.now cc) (λ x b q k. search (rules, tests)) in
    first_found c.args.name.now c.args.table.now c.find.result c.in_ok-symbol.field-0 c.in_ok-symbol.was h
