use Rattle.std.proofs.lemmas.Result.{err_from_is_err_and}
use Rattle.text.specs.Nodes.{tree_of}
use Rattle.syntax.specs.declared.symbol.Symbol.TheVariants as symbols
use Rattle.syntax.specs.Views.{declared_in}
use Rattle.syntax.proofs.Chains.{declaration_stands, declaration_other, declaration_refused}
use Rattle.syntax.proofs.Numbers.{adds_path, adds_nothing}
use Rattle.syntax.proofs.source.Source.declaration.Goals as goal

pub returns-in_err-at-clause-adds : goal.returns-in_err-at-clause-adds
returns-in_err-at-clause-adds c =
    let p = err_from_is_err_and c.from_residual.result c.from_residual.ensures.1 in
    rw (p.1, p.2) (λ _. declaration_refused c.args.self.text.now (tree_of c.args.node.now) c.in_err-at.field-0.0 c.in_err-at.ensures)

pub returns-in-Type-clause-adds : goal.returns-in-Type-clause-adds
returns-in-Type-clause-adds c = adds_nothing declared_in c.args.spec.now c.value.result (declaration_stands c.args.self.text.now (tree_of c.args.node.now) c.in_ok-at.field-0 c.in_ok-at.ensures symbols.Type c.in-Type.is) c.value.ensures.gives

pub returns-in-TypeShared-clause-adds : goal.returns-in-TypeShared-clause-adds
returns-in-TypeShared-clause-adds c = adds_path declared_in c.args.spec.now c.shared.new.spec c.shared.result (declaration_stands c.args.self.text.now (tree_of c.args.node.now) c.in_ok-at.field-0 c.in_ok-at.ensures symbols.TypeShared c.in-TypeShared.is) c.shared.ensures.adds

pub returns-in-Knows-clause-adds : goal.returns-in-Knows-clause-adds
returns-in-Knows-clause-adds c = adds_path declared_in c.args.spec.now c.knows.new.spec c.knows.result (declaration_stands c.args.self.text.now (tree_of c.args.node.now) c.in_ok-at.field-0 c.in_ok-at.ensures symbols.Knows c.in-Knows.is) c.knows.ensures.adds

pub returns-in-EverybodyKnows-clause-adds : goal.returns-in-EverybodyKnows-clause-adds
returns-in-EverybodyKnows-clause-adds c = adds_path declared_in c.args.spec.now c.everybody_knows.new.spec c.everybody_knows.result (declaration_stands c.args.self.text.now (tree_of c.args.node.now) c.in_ok-at.field-0 c.in_ok-at.ensures symbols.EverybodyKnows c.in-EverybodyKnows.is) c.everybody_knows.ensures.adds

pub returns-in_default-clause-adds : goal.returns-in_default-clause-adds
returns-in_default-clause-adds c = λ _. declaration_other c.args.self.text.now (tree_of c.args.node.now) c.in_ok-at.field-0 c.in_ok-at.ensures c.in_default.not-Type c.in_default.not-TypeShared c.in_default.not-Knows c.in_default.not-EverybodyKnows
