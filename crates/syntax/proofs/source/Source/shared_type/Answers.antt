use Rattle.std.proofs.Common.{Ok, refl, ◌∙◌}
use Rattle.syntax.specs.declared.source.Item.TheVariants as items
use Rattle.std.proofs.lemmas.Result.{err_from_is_err_and}
use Rattle.text.specs.Nodes.{tree_of}
use Rattle.syntax.specs.Seeing.{Shows, Stands}
use Rattle.syntax.specs.Views.{declared_in}
use Rattle.syntax.proofs.Chains.{shared_named, shared_function, shared_other, shared_refused}
use Rattle.syntax.proofs.Numbers.{adds_path, kept_same}
use Rattle.syntax.proofs.source.Source.shared_type.Goals as goal

pub returns-in_err-kind-clause-adds : goal.returns-in_err-kind-clause-adds
returns-in_err-kind-clause-adds c =
    let p = err_from_is_err_and c.from_residual.result c.from_residual.ensures.1 in
    rw (p.1, p.2) (λ _. shared_refused c.args.self.text.now (tree_of c.args.node.now) c.args.name c.in_err-kind.field-0.0 c.in_err-kind.ensures)

pub returns-in-FunctionType-clause-adds : goal.returns-in-FunctionType-clause-adds
returns-in-FunctionType-clause-adds c =
    let h : Stands c.args.self.text.now (tree_of c.args.node.now) c.in-Bracket.field-0 = rw c.in-Bracket.is at c.in_ok-kind.ensures in
    adds_path declared_in c.args.spec.now c.function.new.spec c.function.result (shared_function c.args.self.text.now (tree_of c.args.node.now) c.in-Bracket.field-0 h c.args.name c.in-FunctionType.class c.in-FunctionType.is) c.function.ensures.adds

pub returns-in_default-clause-adds : goal.returns-in_default-clause-adds
returns-in_default-clause-adds c =
    let h : Stands c.args.self.text.now (tree_of c.args.node.now) c.in-Bracket.field-0 = rw c.in-Bracket.is at c.in_ok-kind.ensures in
    λ _. shared_other c.args.self.text.now (tree_of c.args.node.now) c.in-Bracket.field-0 h c.args.name c.in_default.not-FunctionType

pub returns-in_ok-short-in-Name-clause-adds : goal.returns-in_ok-short-in-Name-clause-adds
returns-in_ok-short-in-Name-clause-adds c =
    let h : Shows c.args.self.text.now (tree_of c.args.node.now) (Ok (items.Name c.in-Name.kind)) = rw c.in-Name.is at c.in_ok-kind.ensures in
    (kept_same c.args.spec.now, λ ns ts. shared_named c.args.self.text.now (tree_of c.args.node.now) c.args.name c.in-Name.kind h ∙ rw (← c.in_ok-short-in-Name.ensures) refl)
