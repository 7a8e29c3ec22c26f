use Rattle.std.proofs.Common.{map, refl}
use Rattle.std.proofs.lemmas.Result.{err_from_is_err_and}
use Rattle.text.specs.Nodes.{tree_of}
use Rattle.syntax.specs.Symbols.{found}
use Rattle.syntax.specs.Shape.{declarations}
use Rattle.syntax.specs.Views.{declared_in}
use Rattle.syntax.proofs.Numbers.{adds_path}
use Rattle.syntax.proofs.Forms.{formed, formed_fault}
use Rattle.syntax.proofs.source.Source.declare.Goals as goal

pub returns-in_err-bracket-clause-adds : goal.returns-in_err-bracket-clause-adds
unfolding found
returns-in_err-bracket-clause-adds c =
    let p = err_from_is_err_and c.from_residual.result c.from_residual.ensures.1 in
    rw (p.1, p.2) (λ _. formed_fault c.args.self.text.now "declare" (λ at ts. declarations c.args.self.text.now ts) (tree_of c.args.node.now) c.in_err-bracket.field-0.0 (c.in_err-bracket.ensures "declare" refl))

pub returns-clause-adds : goal.returns-clause-adds
unfolding found
returns-clause-adds c =
    adds_path (λ ns ts ds. map (declared_in ns ts) ds.items) c.args.spec.now c.declarations.new.spec c.declarations.result (formed c.args.self.text.now "declare" (λ at ts. declarations c.args.self.text.now ts) (tree_of c.args.node.now) c.in_ok-bracket.bracket (c.in_ok-bracket.ensures "declare" refl)) c.declarations.ensures.adds
