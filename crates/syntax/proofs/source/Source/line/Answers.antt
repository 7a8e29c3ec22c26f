use Rattle.std.proofs.lemmas.Result.{err_from_is_err_and}
use Rattle.text.specs.Nodes.{tree_of}
use Rattle.syntax.specs.declared.symbol.Symbol.TheVariants as symbols
use Rattle.syntax.specs.Views.{line_in}
use Rattle.syntax.proofs.Chains.{line_stands, line_other, line_refused}
use Rattle.syntax.proofs.Numbers.{adds_path}
use Rattle.syntax.proofs.source.Source.line.Goals as goal

pub returns-in_err-at-clause-adds : goal.returns-in_err-at-clause-adds
returns-in_err-at-clause-adds c =
    let p = err_from_is_err_and c.from_residual.result c.from_residual.ensures.1 in
    rw (p.1, p.2) (λ _. line_refused c.args.self.text.now (tree_of c.args.node.now) c.in_err-at.field-0.0 c.in_err-at.ensures)

pub returns-in-Comm-clause-adds : goal.returns-in-Comm-clause-adds
returns-in-Comm-clause-adds c = adds_path line_in c.args.spec.now c.comm.new.spec c.comm.result (line_stands c.args.self.text.now (tree_of c.args.node.now) c.in_ok-at.field-0 c.in_ok-at.ensures symbols.Comm c.in-Comm.is) c.comm.ensures.adds

pub returns-in-Block-clause-adds : goal.returns-in-Block-clause-adds
returns-in-Block-clause-adds c = λ _. line_stands c.args.self.text.now (tree_of c.args.node.now) c.in_ok-at.field-0 c.in_ok-at.ensures symbols.Block c.in-Block.is

pub returns-in_default-clause-adds : goal.returns-in_default-clause-adds
returns-in_default-clause-adds c = λ _. line_other c.args.self.text.now (tree_of c.args.node.now) c.in_ok-at.field-0 c.in_ok-at.ensures c.in_default.not-Comm c.in_default.not-Block
