use Rattle.std.proofs.Common.{map, refl, ◌∙◌, arith}
use Rattle.std.proofs.lemmas.Result.{err_from_is_err_and}
use Rattle.text.specs.Nodes.{tree_of, trees_of}
use Rattle.syntax.specs.Symbols.{found}
use Rattle.syntax.specs.Shape.{at_most, lines}
use Rattle.syntax.specs.Views.{line_in}
use Rattle.syntax.proofs.Numbers.{adds_path}
use Rattle.syntax.proofs.Forms.{formed, formed_fault}
use Rattle.syntax.proofs.Parts.{at_most_so, at_most_not}
use Rattle.syntax.proofs.source.Source.block.Goals as goal

pub returns-in_err-bracket-clause-adds : goal.returns-in_err-bracket-clause-adds
unfolding found
returns-in_err-bracket-clause-adds c =
    let p = err_from_is_err_and c.from_residual.result c.from_residual.ensures.1 in
    rw (p.1, p.2) (λ _. formed_fault c.args.self.text.now "block" (λ at ts. at_most 64 at ts (lines c.args.self.text.now ts)) (tree_of c.args.node.now) c.in_err-bracket.field-0.0 (c.in_err-bracket.ensures "block" refl))

pub returns-then-bracket-gt-MOST_LINES-clause-adds : goal.returns-then-bracket-gt-MOST_LINES-clause-adds
unfolding found
returns-then-bracket-gt-MOST_LINES-clause-adds c =
    let b = c.in_ok-bracket.bracket in
    λ _. formed c.args.self.text.now "block" (λ at ts. at_most 64 at ts (lines c.args.self.text.now ts)) (tree_of c.args.node.now) b (c.in_ok-bracket.ensures "block" refl) ∙ at_most_not b.at 64 b.parts.now (lines c.args.self.text.now (trees_of b.parts.now)) (omega arith)

pub returns-clause-adds : goal.returns-clause-adds
unfolding found
returns-clause-adds c =
    let b = c.in_ok-bracket.bracket in
    adds_path (λ ns ts ls. map (line_in ns ts) ls.items) c.args.spec.now c.lines.new.spec c.lines.result (formed c.args.self.text.now "block" (λ at ts. at_most 64 at ts (lines c.args.self.text.now ts)) (tree_of c.args.node.now) b (c.in_ok-bracket.ensures "block" refl) ∙ at_most_so b.at 64 b.parts.now (lines c.args.self.text.now (trees_of b.parts.now)) (omega arith)) c.lines.ensures.adds
