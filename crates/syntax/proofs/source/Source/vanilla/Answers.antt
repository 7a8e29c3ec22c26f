use Rattle.std.proofs.Common.{Ok, sym, refl, ◌∙◌, arith, rules}
use Rattle.std.proofs.lemmas.Result.{err_from_is_err_and}
use Rattle.text.specs.Nodes.{tree_of}
use Rattle.syntax.specs.Symbols.{found}
use Rattle.syntax.specs.Shape.{no_parts}
use Rattle.syntax.proofs.Forms.{formed, formed_fault}
use Rattle.syntax.proofs.Parts.{none_so, not_none}
use Rattle.syntax.proofs.source.Source.vanilla.Goals as goal

pub returns-in_err-bracket : goal.returns-in_err-bracket
unfolding found
returns-in_err-bracket c =
    let p = err_from_is_err_and c.from_residual.result c.from_residual.ensures.1 in
    rw (p.1, p.2) (sym (formed_fault c.args.self.text.now "vanilla" (λ at ts. no_parts at ts (Ok tt)) (tree_of c.args.node.now) c.in_err-bracket.field-0.0 (c.in_err-bracket.ensures "vanilla" refl)))

pub returns-then-not-is_empty : goal.returns-then-not-is_empty
unfolding found
returns-then-not-is_empty c =
    sym (formed c.args.self.text.now "vanilla" (λ at ts. no_parts at ts (Ok tt)) (tree_of c.args.node.now) c.in_ok-bracket.bracket (c.in_ok-bracket.ensures "vanilla" refl) ∙ not_none c.in_ok-bracket.bracket.at c.in_ok-bracket.bracket.parts.now (Ok tt) (λ e. grind arith))

pub returns : goal.returns
unfolding found
returns c =
    sym (formed c.args.self.text.now "vanilla" (λ at ts. no_parts at ts (Ok tt)) (tree_of c.args.node.now) c.in_ok-bracket.bracket (c.in_ok-bracket.ensures "vanilla" refl) ∙ none_so c.in_ok-bracket.bracket.at c.in_ok-bracket.bracket.parts.now (Ok tt) (search rules))
