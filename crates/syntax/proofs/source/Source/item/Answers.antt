use Rattle.std.proofs.Common.{ap, sym, ◌∙◌}
use Rattle.text.specs.Nodes.{trees_of, shown}
use Rattle.syntax.specs.Symbols.{symbol}
use Rattle.syntax.specs.Shape.{bytes}
use Rattle.syntax.proofs.Forms.{bracket_faulty}
use Rattle.syntax.proofs.Spelled.{carried_so}
use Rattle.syntax.proofs.source.Source.item.Goals as goal

pub returns-in-NotCarried : goal.returns-in-NotCarried
returns-in-NotCarried c =
    let s = ap symbol (sym c.of-in-Bracket.ensures) ∙ sym c.symbol_of.ensures ∙ c.in-NotCarried.is in
    bracket_faulty c.args.self.text.now c.in-Bracket.at c.in-Bracket.symbol (trees_of c.in-Bracket.parts.now) (sym c.node.ensures ∙ ap shown c.in-Bracket.is) s

pub returns-in_default : goal.returns-in_default
returns-in_default c =
    let s = ap symbol (sym c.of-in-Bracket.ensures) ∙ sym c.symbol_of.ensures in
    record {
      part = c.in-Bracket.symbol;
      is = sym c.node.ensures ∙ ap shown c.in-Bracket.is;
      symbol_is = s;
      carried = carried_so (bytes c.args.self.text.now c.in-Bracket.symbol) (λ z. c.in_default.not-NotCarried (sym s ∙ z));
    }
