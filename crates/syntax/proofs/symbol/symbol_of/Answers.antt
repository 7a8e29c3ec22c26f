use Rattle.std.proofs.Common.{cond, sym, ap, ◌∙◌}
use Rattle.syntax.specs.Symbols.{other}
use Rattle.syntax.specs.declared.symbol.Symbol.TheVariants as symbols
use Rattle.syntax.proofs.symbol.symbol_of.Goals as goal

pub returns-in-Some : goal.returns-in-Some
returns-in-Some c = ap (other c.args.name.now) (sym c.in-Some.is ∙ c.find.ensures)

pub returns-then-is_one_of : goal.returns-then-is_one_of
returns-then-is_one_of c = ap (λ b. cond b symbols.NotCarried symbols.Unknown) c.if-is_one_of.ensures ∙ ap (other c.args.name.now) (sym c.in_default.is ∙ c.find.ensures)

pub returns : goal.returns
returns c = ap (λ b. cond b symbols.NotCarried symbols.Unknown) c.if-is_one_of.ensures ∙ ap (other c.args.name.now) (sym c.in_default.is ∙ c.find.ensures)
