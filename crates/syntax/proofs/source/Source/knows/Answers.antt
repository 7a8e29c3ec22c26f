use Rattle.std.proofs.Common.{◌∙◌, refl, arith}
use Rattle.syntax.proofs.Parts.{two_so}
use Rattle.syntax.proofs.source.Source.knows.Goals as goal

pub returns-clause-adds : goal.returns-clause-adds
returns-clause-adds c =
    let k = c.in_ok-add_term.ensures in
    (k.kept, λ ns ts. two_so c.args.at _ c.args.parts.now c.knower-item.result c.term-item.result (omega arith) c.knower-item.is c.term-item.is ∙ rw (← c.in_ok-name.ensures, c.in_ok-term.ensures, k.number ts) refl)

pub returns-clause-numbers : goal.returns-clause-numbers
returns-clause-numbers c = c.in_ok-add_term.ensures.takes
