use Rattle.std.proofs.Common.{◌∙◌, refl, arith}
use Rattle.syntax.proofs.Parts.{not_one, one_so}
use Rattle.syntax.proofs.source.Source.everybody_knows.Goals as goal

pub returns-in_default-clause-adds : goal.returns-in_default-clause-adds
returns-in_default-clause-adds c = λ _. not_one c.args.at _ c.args.parts.now (λ e. grind arith)

pub returns-in_default-2-clause-adds : goal.returns-in_default-2-clause-adds
returns-in_default-2-clause-adds c = λ _. not_one c.args.at _ c.args.parts.now (λ e. grind arith)

pub returns-clause-adds : goal.returns-clause-adds
returns-clause-adds c =
    let k = c.in_ok-add_term.ensures in
    (k.kept, λ ns ts. one_so c.args.at _ c.args.parts.now c.term-item.result (omega arith) c.term-item.is ∙ rw (c.in_ok-term.ensures, k.number ts) refl)

pub returns-clause-numbers : goal.returns-clause-numbers
returns-clause-numbers c = c.in_ok-add_term.ensures.takes
