use mathlib.Core.Path.{subst}
use Rattle.syntax.proofs.Numbers.{term_there}
use Rattle.terms.specs.Declares.{Knowing}
use Rattle.terms.proofs.declarations.Declarations.known_by_number.Goals as goal

pub returns : goal.returns
returns c =
    let s = c.args.reading.spec.now in
    subst (λ t. Knowing c.args.reading.text.now c.args.reading.limits c.args.self.now c.known.new.self c.args.knower t c.known.result)
    (term_there s.terms.items c.args.number c.nothing-nothing.result c.term_or.result.now c.term_or.ensures c.nothing-nothing.ensures) c.known.ensures
