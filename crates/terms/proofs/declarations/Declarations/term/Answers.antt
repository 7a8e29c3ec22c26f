use Rattle.std.proofs.Common.{sym, arith, ◌∙◌}
use Rattle.std.proofs.lemmas.Result.{err_from_is_err_and}
use Rattle.syntax.specs.Views.{term_of}
use Rattle.terms.proofs.Terming.{numbered, not_numbered, not_checked}
use Rattle.terms.proofs.TermNumbers.{follows}
use Rattle.terms.specs.Meanings.{scope_of}
use Rattle.terms.proofs.declarations.Declarations.term.Goals as goal

pub returns-in_err-check-clause-termed : goal.returns-in_err-check-clause-termed
returns-in_err-check-clause-termed c =
    let p = err_from_is_err_and c.from_residual.result c.from_residual.ensures.1 in
    rw (p.1, p.2) (not_checked c.args.text.now _ (term_of c.args.term.now) (scope_of c.args.self.now) c.in_err-check.field-0.0 (sym c.in_err-check.was ∙ c.check.ensures))

pub returns-in-Ok-clause-termed : goal.returns-in-Ok-clause-termed
returns-in-Ok-clause-termed c =
    rw (← c.most_terms.ensures)
    (numbered c.args.text.now c.args.self.now c.number.new.self c.most_terms.result (term_of c.args.term.now) (omega (arith, c.most_terms.ensures)) (sym c.in_ok-check.was ∙ c.check.ensures)
    c.in-Ok.number c.in-Ok.ensures.within c.in-Ok.ensures.grows c.in-Ok.ensures.same c.in-Ok.ensures.reads)

pub returns-in-Ok-clause-numbers : goal.returns-in-Ok-clause-numbers
returns-in-Ok-clause-numbers c = follows c.args.text.now _ (term_of c.args.term.now) c.args.self.now c.number.new.self (returns-in-Ok-clause-termed c).0

pub returns-in-Err-clause-termed : goal.returns-in-Err-clause-termed
returns-in-Err-clause-termed c =
    rw (← c.most_terms.ensures)
    (not_numbered c.args.text.now c.args.self.now c.number.new.self c.most_terms.result (term_of c.args.term.now) (omega (arith, c.most_terms.ensures)) (sym c.in_ok-check.was ∙ c.check.ensures)
    c.in-Err.fault c.in-Err.ensures.same c.in-Err.ensures.begins c.in-Err.ensures.reads c.len-before.result c.len-before.ensures c.truncate.new.self c.truncate.ensures)
