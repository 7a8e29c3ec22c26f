use Rattle.std.proofs.Common.{◌∙◌, refl, arith}
use Rattle.std.proofs.lemmas.Result.{err_from_is_err_and}
use Rattle.syntax.proofs.Parts.{four_so}
use Rattle.syntax.proofs.source.Source.comm.Goals as goal

pub returns-in_err-term-clause-adds : goal.returns-in_err-term-clause-adds
returns-in_err-term-clause-adds c =
    let p = err_from_is_err_and c.from_residual-in_err-term.result c.from_residual-in_err-term.ensures.1 in
    rw (p.1, p.2) (λ n. four_so c.args.at _ c.args.parts.now c.label-item.result c.sender-item.result c.receiver-item.result c.message-item.result (omega arith) c.label-item.is c.sender-item.is c.receiver-item.is c.message-item.is
    ∙ rw (← c.in_ok-label.ensures, ← c.in_ok-name.ensures, ← c.in_ok-name-2.ensures, c.in_err-term.ensures n) refl)

pub returns-clause-adds : goal.returns-clause-adds
returns-clause-adds c =
    let k = c.in_ok-add_term.ensures in (
      k.kept,
      λ ns ts.
          four_so c.args.at _ c.args.parts.now c.label-item.result c.sender-item.result c.receiver-item.result c.message-item.result (omega arith) c.label-item.is c.sender-item.is c.receiver-item.is c.message-item.is
          ∙ rw (← c.in_ok-label.ensures, ← c.in_ok-name.ensures, ← c.in_ok-name-2.ensures, c.in_ok-term.ensures, k.number ts) refl,
    )

pub returns-clause-numbers : goal.returns-clause-numbers
returns-clause-numbers c = c.in_ok-add_term.ensures.takes
