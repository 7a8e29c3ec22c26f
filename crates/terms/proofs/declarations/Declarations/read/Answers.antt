use Rattle.std.proofs.lemmas.Result.{err_from_is_err_and}
use Rattle.terms.proofs.Adding.{read_refused}
use Rattle.terms.proofs.declarations.Declarations.read.Goals as goal

pub returns-in_err-add : goal.returns-in_err-add
returns-in_err-add c =
    let p = err_from_is_err_and c.from_residual.result c.from_residual.ensures.1 in
    let items = c.deref-declaration-items.result.now in
    rw (p.1, p.2, ← c.deref-declaration-items.ensures.value)
    (read_refused c.args.text.now c.args.limits c.args.spec.now items _ _ c.loop-declaration.declarations c.add.new.self c.in_err-add.field-0.0 c.in_err-add.ensures c.loop-declaration-test.true c.loop-declaration.invariant)
