use Rattle.std.proofs.Common.{length, vec_items, ap, arith}
use Rattle.terms.specs.Meanings.{types_of, signature_in, scope_of}
use Rattle.terms.proofs.Views.{view-Apply}
use Rattle.terms.proofs.Checking.{miscounted, counted}
use Rattle.terms.proofs.declarations.Declarations.+check_check_parts.Goals as goal

pub check-returns-then-parameters-len : goal.check-returns-then-parameters-len
check-returns-then-parameters-len t c =
    let s = signature_in (types_of c.args.self.now) c.in_ok-function-in-Apply.function in
    let n = ap length c.parameters-parameters.ensures in
    rw (c.in-Apply.is, view-Apply)
    (miscounted c.args.text.now (scope_of c.args.self.now) c.in-Apply.at c.in-Apply.function (vec_items c.in-Apply.arguments) c.args.wanted s c.in_ok-function-in-Apply.ensures
    (λ q. c.if-parameters-len.true (omega (arith, c.len.ensures, c.in-Apply.arguments.ok.0, n))))

pub check-returns-in_ok-fits-in-Apply : goal.check-returns-in_ok-fits-in-Apply
check-returns-in_ok-fits-in-Apply t c =
    let s = signature_in (types_of c.args.self.now) c.in_ok-function-in-Apply.function in
    let n = ap length c.parameters-parameters.ensures in
    let q = counted c.args.text.now (scope_of c.args.self.now) c.in-Apply.at c.in-Apply.function (vec_items c.in-Apply.arguments) c.args.wanted s c.in_ok-function-in-Apply.ensures
    (omega (arith, c.len.ensures, c.in-Apply.arguments.ok.0, n)) in
    rw (c.in-Apply.is, view-Apply, q, ← c.in_ok-fits-in-Apply.ensures, ← c.deref-in-Apply.ensures.value, ← c.parameters-parameters.ensures) c.check_parts-in-Apply.ensures
