use Rattle.std.proofs.Common.{refl}
use Rattle.std.specs.Prelude.{slice_range}
use Rattle.terms.proofs.Adding.{value_added, function_added}
use Rattle.terms.proofs.declarations.Declarations.add.Goals as goal

pub returns-in_ok-value-in-Value : goal.returns-in_ok-value-in-Value
returns-in_ok-value-in-Value c =
    rw c.in-Value.is
    (value_added c.args.reading.text.now c.args.reading.limits c.args.self.now c.value.new.self c.in-Value.name c.in_ok-unused-in-Value.ensures.unused c.in-Value.kind c.in-Value.shared
    c.in_ok-kind-in-Value.kind c.in_ok-kind-in-Value.ensures c.in_ok-value-in-Value.ensures)

pub returns-in_ok-function-in-Function : goal.returns-in_ok-function-in-Function
returns-in_ok-function-in-Function c =
    rw c.in-Function.is
    (function_added c.args.reading.text.now c.args.reading.limits c.args.self.now c.function.new.self c.in-Function.name c.in_ok-unused-in-Function.ensures.unused c.in-Function.class c.in-Function.result (slice_range c.args.reading.spec.now.parameters.items c.in-Function.first c.in-Function.end)
    c.in_ok-result-in-Function.result c.in_ok-result-in-Function.ensures _ (rw c.len-before.ensures at c.in_ok-function-in-Function.ensures) _ c.parameters-parameters.ensures c.in_ok-read_parameters-in-Function.ensures.kinds
    (record { names = refl; functions = refl; parameters = c.in_ok-read_parameters-in-Function.ensures.kinds.1.1; starts = refl; rights = refl; terms = refl }))
