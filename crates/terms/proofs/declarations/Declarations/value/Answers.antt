use Rattle.std.proofs.Common.{vec_items, vec_len, is_ok, arith}
use Rattle.terms.specs.Declares.{declared_name}
use Rattle.terms.specs.declared.declarations.Meaning.TheVariants.{Value}
use Rattle.terms.proofs.Pushing.{defined_push}
use Rattle.terms.proofs.declarations.Declarations.value.Goals as goal

pub invariant_of-self-clause-defined : goal.invariant_of-self-clause-defined
invariant_of-self-clause-defined c =
    let d = c.args.self.now in
    let n = vec_len d.functions in
    defined_push (vec_items d.names) (declared_name c.args.name (Value c.args.kind c.args.shared)) n n (omega arith) d.defined (λ f q. absurd (cc)) (is_ok c.push.result) (vec_items c.push.new.list) c.push.ensures.items
