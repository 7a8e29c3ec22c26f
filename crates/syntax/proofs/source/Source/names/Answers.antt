use Rattle.std.proofs.Common.{map, Ok, sym, ap, ◌∙◌}
use Rattle.std.proofs.lemmas.Result.{err_from_is_err_and}
use Rattle.text.specs.Nodes.{tree_of}
use Rattle.syntax.specs.Shape.{a_name, each, names}
use Rattle.std.proofs.lemmas.List.{map-id}
use Rattle.syntax.proofs.Rest.{behind_more, rest_refused, rest_none, by_each}
use Rattle.syntax.proofs.source.Source.names.Goals as goal

pub returns-in_err-name : goal.returns-in_err-name
unfolding names
returns-in_err-name c =
    let p = err_from_is_err_and c.from_residual.result c.from_residual.ensures.1 in
    let v = c.loop-part.invariant in
    rw (p.1, p.2) (λ n. rest_refused (a_name c.args.self.text.now) (each (a_name c.args.self.text.now)) (λ n. n) (map (λ n. n)) c.args.parts.now (by_each (a_name c.args.self.text.now) (λ n. n)) c.loop-part.part-index v.more v.rest c.part-item.result c.loop-part-test.true c.in_err-name.field-0.0 (ap (λ i. a_name c.args.self.text.now (tree_of i)) (sym c.part-item.is) ∙ sym c.in_err-name.ensures))

pub loop-part-preserved : goal.loop-part-preserved
loop-part-preserved c =
    behind_more (a_name c.args.self.text.now) (each (a_name c.args.self.text.now)) (λ n. n) (map (λ n. n)) c.args.parts.now (by_each (a_name c.args.self.text.now) (λ n. n)) c.loop-part.part-index c.args.names.now.items c.loop-part.names.items c.loop-part.invariant c.part-item.result c.loop-part-test.true c.push.new.list.items c.in_ok-name.field-0 c.in_ok-push.ensures.items (ap (λ i. a_name c.args.self.text.now (tree_of i)) (sym c.part-item.is) ∙ sym c.in_ok-name.ensures)

pub returns : goal.returns
unfolding names
returns c =
    let v = c.loop-part.invariant in
    record {
      more = v.more;
      is = v.is;
      said = rest_none (a_name c.args.self.text.now) (each (a_name c.args.self.text.now)) (λ n. n) (map (λ n. n)) c.args.parts.now (by_each (a_name c.args.self.text.now) (λ n. n)) c.loop-part.part-index v.more v.rest c.loop-part-test.false ∙ ap Ok (map-id v.more);
    }
