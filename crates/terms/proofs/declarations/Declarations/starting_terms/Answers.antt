use Rattle.std.proofs.Common.{◌≡◌, map, vec_items, ap, ◌∙◌}
use mathlib.Core.Path.{subst⁻¹}
use Rattle.std.specs.List.{filter}
use Rattle.std.proofs.lemmas.List.{take_all}
use Rattle.terms.specs.declared.declarations.Start.{Start}
use Rattle.terms.specs.Shapes.{AllBelow}
use Rattle.terms.specs.Terms.{size, tree_in}
use Rattle.terms.proofs.Collecting.{starts_test, starting_below, starting_given}
use Rattle.terms.proofs.declarations.Declarations.starting_terms.Goals as goal

pub returns : goal.returns
returns c =
    let t = c.args.self.now.terms in
    let e : vec_items c.loop-start.terms ≡ map (λ (s : Start). s.term) (filter (starts_test c.args.name) (vec_items c.args.self.now.starts)) =
    c.loop-start.invariant ∙ ap (λ ss. map (λ (s : Start). s.term) (filter (starts_test c.args.name) ss)) (take_all c.loop-start.start-index c.deref-start-items.result.now c.loop-start-test.false ∙ c.deref-start-items.ensures.value) in
    record {
      below = subst⁻¹ (AllBelow (size t)) e (starting_below c.args.name (size t) (vec_items c.args.self.now.starts) c.args.self.now.started);
      given = ap (map (tree_in t)) e ∙ starting_given c.args.name t (vec_items c.args.self.now.starts);
    }
