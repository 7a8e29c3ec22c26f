use Rattle.std.proofs.Common.{cond, Ok, Err, sym, ap, ◌∙◌, rules, tests}
use Rattle.std.proofs.lemmas.Iterator.{YieldsList-from_slice}
use Rattle.std.proofs.lemmas.Iterator.Search.{any_from_yields_List}
use Rattle.syntax.specs.declared.spec.Line.{Line}
use Rattle.syntax.specs.Places.{label_place}
use Rattle.roles.specs.declared.line_fault.LineFault.TheVariants.{Repeated}
use Rattle.roles.specs.Labels.{equal_labels}
use Rattle.roles.proofs.label.fresh_label.Goals as goal

pub returns : goal.returns
returns c =
    let same = λ (l : Line). equal_labels c.args.text.now l.label c.args.label in
    let f = any_from_yields_List same _ _ _ c.any.ensures.ran (YieldsList-from_slice c.args.earlier.now cc) (λ x b q k. search (rules, tests)) in
    ap (λ b. cond b (Err (Repeated (label_place c.args.label))) (Ok tt)) (sym c.if-any.false ∙ f)
