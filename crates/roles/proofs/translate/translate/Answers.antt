use Rattle.std.proofs.lemmas.Result.{err_from_is_err_and}
use Rattle.text.specs.Nodes.{tree_of}
use Rattle.syntax.specs.Views.{specification_of}
use Rattle.terms.specs.Meanings.{scope_of}
use Rattle.roles.proofs.Answering.{text_refused, shape_refused, declarations_refused, lines_refused, all_done, at_start}
use Rattle.roles.proofs.AllHeld.{all_held}
use Rattle.roles.proofs.TranslationLaw.{translation_law}
use Rattle.roles.proofs.translate.translate.Goals as goal

pub returns-in_err-declarations-clause-answers : goal.returns-in_err-declarations-clause-answers
returns-in_err-declarations-clause-answers c =
    let p = err_from_is_err_and c.from_residual-in_err-declarations.result c.from_residual-in_err-declarations.ensures.1 in
    rw (p.1, p.2)
    (declarations_refused c.args.limits c.args.text.now (tree_of c.in_ok-tree.tree) c.in_ok-tree.ensures.answers (specification_of c.in_ok-spec.spec) c.in_ok-spec.ensures.shapes c.in_err-declarations.field-0.0 c.in_err-declarations.ensures)

pub returns-in_err-lines-clause-answers : goal.returns-in_err-lines-clause-answers
returns-in_err-lines-clause-answers c =
    let text = c.args.text.now in
    let d = c.in_ok-declarations.declarations in
    let p = err_from_is_err_and c.from_residual-in_err-lines.result c.from_residual-in_err-lines.ensures.1 in
    rw (p.1, p.2)
    (lines_refused c.args.limits text (tree_of c.in_ok-tree.tree) c.in_ok-tree.ensures.answers (specification_of c.in_ok-spec.spec) c.in_ok-spec.ensures.shapes (scope_of d) c.in_ok-declarations.ensures _
    (at_start c.args.limits text (scope_of d) d.terms c.in_ok-spec.spec c.deref.ensures.value c.new.ensures.items) c.in_err-lines.field-0.0 c.in_err-lines.ensures)

pub returns-clause-answers : goal.returns-clause-answers
returns-clause-answers c =
    let text = c.args.text.now in
    let d = c.in_ok-declarations.declarations in
    all_done c.args.limits text (tree_of c.in_ok-tree.tree) c.in_ok-tree.ensures.answers (specification_of c.in_ok-spec.spec) c.in_ok-spec.ensures.shapes (scope_of d) c.in_ok-declarations.ensures _
    (at_start c.args.limits text (scope_of d) d.terms c.in_ok-spec.spec c.deref.ensures.value c.new.ensures.items) c.lines.new.self c.in_ok-lines.ensures

pub returns-clause-held : goal.returns-clause-held
returns-clause-held c = all_held c.args.limits c.args.text.now _ (returns-clause-answers c)

pub returns-in_err-tree-clause-law : goal.returns-in_err-tree-clause-law
returns-in_err-tree-clause-law c =
    let p = err_from_is_err_and c.from_residual.result c.from_residual.ensures.1 in
    let limits = c.args.limits in
    let text = c.args.text.now in
    rw (p.1, p.2) (translation_law limits text _ (text_refused limits text c.in_err-tree.field-0.0 c.in_err-tree.ensures.answers))

pub returns-in_err-spec-clause-law : goal.returns-in_err-spec-clause-law
returns-in_err-spec-clause-law c =
    let p = err_from_is_err_and c.from_residual-in_err-spec.result c.from_residual-in_err-spec.ensures.1 in
    let limits = c.args.limits in
    let text = c.args.text.now in
    rw (p.1, p.2) (translation_law limits text _ (shape_refused limits text (tree_of c.in_ok-tree.tree) c.in_ok-tree.ensures.answers c.in_err-spec.field-0.0 c.in_err-spec.ensures.shapes))

pub returns-in_err-declarations-clause-law : goal.returns-in_err-declarations-clause-law
returns-in_err-declarations-clause-law c = translation_law c.args.limits c.args.text.now _ (returns-in_err-declarations-clause-answers c)

pub returns-in_err-lines-clause-law : goal.returns-in_err-lines-clause-law
returns-in_err-lines-clause-law c = translation_law c.args.limits c.args.text.now _ (returns-in_err-lines-clause-answers c)

pub returns-clause-law : goal.returns-clause-law
returns-clause-law c = translation_law c.args.limits c.args.text.now _ (returns-clause-answers c)
