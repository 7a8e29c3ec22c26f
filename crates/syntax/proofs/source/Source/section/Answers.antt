use Rattle.std.proofs.Common.{sym, ap, ◌∙◌, Err, arith}
use Rattle.syntax.specs.declared.fault.ShapeFault.TheVariants.{NotCarried}
use Rattle.std.proofs.lemmas.Result.{err_from_is_err_and}
use Rattle.text.specs.Nodes.{tree_of}
use Rattle.syntax.specs.Seeing.{section_word}
use Rattle.syntax.specs.Shape.{empty}
use Rattle.syntax.proofs.Forms.{formed, formed_fault, barred_shown, barred_fault}
use Rattle.syntax.proofs.Parts.{first_of, empty_so}
use Rattle.syntax.proofs.Spelled.{section_found}
use Rattle.syntax.proofs.source.Source.section.Goals as goal

pub returns-in_err-bracket : goal.returns-in_err-bracket
returns-in_err-bracket c =
    let p = err_from_is_err_and c.from_residual.result c.from_residual.ensures.1 in
    let text = c.args.self.text.now in
    rw (p.1, p.2) (sym (formed_fault text (section_word c.args.wanted) (λ at ts. empty text ts) (tree_of c.args.node.now) c.in_err-bracket.field-0.0 (c.in_err-bracket.ensures (section_word c.args.wanted) (section_found c.args.wanted))))

pub returns-in_err-part : goal.returns-in_err-part
returns-in_err-part c =
    let p = err_from_is_err_and c.from_residual-in_err-part.result c.from_residual-in_err-part.ensures.1 in
    let text = c.args.self.text.now in
    let b = c.in_ok-bracket.bracket in
    rw (p.1, p.2) (sym (
    formed text (section_word c.args.wanted) (λ at ts. empty text ts) (tree_of c.args.node.now) b (c.in_ok-bracket.ensures (section_word c.args.wanted) (section_found c.args.wanted))
    ∙ ap (empty text) (first_of b.parts.now c.first-item.result c.in-len1-up.len_at_least c.first-item.is) ∙ ap Err (barred_fault text (tree_of c.first-item.result) c.in_err-part.field-0.0 c.in_err-part.ensures)
    ))

pub returns-in-len1-up : goal.returns-in-len1-up
returns-in-len1-up c =
    let text = c.args.self.text.now in
    let b = c.in_ok-bracket.bracket in
    sym (
    formed text (section_word c.args.wanted) (λ at ts. empty text ts) (tree_of c.args.node.now) b (c.in_ok-bracket.ensures (section_word c.args.wanted) (section_found c.args.wanted))
    ∙ ap (empty text) (first_of b.parts.now c.first-item.result c.in-len1-up.len_at_least c.first-item.is) ∙ ap Err (barred_shown text (tree_of c.first-item.result) c.in_ok-part.part c.in_ok-part.ensures ∙ ap NotCarried (sym c.place.ensures))
    )

pub returns : goal.returns
returns c =
    let text = c.args.self.text.now in
    let b = c.in_ok-bracket.bracket in
    sym (
    formed text (section_word c.args.wanted) (λ at ts. empty text ts) (tree_of c.args.node.now) b (c.in_ok-bracket.ensures (section_word c.args.wanted) (section_found c.args.wanted))
    ∙ empty_so text b.parts.now (omega arith)
    )
