use Rattle.std.proofs.Common.{sym, Ok, ◌∙◌}
use Rattle.std.proofs.lemmas.Result.{err_from_is_err_and}
use Rattle.text.specs.Nodes.{tree_of}
use Rattle.syntax.proofs.Forms.{form_refused, form_other, form_so}
use Rattle.std.proofs.lemmas.Bool.{not-true, not-false}
use Rattle.syntax.proofs.Spelled.{same, carried_same}
use Rattle.syntax.proofs.source.Source.form.Goals as goal

pub returns-in_err-bracket : goal.returns-in_err-bracket
returns-in_err-bracket c =
    let p = err_from_is_err_and c.from_residual.result c.from_residual.ensures.1 in
    rw (p.1, p.2) (λ word is. sym (form_refused c.args.self.text.now word c.args.wanted is (λ at ts. Ok (at, ts)) (carried_same _ _ is) (tree_of c.args.node.now) c.in_err-bracket.field-0.0 c.in_err-bracket.ensures))

pub returns-then-ne : goal.returns-then-ne
returns-then-ne c = λ word is. sym (form_other c.args.self.text.now word c.args.wanted is (λ at ts. Ok (at, ts)) (tree_of c.args.node.now) c.in_ok-bracket.bracket c.in_ok-bracket.ensures (not-true (same c.in_ok-bracket.bracket.symbol c.args.wanted) (sym c.ne.ensures ∙ c.if-ne.true)))

pub returns : goal.returns
returns c = λ word is. sym (form_so c.args.self.text.now word c.args.wanted is (λ at ts. Ok (at, ts)) (tree_of c.args.node.now) c.in_ok-bracket.bracket c.in_ok-bracket.ensures (not-false (same c.in_ok-bracket.bracket.symbol c.args.wanted) (sym c.ne.ensures ∙ c.if-ne.false)))
