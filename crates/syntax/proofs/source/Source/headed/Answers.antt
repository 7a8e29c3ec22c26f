use Rattle.std.proofs.Common.{drop, Ok, sym, ap, ◌∙◌, arith, length-drop}
use Rattle.std.proofs.lemmas.Result.{err_from_is_err_and}
use Rattle.text.specs.Nodes.{trees_of}
use Rattle.syntax.specs.Shape.{and_then}
use Rattle.syntax.proofs.Parts.{headed_so, headed_limit, rest_all}
use Rattle.syntax.proofs.source.Source.headed.Goals as goal

pub returns-then-rest-gt-MOST_PARTS : goal.returns-then-rest-gt-MOST_PARTS
returns-then-rest-gt-MOST_PARTS c =
    let ns = c.args.parts.now in
    sym (headed_limit c.args.self.text.now c.args.at ns c.head-item.result c.in-len1-up.len_at_least c.head-item.is (omega (arith, length-drop 1 ns)))

pub returns-in_err-name : goal.returns-in_err-name
returns-in_err-name c =
    let ns = c.args.parts.now in
    let p = err_from_is_err_and c.from_residual.result c.from_residual.ensures.1 in
    rw (p.1, p.2) (sym (headed_so c.args.self.text.now c.args.at ns c.head-item.result c.in-len1-up.len_at_least c.head-item.is (omega (arith, length-drop 1 ns)) ∙ ap (λ o. and_then o (λ n. Ok (n, trees_of (drop 1 ns)))) (sym c.in_err-name.ensures)))

pub returns : goal.returns
returns c =
    let ns = c.args.parts.now in
    sym (headed_so c.args.self.text.now c.args.at ns c.head-item.result c.in-len1-up.len_at_least c.head-item.is (omega (arith, length-drop 1 ns)) ∙ ap (λ o. and_then o (λ n. Ok (n, trees_of (drop 1 ns)))) (sym c.in_ok-name.ensures) ∙ ap (λ ms. Ok (c.in_ok-name.name, trees_of ms)) (sym (rest_all ns c.in-len1-up.len_at_least)))
