use Rattle.std.proofs.Common.{Ok, sym, refl, ap, ◌∙◌, arith}
use Rattle.std.proofs.lemmas.Result.{err_from_is_err_and}
use Rattle.text.specs.Nodes.{tree_of, trees_of}
use Rattle.syntax.specs.declared.symbol.Symbol.TheVariants as symbols
use Rattle.syntax.specs.Seeing.{Stands}
use Rattle.syntax.specs.Shape.{term, terms}
use Rattle.syntax.specs.Views.{term_of, terms_of}
use Rattle.syntax.proofs.Chains.{term_stands, term_other, term_refused}
use Rattle.syntax.proofs.Rest.{rest_more, rest_refused, rest_none, by_term}
use Rattle.syntax.proofs.Forms.{gives_path}
use Rattle.syntax.proofs.Parts.{at_most_so, at_most_not}
use Rattle.syntax.proofs.Terming.{size_bracket, size_at, size_rest, name_term, number_term, apply_headed, not_three, crypt_so, view-Tuple, view-Apply, view-Crypt}
use Rattle.syntax.proofs.source.Source.+term.Goals as goal

pub application-returns-in_err-name : goal.application-returns-in_err-name
application-returns-in_err-name t c =
    let p = err_from_is_err_and c.from_residual.result c.from_residual.ensures.1 in
    rw (p.1, p.2) (λ _. apply_headed c.args.self.text.now c.args.at (trees_of c.args.parts.now) ∙ rw (← c.in_err-name.ensures) refl)

pub application-terms-requires : goal.application-terms-requires
application-terms-requires t c = (omega (arith, size_rest c.args.self.text.now c.args.at (trees_of c.args.parts.now) c.in_ok-name.field-0 c.in_ok-name.ensures), tt)

pub application-returns-in_err-arguments : goal.application-returns-in_err-arguments
application-returns-in_err-arguments t c =
    let p = err_from_is_err_and c.from_residual-in_err-arguments.result c.from_residual-in_err-arguments.ensures.1 in
    rw (p.1, p.2) (λ n. apply_headed c.args.self.text.now c.args.at (trees_of c.args.parts.now) ∙ rw (← c.in_ok-name.ensures, c.in_err-arguments.ensures n) refl)

pub application-returns : goal.application-returns
application-returns t c = apply_headed c.args.self.text.now c.args.at (trees_of c.args.parts.now) ∙ rw (← c.in_ok-name.ensures, c.in_ok-arguments.ensures) (ap Ok (sym (view-Apply c.args.at c.in_ok-name.field-0.name c.in_ok-arguments.arguments)))

pub ciphertext-returns-in_default : goal.ciphertext-returns-in_default
ciphertext-returns-in_default t c = λ _. not_three c.args.self.text.now c.args.at c.args.parts.now (λ e. grind arith)

pub ciphertext-term-requires : goal.ciphertext-term-requires
ciphertext-term-requires t c = (omega (arith, size_at c.args.parts.now 0 c.text-item.result (omega arith) c.text-item.is), tt)

pub ciphertext-returns-in_err-term : goal.ciphertext-returns-in_err-term
ciphertext-returns-in_err-term t c =
    let p = err_from_is_err_and c.from_residual.result c.from_residual.ensures.1 in
    let three = crypt_so c.args.self.text.now c.args.at c.args.parts.now c.text-item.result c.key-item.result c.mark-item.result (omega arith) c.text-item.is c.key-item.is c.mark-item.is in
    rw (p.1, p.2) (λ n. three ∙ rw (c.in_err-term.ensures n) refl)

pub ciphertext-term-requires-2 : goal.ciphertext-term-requires-2
ciphertext-term-requires-2 t c = (omega (arith, size_at c.args.parts.now 1 c.key-item.result (omega arith) c.key-item.is), tt)

pub ciphertext-returns-in_err-term-2 : goal.ciphertext-returns-in_err-term-2
ciphertext-returns-in_err-term-2 t c =
    let p = err_from_is_err_and c.from_residual-in_err-term-2.result c.from_residual-in_err-term-2.ensures.1 in
    let three = crypt_so c.args.self.text.now c.args.at c.args.parts.now c.text-item.result c.key-item.result c.mark-item.result (omega arith) c.text-item.is c.key-item.is c.mark-item.is in
    rw (p.1, p.2) (λ n. three ∙ rw (c.in_ok-term.ensures, c.in_err-term-2.ensures n) refl)

pub ciphertext-returns-in_err-vanilla : goal.ciphertext-returns-in_err-vanilla
ciphertext-returns-in_err-vanilla t c =
    let p = err_from_is_err_and c.from_residual-in_err-vanilla.result c.from_residual-in_err-vanilla.ensures.1 in
    let three = crypt_so c.args.self.text.now c.args.at c.args.parts.now c.text-item.result c.key-item.result c.mark-item.result (omega arith) c.text-item.is c.key-item.is c.mark-item.is in
    rw (p.1, p.2) (λ n. three ∙ rw (c.in_ok-term.ensures, c.in_ok-term-2.ensures, ← c.in_err-vanilla.ensures) refl)

pub ciphertext-returns : goal.ciphertext-returns
ciphertext-returns t c =
    let three = crypt_so c.args.self.text.now c.args.at c.args.parts.now c.text-item.result c.key-item.result c.mark-item.result (omega arith) c.text-item.is c.key-item.is c.mark-item.is in
    three ∙ rw (c.in_ok-term.ensures, c.in_ok-term-2.ensures, ← c.in_ok-vanilla.ensures, view-Crypt c.args.at c.in_ok-text.text c.in_ok-key.key, c.in_ok-text.ensures, c.in_ok-key.ensures) refl

pub term-returns-in_err-name : goal.term-returns-in_err-name
term-returns-in_err-name t c =
    let p = err_from_is_err_and c.from_residual.result c.from_residual.ensures.1 in
    rw (p.1, p.2) (λ _. term_refused c.args.self.text.now (tree_of c.args.node.now) c.in_err-name.field-0.0 c.in_err-name.ensures)

pub term-returns-in_err-short-in-Name : goal.term-returns-in_err-short-in-Name
term-returns-in_err-short-in-Name t c =
    let p = err_from_is_err_and c.from_residual-in_err-short-in-Name.result c.from_residual-in_err-short-in-Name.ensures.1 in
    let h = rw c.in-Name.is at c.in_ok-name.ensures in
    rw (p.1, p.2) (λ _. name_term c.args.self.text.now (tree_of c.args.node.now) c.in-Name.name h ∙ rw (← c.in_err-short-in-Name.ensures) refl)

pub term-tuple-requires : goal.term-tuple-requires
term-tuple-requires t c =
    let h : Stands c.args.self.text.now (tree_of c.args.node.now) c.in-Bracket.field-0 = rw c.in-Bracket.is at c.in_ok-name.ensures in
    (omega (arith, size_bracket c.args.self.text.now (tree_of c.args.node.now) c.in-Bracket.field-0 h), tt)

pub term-ciphertext-requires : goal.term-ciphertext-requires
term-ciphertext-requires t c =
    let h : Stands c.args.self.text.now (tree_of c.args.node.now) c.in-Bracket.field-0 = rw c.in-Bracket.is at c.in_ok-name.ensures in
    (omega (arith, size_bracket c.args.self.text.now (tree_of c.args.node.now) c.in-Bracket.field-0 h), tt)

pub term-application-requires : goal.term-application-requires
term-application-requires t c =
    let h : Stands c.args.self.text.now (tree_of c.args.node.now) c.in-Bracket.field-0 = rw c.in-Bracket.is at c.in_ok-name.ensures in
    (omega (arith, size_bracket c.args.self.text.now (tree_of c.args.node.now) c.in-Bracket.field-0 h), tt)

pub term-returns-in_ok-short-in-Name : goal.term-returns-in_ok-short-in-Name
term-returns-in_ok-short-in-Name t c =
    let h = rw c.in-Name.is at c.in_ok-name.ensures in
    name_term c.args.self.text.now (tree_of c.args.node.now) c.in-Name.name h ∙ rw (← c.in_ok-short-in-Name.ensures) refl

pub term-returns-in-Number : goal.term-returns-in-Number
term-returns-in-Number t c = λ _. number_term c.args.self.text.now (tree_of c.args.node.now) c.in-Number.at c.in-Number.value (rw c.in-Number.is at c.in_ok-name.ensures)

pub term-returns-in-Tuple : goal.term-returns-in-Tuple
term-returns-in-Tuple t c =
    let h : Stands c.args.self.text.now (tree_of c.args.node.now) c.in-Bracket.field-0 = rw c.in-Bracket.is at c.in_ok-name.ensures in
    gives_path term_of c.tuple.result (term_stands c.args.self.text.now (tree_of c.args.node.now) c.in-Bracket.field-0 h symbols.Tuple c.in-Tuple.is) c.tuple.ensures

pub term-returns-in-Crypt : goal.term-returns-in-Crypt
term-returns-in-Crypt t c =
    let h : Stands c.args.self.text.now (tree_of c.args.node.now) c.in-Bracket.field-0 = rw c.in-Bracket.is at c.in_ok-name.ensures in
    gives_path term_of c.ciphertext.result (term_stands c.args.self.text.now (tree_of c.args.node.now) c.in-Bracket.field-0 h symbols.Crypt c.in-Crypt.is) c.ciphertext.ensures

pub term-returns-in-Apply : goal.term-returns-in-Apply
term-returns-in-Apply t c =
    let h : Stands c.args.self.text.now (tree_of c.args.node.now) c.in-Bracket.field-0 = rw c.in-Bracket.is at c.in_ok-name.ensures in
    gives_path term_of c.application.result (term_stands c.args.self.text.now (tree_of c.args.node.now) c.in-Bracket.field-0 h symbols.Apply c.in-Apply.is) c.application.ensures

pub term-returns-in_default : goal.term-returns-in_default
term-returns-in_default t c =
    let h : Stands c.args.self.text.now (tree_of c.args.node.now) c.in-Bracket.field-0 = rw c.in-Bracket.is at c.in_ok-name.ensures in
    λ _. term_other c.args.self.text.now (tree_of c.args.node.now) c.in-Bracket.field-0 h c.in_default.not-Tuple c.in_default.not-Crypt c.in_default.not-Apply

pub terms-term-requires : goal.terms-term-requires
terms-term-requires t c = (omega (arith, size_at c.args.parts.now c.loop-part.part-index c.part-item.result c.loop-part-test.true c.part-item.is), tt)

pub terms-returns-in_err-term : goal.terms-returns-in_err-term
terms-returns-in_err-term t c =
    let p = err_from_is_err_and c.from_residual-in_err-term.result c.from_residual-in_err-term.ensures.1 in
    rw (p.1, p.2) (λ n. rest_refused (term c.args.self.text.now) (terms c.args.self.text.now) term_of terms_of c.args.parts.now (by_term c.args.self.text.now) c.loop-part.part-index c.loop-part.terms.items c.loop-part.invariant c.part-item.result c.loop-part-test.true c.in_err-term.field-0.0 (ap (λ i. term c.args.self.text.now (tree_of i)) (sym c.part-item.is) ∙ c.in_err-term.ensures n))

pub terms-loop-part-preserved : goal.terms-loop-part-preserved
terms-loop-part-preserved t c =
    rw c.in_ok-push.ensures.items (rest_more (term c.args.self.text.now) (terms c.args.self.text.now) term_of terms_of c.args.parts.now (by_term c.args.self.text.now) c.loop-part.part-index c.loop-part.terms.items c.loop-part.invariant c.part-item.result c.loop-part-test.true c.in_ok-term.field-0 (ap (λ i. term c.args.self.text.now (tree_of i)) (sym c.part-item.is) ∙ c.in_ok-term.ensures))

pub terms-returns : goal.terms-returns
terms-returns t c = rest_none (term c.args.self.text.now) (terms c.args.self.text.now) term_of terms_of c.args.parts.now (by_term c.args.self.text.now) c.loop-part.part-index c.loop-part.terms.items c.loop-part.invariant c.loop-part-test.false

pub tuple-returns-then-parts-gt-MOST_PARTS : goal.tuple-returns-then-parts-gt-MOST_PARTS
tuple-returns-then-parts-gt-MOST_PARTS t c = λ _. at_most_not c.args.at 8 c.args.parts.now _ (omega arith)

pub tuple-returns-in_err-parts : goal.tuple-returns-in_err-parts
tuple-returns-in_err-parts t c =
    let p = err_from_is_err_and c.from_residual.result c.from_residual.ensures.1 in
    rw (p.1, p.2) (λ n. at_most_so c.args.at 8 c.args.parts.now _ (omega arith) ∙ rw (c.in_err-parts.ensures n) refl)

pub tuple-returns : goal.tuple-returns
tuple-returns t c = at_most_so c.args.at 8 c.args.parts.now _ (omega arith) ∙ rw c.in_ok-parts.ensures (ap Ok (sym (view-Tuple c.args.at c.in_ok-parts.parts)))
