use Rattle.std.proofs.Common.{◌≡◌, ℕ, List, [], map, length, get_or, Ok, refl, ◌∙◌, arith}
use Rattle.std.proofs.lemmas.Result.{err_from_is_err_and}
use Rattle.text.specs.declared.tree.Tree.{Tree as TreeValue}
use Rattle.text.specs.Nodes.{tree_of}
use Rattle.text.specs.Trees.{Tree}
use Rattle.syntax.specs.declared.source.Bracket.{Bracket}
use Rattle.syntax.specs.declared.spec.Name.{Name}
use Rattle.syntax.specs.declared.spec.Term.{Term}
use Rattle.syntax.specs.declared.symbol.Symbol.TheVariants as symbols
use Rattle.syntax.specs.Symbols.{found}
use Rattle.syntax.specs.Seeing.{Formed}
use Rattle.syntax.specs.Shape.{and_then, five_parts, declare, block, section, specification, shape}
use Rattle.syntax.specs.Views.{declared_in, line_in}
use Rattle.syntax.proofs.Numbers.{at_last, later}
use Rattle.syntax.proofs.Forms.{formed, formed_fault}
use Rattle.syntax.proofs.Parts.{not_five, five_so}
use Rattle.syntax.proofs.source.Source.spec.Goals as goal

so : (text : List ℕ) (t : Tree) (f : Bracket) → Formed text symbols.Spec t (Ok f) → (d b s a c : TreeValue) → length f.parts.now ≡ 5 → d ≡ get_or f.parts.now 0 d → b ≡ get_or f.parts.now 1 b → s ≡ get_or f.parts.now 2 s → a ≡ get_or f.parts.now 3 a → c ≡ get_or f.parts.now 4 c
    → shape text t ≡ and_then (declare text (tree_of d)) (λ ds. and_then (block text (tree_of b)) (λ ls. and_then (section text "sessions" (tree_of s)) (λ _. and_then (section text "assume" (tree_of a)) (λ _. and_then (section text "claim" (tree_of c)) (λ _. Ok (record { declarations = ds; lines = ls }))))))
unfolding found specification
so text t f h d b s a c l p q r u v = formed text "spec" (λ at ts. five_parts at ts (specification text)) t f (h "spec" refl) ∙ five_so f.at (specification text) f.parts.now d b s a c l p q r u v

pub returns-in_err-at-clause-shapes : goal.returns-in_err-at-clause-shapes
unfolding found
returns-in_err-at-clause-shapes c =
    let p = err_from_is_err_and c.from_residual.result c.from_residual.ensures.1 in
    rw (p.1, p.2) (λ _. formed_fault c.args.self.text.now "spec" (λ at ts. five_parts at ts (specification c.args.self.text.now)) (tree_of c.args.root.now) c.in_err-at.field-0.0 (c.in_err-at.ensures "spec" refl))

pub returns-in_default-clause-shapes : goal.returns-in_default-clause-shapes
unfolding found
returns-in_default-clause-shapes c = λ _. formed c.args.self.text.now "spec" (λ at ts. five_parts at ts (specification c.args.self.text.now)) (tree_of c.args.root.now) c.in_ok-at.field-0 (c.in_ok-at.ensures "spec" refl) ∙ not_five c.in_ok-at.field-0.at (specification c.args.self.text.now) c.in_ok-at.field-0.parts.now (λ e. grind arith)

pub returns-in_err-spec-clause-shapes : goal.returns-in_err-spec-clause-shapes
returns-in_err-spec-clause-shapes c =
    let p = err_from_is_err_and c.from_residual-in_err-spec.result c.from_residual-in_err-spec.ensures.1 in
    rw (p.1, p.2) (λ n. so c.args.self.text.now (tree_of c.args.root.now) c.in_ok-at.field-0 c.in_ok-at.ensures c.declare-item.result c.block-item.result c.sessions-item.result c.assume-item.result c.claim-item.result (omega arith) c.declare-item.is c.block-item.is c.sessions-item.is c.assume-item.is c.claim-item.is ∙ rw (c.in_err-spec.ensures.adds n) refl)

pub returns-in_err-spec-2-clause-shapes : goal.returns-in_err-spec-2-clause-shapes
returns-in_err-spec-2-clause-shapes c =
    let p = err_from_is_err_and c.from_residual-in_err-spec-2.result c.from_residual-in_err-spec-2.ensures.1 in
    rw (p.1, p.2) (λ n. so c.args.self.text.now (tree_of c.args.root.now) c.in_ok-at.field-0 c.in_ok-at.ensures c.declare-item.result c.block-item.result c.sessions-item.result c.assume-item.result c.claim-item.result (omega arith) c.declare-item.is c.block-item.is c.sessions-item.is c.assume-item.is c.claim-item.is ∙ rw (c.in_ok-spec.ensures.adds.1 [] [], c.in_err-spec-2.ensures.adds n) refl)

pub returns-in_err-section-clause-shapes : goal.returns-in_err-section-clause-shapes
returns-in_err-section-clause-shapes c =
    let p = err_from_is_err_and c.from_residual-in_err-section.result c.from_residual-in_err-section.ensures.1 in
    rw (p.1, p.2) (λ n. so c.args.self.text.now (tree_of c.args.root.now) c.in_ok-at.field-0 c.in_ok-at.ensures c.declare-item.result c.block-item.result c.sessions-item.result c.assume-item.result c.claim-item.result (omega arith) c.declare-item.is c.block-item.is c.sessions-item.is c.assume-item.is c.claim-item.is ∙ rw (c.in_ok-spec.ensures.adds.1 [] [], c.in_ok-spec-2.ensures.adds.1 [] [], ← c.in_err-section.ensures) refl)

pub returns-in_err-section-2-clause-shapes : goal.returns-in_err-section-2-clause-shapes
returns-in_err-section-2-clause-shapes c =
    let p = err_from_is_err_and c.from_residual-in_err-section-2.result c.from_residual-in_err-section-2.ensures.1 in
    rw (p.1, p.2) (λ n. so c.args.self.text.now (tree_of c.args.root.now) c.in_ok-at.field-0 c.in_ok-at.ensures c.declare-item.result c.block-item.result c.sessions-item.result c.assume-item.result c.claim-item.result (omega arith) c.declare-item.is c.block-item.is c.sessions-item.is c.assume-item.is c.claim-item.is ∙ rw (c.in_ok-spec.ensures.adds.1 [] [], c.in_ok-spec-2.ensures.adds.1 [] [], ← c.in_ok-section.ensures, ← c.in_err-section-2.ensures) refl)

pub returns-in_err-section-3-clause-shapes : goal.returns-in_err-section-3-clause-shapes
returns-in_err-section-3-clause-shapes c =
    let p = err_from_is_err_and c.from_residual-in_err-section-3.result c.from_residual-in_err-section-3.ensures.1 in
    rw (p.1, p.2) (λ n. so c.args.self.text.now (tree_of c.args.root.now) c.in_ok-at.field-0 c.in_ok-at.ensures c.declare-item.result c.block-item.result c.sessions-item.result c.assume-item.result c.claim-item.result (omega arith) c.declare-item.is c.block-item.is c.sessions-item.is c.assume-item.is c.claim-item.is ∙ rw (c.in_ok-spec.ensures.adds.1 [] [], c.in_ok-spec-2.ensures.adds.1 [] [], ← c.in_ok-section.ensures, ← c.in_ok-section-2.ensures, ← c.in_err-section-3.ensures) refl)

pub returns-clause-shapes : goal.returns-clause-shapes
returns-clause-shapes c =
    let text = c.args.self.text.now in
    let s = c.block.new.spec in
    let k = c.in_ok-spec-2.ensures.adds.0 in
    let ds = λ (ns : List Name) (ts : List Term). declare text (tree_of c.declare-item.result) ≡ Ok (map (declared_in ns ts) c.in_ok-spec.field-0.items) in
    let ls = λ (ns : List Name) (ts : List Term). block text (tree_of c.block-item.result) ≡ Ok (map (line_in ns ts) c.in_ok-spec-2.field-0.items) in
    so text (tree_of c.args.root.now) c.in_ok-at.field-0 c.in_ok-at.ensures c.declare-item.result c.block-item.result c.sessions-item.result c.assume-item.result c.claim-item.result (omega arith) c.declare-item.is c.block-item.is c.sessions-item.is c.assume-item.is c.claim-item.is
    ∙ rw (at_last ds s (later ds _ s k c.in_ok-spec.ensures.adds.1), at_last ls s c.in_ok-spec-2.ensures.adds.1, k.declarations, ← c.in_ok-section.ensures, ← c.in_ok-section-2.ensures, ← c.in_ok-section-3.ensures) refl

pub returns-clause-numbers : goal.returns-clause-numbers
returns-clause-numbers c =
    let k = c.in_ok-spec-2.ensures.adds.0 in
    (_, (_, (rw k.declarations (rw (c.new-2.ensures.len, c.new-4.ensures.len) at c.in_ok-spec.ensures.numbers), c.in_ok-spec-2.ensures.numbers)))
