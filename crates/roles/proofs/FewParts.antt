-- No tuple and no application in the message of a line has more than eight parts.
use Rattle.std.proofs.Common.{◌≡◌, ℕ, suc, ◌≤◌, List, ◌∷◌, ◌++◌, IfOk, Ok, refl, ap, subst, arith}
use Rattle.model.specs.Lists.{Every}
use Rattle.model.proofs.Lists.{every_right}
use Rattle.text.specs.Trees.{Tree, quoted, integer, bracket, Trees, none, more}
use Rattle.syntax.specs.Shape.{Shaped, each, spells, parts_count, a_name, marked, vanilla, term, crypt_term, key_term, apply_term, terms, label, comm_of, line, lines, declare, block, section, specification, shape}
use Rattle.syntax.specs.Specs as tables
use Rattle.syntax.specs.Specs.{Term, name, tuple, crypt, apply, Terms, count, Lined, Specification}
use Rattle.terms.proofs.Shaped.{after, whatever, either, within, formed, of_five}

-- a tuple and an application have at most eight parts
abbrev mutual
  pub AtMostEight : Term → Type 0
  AtMostEight (name at p) = Unit {0}
  AtMostEight (tuple at ts) = (count ts ≤ 8) × EachAtMostEight ts
  AtMostEight (crypt at t k) = AtMostEight t × AtMostEight k
  AtMostEight (apply at f ts) = (count ts ≤ 8) × EachAtMostEight ts

  pub EachAtMostEight : Terms → Type 0
  EachAtMostEight tables.none = Unit {0}
  EachAtMostEight (tables.more t ts) = AtMostEight t × EachAtMostEight ts

abbrev Few : Lined → Type 0
Few l = AtMostEight l.message

abbrev FewSpec : Specification → Type 0
FewSpec X = Every Few X.lines

-- the terms that some trees are
pub record Several (n : ℕ) (us : Terms) : Type 0 where
  pub many : count us ≡ n
  pub each : EachAtMostEight us

module _ (text : List ℕ) where
  marked_few : (at : ℕ) (o k : Shaped Term) → IfOk o AtMostEight → IfOk k AtMostEight → (ts : Trees) → IfOk (marked text at o k ts) AtMostEight
  marked_few at o k h i none = tt
  marked_few at o k h i (more c none) = after AtMostEight AtMostEight o _ h (λ x p. after AtMostEight AtMostEight k _ i (λ y q. whatever AtMostEight (vanilla text c) _ (λ v. (p, q))))
  marked_few at o k h i (more c (more d ts)) = tt

  mutual
    unfolding term

    term_few : (t : Tree) → IfOk (term text t) AtMostEight
    term_few (quoted at p) = whatever AtMostEight (a_name text (quoted at p)) _ (λ n. tt)
    term_few (integer at n) = tt
    term_few (bracket at s ts) =
        either AtMostEight (spells text s "tuple") _ _
        (within AtMostEight 8 at ts _ (λ l. after AtMostEight (Several (parts_count ts)) (terms text ts) _ (terms_few ts) (λ us e. let m = e.many in (omega arith, e.each))))
        (either AtMostEight (spells text s "crypt") _ _ (crypt_few at ts) (either AtMostEight (spells text s "apply") _ _ (apply_few at ts) tt))

    crypt_few : (at : ℕ) (ts : Trees) → IfOk (crypt_term text at ts) AtMostEight
    crypt_few at none = tt
    crypt_few at (more a ts) = key_few at (term text a) (term_few a) ts

    key_few : (at : ℕ) (o : Shaped Term) → IfOk o AtMostEight → (ts : Trees) → IfOk (key_term text at o ts) AtMostEight
    key_few at o h none = tt
    key_few at o h (more b ts) = marked_few at o (term text b) h (term_few b) ts

    apply_few : (at : ℕ) (ts : Trees) → IfOk (apply_term text at ts) AtMostEight
    apply_few at none = tt
    apply_few at (more f ts) =
        within AtMostEight 8 at ts _
        (λ l. whatever AtMostEight (a_name text f) _ (λ n. after AtMostEight (Several (parts_count ts)) (terms text ts) _ (terms_few ts) (λ us e. let m = e.many in (omega arith, e.each))))

    terms_few : (ts : Trees) → IfOk (terms text ts) (Several (parts_count ts))
    terms_few none = record { many = refl; each = tt }
    terms_few (more t ts) =
        after (Several (suc (parts_count ts))) AtMostEight (term text t) _ (term_few t)
        (λ u p. after (Several (suc (parts_count ts))) (Several (parts_count ts)) (terms text ts) _ (terms_few ts) (λ us e. record { many = ap suc e.many; each = (p, e.each) }))

  comm_few : (at : ℕ) (ts : Trees) → IfOk (comm_of text at ts) Few
  comm_few at none = tt
  comm_few at (more a none) = tt
  comm_few at (more a (more b none)) = tt
  comm_few at (more a (more b (more c none))) = tt
  comm_few at (more l (more s (more r (more m none)))) =
      whatever Few (label text l) _ (λ x. whatever Few (a_name text s) _ (λ y. whatever Few (a_name text r) _ (λ z. after Few AtMostEight (term text m) _ (term_few m) (λ u p. p))))
  comm_few at (more a (more b (more c (more d (more e ts))))) = tt

  line_few : (t : Tree) → IfOk (line text t) Few
  line_few (quoted at p) = tt
  line_few (integer at n) = tt
  line_few (bracket at s ts) = either Few (spells text s "comm") _ _ (comm_few at ts) (either Few (spells text s "block") _ _ tt tt)

  lines_few : (ts : Trees) → IfOk (each (line text) ts) (Every Few)
  unfolding each
  lines_few none = tt
  lines_few (more t ts) =
      after (Every Few) Few (line text t) _ (line_few t) (λ l p. after (Every Few) (Every Few) (each (line text) ts) _ (lines_few ts) (λ ls q. (p, q)))

  spec_few : (d b s a c : Tree) → IfOk (specification text d b s a c) FewSpec
  unfolding specification lines
  spec_few d b s a c =
      whatever FewSpec (declare text d) _ (λ ds.
      after FewSpec (Every Few) (block text b) _ (formed (Every Few) text "block" _ b (λ at ts. within (Every Few) 64 at ts _ (λ l. lines_few ts))) (λ ls p.
      whatever FewSpec (section text "sessions" s) _ (λ x. whatever FewSpec (section text "assume" a) _ (λ y. whatever FewSpec (section text "claim" c) _ (λ z. p)))))

  pub shape_few : (t : Tree) (X : Specification) → shape text t ≡ Ok X → FewSpec X
  shape_few t X e = subst (λ o. IfOk o FewSpec) e (formed FewSpec text "spec" _ t (λ at ts. of_five FewSpec at (specification text) ts spec_few))

  pub message_few : (t : Tree) (X : Specification) → shape text t ≡ Ok X → (before rest : List Lined) (l : Lined) → X.lines ≡ before ++ (l ∷ rest) → AtMostEight l.message
  message_few t X e before rest l s = (every_right Few before (l ∷ rest) (subst (Every Few) s (shape_few t X e))).0
