-- What reading a term does to a scope.
use Rattle.std.proofs.Common.{◌≡◌, ℕ, true, List, Ok, Err, Result, refl, ap, ◌∙◌, sym}
use Rattle.model.specs.Trees.{Tree, Within}
use Rattle.model.specs.Specifications.{stands}
use Rattle.syntax.specs.Specs.{Term}
use Rattle.terms.specs.declared.declarations.ValueType.TheVariants.{Number}
use Rattle.terms.specs.declared.fault.TermFault.{TermFault}
use Rattle.terms.specs.Scope.{Scope}
use Rattle.terms.specs.Typing.{and_then, typed}
use Rattle.terms.specs.Numbering.{tree, has, read}
use Rattle.terms.specs.Declaring.{with_terms, with_term}
use Rattle.terms.proofs.Leaves.{More, read_more, read_there}

-- only terms are added; the term has good types
pub record Taken (text : List ℕ) (most : ℕ) (t : Term) (S S' : Scope) : Type 0 where
  pub names : S'.names ≡ S.names
  pub functions : S'.functions ≡ S.functions
  pub starts : S'.starts ≡ S.starts
  pub rights : S'.rights ≡ S.rights
  pub typed_well : typed text S t Number ≡ Ok tt
  pub read_well : read text S.names most t S.terms ≡ Ok S'.terms
  pub more : More (λ u. Within u (tree text S.names t)) (λ n. stands n (tree text S.names t)) S.terms S'.terms
  pub there : has (tree text S.names t) S'.terms ≡ true

module _ (text : List ℕ) (most : ℕ) (t : Term) (S S' : Scope) where
  pub taken : with_term text most t S ≡ Ok S' → Taken text most t S S'
  taken e = go (typed text S t Number) (read text S.names most t S.terms) refl refl e
    where
      go : (a : Result (Unit {0}) TermFault) (q : Result (List Tree) TermFault) → typed text S t Number ≡ a → read text S.names most t S.terms ≡ q → and_then a (with_terms text S q) ≡ Ok S' → Taken text most t S S'
      go (Err f) q p w e = absurd (cc)
      go (Ok tt) (Err f) p w e = absurd (cc)
      go (Ok tt) (Ok us) p w e =
          let x : S' ≡ record { names = S.names; functions = S.functions; starts = S.starts; rights = S.rights; terms = us } = cc in
          let r : read text S.names most t S.terms ≡ Ok S'.terms = w ∙ ap Ok (sym (ap (λ (z : Scope). z.terms) x)) in
          record {
            names = ap (λ (z : Scope). z.names) x;
            functions = ap (λ (z : Scope). z.functions) x;
            starts = ap (λ (z : Scope). z.starts) x;
            rights = ap (λ (z : Scope). z.rights) x;
            typed_well = p;
            read_well = r;
            more = read_more text S.names most t S.terms S'.terms r;
            there = read_there text S.names most t S.terms S'.terms r;
          }
