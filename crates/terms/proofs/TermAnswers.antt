-- What is known of the table after a term got its number.
use Rattle.std.proofs.Common.{◌≡◌, ℕ, ◌<◌, List, ◌++◌, length, get_or, Ok, sym, ap, ◌∙◌, arith}
use Rattle.std.proofs.lemmas.List.{length-append, get_or_append_left}
use Rattle.model.specs.Trees.{Tree, leaf}
use Rattle.syntax.specs.Specs.{Term}
use Rattle.terms.specs.declared.declarations.Declarations.{Declarations}
use Rattle.terms.specs.declared.table.TermTable.{TermTable}
use Rattle.terms.specs.Meanings.{trees_of, scope_of}
use Rattle.terms.specs.Numbering.{tree}
use Rattle.terms.specs.Terms.{tree_in, size, Grows}
use Rattle.terms.specs.Termed.{Termed}
use Rattle.terms.proofs.ListedTrees.{lists_of, listed_at}
use Rattle.terms.proofs.Scopes.{taken}

-- a list of trees with more at its end
longer_table : (t t' : TermTable) (new : List Tree) → trees_of t' ≡ trees_of t ++ new → Grows t t'
longer_table t t' new e =
    let l = lists_of t in
    let l' = lists_of t' in
    let a = l.long in
    let b = l'.long in
    let c = ap length e in
    let n = length-append (trees_of t) new in
    record {
      longer = omega arith;
      kept = λ j h. sym (l'.each j (omega arith)) ∙ ap (λ us. get_or us j (leaf 0)) e ∙ get_or_append_left (trees_of t) new (leaf 0) j (omega arith) ∙ l.each j h;
    }

module _ (text : List ℕ) (most : ℕ) (t : Term) (d d' : Declarations) (k : ℕ) (a : Termed text most t (scope_of d) (scope_of d') (Ok k)) where
  pub number_there : k < size d'.terms
  number_there = (listed_at d'.terms k _ a.1).0

  pub number_tree : tree_in d'.terms k ≡ tree text (scope_of d).names t
  number_tree = (listed_at d'.terms k _ a.1).1

  pub table_grows : Grows d.terms d'.terms
  table_grows = let m = (taken text most t (scope_of d) (scope_of d') a.0).more in longer_table d.terms d'.terms m.new m.is
