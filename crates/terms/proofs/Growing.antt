-- Tables that grow.
use Rattle.std.proofs.Common.{◌≡◌, ℕ, zero, suc, ◌<◌, ◌≤◌, List, [], ◌∷◌, length, take, vec_items, sym, refl, ap, ◌∙◌, arith}
use Rattle.std.proofs.lemmas.List.{length-take}
use Rattle.terms.specs.declared.term.TermRow.{TermRow}
use Rattle.terms.specs.Rows.{Begins, term_tree}
use Rattle.terms.specs.declared.table.TermTable.{TermTable}
use Rattle.terms.specs.Shapes.{Shape}
use Rattle.terms.specs.Interned.{Numbers}
use Rattle.terms.specs.declared.declarations.Declarations.{Declarations}
use Rattle.terms.specs.Terms.{size, Grows}
use Rattle.terms.specs.Reads.{SameNames}

pub grows_on : (t u v : TermTable) → Grows t u → Grows u v → Grows t v
grows_on t u v a b = record {
  longer = let x = a.longer in let y = b.longer in omega arith;
  kept = λ j h. let x = a.longer in b.kept j (omega arith) ∙ a.kept j h;
}

-- a row was numbered
module _ (t u : TermTable) (s : Shape) (k : ℕ) (i : Numbers (vec_items t.rows) (vec_items u.rows) s k) where
  pub grows_numbered : Grows t u
  grows_numbered = record {
    longer = let a = t.rows.ok.0 in let b = u.rows.ok.0 in let c = i.longer in omega arith;
    kept = λ j h. i.kept j (let a = t.rows.ok.0 in omega arith);
  }

  pub number_within : k < size u
  number_within = let a = u.rows.ok.0 in let b = i.within in omega arith

-- rows were refused
pub grows_refused : (t u : TermTable) → vec_items u.rows ≡ vec_items t.rows → Grows t u
grows_refused t u e = record {
  longer = let a = t.rows.ok.0 in let b = u.rows.ok.0 in let c = ap length e in omega arith;
  kept = λ j h. ap (λ (rs : List TermRow). term_tree rs j) e;
}

-- nothing but the terms changed
pub same_on : (a b c : Declarations) → SameNames a b → SameNames b c → SameNames a c
same_on a b c s r = record {
  names = r.names ∙ s.names;
  functions = r.functions ∙ s.functions;
  parameters = r.parameters ∙ s.parameters;
  starts = r.starts ∙ s.starts;
  rights = r.rights ∙ s.rights;
}

-- rows that begin with others, that begin with others
take_fewer : {X : Type 0} (n m : ℕ) (xs : List X) → n ≤ m → take n (take m xs) ≡ take n xs
take_fewer zero m xs h = refl
take_fewer (suc n) zero xs h = absurd (omega arith)
take_fewer (suc n) (suc m) [] h = refl
take_fewer (suc n) (suc m) (x ∷ xs) h = ap (λ ys. x ∷ ys) (take_fewer n m xs (omega arith))

pub begins_on : (xs ys zs : List TermRow) → Begins xs ys → Begins ys zs → Begins xs zs
begins_on xs ys zs a b =
    let x = ap length a in
    let y = length-take (length xs) ys in
    let h : length xs ≤ length ys = omega arith in
    sym (take_fewer (length xs) (length ys) zs h) ∙ ap (take (length xs)) b ∙ a
