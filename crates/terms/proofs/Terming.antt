-- A term whose types are good can be numbered, and what the declarations stand for then.
use Rattle.std.proofs.Common.{◌≡◌, ◌==◌, get_or, length, ℕ, suc, ◌<◌, ◌≤◌, Bool, true, false, cond, List, [], ◌∷◌, map, take, is_some, Some, None, Ok, Err, vec_items, vec_len, Option, Result, sym, refl, ap, ◌∙◌, ap₂, arith}
use Rattle.std.specs.Prelude.{option_map}
use Rattle.std.specs.List.{find}
use Rattle.model.specs.Trees.{Tree}
use Rattle.text.specs.declared.part.Part.{Part}
use Rattle.syntax.specs.declared.spec.Name.{Name}
use Rattle.syntax.specs.Specs.{Term, name, tuple, crypt, apply, Terms, none, more, count}
use Rattle.base.specs.declared.memory.NoMemory.{NoMemory as Lack}
use Rattle.terms.specs.declared.declarations.Declarations.{Declarations}
use Rattle.terms.specs.declared.declarations.Declared.{Declared}
use Rattle.terms.specs.declared.declarations.Meaning.{Meaning}
use Rattle.terms.specs.declared.declarations.Meaning.TheVariants as meaning
use Rattle.terms.specs.declared.declarations.Start.{Start}
use Rattle.terms.specs.declared.declarations.ValueType.{ValueType}
use Rattle.terms.specs.declared.declarations.ValueType.TheVariants.{Number}
use Rattle.terms.specs.declared.fault.TermFault.{TermFault}
use Rattle.terms.specs.declared.fault.TermFault.TheVariants.{Limit, Undeclared, WrongType, NoMemory}
use Rattle.terms.specs.declared.table.TermTable.{TermTable}
use Rattle.terms.specs.Terms.{size, Grows}
use Rattle.terms.specs.Scope.{Scope, Signature, no_function, declares, number_of, meaning_of}
use Rattle.terms.specs.Typing.{and_then, stands_for, fits, name_fits, applied, applied_fits, typed, typed_all}
use Rattle.terms.specs.Numbering.{tree, read}
use Rattle.terms.specs.Declaring.{with_terms}
use Rattle.terms.specs.Consistency.{Started}
use Rattle.terms.specs.Meanings.{Lists, given_in, signature_in, trees_of, scope_of}
use Rattle.terms.specs.Rows.{Begins}
use Rattle.terms.specs.Reads.{SameNames, Sayable, SayableAll, Reads}
use Rattle.terms.specs.Reads.{Refused as TermRefused}
use Rattle.terms.specs.Termed.{Refused, Termed}
use Rattle.terms.proofs.Growing.{grows_refused}
use Rattle.terms.proofs.ListedTrees.{lists_of, lists_are, same_trees, place_of}
use Rattle.terms.proofs.Naming.{found_has_place}
use Rattle.terms.proofs.Pushing.{same_scope}

pub then_ok : (a b : Result (Unit {0}) TermFault) → and_then a b ≡ Ok tt → b ≡ Ok tt
then_ok (Ok x) b e = e
then_ok (Err f) b e = absurd (cc)

pub first_ok : (a b : Result (Unit {0}) TermFault) → and_then a b ≡ Ok tt → a ≡ Ok tt
first_ok (Ok tt) b e = refl
first_ok (Err f) b e = absurd (cc)

module _ (text : List ℕ) (S : Scope) where
  -- a name that fits some type is declared
  pub fits_declared : (at : ℕ) (p : Part) (w : ValueType) → name_fits at (meaning_of text S.names p) w ≡ Ok tt → is_some (number_of text S.names p) ≡ true
  fits_declared at p w e = go (find (declares text p) S.names) refl e
    where
      go : (o : Option Declared) → find (declares text p) S.names ≡ o → name_fits at (option_map (λ (d : Declared). d.meaning) o) w ≡ Ok tt → is_some (number_of text S.names p) ≡ true
      go None q e = absurd (cc)
      go (Some d) q e = found_has_place (declares text p) S.names d q

  -- what is applied is a function, and its arguments are good
  abbrev pub GoodApply : Name → (List ValueType → Result (Unit {0}) TermFault) → Option Meaning → Type 0
  GoodApply n f o = (g : ℕ) × (o ≡ Some (meaning.Function g)) × ((ws : List ValueType) × (f ws ≡ Ok tt))

  pub good_apply : (at k : ℕ) (w : ValueType) (n : Name) (f : List ValueType → Result (Unit {0}) TermFault) (o : Option Meaning) → applied_fits at k w (applied S.functions n o) f ≡ Ok tt → GoodApply n f o
  good_apply at k w n f None e = absurd (cc)
  good_apply at k w n f (Some (meaning.Value kind shared)) e = absurd (cc)
  good_apply at k w n f (Some (meaning.Function g)) e = (g, refl, go (applied S.functions n (Some (meaning.Function g))) e)
    where
      go : (r : Result Signature TermFault) → applied_fits at k w r f ≡ Ok tt → (ws : List ValueType) × (f ws ≡ Ok tt)
      go (Err y) e = absurd (cc)
      go (Ok s) e = (s.parameters, by _ e)
        where
          by : (b : Bool) → cond b (and_then (fits at s.result w) (f s.parameters)) (Err (WrongType at)) ≡ Ok tt → f s.parameters ≡ Ok tt
          by true e = then_ok (fits at s.result w) (f s.parameters) e
          by false e = absurd (cc)

  mutual
    pub sayable : (t : Term) (w : ValueType) → typed text S t w ≡ Ok tt → Sayable text S.names t
    sayable (name at p) w e = fits_declared at p w e
    sayable (tuple at ts) w e = sayable_all ts [] (then_ok (fits at Number w) (typed_all text S ts []) e)
    sayable (crypt at t k) w e =
        let b = then_ok (fits at Number w) (and_then (typed text S t Number) (typed text S k Number)) e in
        (sayable t Number (first_ok (typed text S t Number) (typed text S k Number) b), sayable k Number (then_ok (typed text S t Number) (typed text S k Number) b))
    sayable (apply at f ts) w e =
        let g = good_apply at (count ts) w f (typed_all text S ts) (meaning_of text S.names f.part) e in
        ((g.0, g.1), sayable_all ts g.2.0 g.2.1)

    sayable_all : (ts : Terms) (ws : List ValueType) → typed_all text S ts ws ≡ Ok tt → SayableAll text S.names ts
    sayable_all none ws e = tt
    sayable_all (more t ts) [] e =
        (sayable t Number (first_ok (typed text S t Number) (typed_all text S ts []) e), sayable_all ts [] (then_ok (typed text S t Number) (typed_all text S ts []) e))
    sayable_all (more t ts) (w ∷ ws) e =
        (sayable t w (first_ok (typed text S t w) (typed_all text S ts ws) e), sayable_all ts ws (then_ok (typed text S t w) (typed_all text S ts ws) e))

-- what a party starts from has the same trees when terms were added
given_same : (t t' : TermTable) (ss : List Start) → Grows t t' → Started ss (size t) → map (given_in t') ss ≡ map (given_in t) ss
given_same t t' [] g h = refl
given_same t t' (s ∷ ss) g h =
    ap₂ (λ x xs. record { knower = s.knower; term = x } ∷ xs) (g.kept s.term (h 0 s (omega arith))) (given_same t t' ss g (λ k x l. h (suc k) x (omega arith)))

module _ (d d' : Declarations) (s : SameNames d d') where
  -- only terms were added
  scope_grown : Grows d.terms d'.terms → (us : List Tree) → Lists d'.terms us
      → scope_of d' ≡ record { names = (scope_of d).names; functions = (scope_of d).functions; starts = (scope_of d).starts; rights = (scope_of d).rights; terms = us }
  scope_grown g us l =
      same_scope (scope_of d') (record { names = (scope_of d).names; functions = (scope_of d).functions; starts = (scope_of d).starts; rights = (scope_of d).rights; terms = us })
      (ap vec_items s.names) (ap₂ (λ ws fs. map (signature_in (vec_items ws)) (vec_items fs)) s.parameters s.functions)
      (ap (λ ss. map (given_in d'.terms) (vec_items ss)) s.starts ∙ given_same d.terms d'.terms (vec_items d.starts) g d.started)
      (ap vec_items s.rights) (sym (lists_are d'.terms us l))

-- the terms that were added are gone
scope_back : (d d' : Declarations) → SameNames d d' → (t : TermTable) → vec_items t.rows ≡ vec_items d.terms.rows
    → record { names = (scope_of d').names; functions = (scope_of d').functions; starts = map (given_in t) (vec_items d'.starts); rights = (scope_of d').rights; terms = trees_of t } ≡ scope_of d
scope_back d d' s t e =
    same_scope (record { names = (scope_of d').names; functions = (scope_of d').functions; starts = map (given_in t) (vec_items d'.starts); rights = (scope_of d').rights; terms = trees_of t }) (scope_of d)
    (ap vec_items s.names) (ap₂ (λ ws fs. map (signature_in (vec_items ws)) (vec_items fs)) s.parameters s.functions)
    (ap (λ ss. map (given_in t) (vec_items ss)) s.starts ∙ given_same d.terms t (vec_items d.starts) (grows_refused d.terms t e) d.started)
    (ap vec_items s.rights) (same_trees d.terms t e)

-- no memory is wanted for the types
module _ (lack : Lack) where
  no_memory : (a b : Result (Unit {0}) TermFault) → (a ≡ Err (NoMemory lack) → ⊥) → (b ≡ Err (NoMemory lack) → ⊥) → and_then a b ≡ Err (NoMemory lack) → ⊥
  no_memory (Ok x) b f g e = g e
  no_memory (Err y) b f g e = f e

  fits_no_memory : (at : ℕ) (found wanted : ValueType) → fits at found wanted ≡ Err (NoMemory lack) → ⊥
  fits_no_memory at found wanted e = go (stands_for found wanted) e
    where
      go : (b : Bool) → cond {A = Result (Unit {0}) TermFault} b (Ok tt) (Err (WrongType at)) ≡ Err (NoMemory lack) → ⊥
      go true e = absurd (cc)
      go false e = absurd (cc)

  module _ (text : List ℕ) (S : Scope) where
    name_no_memory : (at : ℕ) (o : Option Meaning) (w : ValueType) → name_fits at o w ≡ Err (NoMemory lack) → ⊥
    name_no_memory at None w e = absurd (cc)
    name_no_memory at (Some (meaning.Value kind shared)) w e = fits_no_memory at kind w e
    name_no_memory at (Some (meaning.Function f)) w e = absurd (cc)

    apply_no_memory : (at k : ℕ) (w : ValueType) (n : Name) (f : List ValueType → Result (Unit {0}) TermFault) (o : Option Meaning) → ((ws : List ValueType) → f ws ≡ Err (NoMemory lack) → ⊥) → applied_fits at k w (applied S.functions n o) f ≡ Err (NoMemory lack) → ⊥
    apply_no_memory at k w n f None h e = absurd (cc)
    apply_no_memory at k w n f (Some (meaning.Value kind shared)) h e = absurd (cc)
    apply_no_memory at k w n f (Some (meaning.Function g)) h e = go (get_or S.functions g no_function) (k == length (get_or S.functions g no_function).parameters) e
      where
        go : (s : Signature) (b : Bool) → cond b (and_then (fits at s.result w) (f s.parameters)) (Err (WrongType at)) ≡ Err (NoMemory lack) → ⊥
        go s true e = no_memory (fits at s.result w) (f s.parameters) (fits_no_memory at s.result w) (h s.parameters) e
        go s false e = absurd (cc)

    mutual
      typed_no_memory : (t : Term) (w : ValueType) → typed text S t w ≡ Err (NoMemory lack) → ⊥
      typed_no_memory (name at p) w e = name_no_memory at (meaning_of text S.names p) w e
      typed_no_memory (tuple at ts) w e = no_memory (fits at Number w) (typed_all text S ts []) (fits_no_memory at Number w) (all_no_memory ts []) e
      typed_no_memory (crypt at t k) w e =
          no_memory (fits at Number w) (and_then (typed text S t Number) (typed text S k Number)) (fits_no_memory at Number w)
          (no_memory (typed text S t Number) (typed text S k Number) (typed_no_memory t Number) (typed_no_memory k Number)) e
      typed_no_memory (apply at f ts) w e = apply_no_memory at (count ts) w f (typed_all text S ts) (meaning_of text S.names f.part) (λ ws. all_no_memory ts ws) e

      all_no_memory : (ts : Terms) (ws : List ValueType) → typed_all text S ts ws ≡ Err (NoMemory lack) → ⊥
      all_no_memory none ws e = absurd (cc)
      all_no_memory (more t ts) [] e = no_memory (typed text S t Number) (typed_all text S ts []) (typed_no_memory t Number) (all_no_memory ts []) e
      all_no_memory (more t ts) (w ∷ ws) e = no_memory (typed text S t w) (typed_all text S ts ws) (typed_no_memory t w) (all_no_memory ts ws) e

-- a term whose types are not good
pub not_checked : (text : List ℕ) (most : ℕ) (t : Term) (S : Scope) (f : TermFault) → Err f ≡ typed text S t Number → Termed text most t S S (Err f)
not_checked text most t S (Limit p) c = (ap (λ z. and_then z (with_terms text S (read text S.names most t S.terms))) (sym c), refl)
not_checked text most t S (Undeclared p) c = (ap (λ z. and_then z (with_terms text S (read text S.names most t S.terms))) (sym c), refl)
not_checked text most t S (WrongType p) c = (ap (λ z. and_then z (with_terms text S (read text S.names most t S.terms))) (sym c), refl)
not_checked text most t S (NoMemory w) c = absurd (typed_no_memory w text S t Number (sym c))

refused_terms : (text : List ℕ) (most : ℕ) (t : Term) (S : Scope) (f : TermFault) → Ok tt ≡ typed text S t Number → TermRefused (read text S.names most t S.terms) f → Refused text most t S f
refused_terms text most t S (Limit p) c e = ap (λ z. and_then z (with_terms text S (read text S.names most t S.terms))) (sym c) ∙ ap (with_terms text S) e
refused_terms text most t S (Undeclared p) c e = ap (λ z. and_then z (with_terms text S (read text S.names most t S.terms))) (sym c) ∙ ap (with_terms text S) e
refused_terms text most t S (WrongType p) c e = ap (λ z. and_then z (with_terms text S (read text S.names most t S.terms))) (sym c) ∙ ap (with_terms text S) e
refused_terms text most t S (NoMemory w) c e = sym c

-- a term that was checked, and then numbered
module _ (text : List ℕ) (d d' : Declarations) (most : ℕ) (t : Term) (small : most ≤ 65536) (c : Ok tt ≡ typed text (scope_of d) t Number) where
  pub numbered : (k : ℕ) → k < size d'.terms → Grows d.terms d'.terms → SameNames d d' → Reads text (vec_items d.names) d.terms d'.terms t most (Ok k) → Termed text most t (scope_of d) (scope_of d') (Ok k)
  numbered k w g s r =
      let x = r (trees_of d.terms) small (lists_of d.terms) (sayable text (scope_of d) t Number (sym c)) in
      let q = scope_grown d d' s g x.1.terms x.1.lists in (
        ap (λ z. and_then z (with_terms text (scope_of d) (read text (vec_items d.names) most t (trees_of d.terms)))) (sym c) ∙ ap (with_terms text (scope_of d)) x.1.is ∙ ap Ok (sym q),
        place_of d'.terms (trees_of d'.terms) (lists_of d'.terms) k (tree text (vec_items d.names) t) w x.0,
      )

  pub not_numbered : (f : TermFault) → SameNames d d' → Begins (vec_items d.terms.rows) (vec_items d'.terms.rows) → Reads text (vec_items d.names) d.terms d'.terms t most (Err f)
      → (n : ℕ) → n ≡ vec_len d.terms.rows → (t' : TermTable) → vec_items t'.rows ≡ take n (vec_items d'.terms.rows)
      → Termed text most t (scope_of d) (record { names = (scope_of d').names; functions = (scope_of d').functions; starts = map (given_in t') (vec_items d'.starts); rights = (scope_of d').rights; terms = trees_of t' }) (Err f)
  not_numbered f s b r n q t' e = (
    refused_terms text most t (scope_of d) f c (r (trees_of d.terms) small (lists_of d.terms) (sayable text (scope_of d) t Number (sym c))),
    scope_back d d' s t' (e ∙ ap (λ k. take k (vec_items d'.terms.rows)) (q ∙ d.terms.rows.ok.0) ∙ b),
  )
