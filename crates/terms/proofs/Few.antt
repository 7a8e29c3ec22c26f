-- No function that a text declares takes more than eight parts.
use Rattle.std.proofs.Common.{◌≡◌, ℕ, suc, ◌≤◌, min, Bool, true, false, List, [], ◌∷◌, length, IfOk, Ok, sym, refl, ap, ◌∙◌, subst, arith}
use mathlib.Core.Path.{subst⁻¹}
use Rattle.model.specs.Lists.{Every}
use Rattle.model.proofs.Lists.{every_join}
use Rattle.text.specs.Trees.{Tree, quoted, integer, bracket, Trees, none, more}
use Rattle.syntax.specs.declared.spec.Name.{Name}
use Rattle.syntax.specs.Shape.{Shaped, each, spells, parts_count, a_name, names, term, function_of, shared_as, declaration, declarations, declare, block, section, specification, shape}
use Rattle.syntax.specs.Specs.{Declared, Specification}
use Rattle.terms.specs.declared.declarations.ValueType.{ValueType}
use Rattle.terms.specs.declared.limits.Limits.{Limits}
use Rattle.terms.specs.Scope.{Scope, Signature}
use Rattle.terms.specs.Declaring.{bind, kind_of, kinds_of, declared}
use Rattle.terms.proofs.Declaring.{OfFunction, declared_with}
use Rattle.terms.proofs.Scopes.{taken}
use Rattle.terms.proofs.Shaped.{after, whatever, either, within, formed, of_one, of_two, of_five}
use Rattle.terms.proofs.Steps.{steps}

abbrev Few : List Name → Type 0
Few ps = length ps ≤ 8

abbrev FewParts : Declared → Type 0
FewParts = OfFunction Few

-- as many answers as trees
each_long : {A : Type 0} (f : Tree → Shaped A) (ts : Trees) → IfOk (each f ts) (λ xs. length xs ≡ parts_count ts)
unfolding each
each_long f none = refl
each_long f (more t ts) =
    let N = λ (xs : List _). length xs ≡ parts_count (more t ts) in
    whatever N (f t) _ (λ x. after N (λ xs. length xs ≡ parts_count ts) (each f ts) _ (each_long f ts) (λ xs e. ap suc e))

module _ (text : List ℕ) where
  function_few : (n : Name) (secret one_way : Bool) (at : ℕ) (ts : Trees) → IfOk (function_of text n secret one_way at ts) FewParts
  unfolding names
  function_few n secret one_way at none = tt
  function_few n secret one_way at (more r ts) =
      within FewParts 8 at ts _ (λ l. whatever FewParts (a_name text r) _ (λ k. after FewParts (λ xs. length xs ≡ parts_count ts) (names text ts) _ (each_long (a_name text) ts) (λ ps e. omega (arith, e))))

  shared_few : (n : Name) (t : Tree) → IfOk (shared_as text n t) FewParts
  shared_few n (quoted at p) = whatever FewParts (a_name text (quoted at p)) _ (λ k. tt)
  shared_few n (integer at v) = tt
  shared_few n (bracket at s ts) =
      either FewParts (spells text s "function") _ _ (function_few n false false at ts)
      (either FewParts (spells text s "secret-function") _ _ (function_few n true false at ts)
      (either FewParts (spells text s "one-way-function") _ _ (function_few n false true at ts)
      (either FewParts (spells text s "secret-one-way-function") _ _ (function_few n true true at ts) tt)))

  declaration_few : (t : Tree) → IfOk (declaration text t) FewParts
  declaration_few (quoted at p) = tt
  declaration_few (integer at n) = tt
  declaration_few (bracket at s ts) =
      let D = FewParts in
      either D (spells text s "type") _ _ (of_two D at _ ts (λ n k. whatever D (a_name text n) _ (λ x. whatever D (a_name text k) _ (λ y. tt))))
      (either D (spells text s "type-shared") _ _ (of_two D at _ ts (λ n k. whatever D (a_name text n) _ (λ x. shared_few x k)))
      (either D (spells text s "knows") _ _ (of_two D at _ ts (λ n t. whatever D (a_name text n) _ (λ x. whatever D (term text t) _ (λ u. tt))))
      (either D (spells text s "everybody-knows") _ _ (of_one D at _ ts (λ t. whatever D (term text t) _ (λ u. tt))) tt)))

  all_few : (ts : Trees) → IfOk (each (declaration text) ts) (Every FewParts)
  unfolding each
  all_few none = tt
  all_few (more t ts) =
      after (Every FewParts) FewParts (declaration text t) _ (declaration_few t)
      (λ d p. after (Every FewParts) (Every FewParts) (each (declaration text) ts) _ (all_few ts) (λ ds q. (p, q)))

  abbrev FewSpec : Specification → Type 0
  FewSpec X = Every FewParts X.declarations

  spec_few : (d b s a c : Tree) → IfOk (specification text d b s a c) FewSpec
  unfolding specification declarations
  spec_few d b s a c =
      after FewSpec (Every FewParts) (declare text d) _ (formed (Every FewParts) text "declare" _ d (λ at ts. all_few ts)) (λ ds p.
      whatever FewSpec (block text b) _ (λ ls.
      whatever FewSpec (section text "sessions" s) _ (λ x. whatever FewSpec (section text "assume" a) _ (λ y. whatever FewSpec (section text "claim" c) _ (λ z. p)))))

  shape_few : (t : Tree) (X : Specification) → shape text t ≡ Ok X → FewSpec X
  shape_few t X e = subst (λ o. IfOk o FewSpec) e (formed FewSpec text "spec" _ t (λ at ts. of_five FewSpec at (specification text) ts spec_few))

  kinds_long : (ns : List Name) (ks : List ValueType) → kinds_of text ns ≡ Ok ks → length ks ≡ length ns
  kinds_long [] ks e = let p : [] ≡ ks = cc in ap length (sym p)
  kinds_long (n ∷ ns) ks e =
      let a = steps (kind_of text n) (λ k. bind (kinds_of text ns) (λ ks. Ok (k ∷ ks))) ks e in
      let b = steps (kinds_of text ns) (λ ks. Ok (a.mid ∷ ks)) ks a.second in
      let o = b.second in
      let p : a.mid ∷ b.mid ≡ ks = cc in
      ap length (sym p) ∙ ap suc (kinds_long ns b.mid b.first)

  -- so it is for all functions of a scope that a text declares
  abbrev pub FewEach : Scope → Type 0
  FewEach U = Every (λ (s : Signature). length s.parameters ≤ 8) U.functions

  pub declared_few : (limits : Limits) (t : Tree) (X : Specification) (U : Scope) → shape text t ≡ Ok X → declared text limits X ≡ Ok U → FewEach U
  declared_few limits t X U e d =
      declared_with text limits Few FewEach
      (record {
        value = λ S n kind shared q. q;
        function = λ S n ps s f e q. every_join (λ (s : Signature). length s.parameters ≤ 8) S.functions (s ∷ []) q (omega (arith, f, kinds_long ps s.parameters e), tt);
        right = λ S who f q. q;
        start = λ S V who t e q. subst⁻¹ (Every (λ (s : Signature). length s.parameters ≤ 8)) (taken text (min limits.terms 512) t S V e).functions q;
      })
      tt X U (shape_few t X e) d
