-- Terms that were typed keep the counts of parts that their functions were declared with.
use Rattle.std.proofs.Common.{◌≡◌, ◌==◌, ℕ, ◌<◌, Bool, true, false, cond, List, [], ◌∷◌, length, get_or, Some, None, Ok, Err, Option, Result, refl, sym, ◌∙◌, subst, arith}
use Rattle.std.specs.Prelude.{option_map}
use Rattle.std.specs.List.{find}
use Rattle.std.proofs.lemmas.List.{get_or-map}
use Rattle.std.proofs.lemmas.Bool.{eqb-true}
use Rattle.model.specs.Lists.{Every}
use Rattle.model.specs.Trees.{Head, tupled, crypted, applied, Tree, leaf, node, Trees, none as no_trees, more as more_trees}
use Rattle.model.specs.Roles as model
use Rattle.model.specs.CountLaw.{Parts, Declared, DeclaredAll}
use Rattle.text.specs.declared.part.Part.{Part}
use Rattle.syntax.specs.Specs.{Term, name, tuple, crypt, apply, Terms, none, more, count}
use Rattle.terms.specs.declared.declarations.Declared.{Declared as DeclaredName}
use Rattle.terms.specs.declared.declarations.Meaning.{Meaning}
use Rattle.terms.specs.declared.declarations.Meaning.TheVariants.{Value, Function}
use Rattle.terms.specs.declared.declarations.ValueType.{ValueType}
use Rattle.terms.specs.declared.declarations.ValueType.TheVariants.{Number}
use Rattle.terms.specs.declared.fault.TermFault.{TermFault}
use Rattle.terms.specs.declared.fault.TermFault.TheVariants.{WrongType}
use Rattle.terms.specs.Scope.{Scope, Signature, no_function, declares, meaning_of}
use Rattle.terms.specs.Typing.{and_then, fits, applied as applied_function, applied_fits, typed, typed_all}
use Rattle.terms.specs.Numbering.{function_number, tree, trees}
use Rattle.terms.specs.Counts.{count_or}
use Rattle.terms.proofs.Terming.{then_ok, first_ok}

-- a function's name stands for one of so many functions
abbrev pub IsBelow : ℕ → Meaning → Type 0
IsBelow n (Value kind shared) = Unit {0}
IsBelow n (Function f) = f < n

abbrev pub AllDefined : Scope → Type 0
AllDefined S = Every (λ (x : DeclaredName). IsBelow (length S.functions) x.meaning) S.names

-- one of a list that is found
found_one : {X : Type 0} (Q : X → Type 0) (p : X → Bool) (xs : List X) (x : X) → Every Q xs → find p xs ≡ Some x → Q x
found_one Q p [] x h e = absurd (cc)
found_one Q p (y ∷ xs) x h e = go (p y) e (found_one Q p xs x h.1)
  where
    go : (b : Bool) → cond b (Some y) (find p xs) ≡ Some x → (find p xs ≡ Some x → Q x) → Q x
    go true e f = let z : y ≡ x = cc in subst Q z h.0
    go false e f = f e

count_trees : (text : List ℕ) (names : List DeclaredName) (ts : Terms) → model.count (trees text names ts) ≡ count ts
count_trees text names none = refl
count_trees text names (more t ts) = omega (arith, count_trees text names ts)

-- the arguments fit the function's parameters, and are as many
counted_fits : {A : Type 0} (n k : ℕ) (q : A) (r : Result A TermFault) (f : TermFault) → cond (n == k) r (Err f) ≡ Ok q → (n ≡ k) × (r ≡ Ok q)
counted_fits n k q r f e = go (n == k) refl e
  where
    go : (b : Bool) → (n == k) ≡ b → cond b r (Err f) ≡ Ok q → (n ≡ k) × (r ≡ Ok q)
    go true a e = (eqb-true n k a, e)
    go false a e = absurd (cc)

module _ (text : List ℕ) (S : Scope) (h : AllDefined S) (d : ℕ) where
  below : (m : Option DeclaredName) (g : ℕ) (p : Part) → find (declares text p) S.names ≡ m → option_map (λ (x : DeclaredName). x.meaning) m ≡ Some (Function g) → g < length S.functions
  below None g p e q = absurd (cc)
  below (Some x) g p e q =
      let z : x.meaning ≡ Function g = cc in
      subst (IsBelow (length S.functions)) z (found_one (λ (x : DeclaredName). IsBelow (length S.functions) x.meaning) (declares text p) S.names x h e)

  count_at : (g n : ℕ) → g < length S.functions → n ≡ length (get_or S.functions g no_function).parameters → n ≡ count_or d S.functions g
  count_at g n l e = e ∙ sym (get_or-map (λ (f : Signature). length f.parameters) S.functions g no_function d l)

  mutual
    pub typed_counted : (t : Term) (w : ValueType) → typed text S t w ≡ Ok tt → Declared (count_or d S.functions) (tree text S.names t)
    typed_counted (name at p) w e = tt
    typed_counted (tuple at ts) w e = (tt, all_counted ts [] (then_ok (fits at Number w) (typed_all text S ts []) e))
    typed_counted (crypt at t k) w e =
        let x = then_ok (fits at Number w) (and_then (typed text S t Number) (typed text S k Number)) e in (
          refl,
          (
            typed_counted t Number (first_ok (typed text S t Number) (typed text S k Number) x),
            (typed_counted k Number (then_ok (typed text S t Number) (typed text S k Number) x), tt),
          ),
        )
    typed_counted (apply at f ts) w e = go (meaning_of text S.names f.part) refl e (all_counted ts)
      where
        go : (m : Option Meaning) → meaning_of text S.names f.part ≡ m → applied_fits at (count ts) w (applied_function S.functions f m) (typed_all text S ts) ≡ Ok tt
            → ((ws : List ValueType) → typed_all text S ts ws ≡ Ok tt → DeclaredAll (count_or d S.functions) (trees text S.names ts))
            → Declared (count_or d S.functions) (node (applied (function_number m)) (trees text S.names ts))
        go None q e a = absurd (cc)
        go (Some (Value kind shared)) q e a = absurd (cc)
        go (Some (Function g)) q e a =
            let s = get_or S.functions g no_function in
            let x = counted_fits (count ts) (length s.parameters) tt (and_then (fits at s.result w) (typed_all text S ts s.parameters)) (WrongType at) e in (
              count_at g (model.count (trees text S.names ts)) (below (find (declares text f.part) S.names) g f.part refl q) (count_trees text S.names ts ∙ x.0),
              a s.parameters (then_ok (fits at s.result w) (typed_all text S ts s.parameters) x.1),
            )

    pub all_counted : (ts : Terms) (ws : List ValueType) → typed_all text S ts ws ≡ Ok tt → DeclaredAll (count_or d S.functions) (trees text S.names ts)
    all_counted none ws e = tt
    all_counted (more t ts) [] e =
        (typed_counted t Number (first_ok (typed text S t Number) (typed_all text S ts []) e), all_counted ts [] (then_ok (typed text S t Number) (typed_all text S ts []) e))
    all_counted (more t ts) (w ∷ ws) e =
        (typed_counted t w (first_ok (typed text S t w) (typed_all text S ts ws) e), all_counted ts ws (then_ok (typed text S t w) (typed_all text S ts ws) e))

-- counts that are those of a list of functions, whatever stands behind it, keep while functions are added
module _ (A : ℕ → ℕ → ℕ) (B : ℕ → ℕ) (later : (f : ℕ) → (d : ℕ) × (B f ≡ A d f)) where
  parts_later : (h : Head) (n : ℕ) → ((d : ℕ) → Parts (A d) h n) → Parts B h n
  parts_later tupled n p = tt
  parts_later crypted n p = p 0
  parts_later (applied f) n p = p (later f).0 ∙ sym (later f).1

  mutual
    pub counted_later : (t : Tree) → ((d : ℕ) → Declared (A d) t) → Declared B t
    counted_later (leaf n) k = tt
    counted_later (node h ts) k = (parts_later h (model.count ts) (λ d. (k d).0), all_later ts (λ d. (k d).1))

    all_later : (ts : Trees) → ((d : ℕ) → DeclaredAll (A d) ts) → DeclaredAll B ts
    all_later no_trees k = tt
    all_later (more_trees t ts) k = (counted_later t (λ d. (k d).0), all_later ts (λ d. (k d).1))
