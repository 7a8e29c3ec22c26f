-- The names in a term whose types are good are declared.
use Rattle.std.proofs.Common.{◌≡◌, ◌==◌, ℕ, ◌<◌, true, false, ◌||◌, List, [], ◌∷◌, length, is_some, Some, None, Ok, Option, refl, ⊎_elim, arith}
use Rattle.std.specs.Option.{unwrap_or}
use Rattle.std.proofs.lemmas.Bool.{eqb-true, or_cases}
use Rattle.std.proofs.lemmas.List.Quantifiers.{position-Some}
use Rattle.model.specs.Specifications.{stands, stands_in_one}
use Rattle.text.specs.declared.part.Part.{Part}
use Rattle.syntax.specs.Specs.{Term, name, tuple, crypt, apply, Terms, none, more, count}
use Rattle.terms.specs.declared.declarations.Meaning.TheVariants.{Function}
use Rattle.terms.specs.declared.declarations.ValueType.{ValueType}
use Rattle.terms.specs.declared.declarations.ValueType.TheVariants.{Number}
use Rattle.terms.specs.Scope.{Scope, declares, number_of, meaning_of}
use Rattle.terms.specs.Typing.{and_then, fits, typed, typed_all}
use Rattle.terms.specs.Numbering.{tree, trees}
use Rattle.terms.proofs.Terming.{then_ok, first_ok, fits_declared, good_apply}

module _ (text : List ℕ) (S : Scope) where
  number_below : (p : Part) (n : ℕ) → is_some (number_of text S.names p) ≡ true → (n == unwrap_or (number_of text S.names p) 0) ≡ true → n < length S.names
  number_below p n d e = go (number_of text S.names p) refl d e
    where
      go : (o : Option ℕ) → number_of text S.names p ≡ o → is_some o ≡ true → (n == unwrap_or o 0) ≡ true → n < length S.names
      go None q d e = absurd (cc)
      go (Some k) q d e =
          let x = (position-Some (declares text p) S.names k (record { name = p; meaning = Function 0 }) q).0 in
          let y = eqb-true n k e in
          omega arith

  mutual
    pub names_below : (t : Term) (w : ValueType) → typed text S t w ≡ Ok tt → (n : ℕ) → stands n (tree text S.names t) ≡ true → n < length S.names
    names_below (name at p) w e n h = number_below p n (fits_declared text S at p w e) h
    names_below (tuple at ts) w e n h = all_below ts [] (then_ok (fits at Number w) (typed_all text S ts []) e) n h
    names_below (crypt at t k) w e n h =
        let b = then_ok (fits at Number w) (and_then (typed text S t Number) (typed text S k Number)) e in
        ⊎_elim (names_below t Number (first_ok (typed text S t Number) (typed text S k Number) b) n)
        (λ h. ⊎_elim (names_below k Number (then_ok (typed text S t Number) (typed text S k Number) b) n) (λ z. absurd (cc)) (or_cases (stands n (tree text S.names k)) false h))
        (or_cases (stands n (tree text S.names t)) (stands n (tree text S.names k) || false) h)
    names_below (apply at f ts) w e n h =
        let g = good_apply text S at (count ts) w f (typed_all text S ts) (meaning_of text S.names f.part) e in
        all_below ts g.2.0 g.2.1 n h

    all_below : (ts : Terms) (ws : List ValueType) → typed_all text S ts ws ≡ Ok tt → (n : ℕ) → stands_in_one n (trees text S.names ts) ≡ true → n < length S.names
    all_below none ws e n h = absurd (cc)
    all_below (more t ts) [] e n h =
        ⊎_elim (names_below t Number (first_ok (typed text S t Number) (typed_all text S ts []) e) n) (all_below ts [] (then_ok (typed text S t Number) (typed_all text S ts []) e) n)
        (or_cases (stands n (tree text S.names t)) (stands_in_one n (trees text S.names ts)) h)
    all_below (more t ts) (w ∷ ws) e n h =
        ⊎_elim (names_below t w (first_ok (typed text S t w) (typed_all text S ts ws) e) n) (all_below ts ws (then_ok (typed text S t w) (typed_all text S ts ws) e) n)
        (or_cases (stands n (tree text S.names t)) (stands_in_one n (trees text S.names ts)) h)
