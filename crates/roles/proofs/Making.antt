-- A line makes the names that the model says.
use Rattle.std.proofs.Common.{◌≡◌, ℕ, zero, suc, Bool, true, false, cond, not, ◌&&◌, ◌||◌, T, List, [], ◌∷◌, map, length, drop, Ok, refl, ap, ◌∙◌, inl, inr}
use mathlib.Core.Path.{fun_ext}
use Rattle.model.specs.Specifications.{Specification, stands, stands_in, message, stood_before, started_from, makes}
use Rattle.model.proofs.Tests.{or_cases, or_left, or_right}
use Rattle.syntax.specs.Specs.{Term, Lined}
use Rattle.terms.specs.Declaring.{with_term}
use Rattle.terms.specs.Numbering.{tree}
use Rattle.terms.specs.Scope.{Scope, Given}
use Rattle.terms.specs.Starting.{concerns, given_to, is_makeable, made_among}
use Rattle.terms.proofs.Standing.{Stood, makes_new}
use Rattle.roles.specs.Parties.{makes_of}
use Rattle.roles.specs.Specified.{starting_terms, is_barred, specified}

-- what a party starts from, somebody starts from
given_stands : (n m : ℕ) (gs : List Given) → T (stands_in n (given_to m gs)) → T (stands_in n (map (λ (g : Given). g.term) gs))
given_stands n m [] h = h
given_stands n m (g ∷ gs) h = go (concerns g.knower m) h (given_stands n m gs)
  where
    rest : Bool
    rest = stands_in n (map (λ (g : Given). g.term) gs)

    go : (b : Bool) → T (stands_in n (cond b (g.term ∷ given_to m gs) (given_to m gs))) → (T (stands_in n (given_to m gs)) → T rest) → T (stands n g.term || rest)
    go true h f = elim (or_cases (stands n g.term) (stands_in n (given_to m gs)) h) [ inl x ↦ or_left (stands n g.term) rest x | inr y ↦ or_right (stands n g.term) rest (f y) ]
    go false h f = or_right (stands n g.term) rest (f h)

-- a name from which somebody starts is barred already
barred_already : (s m g : Bool) → (T s → T g) → not (not m || g) ≡ (not s && not (not m || g))
barred_already true true true f = refl
barred_already true true false f = absurd (f tt)
barred_already true false g f = refl
barred_already false m g f = refl

module _ (text : List ℕ) (U : Scope) (ls : List Lined) where
  abbrev S : Specification
  S = specified text U ls

  started_stands : (n q : ℕ) → T (started_from S q n) → T (stands_in n (starting_terms text U))
  started_stands n zero h = absurd h
  started_stands n (suc q) h =
      elim (or_cases (stands_in n (S.knows q)) (started_from S q n) h) [
        | inl x ↦ given_stands n _ U.starts x
        | inr y ↦ started_stands n q y
      ]

  pub made_here : (most k : ℕ) (t : Term) (G H : Scope) → with_term text most t G ≡ Ok H → G.names ≡ U.names → tree text U.names t ≡ message S k
      → Stood (λ n. stands_in n (starting_terms text U)) (stood_before S k) G → makes_of (made_among H.names (drop (length G.terms) H.terms)) ≡ makes S k
  made_here most k t G H e names m stood =
      fun_ext (λ n.
      makes_new text most t G H e (λ n. stands_in n (starting_terms text U)) (stood_before S k) stood n
      ∙ ap (λ ds. stands n (tree text ds t) && (not (stood_before S k n) && not (not (is_makeable ds n) || stands_in n (starting_terms text U)))) names
      ∙ ap (λ u. stands n u && (not (stood_before S k n) && not (is_barred text U n))) m
      ∙ ap (λ b. stands n (message S k) && (not (stood_before S k n) && b)) (barred_already (started_from S S.roles n) (is_makeable U.names n) (stands_in n (starting_terms text U)) (started_stands n S.roles)))
