-- Names over several lines: those listed are those from which somebody starts and those of earlier messages, so a line makes what the model says.
use Rattle.std.proofs.Common.{◌≡◌, ◌==◌, ℕ, Bool, true, false, not, ◌&&◌, ◌||◌, length, drop, List, Ok, sym, refl, ap, ◌∙◌}
use Rattle.std.specs.List.{list_any}
use Rattle.std.proofs.Math.Bool.{or_assoc, or_comm, or-false}
use Rattle.model.specs.Trees.{leaf}
use Rattle.model.specs.Specifications.{stands, stands_in}
use Rattle.syntax.specs.Specs as syntax
use Rattle.syntax.specs.Specs.{Term}
use Rattle.terms.specs.declared.limits.Limits.{Limits}
use Rattle.terms.specs.Scope.{Scope}
use Rattle.terms.specs.Numbering.{tree, has}
use Rattle.terms.specs.Declaring.{with_term, declared}
use Rattle.terms.specs.Starting.{is_makeable, made_among}
use Rattle.terms.proofs.DeclaredTerms.{start_terms, declared_listed}
use Rattle.terms.proofs.Making.{names_made}
use Rattle.terms.proofs.Scopes.{taken}

-- the names listed are those given and those that stood before
abbrev pub Stood : (ℕ → Bool) → (ℕ → Bool) → Scope → Type 0
Stood given before S = (n : ℕ) → has (leaf n) S.terms ≡ (given n || before n)

-- before all lines
pub stood_first : (text : List ℕ) (limits : Limits) (spec : syntax.Specification) (U : Scope) → declared text limits spec ≡ Ok U → Stood (λ n. stands_in n (start_terms U)) (λ n. false) U
stood_first text limits spec U e n = (declared_listed text limits spec U e).names n ∙ sym (or-false (stands_in n (start_terms U)))

-- what is not given, did not stand before, and may be made
arranged : (m s g b : Bool) → (m && (s && not (g || b))) ≡ (s && (not b && not (not m || g)))
arranged true true g b = turned g b
  where
    turned : (g b : Bool) → not (g || b) ≡ (not b && not g)
    turned true true = refl
    turned true false = refl
    turned false true = refl
    turned false false = refl
arranged true false g b = refl
arranged false true g true = refl
arranged false true g false = refl
arranged false false g b = refl

module _ (text : List ℕ) (most : ℕ) (t : Term) (S S' : Scope) (e : with_term text most t S ≡ Ok S') (given before : ℕ → Bool) (h : Stood given before S) where
  -- after a line its message stood too
  pub stood_more : Stood given (λ n. stands n (tree text S.names t) || before n) S'
  stood_more n =
      (taken text most t S S' e).more.names n ∙ ap (λ b. b || stands n (tree text S.names t)) (h n) ∙ or_assoc (given n) (before n) (stands n (tree text S.names t))
      ∙ ap (λ b. given n || b) (or_comm (before n) (stands n (tree text S.names t)))

  -- a line makes the names that stand in its message and in no earlier one, but for those that may not be made and those that somebody starts from
  pub makes_new : (n : ℕ) → list_any (λ m. m == n) (made_among S'.names (drop (length S.terms) S'.terms)) ≡ (stands n (tree text S.names t) && (not (before n) && not (not (is_makeable S.names n) || given n)))
  makes_new n =
      names_made text most t S S' e n ∙ ap (λ b. is_makeable S.names n && (stands n (tree text S.names t) && not b)) (h n)
      ∙ arranged (is_makeable S.names n) (stands n (tree text S.names t)) (given n) (before n)
