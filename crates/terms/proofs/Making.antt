-- Which names a line makes: those that stand in its message, are in no earlier term, and may be made.
use Rattle.std.proofs.Common.{◌≡◌, ◌==◌, ℕ, Bool, true, false, cond, not, ◌&&◌, ◌||◌, T, List, [], ◌∷◌, length, drop, Ok, sym, refl, ap, ◌∙◌, ⊎_elim}
use Rattle.std.specs.List.{list_any}
use Rattle.std.proofs.Math.Bool.{and-true}
use Rattle.std.proofs.Math.Seq.{drop-append_seam}
use Rattle.std.proofs.lemmas.Bool.{or_from, and_right, eq-eqb, ne_eqb, cases_eq}
use Rattle.model.specs.Lists.{Every}
use Rattle.model.specs.Trees.{Tree, leaf, node, eq_tree, Within}
use Rattle.model.specs.Specifications.{stands}
use Rattle.model.proofs.Trees.{eq_tree_is}
use Rattle.syntax.specs.Specs.{Term}
use Rattle.terms.specs.declared.declarations.Declared.{Declared}
use Rattle.terms.specs.Scope.{Scope}
use Rattle.terms.specs.Numbering.{tree, has}
use Rattle.terms.specs.Declaring.{with_term}
use Rattle.terms.specs.Starting.{is_makeable, made_among}
use Rattle.terms.proofs.Leaves.{More, has_append}
use Rattle.terms.proofs.Scopes.{taken}

-- what is in one list is in none whose terms are new to it
none_old : (u : Tree) (us new : List Tree) → Every (λ v. has v us ≡ false) new → has u us ≡ true → has u new ≡ false
none_old u us [] f h = refl
none_old u us (v ∷ new) f h = or_from (eq_tree u v) (has u new) (go (eq_tree u v) (eq_tree_is u v)) (none_old u us new f.1 h)
  where
    go : (b : Bool) → (T b → u ≡ v) → b ≡ false
    go false g = refl
    go true g = sym h ∙ ap (λ z. has z us) (g tt) ∙ f.0

-- the names among some terms that may be made, as a test
pub made_has : (names : List Declared) (us : List Tree) (n : ℕ) → list_any (λ m. m == n) (made_among names us) ≡ (is_makeable names n && has (leaf n) us)
made_has names [] n = sym (and_right (is_makeable names n) false refl)
made_has names (node h ts ∷ us) n = made_has names us n
made_has names (leaf m ∷ us) n =
    first (is_makeable names m) (made_among names us) ∙ ap (λ b. (is_makeable names m && (m == n)) || b) (made_has names us n) ∙ ⊎_elim same other (cases_eq m n)
  where
    first : (a : Bool) (ms : List ℕ) → list_any (λ k. k == n) (cond a (m ∷ ms) ms) ≡ ((a && (m == n)) || list_any (λ k. k == n) ms)
    first true ms = refl
    first false ms = refl

    with_test : (a b : Bool) → (m == n) ≡ b → (n == m) ≡ b → ((a && b) || (is_makeable names n && has (leaf n) us)) ≡ (is_makeable names n && (b || has (leaf n) us)) → ((a && (m == n)) || (is_makeable names n && has (leaf n) us)) ≡ (is_makeable names n && ((n == m) || has (leaf n) us))
    with_test a b p q e = ap (λ x. (a && x) || (is_makeable names n && has (leaf n) us)) p ∙ e ∙ sym (ap (λ x. is_makeable names n && (x || has (leaf n) us)) q)

    twice : (a b : Bool) → ((a && true) || (a && b)) ≡ (a && (true || b))
    twice true b = refl
    twice false b = refl

    same : m ≡ n → ((is_makeable names m && (m == n)) || (is_makeable names n && has (leaf n) us)) ≡ (is_makeable names n && ((n == m) || has (leaf n) us))
    same e =
        with_test (is_makeable names m) true (eq-eqb m n e) (eq-eqb n m (sym e))
        (ap (λ z. (is_makeable names z && true) || (is_makeable names n && has (leaf n) us)) e ∙ twice (is_makeable names n) (has (leaf n) us))

    other : (m ≡ n → ⊥) → ((is_makeable names m && (m == n)) || (is_makeable names n && has (leaf n) us)) ≡ (is_makeable names n && ((n == m) || has (leaf n) us))
    other f =
        with_test (is_makeable names m) false (ne_eqb m n f) (ne_eqb n m (λ e. f (sym e)))
        (ap (λ b. b || (is_makeable names n && has (leaf n) us)) (and_right (is_makeable names m) false refl))

module _ (text : List ℕ) (most : ℕ) (t : Term) (S S' : Scope) (e : with_term text most t S ≡ Ok S') where
  abbrev the_tree : Tree
  the_tree = tree text S.names t

  -- a name is among the new terms exactly if it stands in the term and was not there
  pub new_names : (n : ℕ) → has (leaf n) (drop (length S.terms) S'.terms) ≡ (stands n the_tree && not (has (leaf n) S.terms))
  new_names n = ap (has (leaf n)) (ap (drop (length S.terms)) m.is ∙ drop-append_seam S.terms m.new) ∙ go (has (leaf n) S.terms) refl
    where
      m : More (λ u. Within u the_tree) (λ n. stands n the_tree) S.terms S'.terms
      m = (taken text most t S S' e).more

      go : (b : Bool) → has (leaf n) S.terms ≡ b → has (leaf n) m.new ≡ (stands n the_tree && not b)
      go true h = none_old (leaf n) S.terms m.new m.fresh h ∙ sym (and_right (stands n the_tree) false refl)
      go false h =
          sym (ap (λ b. b || has (leaf n) m.new) h) ∙ sym (has_append (leaf n) S.terms m.new) ∙ sym (ap (has (leaf n)) m.is) ∙ m.names n ∙ ap (λ b. b || stands n the_tree) h ∙ sym (and-true (stands n the_tree))

  -- the names that are made with the term
  pub names_made : (n : ℕ) → list_any (λ m. m == n) (made_among S'.names (drop (length S.terms) S'.terms)) ≡ (is_makeable S.names n && (stands n the_tree && not (has (leaf n) S.terms)))
  names_made n =
      made_has S'.names (drop (length S.terms) S'.terms) n ∙ ap (λ ns. is_makeable ns n && has (leaf n) (drop (length S.terms) S'.terms)) (taken text most t S S' e).names
      ∙ ap (λ b. is_makeable S.names n && b) (new_names n)
