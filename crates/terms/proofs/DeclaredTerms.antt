-- The terms that declarations list are those that somebody starts from, and their parts: a name is listed exactly if somebody starts from a term that it stands in.
use Rattle.std.proofs.Common.{◌≡◌, ℕ, min, false, ◌||◌, List, [], ◌∷◌, ◌++◌, length, map, Ok, Option, refl, sym, ap, ◌∙◌, subst}
use Rattle.std.proofs.Math.Bool.{or_assoc, or-false}
use Rattle.std.proofs.lemmas.Bool.{or_parts, or_from, cond_both}
use Rattle.std.proofs.lemmas.List.{map-append}
use Rattle.model.specs.Lists.{Every}
use Rattle.model.specs.Trees.{Tree, Formed, leaf}
use Rattle.model.specs.Specifications.{stands, stands_in}
use Rattle.model.proofs.Lists.{every_join}
use Rattle.syntax.specs.declared.spec.Name.{Name}
use Rattle.syntax.specs.Specs as syntax
use Rattle.syntax.specs.Specs.{Term}
use Rattle.terms.specs.declared.declarations.Meaning.{Meaning}
use Rattle.terms.specs.declared.declarations.Meaning.TheVariants.{Value, Function}
use Rattle.terms.specs.declared.limits.Limits.{Limits}
use Rattle.terms.specs.Scope.{Scope, Signature, Given}
use Rattle.terms.specs.Numbering.{tree, has}
use Rattle.terms.specs.Starting.{concerns, given_to}
use Rattle.terms.specs.Declaring.{with_term, with_name, with_function, with_start, with_right, declared}
use Rattle.terms.proofs.Leaves.{tree_formed}
use Rattle.terms.proofs.Scopes.{taken}
use Rattle.terms.proofs.Declaring.{declared_kept}

pub stands_in_append : (n : ℕ) (us vs : List Tree) → stands_in n (us ++ vs) ≡ (stands_in n us || stands_in n vs)
stands_in_append n [] vs = refl
stands_in_append n (u ∷ us) vs = ap (λ b. stands n u || b) (stands_in_append n us vs) ∙ sym (or_assoc (stands n u) (stands_in n us) (stands_in n vs))

-- what somebody starts from
abbrev pub start_terms : Scope → List Tree
start_terms S = map (λ (g : Given). g.term) S.starts

pub record Listed (S : Scope) : Type 0 where
  pub names : (n : ℕ) → has (leaf n) S.terms ≡ stands_in n (start_terms S)
  pub formed : Every Formed (start_terms S)

-- names, functions and rights do not matter
listed_as : (S U : Scope) → U.terms ≡ S.terms → U.starts ≡ S.starts → Listed S → Listed U
listed_as S U e s l = record {
  names = λ n. ap (has (leaf n)) e ∙ l.names n ∙ ap (λ gs. stands_in n (map (λ (g : Given). g.term) gs)) (sym s);
  formed = subst (λ gs. Every Formed (map (λ (g : Given). g.term) gs)) (sym s) l.formed;
}

module _ (text : List ℕ) (limits : Limits) where
  start_listed : (who : Option ℕ) (t : Term) (S V : Scope) → with_term text (min limits.terms 512) t S ≡ Ok V → Listed S → Listed (with_start text limits who t V)
  start_listed who t S V e l =
      let k = taken text (min limits.terms 512) t S V e in
      let u : Tree = tree text V.names t in
      let u' : Tree = tree text S.names t in
      let same : u' ≡ u = ap (λ ns. tree text ns t) (sym k.names) in
      let split : start_terms (with_start text limits who t V) ≡ start_terms S ++ (u ∷ []) = map-append (λ (g : Given). g.term) V.starts (record { knower = who; term = u } ∷ []) ∙ ap (λ gs. map (λ (g : Given). g.term) gs ++ (u ∷ [])) k.starts in
      record {
        names = λ n. k.more.names n ∙ ap (λ b. b || stands n u') (l.names n) ∙ ap (λ z. stands_in n (start_terms S) || stands n z) same
            ∙ ap (λ b. stands_in n (start_terms S) || b) (sym (or-false (stands n u))) ∙ sym (stands_in_append n (start_terms S) (u ∷ [])) ∙ ap (stands_in n) (sym split);
        formed = subst (Every Formed) (sym split) (every_join Formed (start_terms S) (u ∷ []) l.formed (tree_formed text V.names t, tt));
      }

  name_listed : (S : Scope) (n : Name) (m : Meaning) → Listed S → Listed (with_name text limits n m S)
  name_listed S n m l = listed_as S (with_name text limits n m S) refl refl l

  function_listed : (S : Scope) (n : Name) (s : Signature) → Listed S → Listed (with_function text limits s (with_name text limits n (Function (length S.functions)) S))
  function_listed S n s l = listed_as S (with_function text limits s (with_name text limits n (Function (length S.functions)) S)) refl refl l

  right_listed : (S : Scope) (who : Option ℕ) (f : ℕ) → Listed S → Listed (with_right text limits who f S)
  right_listed S who f l = listed_as S (with_right text limits who f S) refl refl l

  pub declared_listed : (spec : syntax.Specification) (U : Scope) → declared text limits spec ≡ Ok U → Listed U
  declared_listed =
      declared_kept text limits Listed
      (record { value = λ S n kind shared. name_listed S n (Value kind shared); function = λ S n ps s f e. function_listed S n s; right = right_listed; start = λ S V who t. start_listed who t S V })
      (record { names = λ n. refl; formed = tt })

-- what a party starts from is among what somebody starts from
pub given_every : (Q : Tree → Type 0) (n : ℕ) (gs : List Given) → Every Q (map (λ (g : Given). g.term) gs) → Every Q (given_to n gs)
given_every Q n [] h = tt
given_every Q n (g ∷ gs) h =
    cond_both (concerns g.knower n) (g.term ∷ given_to n gs) (given_to n gs) (Every Q) (λ _. (h.0, given_every Q n gs h.1)) (λ _. given_every Q n gs h.1)

pub given_none : (n k : ℕ) (gs : List Given) → stands_in n (map (λ (g : Given). g.term) gs) ≡ false → stands_in n (given_to k gs) ≡ false
given_none n k [] h = refl
given_none n k (g ∷ gs) h =
    let p = or_parts (stands n g.term) (stands_in n (map (λ (g : Given). g.term) gs)) h in
    cond_both (concerns g.knower k) (g.term ∷ given_to k gs) (given_to k gs) (λ ts. stands_in n ts ≡ false)
    (λ _. or_from (stands n g.term) (stands_in n (given_to k gs)) p.0 (given_none n k gs p.1)) (λ _. given_none n k gs p.1)
