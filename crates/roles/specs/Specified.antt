-- The model's specification that a scope and the lines of a text stand for.
use Rattle.std.specs.Prelude.{ℕ, zero, suc, Bool, cond, not, ◌||◌, List, [], ◌∷◌, ◌++◌, map, length, ◌==◌, slice_index_or, nat_lt}
use Rattle.std.specs.Option.{unwrap_or}
use Rattle.model.specs.Trees.{Tree}
use Rattle.model.specs.Specifications.{Line, Specification, stands_in}
use Rattle.syntax.specs.declared.spec.Name.{Name}
use Rattle.syntax.specs.Specs.{Lined}
use Rattle.terms.specs.Numbering.{tree}
use Rattle.terms.specs.Scope.{Scope, Given, number_of}
use Rattle.terms.specs.Starting.{given_to, is_makeable}
use Rattle.roles.specs.Starting.{party_in}

-- the place of a number: behind all if it is not there
abbrev pub place_in : ℕ → List ℕ → ℕ
place_in n [] = zero
place_in n (m ∷ ms) = cond (m == n) zero (suc (place_in n ms))

-- one number more, if it has no place yet
abbrev pub with_number : ℕ → List ℕ → List ℕ
with_number n ns = cond (nat_lt (place_in n ns) (length ns)) ns (ns ++ (n ∷ []))

module _ (text : List ℕ) (U : Scope) where
  -- the number of a declared name; no line that is accepted has another
  abbrev pub numbered : Name → ℕ
  numbered x = unwrap_or (number_of text U.names x.part) 0

  -- the names of the roles, in the order of first standing in a line, sender before receiver; some stood before
  abbrev pub names_from : List ℕ → List Lined → List ℕ
  names_from ns [] = ns
  names_from ns (l ∷ ls) = names_from (with_number (numbered l.receiver) (with_number (numbered l.sender) ns)) ls

  abbrev pub role_names : List Lined → List ℕ
  role_names ls = names_from [] ls

  -- a line goes from one role to another, roles being told by their places
  abbrev pub line_among : List ℕ → Lined → Line
  line_among ns l = record { sender = place_in (numbered l.sender) ns; receiver = place_in (numbered l.receiver) ns; message = tree text U.names l.message }

  -- the terms from which somebody starts
  abbrev pub starting_terms : List Tree
  starting_terms = map (λ (g : Given). g.term) U.starts

  -- nobody makes what is no unshared number, nor what stands in a term from which somebody starts
  abbrev pub is_barred : ℕ → Bool
  is_barred n = not (is_makeable U.names n) || stands_in n starting_terms

  abbrev pub specified : List Lined → Specification
  specified ls =
      let ns = role_names ls in
      record {
        roles = length ns;
        party = λ r. party_in U (slice_index_or ns r 0);
        knows = λ r. given_to (slice_index_or ns r 0) U.starts;
        barred = is_barred;
        lines = map (line_among ns) ls;
      }
