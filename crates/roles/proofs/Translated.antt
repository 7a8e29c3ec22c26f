-- What comes of accepted lines is what the model says of the specification that they stand for.
use Rattle.std.proofs.Common.{◌≡◌, ℕ, ◌<◌, List, [], ◌∷◌, ◌++◌, map, length, get_or, Ok, sym, refl, ap, ◌∙◌, subst, append-nil, arith}
use mathlib.Core.Path.{subst⁻¹}
use Rattle.std.proofs.lemmas.Bool.{lt-ltb, cond-true}
use Rattle.std.proofs.lemmas.List.{get_or-map}
use Rattle.model.specs.Lists.{Every}
use Rattle.model.specs.Trees.{Formed}
use Rattle.model.specs.Specifications.{Specification, message, duties}
use Rattle.model.specs.CountLaw.{Declared, CountsKept}
use Rattle.model.specs.Programs.{nobody_yet, Sayable, stages_from, rows_of, Accepted}
use Rattle.model.proofs.Names.{names_law}
use Rattle.syntax.specs.Specs as syntax
use Rattle.syntax.specs.Specs.{Lined}
use Rattle.terms.specs.Declaring.{declared}
use Rattle.terms.specs.Numbering.{tree}
use Rattle.terms.specs.Scope.{Scope}
use Rattle.terms.specs.declared.limits.Limits.{Limits}
use Rattle.terms.proofs.DeclaredTerms.{given_every, declared_listed}
use Rattle.terms.proofs.Leaves.{tree_formed}
use Rattle.terms.proofs.Standing.{stood_first}
use Rattle.roles.specs.Playing.{Player}
use Rattle.roles.specs.Stages.{Stage, lines}
use Rattle.roles.specs.Specified.{line_among, starting_terms, specified}
use Rattle.roles.specs.TranslationLaw.{no_roles, Declares, Performs, Translated}
use Rattle.roles.proofs.AllLines.{lines_then}
use Rattle.roles.proofs.Coming.{came_sayable}
use Rattle.roles.proofs.SoFar.{all, doings, WellTyped, SoFar, counted}

module _ (text : List ℕ) (limits : Limits) (X : syntax.Specification) (U : Scope) (e : declared text limits X ≡ Ok U) where
  pub starts_formed : Every Formed (starting_terms text U)
  starts_formed = (declared_listed text limits X U e).formed

  -- before all lines there is no role
  first : (ls : List Lined) → SoFar text U ls [] [] (no_roles U)
  first ls = record { scope = refl; stood = stood_first text limits X U e; numbers = refl; typed = tt; between = tt; did = λ r p h. absurd (omega arith) }

  -- after the first lines of some
  pub accepted_so_far : (before after : List Lined) (G : Stage) → lines limits text [] before (no_roles U) ≡ Ok G
      → SoFar text U (before ++ after) before (all text U before) G
  accepted_so_far before after G q = lines_then limits text U (before ++ after) starts_formed before [] after refl (no_roles U) G (first (before ++ after)) q

  -- the messages of accepted lines have good types
  pub messages_typed : (ls : List Lined) (G : Stage) → lines limits text [] ls (no_roles U) ≡ Ok G → WellTyped text U ls
  messages_typed ls G q = (accepted_so_far ls [] G q).typed

messages_formed : (text : List ℕ) (U : Scope) (ns : List ℕ) (ls : List Lined) → Every (λ x. Formed x.message) (map (line_among text U ns) ls)
messages_formed text U ns [] = tt
messages_formed text U ns (l ∷ ls) = (tree_formed text U.names l.message, messages_formed text U ns ls)

module _ (text : List ℕ) (U : Scope) (formed : Every Formed (starting_terms text U)) (ls : List Lined) (G : Stage) (h : SoFar text U ls ls (all text U ls) G) where
  abbrev S : Specification
  S = specified text U ls

  duties_are : (r : ℕ) → r < S.roles → duties S r ≡ doings text U ls r ls
  duties_are r b = cond-true _ _ _ (lt-ltb r S.roles b)

  anybody : Player
  anybody = record { name = 0; part = record { at = 0; len = 0 }; party = S.party 0; role = nobody_yet; rows = [] }

  all_sayable : (r : ℕ) → r < S.roles → Sayable (message S) (S.party r) nobody_yet (duties S r)
  all_sayable r b =
      subst⁻¹ (Sayable (message S) (S.party r) nobody_yet) (duties_are r b)
      (came_sayable (message S) (S.party r) nobody_yet (get_or G.players r anybody).role (doings text U ls r ls) (h.did r anybody b).came)

  is_accepted : Accepted S
  is_accepted = record {
    sayable = all_sayable;
    formed_starts = λ r b. given_every Formed _ U.starts formed;
    formed_lines = messages_formed text U (all text U ls) ls;
    between_roles = h.between;
  }

  performs : (r : ℕ) (p : Player) → r < length G.players → Performs S r (get_or (all text U ls) r 0) (get_or G.players r p)
  performs r p b =
      let c = counted text U ls ls (all text U ls) G h in
      let d = h.did r p (omega arith) in
      record {
        named = sym (get_or-map (λ (z : Player). z.name) G.players r p 0 b) ∙ ap (λ ns. get_or ns r 0) h.numbers;
        party = d.party;
        rows = d.rows ∙ ap (λ ds. rows_of (stages_from (message S) (S.party r) nobody_yet ds)) (sym (duties_are r (omega arith)));
      }

  pub translated : Translated text U ls G
  translated = record { accepted = is_accepted; names = names_law S; many = counted text U ls ls (all text U ls) G h; each = performs }

pub translates : (limits : Limits) (text : List ℕ) (X : syntax.Specification) (U : Scope) (G : Stage) → Declares limits text X U → lines limits text [] X.lines (no_roles U) ≡ Ok G
    → Translated text U X.lines G
translates limits text X U G d q =
    translated text U (starts_formed text limits X U d.scope) X.lines G
    (subst (λ ls. SoFar text U ls X.lines (all text U X.lines) G) (append-nil X.lines) (accepted_so_far text limits X U d.scope X.lines [] G q))

-- the specification keeps to declared counts of parts if what somebody starts from and the messages do
module _ (text : List ℕ) (U : Scope) (declared : ℕ → ℕ) where
  lines_kept : (ns : List ℕ) (ls : List Lined) → Every (λ l. Declared declared (tree text U.names l.message)) ls → Every (λ x. Declared declared x.message) (map (line_among text U ns) ls)
  lines_kept ns [] h = tt
  lines_kept ns (l ∷ ls) h = (h.0, lines_kept ns ls h.1)

  pub counts_kept : (ls : List Lined) → Every (Declared declared) (starting_terms text U) → Every (λ l. Declared declared (tree text U.names l.message)) ls → CountsKept declared (specified text U ls)
  counts_kept ls s h = record { starts = λ r b. given_every (Declared declared) _ U.starts s; lines = lines_kept (all text U ls) ls h }
