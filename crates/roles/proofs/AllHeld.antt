-- The programs of a translation can be held, by the law of translation.
use Rattle.std.proofs.Common.{◌≡◌, ℕ, suc, ◌+◌, ◌<◌, true, List, [], ◌∷◌, map, length, get_or, vec_items, Ok, Result, ap, ◌∙◌, arith}
use mathlib.Core.Path.{subst⁻¹}
use Rattle.model.specs.Lists.{Every}
use Rattle.model.specs.Specifications.{Specification}
use Rattle.model.specs.Programs.{program, Accepted}
use Rattle.model.specs.CountLaw.{Declared, CountsKept}
use Rattle.text.specs.Reading.{reading}
use Rattle.text.specs.Trees.{Tree}
use Rattle.syntax.specs.Shape.{shape}
use Rattle.syntax.specs.Specs as syntax
use Rattle.syntax.specs.Specs.{Lined}
use Rattle.program.specs.Held.{passes}
use Rattle.terms.specs.declared.limits.Limits.{Limits}
use Rattle.terms.specs.declared.table.TermTable.{TermTable}
use Rattle.terms.specs.Counts.{counts, count_or}
use Rattle.terms.specs.Declaring.{bind, declared}
use Rattle.terms.specs.Numbering.{tree}
use Rattle.terms.specs.Scope.{Scope, Given}
use Rattle.terms.specs.declared.declarations.ValueType.TheVariants.{Number}
use Rattle.terms.proofs.Counted.{typed_counted}
use Rattle.terms.proofs.CountedScopes.{Counted, declared_counted}
use Rattle.terms.proofs.Steps.{steps}
use Rattle.roles.specs.declared.role.Role.{Role}
use Rattle.roles.specs.declared.translation.Translation.{Translation}
use Rattle.roles.specs.declared.translation_fault.TranslationFault.{TranslationFault}
use Rattle.roles.specs.declared.translation_fault.TranslationFault.TheVariants.{Text, Shape, Declarations, Lines}
use Rattle.roles.specs.Holding.{counts_of, AllHeld}
use Rattle.roles.specs.Players.{player_of}
use Rattle.roles.specs.Playing.{Player}
use Rattle.roles.specs.Specified.{specified}
use Rattle.roles.specs.Stages.{Stage, refused_by, lines}
use Rattle.roles.specs.Staging.{stage_of}
use Rattle.roles.specs.Translating.{translation}
use Rattle.roles.specs.TranslationLaw.{no_roles, Declares}
use Rattle.roles.proofs.Holding.{rows_pass}
use Rattle.roles.proofs.SoFar.{listing, WellTyped}
use Rattle.roles.proofs.Translated.{accepted_so_far, messages_typed, counts_kept, translates}
use Rattle.roles.proofs.Sending.{as_good}

-- what is declared, and messages that are typed over it, keep to the counts, whatever stands behind them
module _ (text : List ℕ) (U : Scope) (c : Counted U) (d : ℕ) where
  starts_counted : (gs : List Given) → Every (λ (g : Given). Declared (count_or d U.functions) g.term) gs → Every (Declared (count_or d U.functions)) (map (λ (g : Given). g.term) gs)
  starts_counted [] h = tt
  starts_counted (g ∷ gs) h = (h.0, starts_counted gs h.1)

  messages_counted : (ls : List Lined) → WellTyped text U ls → Every (λ (l : Lined). Declared (count_or d U.functions) (tree text U.names l.message)) ls
  messages_counted [] h = tt
  messages_counted (l ∷ ls) h = (typed_counted text (listing U h.0.0) c.defined d l.message Number h.0.1, messages_counted ls h.1)

  pub specified_counted : (ls : List Lined) → WellTyped text U ls → CountsKept (count_or d U.functions) (specified text U ls)
  specified_counted ls h = counts_kept text U (count_or d U.functions) ls (starts_counted U.starts (c.starts d)) (messages_counted ls h)

-- roles whose rows are those of programs
module _ (cs : List ℕ) (S : Specification) (acc : Accepted S) (kept : (d : ℕ) → CountsKept (λ f. get_or cs f d) S) (t : TermTable) where
  each_held : (k : ℕ) (rs : List Role) → ((j : ℕ) (p : Player) → j < length (map (player_of t) rs) → (get_or (map (player_of t) rs) j p).rows ≡ program S (k + j))
      → Every (λ (r : Role). passes cs (vec_items r.rows) ≡ true) rs
  each_held k [] f = tt
  each_held k (r ∷ rs) f =
      (rows_pass cs S acc kept (k + 0) (vec_items r.rows) (f 0 (player_of t r) (omega arith)), each_held (k + 1) rs (λ j p h. let e : k + suc j ≡ k + 1 + j = omega arith in f (suc j) p (omega arith) ∙ ap (program S) e))

module _ (limits : Limits) (text : List ℕ) where
  abbrev pub then_lines : syntax.Specification → Scope → Result Stage TranslationFault
  then_lines X U = refused_by Lines (lines limits text [] X.lines (no_roles U))

  abbrev pub then_declared : syntax.Specification → Result Stage TranslationFault
  then_declared X = bind (refused_by Declarations (declared text limits X)) (then_lines X)

  abbrev pub then_shaped : Tree → Result Stage TranslationFault
  then_shaped t = bind (refused_by Shape (shape text t)) then_declared

  -- what is translated was declared, and its lines were accepted
  pub record Accepts (G : Stage) : Type 0 where
    pub spec : syntax.Specification
    pub scope : Scope
    pub declares : Declares limits text spec scope
    pub lined : lines limits text [] spec.lines (no_roles scope) ≡ Ok G

  pub accepts : (G : Stage) → translation limits text ≡ Ok G → Accepts G
  accepts G e =
      let a = steps (refused_by Text (reading text)) then_shaped G e in
      let b = steps (refused_by Shape (shape text a.mid)) then_declared G a.second in
      let c = steps (refused_by Declarations (declared text limits b.mid)) (then_lines b.mid) G b.second in
      record {
        spec = b.mid;
        scope = c.mid;
        declares = record {
          tree = a.mid;
          read = as_good Text (reading text) a.mid a.first;
          shaped = as_good Shape (shape text a.mid) b.mid b.first;
          scope = as_good Declarations (declared text limits b.mid) c.mid c.first;
        };
        lined = as_good Lines (lines limits text [] b.mid.lines (no_roles c.mid)) G c.second;
      }

  pub all_held : (T : Translation) → translation limits text ≡ Ok (stage_of T) → AllHeld T
  all_held T s =
      let G = stage_of T in
      let a = accepts G s in
      let c = declared_counted text limits a.spec a.scope a.declares.scope in
      let w = translates limits text a.spec a.scope G a.declares a.lined in
      let typed = messages_typed text limits a.spec a.scope a.declares.scope a.spec.lines G a.lined in
      let left = (accepted_so_far text limits a.spec a.scope a.declares.scope a.spec.lines [] G a.lined).scope in
      let same : counts_of T ≡ counts a.scope.functions = ap counts (ap (λ (z : Scope). z.functions) left) in
      record {
        each = subst⁻¹ (λ cs. Every (λ (r : Role). passes cs (vec_items r.rows) ≡ true) (vec_items T.roles)) same
            (each_held (counts a.scope.functions) (specified text a.scope a.spec.lines) w.accepted (λ d. specified_counted text a.scope c d a.spec.lines typed) T.declarations.terms 0 (vec_items T.roles)
            (λ j p h. let z : j ≡ 0 + j = omega arith in (w.each j p h).rows ∙ ap (program (specified text a.scope a.spec.lines)) z));
      }
