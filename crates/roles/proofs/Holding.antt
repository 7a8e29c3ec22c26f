-- Programs of the model pass the check of programs that can be held.
use Rattle.std.proofs.Common.{◌≡◌, ℕ, ◌≤◌, true, List, [], ◌∷◌, ◌++◌, map, get_or, refl, sym, ap, ◌∙◌, subst, append_assoc, append-nil, arith}
use mathlib.Core.Path.{subst⁻¹}
use Rattle.std.proofs.lemmas.Bool.{and_from, le-leb}
use Rattle.std.proofs.lemmas.List.{map-append}
use Rattle.model.specs.Lists.{Every}
use Rattle.model.specs.Roles.{Act}
use Rattle.model.specs.Specifications.{Specification}
use Rattle.model.specs.Programs.{program, Accepted}
use Rattle.model.specs.ProgramLaw.{targets, sources, filled, Distinct, NeverFalls, Orderly}
use Rattle.model.specs.CountLaw.{Counted, CountsKept}
use Rattle.model.proofs.ProgramLaw.{program_law}
use Rattle.model.proofs.CountLaw.{count_law}
use Rattle.program.specs.declared.action.Row.{Row}
use Rattle.program.specs.Held.{fills, counted, has_all, has_none, row_passes, passes_from, passes}
use Rattle.roles.specs.Players.{lined}
use Rattle.roles.proofs.Registers.{fills_targets, reads_sources, all_filled, none_filled, counted_act}

filled_append : (xs ys : List (ℕ × Act)) → filled (xs ++ ys) ≡ filled xs ++ filled ys
filled_append [] ys = refl
filled_append (x ∷ xs) ys = ap (λ l. targets x.1 ++ l) (filled_append xs ys) ∙ sym (append_assoc (targets x.1) (filled xs) (filled ys))

falls_right : (xs ys : List ℕ) → NeverFalls (xs ++ ys) → NeverFalls ys
falls_right [] ys n = n
falls_right (x ∷ xs) ys n = falls_right xs ys n.1

abbrev line_of : ℕ × Act → ℕ
line_of x = x.0

module _ (counts : List ℕ) where
  -- a row after others, in rows that are orderly
  module _ (before : List (ℕ × Act)) (line : ℕ) (r : Row) (rest : List (ℕ × Act)) (o : Orderly (before ++ (lined r ∷ rest))) where
    apart : Distinct (filled before ++ (targets (lined r).1 ++ filled rest))
    apart = subst Distinct (filled_append before (lined r ∷ rest)) o.fills_once

    pub one_passes : line ≤ r.line → counted counts r.action ≡ true → row_passes counts (filled before) line r ≡ true
    one_passes l c =
        let read = subst⁻¹ (λ rs. has_all rs (filled before) ≡ true) (reads_sources r.action) (all_filled (sources (lined r).1) (filled before) (o.reads_filled before rest (lined r) refl)) in
        let new = subst⁻¹ (λ rs. has_none rs (filled before) ≡ true) (fills_targets r.action) (none_filled (filled before) (targets (lined r).1) (filled rest) apart) in
        and_from _ _ (le-leb line r.line l) (and_from _ _ read (and_from _ _ new c))

    pub rest_rises : Every (λ l. r.line ≤ l) (map line_of rest)
    rest_rises = (falls_right (map line_of before) (r.line ∷ map line_of rest) (subst NeverFalls (map-append line_of before (lined r ∷ rest)) o.lines_rise)).0

    pub rest_orderly : Orderly ((before ++ (lined r ∷ [])) ++ rest)
    rest_orderly = subst⁻¹ Orderly (append_assoc before (lined r ∷ []) rest) o

    pub now_filled : filled (before ++ (lined r ∷ [])) ≡ filled before ++ fills r.action
    now_filled =
        filled_append before (lined r ∷ []) ∙ ap (λ rs. filled before ++ rs) (append-nil (targets (lined r).1) ∙ sym (fills_targets r.action))

  rows_orderly : (before : List (ℕ × Act)) (line : ℕ) (rows : List Row) → Orderly (before ++ map lined rows) → Every (λ l. line ≤ l) (map line_of (map lined rows))
      → Every (λ (r : Row). counted counts r.action ≡ true) rows → passes_from counts (filled before) line rows ≡ true
  rows_orderly before line [] o l c = refl
  rows_orderly before line (r ∷ rows) o l c =
      and_from _ _ (one_passes before line r (map lined rows) o l.0 c.0)
      (subst (λ done. passes_from counts done r.line rows ≡ true) (now_filled before line r (map lined rows) o)
      (rows_orderly (before ++ (lined r ∷ [])) r.line rows (rest_orderly before line r (map lined rows) o) (rest_rises before line r (map lined rows) o) c.1))

  -- rows of a program keep the counts, whatever stands behind those that are declared
  rows_counted : (rows : List Row) → ((d : ℕ) → Every (λ x. Counted (λ f. get_or counts f d) x.1) (map lined rows)) → Every (λ (r : Row). counted counts r.action ≡ true) rows
  rows_counted [] c = tt
  rows_counted (r ∷ rows) c = (counted_act counts r.action (λ d. (c d).0), rows_counted rows (λ d. (c d).1))

  from_zero : (xs : List ℕ) → Every (λ l. 0 ≤ l) xs
  from_zero [] = tt
  from_zero (x ∷ xs) = (omega arith, from_zero xs)

  pub orderly_pass : (rows : List Row) → Orderly (map lined rows) → ((d : ℕ) → Every (λ x. Counted (λ f. get_or counts f d) x.1) (map lined rows)) → passes counts rows ≡ true
  orderly_pass rows o c = rows_orderly [] 0 rows o (from_zero (map line_of (map lined rows))) (rows_counted rows c)

  -- each program of an accepted specification that keeps the counts, whatever stands behind those that are declared
  pub rows_pass : (S : Specification) → Accepted S → ((d : ℕ) → CountsKept (λ f. get_or counts f d) S) → (r : ℕ) (rows : List Row) → map lined rows ≡ program S r → passes counts rows ≡ true
  rows_pass S acc kept r rows e =
      orderly_pass rows (subst⁻¹ Orderly e (program_law S acc r))
      (λ d. subst⁻¹ (Every (λ x. Counted (λ f. get_or counts f d) x.1)) e (count_law (λ f. get_or counts f d) S (kept d) r))
