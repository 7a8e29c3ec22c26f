-- How many registers some rows need.
use Rattle.std.proofs.Common.{◌≡◌, ℕ, zero, suc, ◌+◌, ◌<◌, ◌≤◌, ◌-◌, max, true, eqb, List, [], ◌∷◌, ◌++◌, length, get_or, take, replicate, sym, refl, ap, ◌∙◌, inl, inr, arith}
use Rattle.std.proofs.lemmas.Bool.{false≢true, or_cases, eqb-true}
use Rattle.std.proofs.lemmas.List.{length-replicate}
use Rattle.program.specs.declared.action.Row.{Row}
use Rattle.program.specs.declared.check.Span.{Span}
use Rattle.program.specs.Held.{has, from, fills}
use Rattle.program.specs.Checked.{span_of}
use Rattle.program.proofs.Stepping.{fills_span}
use Rattle.run.specs.Filling.{filled_by, span_to}
use Rattle.run.specs.Shown.{vacant, register}
use Rattle.run.proofs.Emptying.{filled_more}

-- each of the numbers is below
pub below_span : (rs : List ℕ) (r : ℕ) → has r rs ≡ true → r < span_to rs
below_span [] r e = absurd (false≢true e)
below_span (x ∷ rs) r e = elim (or_cases (eqb r x) (has r rs) e) [
  | inl p ↦ (let q = eqb-true r x p in omega arith)
  | inr p ↦ (let q = below_span rs r p in omega arith)
]

span_append : (a b : List ℕ) → span_to (a ++ b) ≡ max (span_to a) (span_to b)
span_append [] b = omega arith
span_append (x ∷ a) b = let e = span_append a b in omega arith

span_row : (r n : ℕ) → span_to (from r (suc n)) ≡ r + suc n
span_row r zero = omega arith
span_row r (suc n) = let e = span_row (suc r) n in omega arith

module _ (rows : List Row) (i : ℕ) (x : Row) (at : x ≡ get_or rows i x) (l : i < length rows) (span : Span) (is : span ≡ span_of x.action) where
  one_more : span_to (filled_by (take (i + 1) rows)) ≡ max (span_to (filled_by (take i rows))) (span_to (from span.first span.count))
  one_more =
      ap span_to (filled_more rows i x at l) ∙ span_append (filled_by (take i rows)) (fills x.action)
      ∙ ap (λ rs. max (span_to (filled_by (take i rows))) (span_to rs)) (fills_span x.action ∙ ap (λ (s : Span). from s.first s.count) (sym is))

  pub span_none : span.count ≤ 0 → span_to (filled_by (take (i + 1) rows)) ≡ span_to (filled_by (take i rows))
  span_none h = let z : span.count ≡ 0 = omega arith in let e = one_more ∙ ap (λ n. max (span_to (filled_by (take i rows))) (span_to (from span.first n))) z in omega arith

  pub span_some : 0 < span.count → span_to (filled_by (take (i + 1) rows)) ≡ max (span_to (filled_by (take i rows))) (span.first + span.count)
  span_some h =
      let z : span.count ≡ suc (span.count - 1) = omega arith in
      one_more ∙ ap (λ n. max (span_to (filled_by (take i rows))) n)
      (ap (λ n. span_to (from span.first n)) z ∙ span_row span.first (span.count - 1) ∙ ap (λ n. span.first + n) (sym z))

-- registers that are all empty
pub all_vacant : (n r : ℕ) → register (replicate n vacant) r ≡ vacant
all_vacant zero r = refl
all_vacant (suc n) zero = refl
all_vacant (suc n) (suc r) = all_vacant n r

-- the registers of a new run
pub new_room : (rows rows' : List Row) (cells : List ℕ) (n : ℕ) → rows' ≡ rows → cells ≡ replicate n vacant → n ≡ span_to (filled_by rows') → (r : ℕ) → has r (filled_by rows) ≡ true → r < length cells
new_room rows rows' cells n same e m r h =
    let a = below_span (filled_by rows) r h in
    let b = ap (λ (xs : List Row). span_to (filled_by xs)) same in
    omega (arith, ap length e ∙ length-replicate n vacant)
