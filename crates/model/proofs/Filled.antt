-- Actions in order: each fills the next registers, and reads earlier ones; so registers are filled once, and read only when filled.
use Rattle.std.proofs.Common.{◌≡◌, ℕ, zero, suc, ◌+◌, ◌<◌, ◌≤◌, List, [], ◌∷◌, ◌++◌, map, length, sym, refl, ap, ◌∙◌, subst, inl, inr, append-nil, arith, length-append}
use mathlib.Core.Path.{subst⁻¹}
use native.Mathlib.Decide.{dec_lt}
use Rattle.model.specs.Lists.{Every, SomeOf}
use Rattle.model.specs.Roles.{Act}
use Rattle.model.specs.ProgramLaw.{from, targets, sources, filled, Distinct}
use Rattle.model.proofs.Lists.{every_map}

-- numbers from one on
pub length_from : (n k : ℕ) → length (from n k) ≡ k
length_from n zero = refl
length_from n (suc k) = ap suc (length_from (n + 1) k)

from_append : (n a b : ℕ) → from n a ++ from (n + a) b ≡ from n (a + b)
from_append n zero b =
    let e : n + 0 ≡ n = omega arith in
    let f : b ≡ 0 + b = omega arith in
    ap (λ z. from z b) e ∙ ap (from n) f
from_append n (suc a) b =
    let e : n + suc a ≡ (n + 1) + a = omega arith in
    let f : suc (a + b) ≡ suc a + b = omega arith in
    ap (λ l. n ∷ l) (ap (λ z. from (n + 1) a ++ from z b) e ∙ from_append (n + 1) a b) ∙ ap (from n) f

among_from : (n k q : ℕ) → n ≤ q → q < n + k → SomeOf (λ r. q ≡ r) (from n k)
among_from n zero q l u = absurd (omega arith)
among_from n (suc k) q l u = go (dec_lt n q) (λ h. among_from (n + 1) k q (omega arith) (omega arith))
  where
    go : Dec (n < q) → (n < q → SomeOf (λ r. q ≡ r) (from (n + 1) k)) → SomeOf (λ r. q ≡ r) (n ∷ from (n + 1) k)
    go (yes h) f = inr (f h)
    go (no h) f = inl (omega arith)

above_from : (n k q : ℕ) → q < n → ¬ SomeOf (λ r. q ≡ r) (from n k)
above_from n zero q h i = i
above_from n (suc k) q h (inl e) = omega arith
above_from n (suc k) q h (inr i) = above_from (n + 1) k q (omega arith) i

pub distinct_from : (n k : ℕ) → Distinct (from n k)
distinct_from n zero = tt
distinct_from n (suc k) = (above_from (n + 1) k n (omega arith), distinct_from (n + 1) k)

-- the next register is `n`
abbrev pub InOrder : ℕ → List Act → Type 0
InOrder n [] = Unit {0}
InOrder n (a ∷ xs) = (targets a ≡ from n (length (targets a))) × Every (λ q. q < n) (sources a) × InOrder (n + length (targets a)) xs

abbrev pub actions_of : List (ℕ × Act) → List Act
actions_of = map (λ x. x.1)

-- a beginning fills the first registers, and the rest goes on from there
begins_filled : (n : ℕ) (before rest : List (ℕ × Act)) → InOrder n (actions_of (before ++ rest))
    → (filled before ≡ from n (length (filled before))) × InOrder (n + length (filled before)) (actions_of rest)
begins_filled n [] rest o = (refl, subst (λ z. InOrder z (actions_of rest)) (omega arith) o)
begins_filled n (x ∷ before) rest o =
    let a = length (targets x.1) in
    let z = begins_filled (n + a) before rest o.2 in
    let e = length-append (targets x.1) (filled before) in (
      (λ i. o.0 i ++ z.0 i) ∙ from_append n a (length (filled before)) ∙ ap (from n) (sym e),
      subst (λ k. InOrder k (actions_of rest)) (omega arith) z.1,
    )

pub filled_numbered : (rows : List (ℕ × Act)) → InOrder 0 (actions_of rows) → filled rows ≡ from 0 (length (filled rows))
filled_numbered rows o = (begins_filled 0 rows [] (subst⁻¹ (λ l. InOrder 0 (actions_of l)) (append-nil rows) o)).0

pub reads_earlier : (before after : List (ℕ × Act)) (x : ℕ × Act) → InOrder 0 (actions_of (before ++ (x ∷ after)))
    → Every (λ q. SomeOf (λ r. q ≡ r) (filled before)) (sources x.1)
reads_earlier before after x o =
    let z = begins_filled 0 before (x ∷ after) o in
    every_map (λ q. q < 0 + length (filled before)) (λ q. SomeOf (λ r. q ≡ r) (filled before))
    (λ q h. subst⁻¹ (SomeOf (λ r. q ≡ r)) z.0 (among_from 0 (length (filled before)) q (omega arith) h)) (sources x.1) z.1.1
