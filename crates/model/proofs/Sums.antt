-- Sums over the first so many roles, with one value replaced.
use Rattle.std.proofs.Common.{◌≡◌, ℕ, zero, suc, ◌+◌, ◌<◌, ◌≤◌, Bool, true, false, cond, T, eqb, ◌↔◌, refl, ap, subst, arith}
use native.Mathlib.Decide.{dec_lt}
use lib.Dec.{eqb_refl}
use Rattle.model.proofs.Machine.{eqb_iff}

-- a sum over the first so many
abbrev pub sum : ℕ → (ℕ → ℕ) → ℕ
sum zero f = 0
sum (suc n) f = f n + sum n f

abbrev pub with_one : (ℕ → ℕ) → ℕ → ℕ → ℕ → ℕ
with_one f r k q = cond (eqb r q) k (f q)

with_same : (f : ℕ → ℕ) (r k : ℕ) → with_one f r k r ≡ k
with_same f r k = go (eqb r r) (eqb_refl r)
  where
    go : (b : Bool) → T b → cond b k (f r) ≡ k
    go true h = refl
    go false h = elim h [ ]

with_other : (f : ℕ → ℕ) (r k q : ℕ) → ¬ (r ≡ q) → with_one f r k q ≡ f q
with_other f r k q n = go (eqb r q) (eqb_iff r q)
  where
    go : (b : Bool) → (T b ↔ (r ≡ q)) → cond b k (f q) ≡ f q
    go true e = absurd (n (e.0 tt))
    go false e = refl

sum_above : (f : ℕ → ℕ) (r k n : ℕ) → n ≤ r → sum n (with_one f r k) ≡ sum n f
sum_above f r k zero h = refl
sum_above f r k (suc n) h =
    let p = with_other f r k n (λ e. omega arith) in
    let q = sum_above f r k n (omega arith) in
    omega arith

pub sum_with : (f : ℕ → ℕ) (r k n : ℕ) → r < n → sum n (with_one f r k) + f r ≡ sum n f + k
sum_with f r k zero h = absurd (omega arith)
sum_with f r k (suc n) h = go (dec_lt r n) (sum_with f r k n)
  where
    go : Dec (r < n) → (r < n → sum n (with_one f r k) + f r ≡ sum n f + k) → (with_one f r k n + sum n (with_one f r k)) + f r ≡ (f n + sum n f) + k
    go (yes i) g =
        let p = with_other f r k n (λ e. omega arith) in
        let q = g i in
        omega arith
    go (no i) g =
        let e : r ≡ n = omega arith in
        let p : with_one f r k n ≡ k = subst (λ z. with_one f r k z ≡ k) e (with_same f r k) in
        let q = sum_above f r k n (omega arith) in
        let w : f r ≡ f n = ap f e in
        omega arith

pub sum_has : (f : ℕ → ℕ) (r n : ℕ) → r < n → f r ≤ sum n f
sum_has f r zero h = absurd (omega arith)
sum_has f r (suc n) h = go (dec_lt r n) (sum_has f r n)
  where
    go : Dec (r < n) → (r < n → f r ≤ sum n f) → f r ≤ f n + sum n f
    go (yes i) g = let q = g i in omega arith
    go (no i) g =
        let e : r ≡ n = omega arith in
        let w : f r ≡ f n = ap f e in
        omega arith
