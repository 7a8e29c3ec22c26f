-- The last number below a bound that passes a test.
use Rattle.std.proofs.Common.{◌≡◌, ℕ, zero, suc, ◌<◌, ◌≤◌, Bool, true, false, inl, inr, if◌then◌else◌, refl, sym, ap, ◌∙◌, arith}
use Rattle.std.proofs.lemmas.Bool.{cases_eq, both_ways}
use Rattle.rows.specs.Chains.{last_below}

pub last_bound : (p : ℕ → Bool) (n : ℕ) → last_below p n ≤ n
last_bound p zero = omega arith
last_bound p (suc n) = go (p n) (last_bound p n)
  where
    go : (b : Bool) → last_below p n ≤ n → (if b then suc n else last_below p n) ≤ suc n
    go true h = omega arith
    go false h = omega arith

-- it passes
pub last_passes : (p : ℕ → Bool) (n k : ℕ) → last_below p n ≡ suc k → p k ≡ true
last_passes p zero k e = absurd (omega arith)
last_passes p (suc n) k e = go (p n) refl e (last_passes p n k)
  where
    go : (b : Bool) → p n ≡ b → (if b then suc n else last_below p n) ≡ suc k → (last_below p n ≡ suc k → p k ≡ true) → p k ≡ true
    go true q e f = let z : k ≡ n = omega arith in ap p z ∙ q
    go false q e f = f e

-- and none after it does
pub last_most : (p : ℕ → Bool) (n k : ℕ) → k < n → p k ≡ true → k < last_below p n
last_most p zero k h t = absurd (omega arith)
last_most p (suc n) k h t = go (p n) refl (λ l. last_most p n k l t)
  where
    go : (b : Bool) → p n ≡ b → (k < n → k < last_below p n) → k < (if b then suc n else last_below p n)
    go true q f = omega arith
    go false q f = elim (cases_eq k n) [ inl e ↦ absurd (both_ways (p n) q (ap p (sym e) ∙ t)) | inr e ↦ f (omega arith) ]

-- it goes by the test below the bound alone
pub last_same : (p q : ℕ → Bool) (n : ℕ) → ((k : ℕ) → k < n → p k ≡ q k) → last_below p n ≡ last_below q n
last_same p q zero e = refl
last_same p q (suc n) e = ap (λ b. if b then suc n else last_below p n) (e n (omega arith)) ∙ ap (λ m. if q n then suc n else m) (last_same p q n (λ k h. e k (omega arith)))
