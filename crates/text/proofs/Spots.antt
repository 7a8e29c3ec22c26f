-- Runs and single bytes at the front of some bytes.
use Rattle.std.proofs.Common.{◌≡◌, ℕ, ◌+◌, ◌-◌, ◌*◌, ◌≤◌, Bool, true, List, [], ◌∷◌, sym, refl, ap, ◌∙◌, subst, add-zero, arith}
use Rattle.std.proofs.lemmas.Bool.{true≢false}
use Rattle.text.specs.Bytes.{class, blank, digit}
use Rattle.text.specs.Grammar.{Spot, Run, Byte, value}
use Rattle.text.specs.declared.class.ByteClass.{ByteClass}
use Rattle.text.specs.declared.class.ByteClass.TheVariants.{Blank, Quote, Open, Close, Digit, Backslash, Other}

abbrev pub spot : ℕ → List ℕ → Spot
spot at bs = record { place = at; bytes = bs }

spot_is : (y : Spot) (at : ℕ) (bs : List ℕ) → bs ≡ y.bytes → y.place ≡ at → y ≡ spot at bs
spot_is y at bs e q = subst (λ n. y ≡ spot n bs) q (subst (λ l. y ≡ spot y.place l) (sym e) refl)

-- An empty run, and one byte more in front of a run.
pub run_none : (p : ByteClass → Bool) (x : Spot) → Run p x [] x
run_none p x = (tt, refl, sym (add-zero x.place))

pub run_empty : (p : ByteClass → Bool) (at : ℕ) (bs : List ℕ) (y : Spot) → Run p (spot at bs) [] y → y ≡ spot at bs
run_empty p at bs y (m, e, l) = spot_is y at bs e (l ∙ add-zero at)

module _ (p : ByteClass → Bool) (at b : ℕ) (bs w : List ℕ) (y : Spot) where
  pub run_more : p (class b) ≡ true → Run p (spot (at + 1) bs) w y → Run p (spot at (b ∷ bs)) (b ∷ w) y
  run_more q (m, e, l) = ((q, m), ap (λ z. b ∷ z) e, l ∙ omega arith)

  pub run_head : (c : ℕ) → Run p (spot at (b ∷ bs)) (c ∷ w) y → p (class b) ≡ true
  run_head c ((q, m), e, l) = let s : c ≡ b = cc in subst (λ x. p (class x) ≡ true) s q

  pub run_tail : (c : ℕ) → Run p (spot at (b ∷ bs)) (c ∷ w) y → Run p (spot (at + 1) bs) w y
  run_tail c ((q, m), e, l) = (m, cc, l ∙ omega arith)

pub run_nil : (p : ByteClass → Bool) (at : ℕ) (w : List ℕ) (y : Spot) → Run p (spot at []) w y → w ≡ []
run_nil p at [] y r = refl
run_nil p at (c ∷ w) y (m, e, l) = let z : ◌≡◌ {A = ℕ} 0 1 = cc in absurd (omega arith)

module _ (k : ByteClass) (at b : ℕ) (bs : List ℕ) where
  pub byte_make : class b ≡ k → Byte k (spot at (b ∷ bs)) (spot (at + 1) bs)
  byte_make q = (b, q, refl, refl)

  pub byte_class : (y : Spot) → Byte k (spot at (b ∷ bs)) y → class b ≡ k
  byte_class y (c, q, e, l) = let s : c ≡ b = cc in subst (λ x. class x ≡ k) s q

  pub byte_next : (y : Spot) → Byte k (spot at (b ∷ bs)) y → y ≡ spot (at + 1) bs
  byte_next y (c, q, e, l) = spot_is y (at + 1) bs (cc) l

pub byte_nil : (k : ByteClass) (at : ℕ) (y : Spot) → Byte k (spot at []) y → ⊥
byte_nil k at y (c, q, e, l) = let z : ◌≡◌ {A = ℕ} 0 1 = cc in omega arith

-- A byte of a class by its kind.
pub blank_only : (k : ByteClass) → blank k ≡ true → k ≡ Blank
blank_only Blank q = refl
blank_only Quote q = absurd (true≢false (sym q))
blank_only Open q = absurd (true≢false (sym q))
blank_only Close q = absurd (true≢false (sym q))
blank_only Digit q = absurd (true≢false (sym q))
blank_only Backslash q = absurd (true≢false (sym q))
blank_only Other q = absurd (true≢false (sym q))

pub digit_only : (k : ByteClass) → digit k ≡ true → k ≡ Digit
digit_only Blank q = absurd (true≢false (sym q))
digit_only Quote q = absurd (true≢false (sym q))
digit_only Open q = absurd (true≢false (sym q))
digit_only Close q = absurd (true≢false (sym q))
digit_only Digit q = refl
digit_only Backslash q = absurd (true≢false (sym q))
digit_only Other q = absurd (true≢false (sym q))

-- Digits do not lessen a value.
pub value_grows : (n : ℕ) (ds : List ℕ) → n ≤ value n ds
value_grows n [] = omega arith
value_grows n (d ∷ ds) = let h = value_grows (n * 10 + (d - 48)) ds in omega arith
