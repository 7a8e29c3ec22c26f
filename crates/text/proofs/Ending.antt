-- The end of the text, and how any state of reading can be completed.
use Rattle.std.proofs.Common.{◌≡◌, ℕ, ◌+◌, ◌-◌, Bool, List, [], ◌∷◌, length, Ok, Err, refl, ap, subst, arith}
use Rattle.text.specs.Bytes.{blank, plain, symbol, digit}
use Rattle.text.specs.Grammar.{Spot, Run, Byte, Ended, Term, Terms, Bytes}
use Rattle.text.specs.Machine.{Frame, before, inside, after, State, between, in_bracket, in_symbol, in_quotes, in_integer, put, quotation, finish, finish_between}
use Rattle.text.specs.Trees.{Tree, quoted, integer, bracket, Trees, none, more}
use Rattle.text.specs.declared.class.ByteClass.{ByteClass}
use Rattle.text.specs.declared.class.ByteClass.TheVariants.{Quote, Open, Close}
use Rattle.text.specs.declared.fault.TextFault.{TextFault}
use Rattle.text.specs.declared.fault.TextFault.TheVariants.{Broken}
use Rattle.text.proofs.Spots.{spot, run_none, run_empty, run_nil, byte_make, byte_nil}
use Rattle.text.proofs.Completing.{grown, closing, After, Finish, Within, frame, Completes, rest_put}
use Rattle.text.proofs.Backing.{Good, backward}

-- Nothing but an empty run fits no bytes.
run_here : (p : ByteClass → Bool) (at : ℕ) (w : List ℕ) (y : Spot) → Run p (spot at []) w y → y ≡ spot at []
run_here p at [] y r = run_empty p at [] y r
run_here p at (c ∷ w) y r = let e = run_nil p at (c ∷ w) y r in let z : ◌≡◌ {A = ℕ} 0 1 = cc in absurd (omega arith)

term_nil : (at : ℕ) (t : Tree) (m : Spot) → Term (spot at []) t m → ⊥
term_nil at (quoted p s) m (a, c, q, o, r, e, pe, se) = byte_nil Quote at a o
term_nil at (integer p n) m (ds, r, l, v, h, e, pe) = let z = ap length (run_nil digit at ds m r) in omega arith
term_nil at (bracket p s ts) m (a, c, d, f, w, n, o, rb, rs, l, e, terms, cl, pe, ne) = byte_nil Open at a o

terms_nil : (at : ℕ) (ts : Trees) (d : Spot) → Terms (spot at []) ts d → d ≡ spot at []
terms_nil at none d (w, r) = run_here blank at w d r
terms_nil at (more t ts) d (a, m, w, r, term, terms) = absurd (term_nil at t m (subst (λ x. Term x t m) (run_here blank at w a r) term))

within_nil : (f : Frame) (fs : List Frame) (at : ℕ) (T : Tree) → Within f fs (spot at []) T → ⊥
within_nil f fs at T (ts, d, y, terms, cl, fin) = byte_nil Close at y (subst (λ x. Byte Close x y) (terms_nil at ts d terms) cl)

finish_nil : (fs : List Frame) (x : Tree) (at : ℕ) (T : Tree) → Finish fs x (spot at []) T → finish_between at (put x fs) ≡ Ok T
finish_nil [] x at T (c, v, r, nil, e) = ap (λ t. Ok t) e
finish_nil (g ∷ gs) x at T h = absurd (within_nil (grown g x) gs at T h)

-- If nothing completes a state, its term is whole.
pub ended_nil : (s : State) (at : ℕ) (T : Tree) → Completes s (spot at []) T → finish at s ≡ Ok T
ended_nil (between before) at T (a, m, c, w, v, r, term, rv, nil) = absurd (term_nil at T m (subst (λ x. Term x T m) (run_here blank at w a r) term))
ended_nil (between (inside f fs)) at T h = absurd (within_nil f fs at T h)
ended_nil (between (after x)) at T (c, v, r, nil, e) = ap (λ t. Ok t) e
ended_nil (in_bracket o fs) at T (c, d, w, s, r, rs, l, e, wi) =
    let z = ap length (run_nil symbol at s d (subst (λ x. Run symbol x s d) (run_here blank at w c r) rs)) in absurd (omega arith)
ended_nil (in_symbol o from fs) at T (c, s, r, e, wi) =
    absurd (within_nil (frame o (record { at = from; len = c.place - from })) fs at T (subst (λ x. Within (frame o (record { at = from; len = c.place - from })) fs x T) (run_here symbol at s c r) wi))
ended_nil (in_quotes o fs) at T (c, m, q, r, e, fin) = absurd (byte_nil Quote at m (subst (λ x. Byte Quote x m) (run_here plain at q c r) e))
ended_nil (in_integer o n fs) at T (y, [], r, l, e, fin) = finish_nil fs (integer o n) at T (subst (λ x. Finish fs (integer o n) x T) (run_here digit at [] y r) fin)
ended_nil (in_integer o n fs) at T (y, d ∷ ds, r, l, e, fin) = let q = run_nil digit at (d ∷ ds) y r in let z : ◌≡◌ {A = ℕ} 0 1 = cc in absurd (omega arith)

after_nil : (x : Tree) (at : ℕ) (T : Tree) → x ≡ T → After x (spot at []) T
after_nil x at T e = (spot at [], [], run_none blank (spot at []), refl, e)

pub nil_ended : (s : State) (at : ℕ) (T : Tree) → Good s → finish at s ≡ Ok T → Completes s (spot at []) T
nil_ended (between before) at T g h = let z : ◌≡◌ {A = ℕ} 0 1 = cc in absurd (omega arith)
nil_ended (between (inside f fs)) at T g h = let z : ◌≡◌ {A = ℕ} 0 1 = cc in absurd (omega arith)
nil_ended (between (after x)) at T g h = after_nil x at T (cc)
nil_ended (in_bracket o fs) at T g h = let z : ◌≡◌ {A = ℕ} 0 1 = cc in absurd (omega arith)
nil_ended (in_symbol o from fs) at T g h = let z : ◌≡◌ {A = ℕ} 0 1 = cc in absurd (omega arith)
nil_ended (in_quotes o fs) at T g h = let z : ◌≡◌ {A = ℕ} 0 1 = cc in absurd (omega arith)
nil_ended (in_integer o n []) at T g h = (spot at [], [], run_none digit (spot at []), g, tt, after_nil (integer o n) at T (cc))
nil_ended (in_integer o n (f ∷ fs)) at T g h = let z : ◌≡◌ {A = ℕ} 0 1 = cc in absurd (omega arith)

-- What is not whole at the end is broken there.
pub finish_broken : (s : State) (at : ℕ) (e : TextFault) → finish at s ≡ Err e → e ≡ Broken at
finish_broken (between before) at e h = cc
finish_broken (between (inside f fs)) at e h = cc
finish_broken (between (after x)) at e h = let z : ◌≡◌ {A = ℕ} 0 1 = cc in absurd (omega arith)
finish_broken (in_bracket o fs) at e h = cc
finish_broken (in_symbol o from fs) at e h = cc
finish_broken (in_quotes o fs) at e h = cc
finish_broken (in_integer o n []) at e h = let z : ◌≡◌ {A = ℕ} 0 1 = cc in absurd (omega arith)
finish_broken (in_integer o n (f ∷ fs)) at e h = cc

-- Some bytes complete every state: a symbol, a quote and closing brackets, as they are wanted.
abbrev pub Completed : State → ℕ → Type 0
Completed s at = (bs : List ℕ) × (T : Tree) × Completes s (spot at bs) T × Bytes bs

close_all : (fs : List Frame) (x : Tree) (at : ℕ) → (bs : List ℕ) × (T : Tree) × Finish fs x (spot at bs) T × Bytes bs × Ended bs
close_all [] x at = ([], x, after_nil x at x refl, tt, tt)
close_all (g ∷ gs) x at =
    let r = close_all gs (closing (grown g x) none) (at + 1) in (
      41 ∷ r.0,
      r.1,
      (none, spot at (41 ∷ r.0), spot (at + 1) r.0, ([], run_none blank (spot at (41 ∷ r.0))), byte_make Close at 41 r.0 refl, r.2),
      (omega arith, r.3),
      refl,
    )

close_within : (f : Frame) (fs : List Frame) (at : ℕ) → (bs : List ℕ) × (T : Tree) × Within f fs (spot at (41 ∷ bs)) T × Bytes bs
close_within f fs at =
    let r = close_all fs (closing f none) (at + 1) in
    (r.0, r.1, (none, spot at (41 ∷ r.0), spot (at + 1) r.0, ([], run_none blank (spot at (41 ∷ r.0))), byte_make Close at 41 r.0 refl, r.2), r.3)

complete_symbol : (o from : ℕ) (fs : List Frame) (at : ℕ) → Completed (in_symbol o from fs) at
complete_symbol o from fs at =
    let r = close_within (frame o (record { at = from; len = at - from })) fs at in
    (41 ∷ r.0, r.1, (spot at (41 ∷ r.0), [], run_none symbol (spot at (41 ∷ r.0)), refl, r.2), (omega arith, r.3))

pub complete : (s : State) → Good s → (at : ℕ) → Completed s at
complete (between before) g at =
    (48 ∷ [], integer at 0, backward at 48 [] (integer at 0) (between before) tt (nil_ended (in_integer at 0 []) (at + 1) (integer at 0) (omega arith) refl), (omega arith, tt))
complete (between (inside f fs)) g at = let r = close_within f fs at in (41 ∷ r.0, r.1, r.2, (omega arith, r.3))
complete (between (after x)) g at = ([], x, after_nil x at x refl, tt)
complete (in_bracket o fs) g at =
    let r = complete_symbol o at fs (at + 1) in
    (120 ∷ r.0, r.1, backward at 120 r.0 r.1 (in_bracket o fs) tt r.2, (omega arith, r.3))
complete (in_symbol o from fs) g at = complete_symbol o from fs at
complete (in_quotes o fs) g at =
    let r = close_all fs (quotation at o) (at + 1) in
    (34 ∷ r.0, r.1, backward at 34 r.0 r.1 (in_quotes o fs) tt (rest_put fs (quotation at o) (spot (at + 1) r.0) r.1 r.2), (omega arith, r.3))
complete (in_integer o n fs) g at =
    let r = close_all fs (integer o n) at in
    (r.0, r.1, (spot at r.0, [], run_none digit (spot at r.0), g, r.4, r.2), r.3)
