-- A byte that reading takes is one that the grammar allows next.
use Rattle.std.proofs.Common.{◌≡◌, ℕ, ◌+◌, ◌-◌, ◌*◌, ◌≤◌, Bool, true, false, cond, leb, List, [], ◌∷◌, sym, refl, ap, ◌∙◌, subst, arith}
use Rattle.std.proofs.lemmas.Bool.{leb-true}
use Rattle.text.specs.Bytes.{class, blank, plain, symbol, digit}
use Rattle.text.specs.Grammar.{Spot, part, value, Term, Terms, TextFrom}
use Rattle.text.specs.Machine.{Frame, Point, before, inside, after, State, between, in_bracket, in_symbol, in_quotes, in_integer, put, closed, Step, broken, goes, begins, step_between, step_bracket, named, step_symbol, quotation, step_quotes, step_integer, step}
use Rattle.text.specs.Trees.{Tree, quoted, integer, bracket, Trees, none, more}
use Rattle.text.specs.declared.class.ByteClass.{ByteClass}
use Rattle.text.specs.declared.class.ByteClass.TheVariants.{Blank, Quote, Open, Close, Digit, Backslash, Other}
use Rattle.text.proofs.Spots.{spot, run_none, run_more, byte_make}
use Rattle.text.proofs.Completing.{closing_grown, closing_none, After, Finish, Within, Rest, frame, Completes, put_rest, Onward}
use Rattle.text.proofs.Passing.{digit_high}
use Rattle.text.proofs.Stepping.{start, same_part, Goes}

-- The value of the digits so far can still be an integer's.
abbrev pub Good : State → Type 0
Good (between p) = Unit {0}
Good (in_bracket o fs) = Unit {0}
Good (in_symbol o from fs) = Unit {0}
Good (in_quotes o fs) = Unit {0}
Good (in_integer o n fs) = n ≤ 4294967295

module _ (at b : ℕ) (bs : List ℕ) (T : Tree) where
  term_back : (fs : List Frame) (k : ByteClass) → class b ≡ k → Onward (start at b fs k) (Goes at b bs T) → (t : Tree) × (m : Spot) × Term (spot at (b ∷ bs)) t m × Finish fs t m T
  term_back fs Blank q h = absurd h
  term_back fs Quote q (c, m, w, r, e, fin) = (
    quoted at (record { at = at + 1; len = c.place - (at + 1) }),
    m,
    (spot (at + 1) bs, c, w, byte_make Quote at b bs q, r, e, refl, sym (same_part (spot (at + 1) bs) c w (at + 1) refl r.2)),
    fin,
  )
  term_back fs Open q (c, d, w, s, rb, rs, l, e, (ts, f, m, terms, cl, fin)) = (
    bracket at (part c s) ts,
    m,
    (spot (at + 1) bs, c, d, f, w, s, byte_make Open at b bs q, rb, rs, l, e, terms, cl, refl, refl),
    fin,
  )
  term_back fs Close q h = absurd h
  term_back fs Digit q (m, ds, r, l, e, fin) =
      let z : 0 * 10 + (b - 48) ≡ b - 48 = omega arith in (
        integer at (value (b - 48) ds),
        m,
        (b ∷ ds, run_more digit at b bs ds m (ap digit q) r, omega arith, ap (λ x. value x ds) (sym z), l, e, refl),
        fin,
      )
  term_back fs Backslash q h = absurd h
  term_back fs Other q h = absurd h

  begun_before : (k : ByteClass) → class b ≡ k → Onward (start at b [] k) (Goes at b bs T) → TextFrom (spot at (b ∷ bs)) T
  begun_before k q h =
      let t = term_back [] k q h in
      let f = t.3 in
      (spot at (b ∷ bs), t.1, f.0, [], f.1, run_none blank (spot at (b ∷ bs)), subst (λ x. Term (spot at (b ∷ bs)) x t.1) f.4 t.2, f.2, f.3)

  back_before : (k : ByteClass) → class b ≡ k → Onward (step_between at before b k) (Goes at b bs T) → TextFrom (spot at (b ∷ bs)) T
  back_before Blank q (a, m, c, w, v, r, term, rv, nil) = (a, m, c, b ∷ w, v, run_more blank at b bs w a (ap blank q) r, term, rv, nil)
  back_before Quote q h = begun_before Quote q h
  back_before Open q h = begun_before Open q h
  back_before Close q h = absurd h
  back_before Digit q h = begun_before Digit q h
  back_before Backslash q h = absurd h
  back_before Other q h = absurd h

  terms_blank : blank (class b) ≡ true → (ts : Trees) (d : Spot) → Terms (spot (at + 1) bs) ts d → Terms (spot at (b ∷ bs)) ts d
  terms_blank q none d (w, r) = (b ∷ w, run_more blank at b bs w d q r)
  terms_blank q (more t ts) d (a, m, w, r, term, terms) = (a, m, b ∷ w, run_more blank at b bs w a q r, term, terms)

  begun_inside : (f : Frame) (fs : List Frame) (k : ByteClass) → class b ≡ k → Onward (start at b (f ∷ fs) k) (Goes at b bs T) → Within f fs (spot at (b ∷ bs)) T
  begun_inside f fs k q h =
      let t = term_back (f ∷ fs) k q h in
      let g = t.3 in (
        more t.0 g.0,
        g.1,
        g.2,
        (spot at (b ∷ bs), t.1, [], run_none blank (spot at (b ∷ bs)), t.2, g.3),
        g.4,
        subst (λ x. Finish fs x g.2 T) (closing_grown f t.0 g.0) g.5,
      )

  back_inside : (f : Frame) (fs : List Frame) (k : ByteClass) → class b ≡ k → Onward (step_between at (inside f fs) b k) (Goes at b bs T) → Within f fs (spot at (b ∷ bs)) T
  back_inside f fs Blank q (ts, d, y, terms, cl, fin) = (ts, d, y, terms_blank (ap blank q) ts d terms, cl, fin)
  back_inside f fs Quote q h = begun_inside f fs Quote q h
  back_inside f fs Open q h = begun_inside f fs Open q h
  back_inside f fs Close q h = (
    none,
    spot at (b ∷ bs),
    spot (at + 1) bs,
    ([], run_none blank (spot at (b ∷ bs))),
    byte_make Close at b bs q,
    subst (λ x. Finish fs x (spot (at + 1) bs) T) (sym (closing_none f)) (put_rest fs (closed f) (spot (at + 1) bs) T h),
  )
  back_inside f fs Digit q h = begun_inside f fs Digit q h
  back_inside f fs Backslash q h = absurd h
  back_inside f fs Other q h = absurd h

  back_after : (x : Tree) (k : ByteClass) → class b ≡ k → Onward (step_between at (after x) b k) (Goes at b bs T) → After x (spot at (b ∷ bs)) T
  back_after x Blank q (c, v, r, nil, e) = (c, b ∷ v, run_more blank at b bs v c (ap blank q) r, nil, e)
  back_after x Quote q h = absurd h
  back_after x Open q h = absurd h
  back_after x Close q h = absurd h
  back_after x Digit q h = absurd h
  back_after x Backslash q h = absurd h
  back_after x Other q h = absurd h

  back_point : (p : Point) (k : ByteClass) → class b ≡ k → Onward (step_between at p b k) (Goes at b bs T) → Rest p (spot at (b ∷ bs)) T
  back_point before k q h = back_before k q h
  back_point (inside f fs) k q h = back_inside f fs k q h
  back_point (after x) k q h = back_after x k q h

  named_here : (o : ℕ) (fs : List Frame) → symbol (class b) ≡ true → Completes (in_symbol o at fs) (spot (at + 1) bs) T → Completes (in_bracket o fs) (spot at (b ∷ bs)) T
  named_here o fs q (c, s, r, e, wi) =
      let more_s = run_more symbol at b bs s c q r in (
        spot at (b ∷ bs),
        c,
        [],
        b ∷ s,
        run_none blank (spot at (b ∷ bs)),
        more_s,
        omega arith,
        e,
        subst (λ z. Within (frame o z) fs c T) (sym (same_part (spot at (b ∷ bs)) c (b ∷ s) at refl more_s.2)) wi,
      )

  back_bracket : (o : ℕ) (fs : List Frame) (k : ByteClass) → class b ≡ k → Onward (step_bracket at o fs k) (Goes at b bs T) → Completes (in_bracket o fs) (spot at (b ∷ bs)) T
  back_bracket o fs Blank q (c, d, w, s, r, rs, l, e, wi) = (c, d, b ∷ w, s, run_more blank at b bs w c (ap blank q) r, rs, l, e, wi)
  back_bracket o fs Quote q h = absurd h
  back_bracket o fs Open q h = absurd h
  back_bracket o fs Close q h = absurd h
  back_bracket o fs Digit q h = named_here o fs (ap symbol q) h
  back_bracket o fs Backslash q h = named_here o fs (ap symbol q) h
  back_bracket o fs Other q h = named_here o fs (ap symbol q) h

  symbol_goes_back : (o from : ℕ) (fs : List Frame) → symbol (class b) ≡ true → Completes (in_symbol o from fs) (spot (at + 1) bs) T → Completes (in_symbol o from fs) (spot at (b ∷ bs)) T
  symbol_goes_back o from fs q (c, s, r, e, wi) = (c, b ∷ s, run_more symbol at b bs s c q r, e, wi)

  symbol_ended : (o from : ℕ) (fs : List Frame) (k : ByteClass) → class b ≡ k → symbol k ≡ false → Onward (step_between at (named at o from fs) b k) (Goes at b bs T) → Completes (in_symbol o from fs) (spot at (b ∷ bs)) T
  symbol_ended o from fs k q n h = (spot at (b ∷ bs), [], run_none symbol (spot at (b ∷ bs)), ap symbol q ∙ n, back_point (named at o from fs) k q h)

  back_symbol : (o from : ℕ) (fs : List Frame) (k : ByteClass) → class b ≡ k → Onward (step_symbol at o from fs b k) (Goes at b bs T) → Completes (in_symbol o from fs) (spot at (b ∷ bs)) T
  back_symbol o from fs Blank q h = symbol_ended o from fs Blank q refl h
  back_symbol o from fs Quote q h = symbol_ended o from fs Quote q refl h
  back_symbol o from fs Open q h = symbol_ended o from fs Open q refl h
  back_symbol o from fs Close q h = symbol_ended o from fs Close q refl h
  back_symbol o from fs Digit q h = symbol_goes_back o from fs (ap symbol q) h
  back_symbol o from fs Backslash q h = symbol_goes_back o from fs (ap symbol q) h
  back_symbol o from fs Other q h = symbol_goes_back o from fs (ap symbol q) h

  quotes_go_back : (o : ℕ) (fs : List Frame) → plain (class b) ≡ true → Completes (in_quotes o fs) (spot (at + 1) bs) T → Completes (in_quotes o fs) (spot at (b ∷ bs)) T
  quotes_go_back o fs q (c, m, w, r, e, fin) = (c, m, b ∷ w, run_more plain at b bs w c q r, e, fin)

  back_quotes : (o : ℕ) (fs : List Frame) (k : ByteClass) → class b ≡ k → Onward (step_quotes at o fs k) (Goes at b bs T) → Completes (in_quotes o fs) (spot at (b ∷ bs)) T
  back_quotes o fs Blank q h = quotes_go_back o fs (ap plain q) h
  back_quotes o fs Quote q h = (spot at (b ∷ bs), spot (at + 1) bs, [], run_none plain (spot at (b ∷ bs)), byte_make Quote at b bs q, put_rest fs (quotation at o) (spot (at + 1) bs) T h)
  back_quotes o fs Open q h = quotes_go_back o fs (ap plain q) h
  back_quotes o fs Close q h = quotes_go_back o fs (ap plain q) h
  back_quotes o fs Digit q h = quotes_go_back o fs (ap plain q) h
  back_quotes o fs Backslash q h = absurd h
  back_quotes o fs Other q h = quotes_go_back o fs (ap plain q) h

  integer_ended : (o n : ℕ) (fs : List Frame) → n ≤ 4294967295 → (k : ByteClass) → class b ≡ k → symbol k ≡ false → Onward (step_between at (put (integer o n) fs) b k) (Goes at b bs T) → Completes (in_integer o n fs) (spot at (b ∷ bs)) T
  integer_ended o n fs g k q s h = (spot at (b ∷ bs), [], run_none digit (spot at (b ∷ bs)), g, ap symbol q ∙ s, put_rest fs (integer o n) (spot at (b ∷ bs)) T (back_point (put (integer o n) fs) k q h))

  back_integer : (o n : ℕ) (fs : List Frame) → n ≤ 4294967295 → (k : ByteClass) → class b ≡ k → Onward (step_integer at o n fs b k) (Goes at b bs T) → Completes (in_integer o n fs) (spot at (b ∷ bs)) T
  back_integer o n fs g Blank q h = integer_ended o n fs g Blank q refl h
  back_integer o n fs g Quote q h = integer_ended o n fs g Quote q refl h
  back_integer o n fs g Open q h = integer_ended o n fs g Open q refl h
  back_integer o n fs g Close q h = integer_ended o n fs g Close q refl h
  back_integer o n fs g Digit q h = go (leb (n * 10 + (b - 48)) 4294967295) h
    where
      go : (t : Bool) → Onward (cond t (goes (in_integer o (n * 10 + (b - 48)) fs)) broken) (Goes at b bs T) → Completes (in_integer o n fs) (spot at (b ∷ bs)) T
      go true (y, ds, r, l, e, fin) = (y, b ∷ ds, run_more digit at b bs ds y (ap digit q) r, l, e, fin)
      go false x = absurd x
  back_integer o n fs g Backslash q h = absurd h
  back_integer o n fs g Other q h = absurd h

  pub backward : (s : State) → Good s → Onward (step at s b) (Goes at b bs T) → Completes s (spot at (b ∷ bs)) T
  backward (between p) g h = back_point p (class b) refl h
  backward (in_bracket o fs) g h = back_bracket o fs (class b) refl h
  backward (in_symbol o from fs) g h = back_symbol o from fs (class b) refl h
  backward (in_quotes o fs) g h = back_quotes o fs (class b) refl h
  backward (in_integer o n fs) g h = back_integer o n fs g (class b) refl h

-- A state that is no integer's is good, and so is an integer's that a step leads to.
abbrev pub EveryWay : Step → (State → Type 0) → Type 0
EveryWay broken K = Unit {0}
EveryWay (goes s) K = K s
EveryWay (begins fs s) K = K s

good_put : (t : Tree) (fs : List Frame) → Good (between (put t fs))
good_put t [] = tt
good_put t (f ∷ fs) = tt

good_point : (at b : ℕ) (p : Point) (k : ByteClass) → class b ≡ k → EveryWay (step_between at p b k) Good
good_point at b before Blank q = tt
good_point at b before Quote q = tt
good_point at b before Open q = tt
good_point at b before Close q = tt
good_point at b before Digit q = let h = digit_high b q in omega arith
good_point at b before Backslash q = tt
good_point at b before Other q = tt
good_point at b (inside f fs) Blank q = tt
good_point at b (inside f fs) Quote q = tt
good_point at b (inside f fs) Open q = tt
good_point at b (inside f fs) Close q = good_put (closed f) fs
good_point at b (inside f fs) Digit q = let h = digit_high b q in omega arith
good_point at b (inside f fs) Backslash q = tt
good_point at b (inside f fs) Other q = tt
good_point at b (after x) Blank q = tt
good_point at b (after x) Quote q = tt
good_point at b (after x) Open q = tt
good_point at b (after x) Close q = tt
good_point at b (after x) Digit q = tt
good_point at b (after x) Backslash q = tt
good_point at b (after x) Other q = tt

good_bracket : (at o : ℕ) (fs : List Frame) (k : ByteClass) → EveryWay (step_bracket at o fs k) Good
good_bracket at o fs Blank = tt
good_bracket at o fs Quote = tt
good_bracket at o fs Open = tt
good_bracket at o fs Close = tt
good_bracket at o fs Digit = tt
good_bracket at o fs Backslash = tt
good_bracket at o fs Other = tt

good_symbol : (at b o from : ℕ) (fs : List Frame) (k : ByteClass) → class b ≡ k → EveryWay (step_symbol at o from fs b k) Good
good_symbol at b o from fs Blank q = good_point at b (named at o from fs) Blank q
good_symbol at b o from fs Quote q = good_point at b (named at o from fs) Quote q
good_symbol at b o from fs Open q = good_point at b (named at o from fs) Open q
good_symbol at b o from fs Close q = good_point at b (named at o from fs) Close q
good_symbol at b o from fs Digit q = tt
good_symbol at b o from fs Backslash q = tt
good_symbol at b o from fs Other q = tt

good_quotes : (at o : ℕ) (fs : List Frame) (k : ByteClass) → EveryWay (step_quotes at o fs k) Good
good_quotes at o fs Blank = tt
good_quotes at o fs Quote = good_put (quotation at o) fs
good_quotes at o fs Open = tt
good_quotes at o fs Close = tt
good_quotes at o fs Digit = tt
good_quotes at o fs Backslash = tt
good_quotes at o fs Other = tt

good_integer : (at b o n : ℕ) (fs : List Frame) (k : ByteClass) → class b ≡ k → EveryWay (step_integer at o n fs b k) Good
good_integer at b o n fs Blank q = good_point at b (put (integer o n) fs) Blank q
good_integer at b o n fs Quote q = good_point at b (put (integer o n) fs) Quote q
good_integer at b o n fs Open q = good_point at b (put (integer o n) fs) Open q
good_integer at b o n fs Close q = good_point at b (put (integer o n) fs) Close q
good_integer at b o n fs Digit q = go (leb (n * 10 + (b - 48)) 4294967295) refl
  where
    go : (t : Bool) → leb (n * 10 + (b - 48)) 4294967295 ≡ t → EveryWay (cond t (goes (in_integer o (n * 10 + (b - 48)) fs)) broken) Good
    go true e = leb-true (n * 10 + (b - 48)) 4294967295 e
    go false e = tt
good_integer at b o n fs Backslash q = tt
good_integer at b o n fs Other q = tt

pub good_step : (at b : ℕ) (s : State) → EveryWay (step at s b) Good
good_step at b (between p) = good_point at b p (class b) refl
good_step at b (in_bracket o fs) = good_bracket at o fs (class b)
good_step at b (in_symbol o from fs) = good_symbol at b o from fs (class b) refl
good_step at b (in_quotes o fs) = good_quotes at o fs (class b)
good_step at b (in_integer o n fs) = good_integer at b o n fs (class b) refl
