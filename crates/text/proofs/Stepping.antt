-- A byte that the grammar allows next is one that reading takes.
use Rattle.std.proofs.Common.{◌≡◌, ℕ, ◌+◌, ◌-◌, ◌*◌, ◌≤◌, true, false, cond, List, [], ◌∷◌, length, sym, refl, ap, ◌∙◌, subst, arith}
use Rattle.std.proofs.lemmas.Bool.{true≢false, le-leb}
use Rattle.text.specs.Bytes.{class, blank, plain, symbol, digit}
use Rattle.text.specs.Grammar.{Spot, Run, Byte, Ended, part, value, Term, TextFrom}
use Rattle.text.specs.Machine.{Frame, Point, before, inside, after, State, between, in_bracket, in_symbol, in_quotes, in_integer, put, closed, Step, broken, goes, begins, step_between, step_bracket, named, step_symbol, quotation, step_quotes, step_integer, step}
use Rattle.text.specs.Trees.{Tree, quoted, integer, bracket, none, more}
use Rattle.text.specs.declared.class.ByteClass.{ByteClass}
use Rattle.text.specs.declared.class.ByteClass.TheVariants.{Blank, Quote, Open, Close, Digit, Backslash, Other}
use Rattle.text.proofs.Spots.{spot, run_empty, run_head, run_tail, byte_class, byte_next, blank_only, digit_only, value_grows}
use Rattle.text.proofs.Completing.{closing, closing_grown, closing_none, After, Finish, Within, Rest, frame, Completes, rest_put, Onward}

-- The step with which a node begins.
abbrev pub start : ℕ → ℕ → List Frame → ByteClass → Step
start at b fs Blank = broken
start at b fs Quote = begins fs (in_quotes at fs)
start at b fs Open = begins fs (in_bracket at fs)
start at b fs Close = broken
start at b fs Digit = begins fs (in_integer at (b - 48) fs)
start at b fs Backslash = broken
start at b fs Other = broken

-- Two ways to write a quoted text's part, and a symbol's.
pub same_part : (x y : Spot) (w : List ℕ) (at : ℕ) → x.place ≡ at → y.place ≡ x.place + length w → part x w ≡ record { at = at; len = y.place - at }
same_part x y w at p l = let n : length w ≡ y.place - at = omega arith in rw (p, n)

module _ (at b : ℕ) (bs : List ℕ) (T : Tree) where
  abbrev pub Goes : State → Type 0
  Goes s = Completes s (spot (at + 1) bs) T

  abbrev pub here : Spot
  here = spot at (b ∷ bs)

  term_on : (fs : List Frame) (t : Tree) (m : Spot) → Term here t m → Finish fs t m T → Onward (start at b fs (class b)) Goes
  term_on fs (quoted p s) m (a, c, q, o, (mq, eq, lq), e, pe, se) fin =
      let n = byte_next Quote at b bs a o in
      let place : a.place ≡ at + 1 = ap (λ (x : Spot). x.place) n in
      let tree : quoted p s ≡ quoted at (record { at = at + 1; len = c.place - (at + 1) }) = ap (λ x. quoted x s) pe ∙ ap (quoted at) (se ∙ same_part a c q (at + 1) place lq) in
      subst (λ k. Onward (start at b fs k) Goes) (sym (byte_class Quote at b bs a o))
      (c, m, q, subst (λ x. Run plain x q c) n (mq, eq, lq), e, subst (λ x. Finish fs x m T) tree fin)
  term_on fs (integer p n) m ([], r, l, v, h, e, pe) fin = absurd (omega arith)
  term_on fs (integer p n) m (d ∷ ds, r, l, v, h, e, pe) fin =
      let k = digit_only (class b) (run_head digit at b bs ds m d r) in
      let same : d ≡ b = cc r.1 in
      let first : value 0 (d ∷ ds) ≡ value (b - 48) ds = let z : 0 * 10 + (d - 48) ≡ b - 48 = omega arith in ap (λ x. value x ds) z in
      let tree : integer p n ≡ integer at (value (b - 48) ds) = ap (λ x. integer x n) pe ∙ ap (integer at) (v ∙ first) in
      subst (λ k. Onward (start at b fs k) Goes) (sym k)
      (m, ds, run_tail digit at b bs ds m d r, subst (λ x. x ≤ 4294967295) (v ∙ first) h, e, subst (λ x. Finish fs x m T) tree fin)
  term_on fs (bracket p name ts) m (a, c, d, f, w, s, o, rb, rs, l, e, terms, cl, pe, ne) fin =
      let n = byte_next Open at b bs a o in
      let tree : bracket p name ts ≡ bracket at (part c s) ts = ap (λ x. bracket x name ts) pe ∙ ap (λ x. bracket at x ts) ne in
      subst (λ k. Onward (start at b fs k) Goes) (sym (byte_class Open at b bs a o))
      (c, d, w, s, subst (λ x. Run blank x w c) n rb, rs, l, e, (ts, f, m, terms, cl, subst (λ x. Finish fs x m T) tree fin))

  begin_before : (k : ByteClass) → Onward (start at b [] k) Goes → Onward (step_between at before b k) Goes
  begin_before Blank h = absurd h
  begin_before Quote h = h
  begin_before Open h = h
  begin_before Close h = absurd h
  begin_before Digit h = h
  begin_before Backslash h = absurd h
  begin_before Other h = absurd h

  begin_inside : (f : Frame) (fs : List Frame) (k : ByteClass) → Onward (start at b (f ∷ fs) k) Goes → Onward (step_between at (inside f fs) b k) Goes
  begin_inside f fs Blank h = absurd h
  begin_inside f fs Quote h = h
  begin_inside f fs Open h = h
  begin_inside f fs Close h = absurd h
  begin_inside f fs Digit h = h
  begin_inside f fs Backslash h = absurd h
  begin_inside f fs Other h = absurd h

  -- A blank.
  skip : (p : Point) → blank (class b) ≡ true → Goes (between p) → Onward (step_between at p b (class b)) Goes
  skip before q h = subst (λ k. Onward (step_between at before b k) Goes) (sym (blank_only (class b) q)) h
  skip (inside f fs) q h = subst (λ k. Onward (step_between at (inside f fs) b k) Goes) (sym (blank_only (class b) q)) h
  skip (after x) q h = subst (λ k. Onward (step_between at (after x) b k) Goes) (sym (blank_only (class b) q)) h

  on_before : TextFrom here T → Onward (step_between at before b (class b)) Goes
  on_before (a, m, c, [], v, r, term, rv, nil) =
      begin_before (class b) (term_on [] T m (subst (λ x. Term x T m) (run_empty blank at (b ∷ bs) a r) term) (c, v, rv, nil, refl))
  on_before (a, m, c, d ∷ w, v, r, term, rv, nil) =
      skip before (run_head blank at b bs w a d r) (a, m, c, w, v, run_tail blank at b bs w a d r, term, rv, nil)

  on_inside : (f : Frame) (fs : List Frame) → Within f fs here T → Onward (step_between at (inside f fs) b (class b)) Goes
  on_inside f fs (none, d, y, ([], r), cl, fin) =
      let c = subst (λ x. Byte Close x y) (run_empty blank at (b ∷ bs) d r) cl in
      subst (λ k. Onward (step_between at (inside f fs) b k) Goes) (sym (byte_class Close at b bs y c))
      (rest_put fs (closed f) (spot (at + 1) bs) T (subst (λ x. Finish fs x (spot (at + 1) bs) T) (closing_none f) (subst (λ x. Finish fs (closing f none) x T) (byte_next Close at b bs y c) fin)))
  on_inside f fs (none, d, y, (c ∷ w, r), cl, fin) =
      skip (inside f fs) (run_head blank at b bs w d c r) (none, d, y, (w, run_tail blank at b bs w d c r), cl, fin)
  on_inside f fs (more t ts, d, y, (a, m, [], r, term, terms), cl, fin) =
      begin_inside f fs (class b)
      (term_on (f ∷ fs) t m (subst (λ x. Term x t m) (run_empty blank at (b ∷ bs) a r) term) (ts, d, y, terms, cl, subst (λ x. Finish fs x y T) (sym (closing_grown f t ts)) fin))
  on_inside f fs (more t ts, d, y, (a, m, c ∷ w, r, term, terms), cl, fin) =
      skip (inside f fs) (run_head blank at b bs w a c r) (more t ts, d, y, (a, m, w, run_tail blank at b bs w a c r, term, terms), cl, fin)

  on_after : (x : Tree) → After x here T → Onward (step_between at (after x) b (class b)) Goes
  on_after x (c, [], r, nil, e) = let s = run_empty blank at (b ∷ bs) c r in let z : ◌≡◌ {A = ℕ} 0 1 = let q : b ∷ bs ≡ [] = ap (λ (y : Spot). y.bytes) (sym s) ∙ nil in cc in absurd (omega arith)
  on_after x (c, d ∷ v, r, nil, e) = skip (after x) (run_head blank at b bs v c d r) (c, v, run_tail blank at b bs v c d r, nil, e)

  on_point : (p : Point) → Rest p here T → Onward (step_between at p b (class b)) Goes
  on_point before h = on_before h
  on_point (inside f fs) h = on_inside f fs h
  on_point (after x) h = on_after x h

  bracket_symbol : (o : ℕ) (fs : List Frame) (k : ByteClass) → symbol k ≡ true → Goes (in_symbol o at fs) → Onward (step_bracket at o fs k) Goes
  bracket_symbol o fs Blank q h = absurd (true≢false (sym q))
  bracket_symbol o fs Quote q h = absurd (true≢false (sym q))
  bracket_symbol o fs Open q h = absurd (true≢false (sym q))
  bracket_symbol o fs Close q h = absurd (true≢false (sym q))
  bracket_symbol o fs Digit q h = h
  bracket_symbol o fs Backslash q h = h
  bracket_symbol o fs Other q h = h

  on_bracket : (o : ℕ) (fs : List Frame) → Completes (in_bracket o fs) here T → Onward (step_bracket at o fs (class b)) Goes
  on_bracket o fs (c, d, [], [], r, rs, l, e, wi) = absurd (omega arith)
  on_bracket o fs (c, d, [], x ∷ s, r, rs, l, e, wi) =
      let n = run_empty blank at (b ∷ bs) c r in
      let q = subst (λ z. Run symbol z (x ∷ s) d) n rs in
      bracket_symbol o fs (class b) (run_head symbol at b bs s d x q)
      (d, s, run_tail symbol at b bs s d x q, e, subst (λ z. Within (frame o z) fs d T) (same_part c d (x ∷ s) at (ap (λ (z : Spot). z.place) n) rs.2) wi)
  on_bracket o fs (c, d, x ∷ w, s, r, rs, l, e, wi) =
      subst (λ k. Onward (step_bracket at o fs k) Goes) (sym (blank_only (class b) (run_head blank at b bs w c x r)))
      (c, d, w, s, run_tail blank at b bs w c x r, rs, l, e, wi)

  symbol_goes : (o from : ℕ) (fs : List Frame) (k : ByteClass) → symbol k ≡ true → Goes (in_symbol o from fs) → Onward (step_symbol at o from fs b k) Goes
  symbol_goes o from fs Blank q h = absurd (true≢false (sym q))
  symbol_goes o from fs Quote q h = absurd (true≢false (sym q))
  symbol_goes o from fs Open q h = absurd (true≢false (sym q))
  symbol_goes o from fs Close q h = absurd (true≢false (sym q))
  symbol_goes o from fs Digit q h = h
  symbol_goes o from fs Backslash q h = h
  symbol_goes o from fs Other q h = h

  symbol_over : (o from : ℕ) (fs : List Frame) (k : ByteClass) → symbol k ≡ false → Onward (step_between at (named at o from fs) b k) Goes → Onward (step_symbol at o from fs b k) Goes
  symbol_over o from fs Blank q h = h
  symbol_over o from fs Quote q h = h
  symbol_over o from fs Open q h = h
  symbol_over o from fs Close q h = h
  symbol_over o from fs Digit q h = absurd (true≢false q)
  symbol_over o from fs Backslash q h = absurd (true≢false q)
  symbol_over o from fs Other q h = absurd (true≢false q)

  on_symbol : (o from : ℕ) (fs : List Frame) → Completes (in_symbol o from fs) here T → Onward (step_symbol at o from fs b (class b)) Goes
  on_symbol o from fs (c, [], r, e, wi) =
      let n = run_empty symbol at (b ∷ bs) c r in
      symbol_over o from fs (class b) (subst (λ z. Ended z.bytes) n e)
      (on_point (named at o from fs) (subst (λ z. Within (frame o (record { at = from; len = z.place - from })) fs z T) n wi))
  on_symbol o from fs (c, x ∷ s, r, e, wi) =
      symbol_goes o from fs (class b) (run_head symbol at b bs s c x r) (c, s, run_tail symbol at b bs s c x r, e, wi)

  quotes_go : (o : ℕ) (fs : List Frame) (k : ByteClass) → plain k ≡ true → Goes (in_quotes o fs) → Onward (step_quotes at o fs k) Goes
  quotes_go o fs Blank q h = h
  quotes_go o fs Quote q h = absurd (true≢false (sym q))
  quotes_go o fs Open q h = h
  quotes_go o fs Close q h = h
  quotes_go o fs Digit q h = h
  quotes_go o fs Backslash q h = absurd (true≢false (sym q))
  quotes_go o fs Other q h = h

  on_quotes : (o : ℕ) (fs : List Frame) → Completes (in_quotes o fs) here T → Onward (step_quotes at o fs (class b)) Goes
  on_quotes o fs (c, m, [], r, e, fin) =
      let n = run_empty plain at (b ∷ bs) c r in
      let q = subst (λ z. Byte Quote z m) n e in
      let f = subst (λ z. Finish fs (quoted o (record { at = o + 1; len = z.place - (o + 1) })) m T) n fin in
      subst (λ k. Onward (step_quotes at o fs k) Goes) (sym (byte_class Quote at b bs m q))
      (rest_put fs (quotation at o) (spot (at + 1) bs) T (subst (λ z. Finish fs (quotation at o) z T) (byte_next Quote at b bs m q) f))
  on_quotes o fs (c, m, x ∷ q, r, e, fin) =
      quotes_go o fs (class b) (run_head plain at b bs q c x r) (c, m, q, run_tail plain at b bs q c x r, e, fin)

  integer_over : (o n : ℕ) (fs : List Frame) (k : ByteClass) → symbol k ≡ false → Onward (step_between at (put (integer o n) fs) b k) Goes → Onward (step_integer at o n fs b k) Goes
  integer_over o n fs Blank q h = h
  integer_over o n fs Quote q h = h
  integer_over o n fs Open q h = h
  integer_over o n fs Close q h = h
  integer_over o n fs Digit q h = absurd (true≢false q)
  integer_over o n fs Backslash q h = absurd (true≢false q)
  integer_over o n fs Other q h = absurd (true≢false q)

  on_integer : (o n : ℕ) (fs : List Frame) → Completes (in_integer o n fs) here T → Onward (step_integer at o n fs b (class b)) Goes
  on_integer o n fs (y, [], r, l, e, fin) =
      let s = run_empty digit at (b ∷ bs) y r in
      integer_over o n fs (class b) (subst (λ z. Ended z.bytes) s e)
      (on_point (put (integer o n) fs) (rest_put fs (integer o n) here T (subst (λ z. Finish fs (integer o n) z T) s fin)))
  on_integer o n fs (y, d ∷ ds, r, l, e, fin) =
      let k = digit_only (class b) (run_head digit at b bs ds y d r) in
      let same : d ≡ b = cc r.1 in
      let v : value (n * 10 + (d - 48)) ds ≡ value (n * 10 + (b - 48)) ds = ap (λ x. value (n * 10 + (x - 48)) ds) same in
      let l' = subst (λ x. x ≤ 4294967295) v l in
      let g = value_grows (n * 10 + (b - 48)) ds in
      subst (λ k. Onward (step_integer at o n fs b k) Goes) (sym k)
      (subst (λ t. Onward (cond t (goes (in_integer o (n * 10 + (b - 48)) fs)) broken) Goes) (sym (le-leb (n * 10 + (b - 48)) 4294967295 (omega arith)))
      (y, ds, run_tail digit at b bs ds y d r, l', e, subst (λ x. Finish fs (integer o x) y T) v fin))

  pub onward : (s : State) → Completes s here T → Onward (step at s b) Goes
  onward (between p) h = on_point p h
  onward (in_bracket o fs) h = on_bracket o fs h
  onward (in_symbol o from fs) h = on_symbol o from fs h
  onward (in_quotes o fs) h = on_quotes o fs h
  onward (in_integer o n fs) h = on_integer o n fs h
