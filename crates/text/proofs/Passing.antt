-- A token takes the machine as far as its bytes do, one by one.
use Rattle.std.proofs.Common.{◌≡◌, ℕ, suc, ◌+◌, ◌-◌, ◌*◌, ◌≤◌, Bool, true, false, cond, ◌&&◌, ◌||◌, eqb, leb, List, [], ◌∷◌, drop, Ok, Err, Result, sym, refl, ap, ◌∙◌, subst, add-zero, arith, drop-drop}
use Rattle.std.proofs.lemmas.Bool.{true≢false, ne_eqb, le-leb, and_parts, leb-true}
use Rattle.text.specs.Bytes.{class, blank, plain, symbol, begins as begins_node, span}
use Rattle.text.specs.Tokens.{Lexed, lex, limited, token, quoted as lex_quoted, quote_after, quote_end, opening, opened, number, number_next}
use Rattle.text.specs.Trees.{Tree, integer}
use Rattle.text.specs.Machine.{Frame, Point, before, inside, after, State, between, in_bracket, in_symbol, in_quotes, in_integer, put, closed, broken, goes, step_between, step_bracket, named, step_symbol, step_quotes, step_integer, step, finish, follow, run}
use Rattle.text.specs.Standing.{level, turn}
use Rattle.text.specs.declared.class.ByteClass.{ByteClass}
use Rattle.text.specs.declared.class.ByteClass.TheVariants.{Blank, Quote, Open, Close, Digit, Backslash, Other}
use Rattle.text.specs.declared.fault.TextFault.{TextFault}
use Rattle.text.specs.declared.fault.TextFault.TheVariants.{Limit, Broken}
use Rattle.text.specs.declared.token.Token.TheVariants.{Close as CloseToken}

-- Where a run of bytes stops, the next byte is none of them.
pub stops : (p : ByteClass → Bool) (bs : List ℕ) (b : ℕ) (rest : List ℕ) → drop (span p bs) bs ≡ b ∷ rest → p (class b) ≡ false
unfolding span
stops p [] b rest e = let z : ◌≡◌ {A = ℕ} 0 1 = cc in absurd (omega arith)
stops p (c ∷ cs) b rest e = go (p (class c)) refl e (stops p cs b rest)
  where
    go : (t : Bool) → p (class c) ≡ t → drop (cond t (suc (span p cs)) 0) (c ∷ cs) ≡ b ∷ rest → (drop (span p cs) cs ≡ b ∷ rest → p (class b) ≡ false) → p (class b) ≡ false
    go true q d ih = ih d
    go false q d ih = let s : c ≡ b = cc in subst (λ x. p (class x) ≡ false) s q

pub tail_at : (b : ℕ) (ys : List ℕ) (m : ℕ) (xs : List ℕ) → b ∷ ys ≡ drop m xs → ys ≡ drop (m + 1) xs
tail_at b ys m xs e = ap (drop 1) e ∙ drop-drop 1 m xs

pub digit_high : (b : ℕ) → class b ≡ Digit → b ≤ 57
digit_high b e = leb-true b 57 (and_parts (leb 48 b) (leb b 57) (go (eqb b 32 || (eqb b 9 || (eqb b 13 || eqb b 10))) (eqb b 34) (eqb b 40) (eqb b 41) (leb 48 b && leb b 57) (eqb b 92) e)).1
  where
    go : (t u v w x y : Bool) → cond t Blank (cond u Quote (cond v Open (cond w Close (cond x Digit (cond y Backslash Other))))) ≡ Digit → x ≡ true
    go true u v w x y e = let z : ◌≡◌ {A = ℕ} 0 1 = cc in absurd (omega arith)
    go false true v w x y e = let z : ◌≡◌ {A = ℕ} 0 1 = cc in absurd (omega arith)
    go false false true w x y e = let z : ◌≡◌ {A = ℕ} 0 1 = cc in absurd (omega arith)
    go false false false true x y e = let z : ◌≡◌ {A = ℕ} 0 1 = cc in absurd (omega arith)
    go false false false false true y e = refl
    go false false false false false true e = let z : ◌≡◌ {A = ℕ} 0 1 = cc in absurd (omega arith)
    go false false false false false false e = let z : ◌≡◌ {A = ℕ} 0 1 = cc in absurd (omega arith)

module _ (full : List Frame → Bool) where
  -- Bytes that leave the state as it is.
  pub stay : (s : State) (p : ByteClass → Bool) → ((at b : ℕ) → p (class b) ≡ true → step at s b ≡ goes s) → (at : ℕ) (bs : List ℕ) → run full at s bs ≡ run full (at + span p bs) s (drop (span p bs) bs)
  unfolding run span
  stay s p f at [] = ap (λ a. finish a s) (sym (add-zero at))
  stay s p f at (b ∷ bs) = go (p (class b)) refl (stay s p f (at + 1) bs)
    where
      go : (t : Bool) → p (class b) ≡ t → run full (at + 1) s bs ≡ run full (at + 1 + span p bs) s (drop (span p bs) bs) → run full at s (b ∷ bs) ≡ run full (at + cond t (suc (span p bs)) 0) s (drop (cond t (suc (span p bs)) 0) (b ∷ bs))
      go true q ih =
          let m : at + 1 + span p bs ≡ at + suc (span p bs) = omega arith in
          ap (λ z. follow full at z (λ s'. run full (at + 1) s' bs)) (f at b q) ∙ ih ∙ ap (λ a. run full a s (drop (span p bs) bs)) m
      go false q ih = ap (λ a. run full a s (b ∷ bs)) (sym (add-zero at))

  -- Reading goes on after a token.
  abbrev pub on_point : List ℕ → ℕ → Result Point TextFault → Result Tree TextFault
  on_point xs end (Ok p) = run full end (between p) (drop end xs)
  on_point xs end (Err e) = Err e

  abbrev pub carry : List ℕ → List Frame → Lexed → Result Tree TextFault
  carry xs fs (Ok q) = on_point xs q.1 (turn fs q.0)
  carry xs fs (Err e) = Err e

  module _ (xs : List ℕ) (fs : List Frame) where
    quotes_end : (o n : ℕ) (ys : List ℕ) → ys ≡ drop (o + 1 + n) xs → ((b : ℕ) (rest : List ℕ) → ys ≡ b ∷ rest → plain (class b) ≡ false) → run full (o + 1 + n) (in_quotes o fs) ys ≡ carry xs fs (quote_after o n ys)
    unfolding run
    quotes_end o n [] e h = refl
    quotes_end o n (b ∷ ys) e h = byte (class b) (h b ys refl)
      where
        byte : (k : ByteClass) → plain k ≡ false → follow full (o + 1 + n) (step_quotes (o + 1 + n) o fs k) (λ s'. run full (o + 1 + n + 1) s' ys) ≡ carry xs fs (quote_end o n k)
        byte Blank q = absurd (true≢false q)
        byte Quote q =
            let m : o + 1 + n - (o + 1) ≡ n = omega arith in
            rw (m, tail_at b ys (o + 1 + n) xs e)
        byte Open q = absurd (true≢false q)
        byte Close q = absurd (true≢false q)
        byte Digit q = absurd (true≢false q)
        byte Backslash q = refl
        byte Other q = absurd (true≢false q)

    stay_quotes : (o at b : ℕ) (k : ByteClass) → plain k ≡ true → step_quotes at o fs k ≡ goes (in_quotes o fs)
    stay_quotes o at b Blank q = refl
    stay_quotes o at b Quote q = absurd (true≢false (sym q))
    stay_quotes o at b Open q = refl
    stay_quotes o at b Close q = refl
    stay_quotes o at b Digit q = refl
    stay_quotes o at b Backslash q = absurd (true≢false (sym q))
    stay_quotes o at b Other q = refl

    quotes : (o : ℕ) (bs : List ℕ) → bs ≡ drop (o + 1) xs → run full (o + 1) (in_quotes o fs) bs ≡ carry xs fs (lex_quoted o bs)
    quotes o bs e =
        stay (in_quotes o fs) plain (λ at b q. stay_quotes o at b (class b) q) (o + 1) bs
        ∙ quotes_end o (span plain bs) (drop (span plain bs) bs) (ap (drop (span plain bs)) e ∙ drop-drop (span plain bs) (o + 1) xs) (stops plain bs)

    leave_symbol : (o from at : ℕ) (zs : List ℕ) → ((b : ℕ) (rest : List ℕ) → zs ≡ b ∷ rest → symbol (class b) ≡ false) → run full at (in_symbol o from fs) zs ≡ run full at (between (named at o from fs)) zs
    unfolding run
    leave_symbol o from at [] h = refl
    leave_symbol o from at (b ∷ zs) h = byte (class b) (h b zs refl)
      where
        byte : (k : ByteClass) → symbol k ≡ false → follow full at (step_symbol at o from fs b k) (λ s'. run full (at + 1) s' zs) ≡ follow full at (step_between at (named at o from fs) b k) (λ s'. run full (at + 1) s' zs)
        byte Blank q = refl
        byte Quote q = refl
        byte Open q = refl
        byte Close q = refl
        byte Digit q = absurd (true≢false q)
        byte Backslash q = absurd (true≢false q)
        byte Other q = absurd (true≢false q)

    stay_symbol : (o from at b : ℕ) (k : ByteClass) → symbol k ≡ true → step_symbol at o from fs b k ≡ goes (in_symbol o from fs)
    stay_symbol o from at b Blank q = absurd (true≢false (sym q))
    stay_symbol o from at b Quote q = absurd (true≢false (sym q))
    stay_symbol o from at b Open q = absurd (true≢false (sym q))
    stay_symbol o from at b Close q = absurd (true≢false (sym q))
    stay_symbol o from at b Digit q = refl
    stay_symbol o from at b Backslash q = refl
    stay_symbol o from at b Other q = refl

    name_rest : (o from : ℕ) (ys : List ℕ) → ys ≡ drop (from + 1) xs → run full (from + 1) (in_symbol o from fs) ys ≡ carry xs fs (opened o from (suc (span symbol ys)))
    name_rest o from ys e =
        let n = span symbol ys in
        let m : from + 1 + span symbol ys - from ≡ suc (span symbol ys) = omega arith in
        let w : from + 1 + span symbol ys ≡ from + suc (span symbol ys) = omega arith in
        let d : drop (span symbol ys) ys ≡ drop (from + suc (span symbol ys)) xs = ap (drop (span symbol ys)) e ∙ drop-drop (span symbol ys) (from + 1) xs ∙ ap (λ z. drop z xs) w in
        stay (in_symbol o from fs) symbol (λ at b q. stay_symbol o from at b (class b) q) (from + 1) ys
        ∙ leave_symbol o from (from + 1 + span symbol ys) (drop (span symbol ys) ys) (stops symbol ys)
        ∙ rw (ne_eqb (suc (span symbol ys)) 0 (λ z. omega arith), m, w, d)

    name_start : (o from : ℕ) (ys : List ℕ) → ys ≡ drop from xs → ((b : ℕ) (rest : List ℕ) → ys ≡ b ∷ rest → blank (class b) ≡ false) → run full from (in_bracket o fs) ys ≡ carry xs fs (opened o from (span symbol ys))
    unfolding run span
    name_start o from [] e h = refl
    name_start o from (b ∷ ys) e h = byte (class b) (h b ys refl) (name_rest o from ys (tail_at b ys from xs e))
      where
        byte : (k : ByteClass) → blank k ≡ false → run full (from + 1) (in_symbol o from fs) ys ≡ carry xs fs (opened o from (suc (span symbol ys))) → follow full from (step_bracket from o fs k) (λ s'. run full (from + 1) s' ys) ≡ carry xs fs (opened o from (cond (symbol k) (suc (span symbol ys)) 0))
        byte Blank q r = absurd (true≢false q)
        byte Quote q r = refl
        byte Open q r = refl
        byte Close q r = refl
        byte Digit q r = r
        byte Backslash q r = r
        byte Other q r = r

    stay_bracket : (o at b : ℕ) (k : ByteClass) → blank k ≡ true → step_bracket at o fs k ≡ goes (in_bracket o fs)
    stay_bracket o at b Blank q = refl
    stay_bracket o at b Quote q = absurd (true≢false (sym q))
    stay_bracket o at b Open q = absurd (true≢false (sym q))
    stay_bracket o at b Close q = absurd (true≢false (sym q))
    stay_bracket o at b Digit q = absurd (true≢false (sym q))
    stay_bracket o at b Backslash q = absurd (true≢false (sym q))
    stay_bracket o at b Other q = absurd (true≢false (sym q))

    name : (o : ℕ) (bs : List ℕ) → bs ≡ drop (o + 1) xs → run full (o + 1) (in_bracket o fs) bs ≡ carry xs fs (opening o bs)
    name o bs e =
        stay (in_bracket o fs) blank (λ at b q. stay_bracket o at b (class b) q) (o + 1) bs
        ∙ name_start o (o + 1 + span blank bs) (drop (span blank bs) bs) (ap (drop (span blank bs)) e ∙ drop-drop (span blank bs) (o + 1) xs) (stops blank bs)

    digits : (o at n : ℕ) (bs : List ℕ) → bs ≡ drop at xs → run full at (in_integer o n fs) bs ≡ carry xs fs (number o at n bs)
    unfolding run number
    digits o at n [] e = ap (run full at (between (put (integer o n) fs))) e
    digits o at n (b ∷ bs) e = byte (class b) refl (digits o (at + 1) (n * 10 + (b - 48)) bs (tail_at b bs at xs e))
      where
        over : (k : ByteClass) → class b ≡ k → follow full at (step_between at (put (integer o n) fs) b k) (λ s'. run full (at + 1) s' bs) ≡ run full at (between (put (integer o n) fs)) (drop at xs)
        over k q = ap (λ z. follow full at (step_between at (put (integer o n) fs) b z) (λ s'. run full (at + 1) s' bs)) (sym q) ∙ ap (run full at (between (put (integer o n) fs))) e

        byte : (k : ByteClass) → class b ≡ k → run full (at + 1) (in_integer o (n * 10 + (b - 48)) fs) bs ≡ carry xs fs (number o (at + 1) (n * 10 + (b - 48)) bs) → follow full at (step_integer at o n fs b k) (λ s'. run full (at + 1) s' bs) ≡ carry xs fs (number_next o at n (n * 10 + (b - 48)) (number o (at + 1) (n * 10 + (b - 48)) bs) k)
        byte Blank q ih = over Blank q
        byte Quote q ih = over Quote q
        byte Open q ih = over Open q
        byte Close q ih = over Close q
        byte Digit q ih = elim (leb (n * 10 + (b - 48)) 4294967295) as (λ t. follow full at (cond t (goes (in_integer o (n * 10 + (b - 48)) fs)) broken) (λ s'. run full (at + 1) s' bs) ≡ carry xs fs (cond t (number o (at + 1) (n * 10 + (b - 48)) bs) (Err (Broken at)))) [ true ↦ ih | false ↦ refl ]
        byte Backslash q ih = refl
        byte Other q ih = refl

    first_digit : (at b : ℕ) (bs : List ℕ) → bs ≡ drop (at + 1) xs → class b ≡ Digit → run full (at + 1) (in_integer at (b - 48) fs) bs ≡ carry xs fs (number at at 0 (b ∷ bs))
    unfolding number
    first_digit at b bs e q =
        let h = digit_high b q in
        let z : 0 * 10 + (b - 48) ≡ b - 48 = omega arith in
        digits at (at + 1) (b - 48) bs e ∙ rw (q, z, le-leb (b - 48) 4294967295 (omega arith))

    passes : (t : Bool) (at : ℕ) (r : Result Tree TextFault) (l : Lexed) → r ≡ carry xs fs l → cond t (Err (Limit at)) r ≡ carry xs fs (cond (t && true) (Err (Limit at)) l)
    passes true at r l e = refl
    passes false at r l e = e

    no_node : (t : Bool) (at : ℕ) (r : Result Tree TextFault) (l : Lexed) → r ≡ carry xs fs l → r ≡ carry xs fs (cond (t && false) (Err (Limit at)) l)
    no_node true at r l e = e
    no_node false at r l e = e

  stay_between : (p : Point) (at b : ℕ) (k : ByteClass) → blank k ≡ true → step_between at p b k ≡ goes (between p)
  stay_between before at b Blank q = refl
  stay_between (inside f fs) at b Blank q = refl
  stay_between (after t) at b Blank q = refl
  stay_between p at b Quote q = absurd (true≢false (sym q))
  stay_between p at b Open q = absurd (true≢false (sym q))
  stay_between p at b Close q = absurd (true≢false (sym q))
  stay_between p at b Digit q = absurd (true≢false (sym q))
  stay_between p at b Backslash q = absurd (true≢false (sym q))
  stay_between p at b Other q = absurd (true≢false (sym q))

  pub stay_blank : (p : Point) (at : ℕ) (bs : List ℕ) → run full at (between p) bs ≡ run full (at + span blank bs) (between p) (drop (span blank bs) bs)
  stay_blank p at bs = stay (between p) blank (λ a b q. stay_between p a b (class b) q) at bs

  first_byte : (xs : List ℕ) (fs : List Frame) (at b : ℕ) (bs : List ℕ) → bs ≡ drop (at + 1) xs → (k : ByteClass) → class b ≡ k → blank k ≡ false → follow full at (step_between at (level fs) b k) (λ s'. run full (at + 1) s' bs) ≡ carry xs fs (cond (full fs && begins_node k) (Err (Limit at)) (token at (b ∷ bs) k))
  first_byte xs fs at b bs e Blank q h = absurd (true≢false h)
  first_byte xs [] at b bs e Quote q h = passes xs [] (full []) at _ _ (quotes xs [] at bs e)
  first_byte xs (f ∷ fs) at b bs e Quote q h = passes xs (f ∷ fs) (full (f ∷ fs)) at _ _ (quotes xs (f ∷ fs) at bs e)
  first_byte xs [] at b bs e Open q h = passes xs [] (full []) at _ _ (name xs [] at bs e)
  first_byte xs (f ∷ fs) at b bs e Open q h = passes xs (f ∷ fs) (full (f ∷ fs)) at _ _ (name xs (f ∷ fs) at bs e)
  first_byte xs [] at b bs e Digit q h = passes xs [] (full []) at _ _ (first_digit xs [] at b bs e q)
  first_byte xs (f ∷ fs) at b bs e Digit q h = passes xs (f ∷ fs) (full (f ∷ fs)) at _ _ (first_digit xs (f ∷ fs) at b bs e q)
  first_byte xs [] at b bs e Close q h = no_node xs [] (full []) at (Err (Broken at)) (Ok (CloseToken at, at + 1)) refl
  first_byte xs (f ∷ fs) at b bs e Close q h = no_node xs (f ∷ fs) (full (f ∷ fs)) at (run full (at + 1) (between (put (closed f) fs)) bs) (Ok (CloseToken at, at + 1)) (ap (run full (at + 1) (between (put (closed f) fs))) e)
  first_byte xs [] at b bs e Backslash q h = no_node xs [] (full []) at (Err (Broken at)) (Err (Broken at)) refl
  first_byte xs (f ∷ fs) at b bs e Backslash q h = no_node xs (f ∷ fs) (full (f ∷ fs)) at (Err (Broken at)) (Err (Broken at)) refl
  first_byte xs [] at b bs e Other q h = no_node xs [] (full []) at (Err (Broken at)) (Err (Broken at)) refl
  first_byte xs (f ∷ fs) at b bs e Other q h = no_node xs (f ∷ fs) (full (f ∷ fs)) at (Err (Broken at)) (Err (Broken at)) refl

  first_bytes : (xs : List ℕ) (fs : List Frame) (at : ℕ) (bs : List ℕ) → bs ≡ drop at xs → ((b : ℕ) (rest : List ℕ) → bs ≡ b ∷ rest → blank (class b) ≡ false) → run full at (between (level fs)) bs ≡ carry xs fs (limited (full fs) at bs)
  unfolding run
  first_bytes xs [] at [] e h = refl
  first_bytes xs (f ∷ fs) at [] e h = refl
  first_bytes xs fs at (b ∷ bs) e h = first_byte xs fs at b bs (tail_at b bs at xs e) (class b) refl (h b bs refl)

  -- The token that the definition gives takes the machine from between two tokens to where it goes on.
  pub one_token : (xs : List ℕ) (fs : List Frame) (at : ℕ) → run full at (between (level fs)) (drop at xs) ≡ carry xs fs (lex (full fs) at (drop at xs))
  one_token xs fs at =
      stay_blank (level fs) at (drop at xs)
      ∙ first_bytes xs fs (at + span blank (drop at xs)) (drop (span blank (drop at xs)) (drop at xs)) (drop-drop (span blank (drop at xs)) at xs) (stops blank (drop at xs))
