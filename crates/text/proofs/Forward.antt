-- A token lies ahead of where it is looked for, and within the text.
use Rattle.std.proofs.Common.{◌≡◌, ℕ, suc, ◌+◌, ◌-◌, ◌*◌, ◌<◌, ◌≤◌, Bool, true, false, cond, ◌&&◌, eqb, leb, List, [], ◌∷◌, length, drop, Ok, Err, refl, subst, inl, inr, arith, length-drop}
use Rattle.std.proofs.lemmas.List.{drop_all}
use Rattle.std.proofs.lemmas.Bool.{cases_lt}
use Rattle.text.specs.Bytes.{class, blank, plain, symbol, begins, span}
use Rattle.text.specs.Tokens.{Lexed, Read, lex, limited, token, quote_after, quote_end, opened, number, number_next}
use Rattle.text.specs.declared.class.ByteClass.{ByteClass}
use Rattle.text.specs.declared.class.ByteClass.TheVariants.{Blank, Quote, Open, Close, Digit, Backslash, Other}
use Rattle.text.specs.declared.fault.TextFault.TheVariants.{Limit, Broken}
use Rattle.text.specs.declared.token.Token.{Token}
use Rattle.text.specs.declared.token.Token.TheVariants.{Quoted as QuotedToken, Integer as IntegerToken, Open as OpenToken, Close as CloseToken}

abbrev pub place : Token → ℕ
place (QuotedToken at n) = at
place (IntegerToken at n) = at
place (OpenToken at s) = at
place (CloseToken at) = at

abbrev pub Ahead : ℕ → ℕ → Lexed → Type 0
Ahead from to (Ok p) = (from ≤ place p.0) × (place p.0 < p.1) × (p.1 ≤ to)
Ahead from to (Err e) = Unit {0}

span_short : (p : ByteClass → Bool) (bs : List ℕ) → span p bs ≤ length bs
unfolding span
span_short p [] = omega arith
span_short p (b ∷ bs) = let h = span_short p bs in elim (p (class b)) as (λ t. cond t (suc (span p bs)) 0 ≤ suc (length bs)) [ true ↦ omega arith | false ↦ omega arith ]

ahead_quote_end : (at n to : ℕ) (k : ByteClass) → at + 1 + n < to → Ahead at to (quote_end at n k)
ahead_quote_end at n to Blank h = tt
ahead_quote_end at n to Quote h = (omega arith, omega arith, omega arith)
ahead_quote_end at n to Open h = tt
ahead_quote_end at n to Close h = tt
ahead_quote_end at n to Digit h = tt
ahead_quote_end at n to Backslash h = tt
ahead_quote_end at n to Other h = tt

ahead_quote_after : (at n to : ℕ) (bs : List ℕ) → at + 1 + n + length bs ≤ to → Ahead at to (quote_after at n bs)
ahead_quote_after at n to [] h = tt
ahead_quote_after at n to (b ∷ bs) h = ahead_quote_end at n to (class b) (omega arith)

ahead_opened : (at from n to : ℕ) → at < from → from + n ≤ to → Ahead at to (opened at from n)
ahead_opened at from n to f h = go (eqb n 0)
  where
    go : (b : Bool) → Ahead at to (cond b (Err (Broken from)) (Ok (OpenToken at (record { at = from; len = n }), from + n)))
    go true = tt
    go false = (omega arith, omega arith, h)

ahead_next : (from at n m to : ℕ) (l : Lexed) (k : ByteClass) → from < at → at ≤ to → Ahead from to l → Ahead from to (number_next from at n m l k)
ahead_next from at n m to l Blank f h a = (omega arith, f, h)
ahead_next from at n m to l Quote f h a = (omega arith, f, h)
ahead_next from at n m to l Open f h a = (omega arith, f, h)
ahead_next from at n m to l Close f h a = (omega arith, f, h)
ahead_next from at n m to l Digit f h a = elim (leb m 4294967295) as (λ t. Ahead from to (cond t l (Err (Broken at)))) [ true ↦ a | false ↦ tt ]
ahead_next from at n m to l Backslash f h a = tt
ahead_next from at n m to l Other f h a = tt

ahead_number : (from at n to : ℕ) (bs : List ℕ) → from < at → at + length bs ≤ to → Ahead from to (number from at n bs)
unfolding number
ahead_number from at n to [] f h = (omega arith, f, omega arith)
ahead_number from at n to (b ∷ bs) f h =
    ahead_next from at n (n * 10 + (b - 48)) to (number from (at + 1) (n * 10 + (b - 48)) bs) (class b) f (omega arith) (ahead_number from (at + 1) (n * 10 + (b - 48)) to bs (omega arith) (omega arith))

ahead_token : (at b to : ℕ) (bs : List ℕ) → at + 1 + length bs ≤ to → (k : ByteClass) → class b ≡ k → Ahead at to (token at (b ∷ bs) k)
unfolding number
ahead_token at b to bs h Blank e = tt
ahead_token at b to bs h Quote e =
    let s = span_short plain bs in
    let d = length-drop (span plain bs) bs in
    ahead_quote_after at (span plain bs) to (drop (span plain bs) bs) (omega arith)
ahead_token at b to bs h Open e =
    let s = span_short blank bs in
    let d = length-drop (span blank bs) bs in
    let z = span_short symbol (drop (span blank bs) bs) in
    ahead_opened at (at + 1 + span blank bs) (span symbol (drop (span blank bs) bs)) to (omega arith) (omega arith)
ahead_token at b to bs h Close e = (omega arith, omega arith, omega arith)
ahead_token at b to bs h Digit e =
    rw e (elim (leb (0 * 10 + (b - 48)) 4294967295) as (λ t. Ahead at to (cond t (number at (at + 1) (0 * 10 + (b - 48)) bs) (Err (Broken at)))) [ true ↦ ahead_number at (at + 1) (0 * 10 + (b - 48)) to bs (omega arith) h | false ↦ tt ])
ahead_token at b to bs h Backslash e = tt
ahead_token at b to bs h Other e = tt

ahead_limited : (full : Bool) (from at to : ℕ) (bs : List ℕ) → from ≤ at → at + length bs ≤ to → Ahead from to (limited full at bs)
ahead_limited full from at to [] f h = tt
ahead_limited full from at to (b ∷ bs) f h = go (full && begins (class b)) (later (token at (b ∷ bs) (class b)) (ahead_token at b to bs (omega arith) (class b) refl))
  where
    later : (l : Lexed) → Ahead at to l → Ahead from to l
    later (Ok p) a = let x = a.0 in (omega arith, a.1, a.2)
    later (Err e) a = tt

    go : (c : Bool) → Ahead from to (token at (b ∷ bs) (class b)) → Ahead from to (cond c (Err (Limit at)) (token at (b ∷ bs) (class b)))
    go true a = tt
    go false a = a

pub ahead : (full : Bool) (from to : ℕ) (bs : List ℕ) → from + length bs ≤ to → Ahead from to (lex full from bs)
ahead full from to bs h =
    let s = span_short blank bs in
    let d = length-drop (span blank bs) bs in
    ahead_limited full from (from + span blank bs) to (drop (span blank bs) bs) (omega arith) (omega arith)

pub ahead_in : (full : Bool) (from : ℕ) (xs : List ℕ) → Ahead from (length xs) (lex full from (drop from xs))
unfolding span
ahead_in full from xs = elim (cases_lt (length xs) from) [
  | inl h ↦ rw (drop_all from xs (omega arith)) tt
  | inr h ↦ let d = length-drop from xs in ahead full from (length xs) (drop from xs) (omega arith)
]

pub read_ok : (old new : ℕ) (l : Lexed) (t : Token) → Read old l (Ok t) new → l ≡ Ok (t, new)
read_ok old new (Ok p) t h = let q : t ≡ p.0 = cc h.0 in rw (q, h.1)
read_ok old new (Err e) t h = let a = h.0 in cc

pub moved : (old new : ℕ) (full : Bool) (xs : List ℕ) (t : Token) → Read old (lex full old (drop old xs)) (Ok t) new → (old < new) × (new ≤ length xs)
moved old new full xs t h =
    let a = subst (Ahead old (length xs)) (read_ok old new (lex full old (drop old xs)) t h) (ahead_in full old xs) in
    let x = a.0 in
    let y = a.1 in
    (omega arith, a.2)
