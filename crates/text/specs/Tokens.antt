-- The token at the front of some bytes, whose first stands at `at`, and where it ends; or the fault.
use Rattle.std.specs.Prelude.{◌≡◌, ℕ, ◌+◌, ◌-◌, ◌*◌, Bool, cond, ◌&&◌, List, [], ◌∷◌, drop, Some, None, Ok, Err, Option, Result, ◌==◌, nat_le}
use Rattle.text.specs.Bytes.{class, blank, plain, symbol, begins, span}
use Rattle.text.specs.declared.class.ByteClass.{ByteClass}
use Rattle.text.specs.declared.class.ByteClass.TheVariants.{Blank, Quote, Open, Close, Digit, Backslash, Other}
use Rattle.text.specs.declared.fault.TextFault.{TextFault}
use Rattle.text.specs.declared.fault.TextFault.TheVariants.{Limit, Broken}
use Rattle.text.specs.declared.token.Token.{Token}
use Rattle.text.specs.declared.token.Token.TheVariants.{Quoted as QuotedToken, Integer as IntegerToken, Open as OpenToken, Close as CloseToken}

abbrev pub Lexed : Type 0
Lexed = Result (Token × ℕ) TextFault

-- After the bytes between the quotes, `len` many, whose first quote stands at `at`: the other quote.
abbrev pub quote_end : ℕ → ℕ → ByteClass → Lexed
quote_end at len Quote = Ok (QuotedToken at (record { at = at + 1; len = len }), at + 1 + len + 1)
quote_end at len Blank = Err (Broken (at + 1 + len))
quote_end at len Open = Err (Broken (at + 1 + len))
quote_end at len Close = Err (Broken (at + 1 + len))
quote_end at len Digit = Err (Broken (at + 1 + len))
quote_end at len Backslash = Err (Broken (at + 1 + len))
quote_end at len Other = Err (Broken (at + 1 + len))

abbrev pub quote_after : ℕ → ℕ → List ℕ → Lexed
quote_after at len [] = Err (Broken (at + 1 + len))
quote_after at len (b ∷ bs) = quote_end at len (class b)

-- The bytes after a first quote at `at`.
abbrev pub quoted : ℕ → List ℕ → Lexed
quoted at bs = quote_after at (span plain bs) (drop (span plain bs) bs)

-- A symbol at `from`, of `len` bytes, in a bracket that opens at `at`: it has one byte or more.
abbrev pub opened : ℕ → ℕ → ℕ → Lexed
opened at from len = cond (len == 0) (Err (Broken from)) (Ok (OpenToken at (record { at = from; len = len }), from + len))

-- The bytes after an opening bracket at `at`.
abbrev pub opening : ℕ → List ℕ → Lexed
opening at bs = opened at (at + 1 + span blank bs) (span symbol (drop (span blank bs) bs))

-- The value `n` with one digit more, if an integer may have it.
abbrev pub longer : ℕ → ℕ → Option ℕ
longer n b = cond (nat_le (n * 10 + (b - 48)) 4294967295) (Some (n * 10 + (b - 48))) None

-- A byte after the digits before `at` of an integer that begins at `from`, whose value is `n`, or `m` with this byte as a digit.
abbrev pub number_next : ℕ → ℕ → ℕ → ℕ → Lexed → ByteClass → Lexed
number_next from at n m rest Digit = cond (nat_le m 4294967295) rest (Err (Broken at))
number_next from at n m rest Backslash = Err (Broken at)
number_next from at n m rest Other = Err (Broken at)
number_next from at n m rest Blank = Ok (IntegerToken from n, at)
number_next from at n m rest Quote = Ok (IntegerToken from n, at)
number_next from at n m rest Open = Ok (IntegerToken from n, at)
number_next from at n m rest Close = Ok (IntegerToken from n, at)

-- The bytes from `at` on of an integer that begins at `from`, whose digits before `at` have the value `n`.
unfoldable pub number : ℕ → ℕ → ℕ → List ℕ → Lexed
number from at n [] = Ok (IntegerToken from n, at)
number from at n (b ∷ bs) =
    number_next from at n (n * 10 + (b - 48)) (number from (at + 1) (n * 10 + (b - 48)) bs) (class b)

-- Bytes that begin at `at` with a token, whose first byte has this class.
abbrev pub token : ℕ → List ℕ → ByteClass → Lexed
token at bs Quote = quoted at (drop 1 bs)
token at bs Open = opening at (drop 1 bs)
token at bs Digit = number at at 0 bs
token at bs Close = Ok (CloseToken at, at + 1)
token at bs Blank = Err (Broken at)
token at bs Backslash = Err (Broken at)
token at bs Other = Err (Broken at)

-- Where `full`, a node passes a limit.
abbrev pub limited : Bool → ℕ → List ℕ → Lexed
limited full at [] = Err (Broken at)
limited full at (b ∷ bs) = cond (full && begins (class b)) (Err (Limit at)) (token at (b ∷ bs) (class b))

-- Blanks before a token are free.
abbrev pub lex : Bool → ℕ → List ℕ → Lexed
lex full at bs = limited full (at + span blank bs) (drop (span blank bs) bs)

-- The answer, and the new place, are those of the definition; a fault leaves the place.
abbrev pub Read : ℕ → Lexed → Result Token TextFault → ℕ → Type 0
Read old (Ok p) r new = (r ≡ Ok p.0) × (new ≡ p.1)
Read old (Err e) r new = (r ≡ Err e) × (new ≡ old)
