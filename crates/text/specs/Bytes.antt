-- The kinds of bytes that the grammar tells apart, and runs of them.
use Rattle.std.specs.Prelude.{ℕ, suc, Bool, true, false, cond, ◌&&◌, ◌||◌, List, [], ◌∷◌, ◌==◌, nat_le}
use Rattle.text.specs.declared.class.ByteClass.{ByteClass}
use Rattle.text.specs.declared.class.ByteClass.TheVariants.{Blank, Quote, Open, Close, Digit, Backslash, Other}
use Rattle.text.specs.declared.class.Run.{Run}
use Rattle.text.specs.declared.class.Run.TheVariants.{Blanks, Quoted, Symbol}

-- Blanks are space, tab, carriage return and line feed.
abbrev pub class : ℕ → ByteClass
class b =
    cond (b == 32 || (b == 9 || (b == 13 || b == 10))) Blank
    (cond (b == 34) Quote
    (cond (b == 40) Open
    (cond (b == 41) Close
    (cond (nat_le 48 b && nat_le b 57) Digit
    (cond (b == 92) Backslash
    Other)))))

abbrev pub blank : ByteClass → Bool
blank Blank = true
blank Quote = false
blank Open = false
blank Close = false
blank Digit = false
blank Backslash = false
blank Other = false

-- A quoted text may hold any byte but quote and backslash.
abbrev pub plain : ByteClass → Bool
plain Blank = true
plain Quote = false
plain Open = true
plain Close = true
plain Digit = true
plain Backslash = false
plain Other = true

-- A symbol may hold any byte but quote, blanks and brackets.
abbrev pub symbol : ByteClass → Bool
symbol Blank = false
symbol Quote = false
symbol Open = false
symbol Close = false
symbol Digit = true
symbol Backslash = true
symbol Other = true

abbrev pub digit : ByteClass → Bool
digit Blank = false
digit Quote = false
digit Open = false
digit Close = false
digit Digit = true
digit Backslash = false
digit Other = false

-- A node begins with a quote, an opening bracket or a digit.
abbrev pub begins : ByteClass → Bool
begins Blank = false
begins Quote = true
begins Open = true
begins Close = false
begins Digit = true
begins Backslash = false
begins Other = false

abbrev pub takes : Run → ByteClass → Bool
takes Blanks = blank
takes Quoted = plain
takes Symbol = symbol

-- How many bytes at the front pass a test of their class.
unfoldable pub span : (ByteClass → Bool) → List ℕ → ℕ
span p [] = 0
span p (b ∷ bs) = cond (p (class b)) (suc (span p bs)) 0
