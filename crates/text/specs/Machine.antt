-- Reading, byte by byte.
use Rattle.std.specs.Prelude.{ℕ, ◌+◌, ◌-◌, ◌*◌, Bool, cond, List, [], ◌∷◌, Ok, Err, Result, nat_le}
use Rattle.text.specs.Bytes.{class}
use Rattle.text.specs.Trees.{Tree, quoted, integer, bracket, Trees, none, add}
use Rattle.text.specs.declared.class.ByteClass.{ByteClass}
use Rattle.text.specs.declared.class.ByteClass.TheVariants.{Blank, Quote, Open, Close, Digit, Backslash, Other}
use Rattle.text.specs.declared.fault.TextFault.{TextFault}
use Rattle.text.specs.declared.fault.TextFault.TheVariants.{Limit, Broken}
use Rattle.text.specs.declared.part.Part.{Part}

-- An open bracket: its place, its symbol and its parts so far.
pub record Frame : Type 0 where
  pub at : ℕ
  pub symbol : Part
  pub parts : Trees

-- Between tokens: before the text's term, in an open bracket, which stands in others, the innermost first, or after the term.
pub data Point : Type 0 where
  before : Point
  inside : Frame → List Frame → Point
  after : Tree → Point

-- Where reading stands. In a token, the brackets around it are open, the innermost first.
pub data State : Type 0 where
  -- between tokens
  between : Point → State
  -- after an opening bracket, at this place, before its symbol
  in_bracket : ℕ → List Frame → State
  -- in the symbol of a bracket: their places
  in_symbol : ℕ → ℕ → List Frame → State
  -- in a quoted text, whose first quote has this place
  in_quotes : ℕ → List Frame → State
  -- in an integer: its place and its value so far
  in_integer : ℕ → ℕ → List Frame → State

-- A term becomes a part of the innermost open bracket, or is the text's term.
abbrev pub put : Tree → List Frame → Point
put t [] = after t
put t (f ∷ fs) = inside (record { at = f.at; symbol = f.symbol; parts = add f.parts t }) fs

abbrev pub closed : Frame → Tree
closed f = bracket f.at f.symbol f.parts

-- What a byte does: it cannot stand here, reading goes on, or reading goes on with a node that begins within these brackets.
pub data Step : Type 0 where
  broken : Step
  goes : State → Step
  begins : List Frame → State → Step

-- A byte `b` at `at`, of this class, between tokens.
abbrev pub step_between : ℕ → Point → ℕ → ByteClass → Step
step_between at before b Blank = goes (between before)
step_between at before b Quote = begins [] (in_quotes at [])
step_between at before b Open = begins [] (in_bracket at [])
step_between at before b Close = broken
step_between at before b Digit = begins [] (in_integer at (b - 48) [])
step_between at before b Backslash = broken
step_between at before b Other = broken
step_between at (inside f fs) b Blank = goes (between (inside f fs))
step_between at (inside f fs) b Quote = begins (f ∷ fs) (in_quotes at (f ∷ fs))
step_between at (inside f fs) b Open = begins (f ∷ fs) (in_bracket at (f ∷ fs))
step_between at (inside f fs) b Close = goes (between (put (closed f) fs))
step_between at (inside f fs) b Digit = begins (f ∷ fs) (in_integer at (b - 48) (f ∷ fs))
step_between at (inside f fs) b Backslash = broken
step_between at (inside f fs) b Other = broken
step_between at (after t) b Blank = goes (between (after t))
step_between at (after t) b Quote = broken
step_between at (after t) b Open = broken
step_between at (after t) b Close = broken
step_between at (after t) b Digit = broken
step_between at (after t) b Backslash = broken
step_between at (after t) b Other = broken

-- Blanks are free before a symbol, which has one byte or more.
abbrev pub step_bracket : ℕ → ℕ → List Frame → ByteClass → Step
step_bracket at o fs Blank = goes (in_bracket o fs)
step_bracket at o fs Quote = broken
step_bracket at o fs Open = broken
step_bracket at o fs Close = broken
step_bracket at o fs Digit = goes (in_symbol o at fs)
step_bracket at o fs Backslash = goes (in_symbol o at fs)
step_bracket at o fs Other = goes (in_symbol o at fs)

-- A bracket that opens at `o`, with a symbol from `from` up to `at`.
abbrev pub named : ℕ → ℕ → ℕ → List Frame → Point
named at o from fs = inside (record { at = o; symbol = record { at = from; len = at - from }; parts = none }) fs

-- A symbol is a longest run.
abbrev pub step_symbol : ℕ → ℕ → ℕ → List Frame → ℕ → ByteClass → Step
step_symbol at o from fs b Blank = step_between at (named at o from fs) b Blank
step_symbol at o from fs b Quote = step_between at (named at o from fs) b Quote
step_symbol at o from fs b Open = step_between at (named at o from fs) b Open
step_symbol at o from fs b Close = step_between at (named at o from fs) b Close
step_symbol at o from fs b Digit = goes (in_symbol o from fs)
step_symbol at o from fs b Backslash = goes (in_symbol o from fs)
step_symbol at o from fs b Other = goes (in_symbol o from fs)

-- A quoted text from `o` up to its second quote at `at`.
abbrev pub quotation : ℕ → ℕ → Tree
quotation at o = quoted o (record { at = o + 1; len = at - (o + 1) })

abbrev pub step_quotes : ℕ → ℕ → List Frame → ByteClass → Step
step_quotes at o fs Blank = goes (in_quotes o fs)
step_quotes at o fs Quote = goes (between (put (quotation at o) fs))
step_quotes at o fs Open = goes (in_quotes o fs)
step_quotes at o fs Close = goes (in_quotes o fs)
step_quotes at o fs Digit = goes (in_quotes o fs)
step_quotes at o fs Backslash = broken
step_quotes at o fs Other = goes (in_quotes o fs)

-- An integer is at most 4,294,967,295, and ends at a blank, a quote, a bracket or the end of the text.
abbrev pub step_integer : ℕ → ℕ → ℕ → List Frame → ℕ → ByteClass → Step
step_integer at o n fs b Blank = step_between at (put (integer o n) fs) b Blank
step_integer at o n fs b Quote = step_between at (put (integer o n) fs) b Quote
step_integer at o n fs b Open = step_between at (put (integer o n) fs) b Open
step_integer at o n fs b Close = step_between at (put (integer o n) fs) b Close
step_integer at o n fs b Digit = cond (nat_le (n * 10 + (b - 48)) 4294967295) (goes (in_integer o (n * 10 + (b - 48)) fs)) broken
step_integer at o n fs b Backslash = broken
step_integer at o n fs b Other = broken

-- The byte `b` at `at`.
abbrev pub step : ℕ → State → ℕ → Step
step at (between p) b = step_between at p b (class b)
step at (in_bracket o fs) b = step_bracket at o fs (class b)
step at (in_symbol o from fs) b = step_symbol at o from fs b (class b)
step at (in_quotes o fs) b = step_quotes at o fs (class b)
step at (in_integer o n fs) b = step_integer at o n fs b (class b)

-- The end of the text, at `at`: its term must be whole.
abbrev pub finish_between : ℕ → Point → Result Tree TextFault
finish_between at before = Err (Broken at)
finish_between at (inside f fs) = Err (Broken at)
finish_between at (after t) = Ok t

abbrev pub finish : ℕ → State → Result Tree TextFault
finish at (between p) = finish_between at p
finish at (in_bracket o fs) = Err (Broken at)
finish at (in_symbol o from fs) = Err (Broken at)
finish at (in_quotes o fs) = Err (Broken at)
finish at (in_integer o n fs) = finish_between at (put (integer o n) fs)

-- A byte that cannot stand at `at` is broken text; a node that begins where these brackets are full passes a limit.
abbrev pub follow : (List Frame → Bool) → ℕ → Step → (State → Result Tree TextFault) → Result Tree TextFault
follow full at broken on = Err (Broken at)
follow full at (goes s) on = on s
follow full at (begins fs s) on = cond (full fs) (Err (Limit at)) (on s)

-- The bytes from `at` on.
unfoldable pub run : (List Frame → Bool) → ℕ → State → List ℕ → Result Tree TextFault
run full at s [] = finish at s
run full at s (b ∷ bs) = follow full at (step at s b) (λ s'. run full (at + 1) s' bs)
