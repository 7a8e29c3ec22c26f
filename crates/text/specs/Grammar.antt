-- The grammar: which bytes spell which tree. Nothing here speaks of a reader.
use Rattle.std.specs.Prelude.{◌≡◌, ℕ, ◌+◌, ◌-◌, ◌*◌, ◌<◌, ◌≤◌, Bool, true, false, List, [], ◌∷◌, ◌++◌, length}
use Rattle.text.specs.Bytes.{class, blank, plain, symbol, digit}
use Rattle.text.specs.Trees.{Tree, quoted, integer, bracket, Trees, none, more}
use Rattle.text.specs.declared.class.ByteClass.{ByteClass}
use Rattle.text.specs.declared.class.ByteClass.TheVariants.{Quote, Open, Close}
use Rattle.text.specs.declared.part.Part.{Part}

-- A spot in a text: its place, and the bytes from there on.
pub record Spot : Type 0 where
  pub place : ℕ
  pub bytes : List ℕ

-- Bytes of one kind.
abbrev pub MadeOf : (ByteClass → Bool) → List ℕ → Type 0
MadeOf p [] = Unit {0}
MadeOf p (b ∷ bs) = (p (class b) ≡ true) × MadeOf p bs

-- From one spot to another stand the bytes `w`, all of one kind.
abbrev pub Run : (ByteClass → Bool) → Spot → List ℕ → Spot → Type 0
Run p x w y = MadeOf p w × (x.bytes ≡ w ++ y.bytes) × (y.place ≡ x.place + length w)

-- From one spot to another stands one byte, of this class.
abbrev pub Byte : ByteClass → Spot → Spot → Type 0
Byte k x y = (b : ℕ) × (class b ≡ k) × (x.bytes ≡ b ∷ y.bytes) × (y.place ≡ x.place + 1)

-- Here a run of bytes of a symbol has its end: at a blank, a quote, a bracket or the end of the text.
abbrev pub Ended : List ℕ → Type 0
Ended [] = Unit {0}
Ended (b ∷ bs) = symbol (class b) ≡ false

-- The part of the text that stands at a spot with these bytes.
abbrev pub part : Spot → List ℕ → Part
part x w = record { at = x.place; len = length w }

-- The value of digits, after digits with the value `n`.
abbrev pub value : ℕ → List ℕ → ℕ
value n [] = n
value n (b ∷ bs) = value (n * 10 + (b - 48)) bs

abbrev mutual
  -- From one spot to another, the bytes spell this term:
  --   a quote, bytes that are neither quote nor backslash, a quote;
  --   one digit or more, up to 4,294,967,295, not followed by a byte of a symbol;
  --   an opening bracket, blanks, a symbol, which is a longest run, terms, a closing bracket.
  pub Term : Spot → Tree → Spot → Type 0
  Term x (quoted at inside) y =
      (a b : Spot) × (q : List ℕ) × Byte Quote x a × Run plain a q b × Byte Quote b y × (at ≡ x.place) × (inside ≡ part a q)
  Term x (integer at n) y =
      (ds : List ℕ) × Run digit x ds y × (0 < length ds) × (n ≡ value 0 ds) × (n ≤ 4294967295) × Ended y.bytes × (at ≡ x.place)
  Term x (bracket at name ts) y =
      (a b c d : Spot) × (w s : List ℕ) × Byte Open x a × Run blank a w b × Run symbol b s c × (0 < length s) × Ended c.bytes
      × Terms c ts d × Byte Close d y × (at ≡ x.place) × (name ≡ part b s)

  -- The bytes spell these terms, with blanks around them.
  pub Terms : Spot → Trees → Spot → Type 0
  Terms x none y = (w : List ℕ) × Run blank x w y
  Terms x (more t ts) y = (a b : Spot) × (w : List ℕ) × Run blank x w a × Term a t b × Terms b ts y

-- The bytes from a spot on are one term, with blanks around it.
abbrev pub TextFrom : Spot → Tree → Type 0
TextFrom x t = (a b c : Spot) × (w v : List ℕ) × Run blank x w a × Term a t b × Run blank b v c × (c.bytes ≡ [])

-- A text spells a tree.
abbrev pub Text : List ℕ → Tree → Type 0
Text bs t = TextFrom (record { place = 0; bytes = bs }) t

abbrev pub Bytes : List ℕ → Type 0
Bytes [] = Unit {0}
Bytes (b ∷ bs) = (b < 256) × Bytes bs

-- Some text begins with these bytes: more bytes complete them.
abbrev pub Begins : List ℕ → Type 0
Begins bs = (more : List ℕ) × (t : Tree) × Text (bs ++ more) t × Bytes more
