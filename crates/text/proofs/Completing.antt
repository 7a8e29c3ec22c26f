-- Which bytes complete a text from a state of reading.
use Rattle.std.proofs.Common.{◌≡◌, ℕ, ◌+◌, ◌-◌, ◌<◌, ◌≤◌, List, [], ◌∷◌, length, refl, ap}
use Rattle.text.specs.Bytes.{blank, plain, symbol, digit}
use Rattle.text.specs.Grammar.{Spot, Run, Byte, Ended, part, value, Terms, TextFrom}
use Rattle.text.specs.Machine.{Frame, Point, before, inside, after, State, between, in_bracket, in_symbol, in_quotes, in_integer, put, closed, Step, broken, goes, begins}
use Rattle.text.specs.Trees.{Tree, quoted, integer, bracket, Trees, none, more, add}
use Rattle.text.specs.declared.class.ByteClass.TheVariants.{Quote, Close}
use Rattle.text.specs.declared.part.Part.{Part}

abbrev pub grown : Frame → Tree → Frame
grown f t = record { at = f.at; symbol = f.symbol; parts = add f.parts t }

abbrev pub join : Trees → Trees → Trees
join none us = us
join (more t ts) us = more t (join ts us)

-- An open bracket, once these parts more are read.
abbrev pub closing : Frame → Trees → Tree
closing f ts = bracket f.at f.symbol (join f.parts ts)

pub join_add : (ps : Trees) (t : Tree) (ts : Trees) → join (add ps t) ts ≡ join ps (more t ts)
join_add none t ts = refl
join_add (more p ps) t ts = ap (more p) (join_add ps t ts)

pub join_none : (ps : Trees) → join ps none ≡ ps
join_none none = refl
join_none (more p ps) = ap (more p) (join_none ps)

pub closing_grown : (f : Frame) (t : Tree) (ts : Trees) → closing (grown f t) ts ≡ closing f (more t ts)
closing_grown f t ts = ap (bracket f.at f.symbol) (join_add f.parts t ts)

pub closing_none : (f : Frame) → closing f none ≡ closed f
closing_none f = ap (bracket f.at f.symbol) (join_none f.parts)

-- After the text's term there are blanks alone.
abbrev pub After : Tree → Spot → Tree → Type 0
After x e T = (c : Spot) × (v : List ℕ) × Run blank e v c × (c.bytes ≡ []) × (x ≡ T)

-- A whole term `x` within open brackets: their other parts and their closing brackets are to come.
abbrev pub Finish : List Frame → Tree → Spot → Tree → Type 0
Finish [] x e T = After x e T
Finish (g ∷ gs) x e T = (ts : Trees) × (d y : Spot) × Terms e ts d × Byte Close d y × Finish gs (closing (grown g x) ts) y T

abbrev pub Within : Frame → List Frame → Spot → Tree → Type 0
Within f fs z T = (ts : Trees) × (d y : Spot) × Terms z ts d × Byte Close d y × Finish fs (closing f ts) y T

abbrev pub Rest : Point → Spot → Tree → Type 0
Rest before z T = TextFrom z T
Rest (inside f fs) z T = Within f fs z T
Rest (after x) z T = After x z T

abbrev pub frame : ℕ → Part → Frame
frame at s = record { at = at; symbol = s; parts = none }

abbrev pub Completes : State → Spot → Tree → Type 0
Completes (between p) z T = Rest p z T
Completes (in_bracket o fs) z T = (b c : Spot) × (w s : List ℕ) × Run blank z w b × Run symbol b s c × (0 < length s) × Ended c.bytes × Within (frame o (part b s)) fs c T
Completes (in_symbol o from fs) z T = (c : Spot) × (s : List ℕ) × Run symbol z s c × Ended c.bytes × Within (frame o (record { at = from; len = c.place - from })) fs c T
Completes (in_quotes o fs) z T = (b c : Spot) × (q : List ℕ) × Run plain z q b × Byte Quote b c × Finish fs (quoted o (record { at = o + 1; len = b.place - (o + 1) })) c T
Completes (in_integer o n fs) z T = (y : Spot) × (ds : List ℕ) × Run digit z ds y × (value n ds ≤ 4294967295) × Ended y.bytes × Finish fs (integer o (value n ds)) y T

-- What a term is put into, two ways.
pub rest_put : (fs : List Frame) (x : Tree) (z : Spot) (T : Tree) → Finish fs x z T → Rest (put x fs) z T
rest_put [] x z T h = h
rest_put (g ∷ gs) x z T h = h

pub put_rest : (fs : List Frame) (x : Tree) (z : Spot) (T : Tree) → Rest (put x fs) z T → Finish fs x z T
put_rest [] x z T h = h
put_rest (g ∷ gs) x z T h = h

-- A step that leads to a state with some property.
abbrev pub Onward : Step → (State → Type 0) → Type 0
Onward broken K = ⊥
Onward (goes s) K = K s
Onward (begins fs s) K = K s
