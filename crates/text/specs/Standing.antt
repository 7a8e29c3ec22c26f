-- How a builder stands for what was read so far.
use Rattle.std.specs.Prelude.{◌≡◌, ℕ, ◌<◌, List, [], ◌∷◌, drop, map, reverse, Some, None, Ok, Err, Option, Result}
use Rattle.text.specs.Machine.{Frame, Point, before, inside, after, between, put, closed, run}
use Rattle.text.specs.Nodes.{tree_of, trees_of}
use Rattle.text.specs.Reading.{count, full}
use Rattle.text.specs.Trees.{quoted, integer, none}
use Rattle.text.specs.declared.builder.Open.{Open}
use Rattle.text.specs.declared.fault.TextFault.{TextFault}
use Rattle.text.specs.declared.fault.TextFault.TheVariants.{Limit, Broken, NoMemory}
use Rattle.text.specs.declared.tree.Tree.{Tree as TreeValue}
use Rattle.text.specs.declared.token.Token.{Token}
use Rattle.text.specs.declared.token.Token.TheVariants.{Quoted as QuotedToken, Integer as IntegerToken, Open as OpenToken, Close as CloseToken}

abbrev pub frame_of : Open → Frame
frame_of o = record { at = o.at; symbol = o.symbol; parts = trees_of o.parts.items }

-- The open brackets, the innermost first.
abbrev pub frames : List Open → List Frame
frames os = reverse (map frame_of os)

-- Between tokens, with these brackets open and the text's term not whole.
abbrev pub level : List Frame → Point
level [] = before
level (f ∷ fs) = inside f fs

-- What a token does in these brackets.
abbrev pub turn : List Frame → Token → Result Point TextFault
turn fs (QuotedToken at p) = Ok (put (quoted at p) fs)
turn fs (IntegerToken at n) = Ok (put (integer at n) fs)
turn fs (OpenToken at s) = Ok (inside (record { at = at; symbol = s; parts = none }) fs)
turn [] (CloseToken at) = Err (Broken at)
turn (f ∷ fs) (CloseToken at) = Ok (put (closed f) fs)

-- After so many nodes, the node that a token begins is within the limits.
abbrev pub Room : ℕ → Token → Type 0
Room begun (QuotedToken at p) = begun < 4096
Room begun (IntegerToken at n) = begun < 4096
Room begun (OpenToken at s) = begun < 4096
Room begun (CloseToken at) = Unit {0}

-- Where a builder's step leads, want of memory aside: the text's term is whole, or reading goes on in the open brackets.
abbrev pub Turns : Result Point TextFault → Result (Option TreeValue) TextFault → List Open → ℕ → Type 0
Turns q (Ok (Some n)) os begun = q ≡ Ok (after (tree_of n))
Turns q (Ok None) os begun = (q ≡ Ok (level (frames os))) × (begun ≡ count (frames os))
Turns q (Err (Limit at)) os begun = q ≡ Err (Limit at)
Turns q (Err (Broken at)) os begun = q ≡ Err (Broken at)
Turns q (Err (NoMemory w)) os begun = Unit {0}

-- The same, of all the steps to the term's end.
abbrev pub Ends : Result Point TextFault → Result TreeValue TextFault → Type 0
Ends q (Ok n) = q ≡ Ok (after (tree_of n))
Ends q (Err (Limit at)) = q ≡ Err (Limit at)
Ends q (Err (Broken at)) = q ≡ Err (Broken at)
Ends q (Err (NoMemory w)) = Unit {0}

-- Reading a text from `at` on comes to `to`, at a point, or ends with a fault.
abbrev pub Leads : List ℕ → ℕ → Point → ℕ → Result Point TextFault → Type 0
Leads text at p to (Ok q) = run full at (between p) (drop at text) ≡ run full to (between q) (drop to text)
Leads text at p to (Err e) = run full at (between p) (drop at text) ≡ Err e
