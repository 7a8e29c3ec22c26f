-- What reading a text answers.
use Rattle.std.specs.Prelude.{◌≡◌, ℕ, suc, ◌+◌, Bool, cond, ◌||◌, List, [], ◌∷◌, length, take, Ok, Err, Result, nat_le, nat_lt}
use Rattle.text.specs.Trees.{Tree, sizes}
use Rattle.text.specs.Machine.{Frame, before, between, run}
use Rattle.text.specs.declared.fault.TextFault.{TextFault}
use Rattle.text.specs.declared.fault.TextFault.TheVariants.{Limit, Broken, NoMemory}
use Rattle.text.specs.declared.tree.Tree.{Tree as TreeValue}
use Rattle.text.specs.Nodes.{tree_of}

-- How many nodes have begun, with these brackets open.
unfoldable pub count : List Frame → ℕ
count [] = 0
count (f ∷ fs) = count fs + suc (sizes f.parts)

-- One node more would be the 4,097th, or stand on level 33; the text's own term stands on level 1.
abbrev pub full : List Frame → Bool
full fs = nat_le 4096 (count fs) || nat_le 32 (length fs)

-- A text of any length: its tree, or the first fault.
abbrev pub read : List ℕ → Result Tree TextFault
read text = run full 0 (between before) text

-- What the first 65,536 bytes of a longer text answer: a fault at one of them, or else the last one passes a limit.
abbrev pub too_long : Result Tree TextFault → Result Tree TextFault
too_long (Ok t) = Err (Limit 65535)
too_long (Err (Limit at)) = Err (Limit at)
too_long (Err (Broken at)) = cond (nat_lt at 65536) (Err (Broken at)) (Err (Limit 65535))
too_long (Err (NoMemory w)) = Err (NoMemory w)

-- A text has at most 65,535 bytes.
abbrev pub reading : List ℕ → Result Tree TextFault
reading text = cond (nat_le (length text) 65535) (read text) (too_long (read (take 65536 text)))

-- The answer is this one, want of memory aside: the tree's root, or the fault.
abbrev pub Answers : Result Tree TextFault → Result TreeValue TextFault → Type 0
Answers o (Ok node) = o ≡ Ok (tree_of node)
Answers o (Err (Limit at)) = o ≡ Err (Limit at)
Answers o (Err (Broken at)) = o ≡ Err (Broken at)
Answers o (Err (NoMemory w)) = Unit {0}

-- The fault of a text that was cut to its first 65,536 bytes.
abbrev pub cut : Result TreeValue TextFault → TextFault
cut (Ok node) = Limit 65535
cut (Err (Limit at)) = Limit at
cut (Err (Broken at)) = cond (nat_lt at 65536) (Broken at) (Limit 65535)
cut (Err (NoMemory w)) = NoMemory w
