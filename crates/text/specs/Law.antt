-- What reading a text answers, in the words of the grammar.
use Rattle.std.specs.Prelude.{◌≡◌, ℕ, ◌+◌, ◌<◌, ◌≤◌, ◌⊎◌, List, [], ◌∷◌, ◌++◌, length, take, drop, Ok, Err, Result}
use Rattle.text.specs.Bytes.{plain, symbol}
use Rattle.text.specs.Grammar.{MadeOf, Text, Begins}
use Rattle.text.specs.Reading.{reading}
use Rattle.text.specs.Trees.{Tree, quoted, integer, bracket, Trees, none, more}
use Rattle.text.specs.declared.fault.TextFault.{TextFault}
use Rattle.text.specs.declared.fault.TextFault.TheVariants.{Limit, Broken, NoMemory}
use Rattle.text.specs.declared.tree.Tree.{Tree as TreeValue}
use Rattle.text.specs.Nodes.{tree_of}
use Rattle.text.specs.declared.part.Part.{Part}

-- The nodes of a tree, each with its place and its level, a node before its parts.
unfoldable mutual
  pub nodes : ℕ → Tree → List (ℕ × ℕ)
  nodes level (quoted at p) = (at, level) ∷ []
  nodes level (integer at n) = (at, level) ∷ []
  nodes level (bracket at s ts) = (at, level) ∷ nodes_all (level + 1) ts

  pub nodes_all : ℕ → Trees → List (ℕ × ℕ)
  nodes_all level none = []
  nodes_all level (more t ts) = nodes level t ++ nodes_all level ts

-- All these nodes stand on level 32 at most.
abbrev pub Shallow : List (ℕ × ℕ) → Type 0
Shallow [] = Unit {0}
Shallow (n ∷ ns) = (n.1 ≤ 32) × Shallow ns

-- Nodes within the limits: 4,096 of them at most, and on level 32 at most.
pub record Fits (ns : List (ℕ × ℕ)) : Type 0 where
  pub few : length ns ≤ 4096
  pub shallow : Shallow ns

-- All these nodes stand at this place or behind it.
abbrev pub From : ℕ → List (ℕ × ℕ) → Type 0
From p [] = Unit {0}
From p (n ∷ ns) = (p ≤ n.0) × From p ns

-- The nodes of a tree that begin before a place are within the limits.
pub record FitsBefore (p : ℕ) (t : Tree) : Type 0 where
  pub earlier : List (ℕ × ℕ)
  pub later : List (ℕ × ℕ)
  pub all : nodes 1 t ≡ earlier ++ later
  pub fits : Fits earlier
  pub from : From p later

-- The node at a place is the first of a tree to pass a limit: the 4,097th, or on level 33.
pub record Passes (p : ℕ) (t : Tree) : Type 0 where
  pub earlier : List (ℕ × ℕ)
  pub level : ℕ
  pub later : List (ℕ × ℕ)
  pub all : nodes 1 t ≡ earlier ++ ((p, level) ∷ later)
  pub fits : Fits earlier
  pub over : (length earlier ≡ 4096) ⊎ (level ≡ 33)

-- The bytes of a part of a text.
abbrev pub bytes_of : List ℕ → Part → List ℕ
bytes_of text p = take p.len (drop p.at text)

-- The parts that a tree names lie within the text: behind its first quote, a quoted text has bytes that are neither quote nor
-- backslash; a symbol has one byte or more, all of a symbol.
abbrev mutual
  pub Parts : List ℕ → Tree → Type 0
  Parts text (quoted at p) = (p.at ≡ at + 1) × (length (bytes_of text p) ≡ p.len) × MadeOf plain (bytes_of text p)
  Parts text (integer at n) = Unit {0}
  Parts text (bracket at s ts) = (0 < s.len) × (length (bytes_of text s) ≡ s.len) × MadeOf symbol (bytes_of text s) × PartsAll text ts

  pub PartsAll : List ℕ → Trees → Type 0
  PartsAll text none = Unit {0}
  PartsAll text (more t ts) = Parts text t × PartsAll text ts

-- The text spells this tree and no other, within all limits.
pub record Spelled (text : List ℕ) (t : Tree) : Type 0 where
  pub spells : Text text t
  pub only : (u : Tree) → Text text u → u ≡ t
  pub parts : Parts text t
  pub fits : Fits (nodes 1 t)
  pub short : length text ≤ 65535

-- The place of broken text is the length of the longest beginning that some text continues; no limit is passed before it.
pub record Breaks (text : List ℕ) (p : ℕ) : Type 0 where
  pub within : p ≤ length text
  pub short : p ≤ 65535
  pub begins : Begins (take p text)
  pub ends : p < length text → (more : List ℕ) (t : Tree) → Text (take (p + 1) text ++ more) t → ⊥
  pub unfinished : p ≡ length text → (t : Tree) → Text text t → ⊥
  pub fits : (more : List ℕ) (t : Tree) → Text (take p text ++ more) t → FitsBefore p t

-- The byte at this place passes a limit, and is not broken: with it a node begins that passes one, in every text that goes on from here, or
-- it is the 65,536th byte, and no limit is passed before it.
pub record Exceeds (text : List ℕ) (p : ℕ) : Type 0 where
  pub within : p < length text
  pub short : p ≤ 65535
  pub begins : Begins (take (p + 1) text)
  pub over : ((more : List ℕ) (t : Tree) → Text (take (p + 1) text ++ more) t → Passes p t) ⊎ ((p ≡ 65535) × ((more : List ℕ) (t : Tree) → Text (take (p + 1) text ++ more) t → FitsBefore p t))

-- The law of reading a text.
abbrev pub Obeys : List ℕ → Result Tree TextFault → Type 0
Obeys text (Ok t) = Spelled text t
Obeys text (Err (Broken p)) = Breaks text p
Obeys text (Err (Limit p)) = Exceeds text p
Obeys text (Err (NoMemory w)) = ⊥

-- The law leaves one answer: that of the definition.
abbrev pub Decided : List ℕ → Type 0
Decided text = (o : Result Tree TextFault) → Obeys text o → o ≡ reading text

-- An answer obeys the law, want of memory aside.
abbrev pub Lawful : List ℕ → Result TreeValue TextFault → Type 0
Lawful text (Ok node) = Obeys text (Ok (tree_of node))
Lawful text (Err (Broken p)) = Obeys text (Err (Broken p))
Lawful text (Err (Limit p)) = Obeys text (Err (Limit p))
Lawful text (Err (NoMemory w)) = Unit {0}

-- A text that spells a tree is answered with its root, unless a node or the length passes a limit; it is never broken.
abbrev pub Known : List ℕ → Tree → Result TreeValue TextFault → Type 0
Known text t (Ok node) = tree_of node ≡ t
Known text t (Err (Broken p)) = ⊥
Known text t (Err (Limit p)) = Passes p t ⊎ ((p ≡ 65535) × (65535 < length text))
Known text t (Err (NoMemory w)) = Unit {0}

-- Nothing within the limits is refused.
abbrev pub Accepted : Tree → Result TreeValue TextFault → Type 0
Accepted t (Ok node) = tree_of node ≡ t
Accepted t (Err (Broken p)) = ⊥
Accepted t (Err (Limit p)) = ⊥
Accepted t (Err (NoMemory w)) = Unit {0}

pub record Accepts (text : List ℕ) (r : Result TreeValue TextFault) : Type 0 where
  pub spelled : (t : Tree) → Text text t → Known text t r
  pub within : (t : Tree) → Text text t → Fits (nodes 1 t) → length text ≤ 65535 → Accepted t r
