-- The specification that a tree spells, as a relation between the two.
use Rattle.std.specs.Prelude.{◌≡◌, ℕ, Bool, true, false, List, [], ◌∷◌}
use Prim.Native.String.{String}
use Rattle.text.specs.declared.part.Part.{Part}
use Rattle.text.specs.Trees.{Tree, quoted, integer, bracket, Trees, none, more}
use Rattle.syntax.specs.declared.spec.Name.{Name}
use Rattle.syntax.specs.declared.spec.Label.{Label}
use Rattle.syntax.specs.declared.spec.Label.TheVariants as labels
use Rattle.syntax.specs.Shape.{spells}
use Rattle.syntax.specs.Specs as tables
use Rattle.syntax.specs.Specs.{Term, name, tuple, crypt, apply, Terms, Declared, value, function, knows, everybody, Lined, Specification}

-- A quoted name.
abbrev pub IsName : Tree → Name → Type 0
IsName t n = t ≡ quoted n.at n.part

-- Names, one after the other.
abbrev pub AreNames : Trees → List Name → Type 0
AreNames ts [] = ts ≡ none
AreNames ts (n ∷ ns) = (t : Tree) × (us : Trees) × (ts ≡ more t us) × IsName t n × AreNames us ns

abbrev pub IsLabel : Tree → Label → Type 0
IsLabel t (labels.Number at v) = t ≡ integer at v
IsLabel t (labels.Name n) = IsName t n

-- The word of a function type.
abbrev pub class_word : Bool → Bool → String
class_word false false = "function"
class_word true false = "secret-function"
class_word false true = "one-way-function"
class_word true true = "secret-one-way-function"

module _ (text : List ℕ) where
  -- A bracket with this symbol and these parts.
  pub record IsForm (word : String) (at : ℕ) (ts : Trees) (t : Tree) : Type 0 where
    pub symbol : Part
    pub is : t ≡ bracket at symbol ts
    pub spelled : spells text symbol word ≡ true

  abbrev mutual
    pub SpellsTerm : Tree → Term → Type 0
    SpellsTerm t (name at p) = t ≡ quoted at p
    SpellsTerm t (tuple at us) = (ts : Trees) × IsForm "tuple" at ts t × SpellsTerms ts us
    SpellsTerm t (crypt at x y) = (a b c : Tree) × (mark : ℕ) × IsForm "crypt" at (more a (more b (more c none))) t × SpellsTerm a x × SpellsTerm b y × IsForm "vanilla" mark none c
    SpellsTerm t (apply at f us) = (a : Tree) × (ts : Trees) × IsForm "apply" at (more a ts) t × IsName a f × SpellsTerms ts us

    pub SpellsTerms : Trees → Terms → Type 0
    SpellsTerms ts tables.none = ts ≡ none
    SpellsTerms ts (tables.more u us) = (a : Tree) × (rest : Trees) × (ts ≡ more a rest) × SpellsTerm a u × SpellsTerms rest us

  abbrev pub SpellsDeclared : Tree → Declared → Type 0
  SpellsDeclared t (value n k false) = (at : ℕ) × (a b : Tree) × IsForm "type" at (more a (more b none)) t × IsName a n × IsName b k
  SpellsDeclared t (value n k true) = (at : ℕ) × (a b : Tree) × IsForm "type-shared" at (more a (more b none)) t × IsName a n × IsName b k
  SpellsDeclared t (function n c r ps) =
      (at inner : ℕ) × (a b d : Tree) × (ts : Trees) × IsForm "type-shared" at (more a (more b none)) t × IsName a n × IsForm (class_word c.secret c.one_way) inner (more d ts) b × IsName d r × AreNames ts ps
  SpellsDeclared t (knows n u) = (at : ℕ) × (a b : Tree) × IsForm "knows" at (more a (more b none)) t × IsName a n × SpellsTerm b u
  SpellsDeclared t (everybody u) = (at : ℕ) × (a : Tree) × IsForm "everybody-knows" at (more a none) t × SpellsTerm a u

  abbrev pub SpellsAll : Trees → List Declared → Type 0
  SpellsAll ts [] = ts ≡ none
  SpellsAll ts (d ∷ ds) = (a : Tree) × (rest : Trees) × (ts ≡ more a rest) × SpellsDeclared a d × SpellsAll rest ds

  abbrev pub SpellsLine : Tree → Lined → Type 0
  SpellsLine t l = (at : ℕ) × (a b c d : Tree) × IsForm "comm" at (more a (more b (more c (more d none)))) t × IsLabel a l.label × IsName b l.sender × IsName c l.receiver × SpellsTerm d l.message

  abbrev pub SpellsLines : Trees → List Lined → Type 0
  SpellsLines ts [] = ts ≡ none
  SpellsLines ts (l ∷ ls) = (a : Tree) × (rest : Trees) × (ts ≡ more a rest) × SpellsLine a l × SpellsLines rest ls

  -- (spec (declare ..) (block ..) (sessions) (assume) (claim))
  pub record Spells (t : Tree) (X : Specification) : Type 0 where
    pub at : ℕ
    pub declare : Tree
    pub block : Tree
    pub sessions : Tree
    pub assume : Tree
    pub claim : Tree
    pub declared_at : ℕ
    pub block_at : ℕ
    pub sessions_at : ℕ
    pub assume_at : ℕ
    pub claim_at : ℕ
    pub declarations : Trees
    pub lines : Trees
    pub whole : IsForm "spec" at (more declare (more block (more sessions (more assume (more claim none))))) t
    pub declare_is : IsForm "declare" declared_at declarations declare
    pub declares : SpellsAll declarations X.declarations
    pub block_is : IsForm "block" block_at lines block
    pub lined : SpellsLines lines X.lines
    pub sessions_is : IsForm "sessions" sessions_at none sessions
    pub assume_is : IsForm "assume" assume_at none assume
    pub claim_is : IsForm "claim" claim_at none claim
