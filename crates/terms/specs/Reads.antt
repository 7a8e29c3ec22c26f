-- What the numbering of a term answers.
use Rattle.std.specs.Prelude.{◌≡◌, ℕ, ◌≤◌, true, List, is_some, Some, Ok, Err, Result}
use Rattle.model.specs.Trees.{Tree}
use Rattle.program.specs.declared.parts.Parts.{Parts}
use Rattle.syntax.specs.Specs.{Term, name, tuple, crypt, apply, Terms, none, more}
use Rattle.terms.specs.declared.declarations.Declarations.{Declarations}
use Rattle.terms.specs.declared.declarations.Declared.{Declared}
use Rattle.terms.specs.declared.declarations.Meaning.TheVariants as meaning
use Rattle.terms.specs.declared.fault.TermFault.{TermFault}
use Rattle.terms.specs.declared.fault.TermFault.TheVariants.{Limit, Undeclared, WrongType, NoMemory}
use Rattle.terms.specs.declared.table.TermTable.{TermTable}
use Rattle.terms.specs.Shapes as shapes
use Rattle.terms.specs.Terms.{tree_in}
use Rattle.terms.specs.Scope.{number_of, meaning_of}
use Rattle.terms.specs.Numbering.{tree, trees, at_most_eight, read, read_all}
use Rattle.terms.specs.Meanings.{Lists}

-- only the terms may change
pub record SameNames (d d' : Declarations) : Type 0 where
  pub names : d'.names ≡ d.names
  pub functions : d'.functions ≡ d.functions
  pub parameters : d'.parameters ≡ d.parameters
  pub starts : d'.starts ≡ d.starts
  pub rights : d'.rights ≡ d.rights

-- this fault, or want of memory, of which nothing is said
abbrev pub Refused : {A : Type 0} → Result A TermFault → TermFault → Type 0
Refused q (Limit p) = q ≡ Err (Limit p)
Refused q (Undeclared p) = q ≡ Err (Undeclared p)
Refused q (WrongType p) = q ≡ Err (WrongType p)
Refused q (NoMemory w) = Unit {0}

-- the terms that were read stand in the table
pub record Noted (t : TermTable) (q : Result (List Tree) TermFault) : Type 0 where
  pub terms : List Tree
  pub is : q ≡ Ok terms
  pub lists : Lists t terms

-- the number of a tree, and the terms that were read
abbrev pub Gives : TermTable → Tree → Result (List Tree) TermFault → Result ℕ TermFault → Type 0
Gives t u q (Ok k) = (tree_in t k ≡ u) × Noted t q
Gives t u q (Err f) = Refused q f

module _ (text : List ℕ) (names : List Declared) where
  -- names are declared, and what is applied is a function
  abbrev mutual
    pub Sayable : Term → Type 0
    Sayable (name at p) = is_some (number_of text names p) ≡ true
    Sayable (tuple at ts) = SayableAll ts
    Sayable (crypt at t k) = Sayable t × Sayable k
    Sayable (apply at f ts) = ((g : ℕ) × (meaning_of text names f.part ≡ Some (meaning.Function g))) × SayableAll ts

    pub SayableAll : Terms → Type 0
    SayableAll none = Unit {0}
    SayableAll (more t ts) = Sayable t × SayableAll ts

  abbrev pub Reads : TermTable → TermTable → Term → ℕ → Result ℕ TermFault → Type 0
  Reads t t' x most r = (us : List Tree) → most ≤ 65536 → Lists t us → Sayable x → Gives t' (tree text names x) (read text names most x us) r

  -- the numbers of some terms
  abbrev pub GivesAll : TermTable → Terms → Result (List Tree) TermFault → Result Parts TermFault → Type 0
  GivesAll t xs q (Ok ps) = (shapes.trees (tree_in t) ps ≡ trees text names xs) × Noted t q
  GivesAll t xs q (Err f) = Refused q f

  abbrev pub ReadsAll : TermTable → TermTable → ℕ → Terms → ℕ → Result Parts TermFault → Type 0
  ReadsAll t t' at xs most r = (us : List Tree) → most ≤ 65536 → Lists t us → SayableAll xs → GivesAll t' xs (at_most_eight at xs (read_all text names most xs us)) r
