-- What a node shows, and what the steps of the shape's check answer.
use Rattle.std.specs.Prelude.{◌≡◌, ℕ, Bool, true, false, List, ◌++◌, Some, Ok, Err, codes, Result}
use Prim.Native.String.{String}
use Rattle.text.specs.declared.part.Part.{Part}
use Rattle.text.specs.Nodes.{trees_of}
use Rattle.text.specs.Trees.{Tree, quoted, integer, bracket, Trees, none, more}
use Rattle.syntax.specs.declared.fault.ShapeFault.{ShapeFault}
use Rattle.syntax.specs.declared.fault.ShapeFault.TheVariants.{Limit, Misfit, NotCarried, NoName, NoMemory}
use Rattle.syntax.specs.declared.source.Bracket.{Bracket}
use Rattle.syntax.specs.declared.source.Headed.{Headed}
use Rattle.syntax.specs.declared.source.Item.{Item}
use Rattle.syntax.specs.declared.source.Item.TheVariants as items
use Rattle.syntax.specs.declared.spec.Name.{Name}
use Rattle.syntax.specs.declared.spec.Spec.{Spec}
use Rattle.syntax.specs.declared.spec.Term.{Term as TermValue}
use Rattle.syntax.specs.declared.symbol.Symbol.{Symbol}
use Rattle.syntax.specs.declared.symbol.Section.{Section}
use Rattle.syntax.specs.declared.symbol.Section.TheVariants as sections
use Rattle.syntax.specs.Names.{is_name}
use Rattle.syntax.specs.Symbols.{found, carried, one_of, not_carried, symbol}
use Rattle.syntax.specs.Shape.{Shaped, bytes, at_most, and_then, misfit, form, a_name, terms}
use Rattle.syntax.specs.Specs.{Term, tuple, Specification}
use Rattle.syntax.specs.Views.{term_in, specification_of}

-- A node that is refused wherever it stands.
abbrev pub Faulty : List ℕ → Tree → ShapeFault → Type 0
Faulty text (quoted at p) f = (is_name (bytes text p) ≡ false) × (f ≡ NoName at)
Faulty text (integer at n) f = ⊥
Faulty text (bracket at s ts) f = (one_of (bytes text s) not_carried ≡ true) × (f ≡ NotCarried at)

-- The bracket that the tree is, with a symbol that is carried.
pub record Stands (text : List ℕ) (t : Tree) (b : Bracket) : Type 0 where
  pub part : Part
  pub is : t ≡ bracket b.at part (trees_of b.parts.now)
  pub symbol_is : symbol (bytes text part) ≡ b.symbol
  pub carried : one_of (bytes text part) not_carried ≡ false

-- What the tree is, by what its node shows.
abbrev pub Shows : List ℕ → Tree → Result Item ShapeFault → Type 0
Shows text t (Ok (items.Name n)) = (t ≡ quoted n.at n.part) × (is_name (bytes text n.part) ≡ true)
Shows text t (Ok (items.Number at v)) = t ≡ integer at v
Shows text t (Ok (items.Bracket b)) = Stands text t b
Shows text t (Err f) = Faulty text t f

abbrev pub item_place : Item → ℕ
item_place (items.Name n) = n.at
item_place (items.Number at v) = at
item_place (items.Bracket b) = b.at

-- The bracket; or the tree is none that is carried.
abbrev pub Opens : List ℕ → Tree → Result Bracket ShapeFault → Type 0
Opens text t (Ok b) = Stands text t b
Opens text (quoted at p) (Err f) = f ≡ misfit text (quoted at p)
Opens text (integer at n) (Err f) = f ≡ misfit text (integer at n)
Opens text (bracket at s ts) (Err f) = (one_of (bytes text s) not_carried ≡ true) × (f ≡ NotCarried at)

-- The answer, by its view.
abbrev pub viewed : {A B : Type 0} → (B → A) → Result B ShapeFault → Shaped A
viewed view (Ok x) = Ok (view x)
viewed view (Err f) = Err f

abbrev pub opened : Bracket → ℕ × Trees
opened b = (b.at, trees_of b.parts.now)

-- The bracket with this symbol, or what is wrong with the tree.
abbrev pub Formed : List ℕ → Symbol → Tree → Result Bracket ShapeFault → Type 0
Formed text wanted t r = (word : String) → found (codes word) carried ≡ Some wanted → viewed opened r ≡ form text word (λ at ts. Ok (at, ts)) t

-- A name before the other parts, at most 8.
abbrev pub headed : List ℕ → ℕ → Trees → Shaped (Name × Trees)
headed text at none = Err (Misfit at)
headed text at (more f ts) = at_most 8 at ts (and_then (a_name text f) (λ n. Ok (n, ts)))

abbrev pub headed_by : Headed → Name × Trees
headed_by h = (h.name, trees_of h.rest.now)

-- Want of memory is no refusal.
abbrev pub is_refusal : ShapeFault → Bool
is_refusal (Limit at) = true
is_refusal (Misfit at) = true
is_refusal (NotCarried at) = true
is_refusal (NoName at) = true
is_refusal (NoMemory w) = false

-- The fault is this answer's, want of memory aside.
abbrev pub Refuses : {A : Type 0} → ShapeFault → Shaped A → Type 0
Refuses f o = is_refusal f ≡ true → o ≡ Err f

-- The answer, by its view, or its fault.
abbrev pub Gives : {A B : Type 0} → (B → A) → Shaped A → Result B ShapeFault → Type 0
Gives view o (Ok x) = o ≡ Ok (view x)
Gives view o (Err f) = Refuses f o

-- Declarations and lines are the same, and what is named by number in the old one stands in the new one, at the same numbers.
pub record Kept (old new : Spec) : Type 0 where
  pub declarations : new.declarations.items ≡ old.declarations.items
  pub lines : new.lines.items ≡ old.lines.items
  pub more_parameters : List Name
  pub parameters : new.parameters.items ≡ old.parameters.items ++ more_parameters
  pub more_terms : List TermValue
  pub terms : new.terms.items ≡ old.terms.items ++ more_terms

-- The term of this number, whatever is added behind.
abbrev pub Numbered : List TermValue → ℕ → Term → Type 0
Numbered ts k t = (us : List TermValue) → term_in (ts ++ us) k ≡ t

-- The answer, by its view over what is named by number, whatever is added behind; or its fault.
abbrev pub Adds : {A B : Type 0} → (List Name → List TermValue → B → A) → Shaped A → Spec → Spec → Result B ShapeFault → Type 0
Adds view o old new (Ok x) = Kept old new × ((ns : List Name) (ts : List TermValue) → o ≡ Ok (view (new.parameters.items ++ ns) (new.terms.items ++ ts) x))
Adds view o old new (Err f) = Refuses f o

-- The answer of a value that names nothing by number.
abbrev pub GivesAlways : {A B : Type 0} → (List Name → List TermValue → B → A) → Shaped A → Result B ShapeFault → Type 0
GivesAlways view o r = (ns : List Name) (ts : List TermValue) → Gives (view ns ts) o r

-- The list with what is answered behind it.
pub record Longer {A : Type 0} (o : Shaped (List A)) (old new : List A) : Type 0 where
  pub more : List A
  pub is : new ≡ old ++ more
  pub said : o ≡ Ok more

abbrev pub Grows : {A : Type 0} → Shaped (List A) → List A → List A → Result Unit ShapeFault → Type 0
Grows o old new (Ok u) = Longer o old new
Grows o old new (Err f) = Refuses f o

-- The specification, or the fault.
abbrev pub Shapes : Shaped Specification → Result Spec ShapeFault → Type 0
Shapes o r = Gives specification_of o r

-- The word of a list that stays empty.
abbrev pub section_word : Section → String
section_word sections.Sessions = "sessions"
section_word sections.Assume = "assume"
section_word sections.Claim = "claim"

-- The bracket of a tuple.
abbrev pub tuple_term : List ℕ → ℕ → Trees → Shaped Term
tuple_term text at ts = at_most 8 at ts (and_then (terms text ts) (λ us. Ok (tuple at us)))
