-- What is wrong with a node of a tree where it stands, and the law of the first fault.
use Rattle.std.specs.Prelude.{◌≡◌, ◌↔◌, ℕ, zero, suc, ◌≤◌, Bool, true, false, ◌||◌, List, [], ◌∷◌, ◌++◌, Ok, Err, nat_le, ◌==◌}
use Rattle.text.specs.declared.part.Part.{Part}
use Rattle.text.specs.Trees.{Tree, quoted, integer, bracket, Trees, none, more}
use Rattle.syntax.specs.declared.fault.ShapeFault.{ShapeFault}
use Rattle.syntax.specs.declared.fault.ShapeFault.TheVariants.{Limit, Misfit, NotCarried, NoName, NoMemory}
use Rattle.syntax.specs.declared.symbol.Section.{Section}
use Rattle.syntax.specs.declared.symbol.Section.TheVariants.{Sessions, Assume, Claim}
use Rattle.syntax.specs.declared.symbol.Symbol.{Symbol}
use Rattle.syntax.specs.declared.symbol.Symbol.TheVariants as symbols
use Rattle.syntax.specs.contracts.symbol.SymbolPartialEq.TheImpl as symbol_eq
use Rattle.syntax.specs.Names.{is_name}
use Rattle.syntax.specs.Symbols.{symbol}
use Rattle.syntax.specs.Shape.{bytes, parts_count, shape}
use Rattle.syntax.specs.Specs.{Specification}
use Rattle.syntax.specs.Spelling.{Spells}

-- Where a node stands: what is wanted there.
pub data Standing : Type 0 where
  -- the whole, its first part, its second, and one of the three lists that stay empty, of which no part is carried
  root : Standing
  declare : Standing
  block : Standing
  section : Section → Standing
  barred : Standing
  declaration : Standing
  line : Standing
  label : Standing
  name : Standing
  -- the type of a shared name
  shared_type : Standing
  term : Standing
  -- the third part of a ciphertext
  mark : Standing

-- the same symbol
abbrev pub is : Symbol → Symbol → Bool
is x y = (symbol_eq.ghosts).eq x y

abbrev pub is_function_type : Symbol → Bool
is_function_type (symbols.FunctionType c) = true
is_function_type y = false

-- the symbols that belong there
abbrev pub belongs : Standing → Symbol → Bool
belongs root y = is y symbols.Spec
belongs declare y = is y symbols.Declare
belongs block y = is y symbols.Block
belongs (section s) y = is y (symbols.Section s)
belongs barred y = false
belongs declaration y = is y symbols.Type || is y symbols.TypeShared || is y symbols.Knows || is y symbols.EverybodyKnows
belongs line y = is y symbols.Comm
belongs label y = false
belongs name y = false
belongs shared_type y = is_function_type y
belongs term y = is y symbols.Tuple || is y symbols.Crypt || is y symbols.Apply
belongs mark y = is y symbols.Vanilla

-- may a name stand there, or an integer?
abbrev pub takes_name : Standing → Bool
takes_name label = true
takes_name name = true
takes_name shared_type = true
takes_name term = true
takes_name s = false

abbrev pub takes_integer : Standing → Bool
takes_integer label = true
takes_integer s = false

-- is it a part of a list that stays empty, of which none is translated?
abbrev pub empty_list : Standing → Bool
empty_list barred = true
empty_list s = false

-- a block within a block
abbrev pub inner_block : Standing → Symbol → Bool
inner_block line y = is y symbols.Block
inner_block s y = false

-- forms of the language that are not translated
abbrev pub is_barred : Standing → Symbol → Bool
is_barred s y = empty_list s || inner_block s y || is y symbols.NotCarried

-- is it the right count of parts, and within the limit?
abbrev pub right_count : Symbol → ℕ → Bool
right_count symbols.Spec n = n == 5
right_count symbols.Type n = n == 2
right_count symbols.TypeShared n = n == 2
right_count symbols.Knows n = n == 2
right_count symbols.EverybodyKnows n = n == 1
right_count symbols.Comm n = n == 4
right_count symbols.Crypt n = n == 3
right_count symbols.Vanilla n = n == 0
right_count (symbols.FunctionType c) n = nat_le 1 n
right_count symbols.Apply n = nat_le 1 n
right_count y n = true

abbrev pub few_parts : Symbol → ℕ → Bool
few_parts symbols.Tuple n = nat_le n 8
few_parts symbols.Apply n = nat_le n 9
few_parts (symbols.FunctionType c) n = nat_le n 9
few_parts symbols.Block n = nat_le n 64
few_parts y n = true

module _ (text : List ℕ) where
  -- What is wrong with a node where it stands, its parts aside; there may be more than one thing.
  pub data Faulty : Tree → Standing → ShapeFault → Type 0 where
    no_name : {at : ℕ} {p : Part} {s : Standing} → is_name (bytes text p) ≡ false → Faulty (quoted at p) s (NoName at)
    name_barred : {at : ℕ} {p : Part} {s : Standing} → empty_list s ≡ true → Faulty (quoted at p) s (NotCarried at)
    name_misplaced : {at : ℕ} {p : Part} {s : Standing} → takes_name s ≡ false → Faulty (quoted at p) s (Misfit at)
    name_long : {at : ℕ} {p : Part} {s : Standing} → nat_le p.len 31 ≡ false → Faulty (quoted at p) s (Limit at)
    integer_barred : {at v : ℕ} {s : Standing} → empty_list s ≡ true → Faulty (integer at v) s (NotCarried at)
    integer_misplaced : {at v : ℕ} {s : Standing} → takes_integer s ≡ false → Faulty (integer at v) s (Misfit at)
    bracket_barred : {at : ℕ} {w : Part} {ts : Trees} {s : Standing} → is_barred s (symbol (bytes text w)) ≡ true → Faulty (bracket at w ts) s (NotCarried at)
    bracket_misplaced : {at : ℕ} {w : Part} {ts : Trees} {s : Standing} → belongs s (symbol (bytes text w)) ≡ false → Faulty (bracket at w ts) s (Misfit at)
    wrong_count : {at : ℕ} {w : Part} {ts : Trees} {s : Standing} → right_count (symbol (bytes text w)) (parts_count ts) ≡ false → Faulty (bracket at w ts) s (Misfit at)
    many_parts : {at : ℕ} {w : Part} {ts : Trees} {s : Standing} → few_parts (symbol (bytes text w)) (parts_count ts) ≡ false → Faulty (bracket at w ts) s (Limit at)

-- the number of a fault
abbrev pub number : ShapeFault → ℕ
number (Limit at) = 1
number (Misfit at) = 3
number (NotCarried at) = 4
number (NoName at) = 5
number (NoMemory w) = 0

-- Where the parts of a bracket stand, by its symbol and the place among the parts.
abbrev pub spec_part : ℕ → Standing
spec_part zero = declare
spec_part (suc zero) = block
spec_part (suc (suc zero)) = section Sessions
spec_part (suc (suc (suc zero))) = section Assume
spec_part (suc (suc (suc (suc n)))) = section Claim

abbrev pub then_on : Standing → Standing → ℕ → Standing
then_on s s' zero = s
then_on s s' (suc n) = s'

abbrev pub comm_part : ℕ → Standing
comm_part zero = label
comm_part (suc zero) = name
comm_part (suc (suc zero)) = name
comm_part (suc (suc (suc n))) = term

abbrev pub crypt_part : ℕ → Standing
crypt_part zero = term
crypt_part (suc zero) = term
crypt_part (suc (suc n)) = mark

abbrev pub part_of : Symbol → ℕ → Standing
part_of symbols.Spec n = spec_part n
part_of symbols.Declare n = declaration
part_of symbols.Type n = name
part_of symbols.TypeShared n = then_on name shared_type n
part_of (symbols.FunctionType c) n = name
part_of symbols.Knows n = then_on name term n
part_of symbols.EverybodyKnows n = term
part_of symbols.Block n = line
part_of symbols.Comm n = comm_part n
part_of symbols.Tuple n = term
part_of symbols.Crypt n = crypt_part n
part_of symbols.Vanilla n = barred
part_of symbols.Apply n = then_on name term n
part_of (symbols.Section s) n = barred
part_of symbols.NotCarried n = barred
part_of symbols.Unknown n = barred

-- A node, and where it stands.
pub record Node : Type 0 where
  pub tree : Tree
  pub standing : Standing

module _ (text : List ℕ) where
  -- The nodes of a tree, a node before its parts, and these from left to right: the order of their first bytes.
  abbrev mutual
    pub nodes : Tree → Standing → List Node
    nodes (quoted at p) s = record { tree = quoted at p; standing = s } ∷ []
    nodes (integer at v) s = record { tree = integer at v; standing = s } ∷ []
    nodes (bracket at w ts) s = record { tree = bracket at w ts; standing = s } ∷ nodes_from (part_of (symbol (bytes text w))) zero ts

    pub nodes_from : (ℕ → Standing) → ℕ → Trees → List Node
    nodes_from f n none = []
    nodes_from f n (more t ts) = nodes t (f n) ++ nodes_from f (suc n) ts

  abbrev pub Sound : Node → Type 0
  Sound n = (f : ShapeFault) → Faulty text n.tree n.standing f → ⊥

  abbrev pub AllSound : List Node → Type 0
  AllSound [] = Unit {0}
  AllSound (n ∷ ns) = Sound n × AllSound ns

  -- The first node with a fault, and the fault with the highest number there.
  pub record FirstFault (ns : List Node) (f : ShapeFault) : Type 0 where
    pub before : List Node
    pub node : Node
    pub after : List Node
    pub all : ns ≡ before ++ (node ∷ after)
    pub sound : AllSound before
    pub faulty : Faulty text node.tree node.standing f
    pub highest : (g : ShapeFault) → Faulty text node.tree node.standing g → number g ≤ number f

  -- A tree is refused exactly with its first fault, and accepted exactly if none of its nodes is at fault; then the specification is
  -- one that the tree spells.
  pub record ShapeLaw : Type 0 where
    pub refused : (t : Tree) (f : ShapeFault) → (shape text t ≡ Err f) ↔ FirstFault (nodes t root) f
    pub accepted : (t : Tree) → ((X : Specification) × (shape text t ≡ Ok X)) ↔ AllSound (nodes t root)
    pub spelled : (t : Tree) (X : Specification) → shape text t ≡ Ok X → Spells text t X
