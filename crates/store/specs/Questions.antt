-- What questions about values answer. `None` stands for a handle that is not valid.
use Rattle.std.specs.Prelude.{◌≡◌, ℕ, Bool, if◌then◌else◌, zero, suc, Some, None, Ok, Err, Option, Result, ok_or, option_map}
use Rattle.model.specs.Trees.{tupled, crypted, applied, Tree, leaf, node, Trees, none, more, eq_tree}
use Rattle.model.specs.Roles.{count}
use Rattle.store.specs.declared.fault.StoreFault.{StoreFault}
use Rattle.store.specs.declared.fault.StoreFault.TheVariants.{Invalid, NoPart, Mismatch}
use Rattle.store.specs.declared.shape.Shape.{Shape}
use Rattle.store.specs.declared.shape.Shape.TheVariants.{Atom, Tuple, Crypt, Apply}

abbrev pub shape_of : Tree → Shape
shape_of (leaf n) = Atom n
shape_of (node tupled vs) = Tuple (count vs)
shape_of (node crypted vs) = Crypt
shape_of (node (applied f) vs) = Apply f (count vs)

abbrev pub shape_answer : Option Tree → Result Shape StoreFault
shape_answer o = ok_or (option_map shape_of o) Invalid

-- one of some values, counted from 0
abbrev pub value_at : Trees → ℕ → Option Tree
value_at none i = None
value_at (more v vs) zero = Some v
value_at (more v vs) (suc i) = value_at vs i

-- a part of a tuple or an application
abbrev pub part_of : Tree → ℕ → Option Tree
part_of (leaf n) i = None
part_of (node tupled vs) i = value_at vs i
part_of (node crypted vs) i = None
part_of (node (applied f) vs) i = value_at vs i

abbrev pub part_value : Option Tree → ℕ → Result Tree StoreFault
part_value None i = Err Invalid
part_value (Some v) i = ok_or (part_of v i) NoPart

-- the text of a ciphertext whose key is equal to a value
abbrev pub text_under : Tree → Trees → Option Tree
text_under w (more v (more k none)) = if eq_tree k w then Some v else None
text_under w vs = None

abbrev pub text_of : Tree → Tree → Option Tree
text_of (leaf n) w = None
text_of (node tupled vs) w = None
text_of (node crypted vs) w = text_under w vs
text_of (node (applied f) vs) w = None

abbrev pub unlocked_value : Option Tree → Option Tree → Result Tree StoreFault
unlocked_value None w = Err Invalid
unlocked_value (Some v) None = Err Invalid
unlocked_value (Some v) (Some w) = ok_or (text_of v w) Mismatch

-- whether two values are equal
abbrev pub same_answer : Option Tree → Option Tree → Result Bool StoreFault
same_answer None w = Err Invalid
same_answer (Some v) None = Err Invalid
same_answer (Some v) (Some w) = Ok (eq_tree v w)

-- a handle of the value that is to be answered, whichever it is, or the fault
abbrev pub Answers : (ℕ → Option Tree) → Result Tree StoreFault → Result ℕ StoreFault → Type 0
Answers m (Ok v) (Ok h) = m h ≡ Some v
Answers m (Ok v) (Err e) = ⊥
Answers m (Err f) (Ok h) = ⊥
Answers m (Err f) (Err e) = e ≡ f
