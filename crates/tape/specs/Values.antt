-- What bytes on a tape mean. They are read as headers, one after the other: an encoding begins at each.
use Rattle.std.specs.Prelude.{◌≡◌, ℕ, zero, suc, ◌-◌, Bool, true, false, if◌then◌else◌, List, [], ◌∷◌, ◌++◌, drop, None, Option, slice_get}
use Rattle.std.specs.List.{flat_map}
use Rattle.model.specs.Trees.{tupled, crypted, applied, Tree, leaf, node, Trees, none, more, Formed}
use Rattle.model.specs.Tape.{encode}
use Rattle.store.specs.declared.shape.Shape.{Shape}
use Rattle.store.specs.declared.shape.Shape.TheVariants.{Atom, Tuple, Crypt, Apply}
use Rattle.tape.specs.Headers.{header, header_size, parts_after}

-- whether an encoding begins at a place; the first number says how many bytes of a header are still to be passed over
unfoldable pub starts : ℕ → List ℕ → ℕ → Bool
starts k [] h = false
starts zero (b ∷ bs) zero = true
starts zero (b ∷ bs) (suc h) = starts (header_size (header (b ∷ bs)) - 1) bs h
starts (suc k) (b ∷ bs) zero = false
starts (suc k) (b ∷ bs) (suc h) = starts k bs h

-- the first of some values; where they are too few, the atom 0 stands for each that is missing
unfoldable pub first_parts : ℕ → List Tree → Trees
first_parts zero vs = none
first_parts (suc n) [] = more (leaf 0) (first_parts n [])
first_parts (suc n) (v ∷ vs) = more v (first_parts n vs)

-- a value of a shape
abbrev pub build : Shape → Trees → Tree
build (Atom n) ts = leaf n
build (Tuple c) ts = node tupled ts
build Crypt ts = node crypted ts
build (Apply f c) ts = node (applied f) ts

-- a header takes its parts from the values behind it
abbrev pub joined : Shape → List Tree → List Tree
joined s vs = build s (first_parts (parts_after s) vs) ∷ drop (parts_after s) vs

-- the values that bytes spell, one for each encoding that is no part of another
unfoldable pub values : ℕ → List ℕ → List Tree
values k [] = []
values zero (b ∷ bs) = joined (header (b ∷ bs)) (values (header_size (header (b ∷ bs)) - 1) bs)
values (suc k) (b ∷ bs) = values k bs

-- the value whose encoding begins at a place
abbrev pub meaning : List ℕ → ℕ → Option Tree
meaning bs h = if starts 0 bs h then slice_get (values 0 (drop h bs)) 0 else None

-- bytes that are the encodings of values, one after the other
abbrev pub IsWhole : List ℕ → Type 0
IsWhole bs = flat_map encode (values 0 bs) ≡ bs

-- the encoding of a value stands at a place
pub record Stands (bs : List ℕ) (at : ℕ) (v : Tree) : Type 0 where
  pub rest : List ℕ
  pub formed : Formed v
  pub spelled : drop at bs ≡ encode v ++ rest

abbrev pub HasValue : List ℕ → ℕ → Type 0
HasValue bs at = (v : Tree) × Stands bs at v

-- and the headers come to it
pub record Begins (bs : List ℕ) (at : ℕ) (v : Tree) : Type 0 where
  pub starts : starts 0 bs at ≡ true
  pub stands : Stands bs at v

-- the parts of a compound
abbrev pub parts_of : Tree → Trees
parts_of (leaf n) = none
parts_of (node h ts) = ts
