-- The header of an encoding: what stands before a value's parts. It tells the value's shape.
use Rattle.std.specs.Prelude.{ℕ, ◌+◌, ◌*◌, List, ◌∷◌, if◌then◌else◌, ◌==◌, slice_index}
use Rattle.model.specs.Trees.{tupled, crypted, applied}
use Rattle.model.specs.Tape.{word, opening}
use Rattle.store.specs.declared.shape.Shape.{Shape}
use Rattle.store.specs.declared.shape.Shape.TheVariants.{Atom, Tuple, Crypt, Apply}

-- the number in the four bytes behind the first, the highest first
abbrev pub number : List ℕ → ℕ
number bs = slice_index bs 1 * 16777216 + slice_index bs 2 * 65536 + slice_index bs 3 * 256 + slice_index bs 4

-- the header that bytes begin with
abbrev pub header : List ℕ → Shape
header bs =
    if slice_index bs 0 == 1 then Atom (number bs)
    else (if slice_index bs 0 == 2 then Tuple (slice_index bs 1)
    else (if slice_index bs 0 == 3 then Crypt else Apply (slice_index bs 1) (slice_index bs 2)))

abbrev pub header_bytes : Shape → List ℕ
header_bytes (Atom n) = 1 ∷ word n
header_bytes (Tuple c) = opening tupled c
header_bytes Crypt = opening crypted 2
header_bytes (Apply f c) = opening (applied f) c

-- how many bytes a header has
abbrev pub header_size : Shape → ℕ
header_size (Atom n) = 5
header_size (Tuple c) = 2
header_size Crypt = 1
header_size (Apply f c) = 3

-- how many encodings follow it as parts
abbrev pub parts_after : Shape → ℕ
parts_after (Atom n) = 0
parts_after (Tuple c) = c
parts_after Crypt = 2
parts_after (Apply f c) = c
