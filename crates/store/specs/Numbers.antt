-- Shapes as numbers.
use Rattle.std.specs.Prelude.{ℕ}
use Rattle.store.specs.declared.shape.Shape.{Shape}
use Rattle.store.specs.declared.shape.Shape.TheVariants.{Atom, Tuple, Crypt, Apply}

-- 1 an atom, 2 a tuple, 3 a ciphertext, 4 an application
abbrev pub kind_number : Shape → ℕ
kind_number (Atom n) = 1
kind_number (Tuple c) = 2
kind_number Crypt = 3
kind_number (Apply f c) = 4

-- the number of the atom or of the function
abbrev pub head_number : Shape → ℕ
head_number (Atom n) = n
head_number (Tuple c) = 0
head_number Crypt = 0
head_number (Apply f c) = f

-- how many parts can be asked for
abbrev pub part_count : Shape → ℕ
part_count (Atom n) = 0
part_count (Tuple c) = c
part_count Crypt = 0
part_count (Apply f c) = c
