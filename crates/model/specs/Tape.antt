-- The byte tape: how a value is written on it, and what that costs.
use Rattle.std.specs.Prelude.{ℕ, ◌/◌, ◌%◌, List, [], ◌∷◌, ◌++◌, length}
use Rattle.model.specs.Trees.{Head, tupled, crypted, applied, Tree, leaf, node, Trees, none, more}
use Rattle.model.specs.Roles.{count}

-- a number in four bytes, the highest first
abbrev pub word : ℕ → List ℕ
word n = n / 16777216 ∷ n / 65536 % 256 ∷ n / 256 % 256 ∷ n % 256 ∷ []

-- what stands before the parts of a compound: its kind, for an application the function, and but for a ciphertext how many parts follow
abbrev pub opening : Head → ℕ → List ℕ
opening tupled n = 2 ∷ n ∷ []
opening crypted n = 3 ∷ []
opening (applied f) n = 4 ∷ f ∷ n ∷ []

abbrev mutual
  pub encode : Tree → List ℕ
  encode (leaf n) = 1 ∷ word n
  encode (node h vs) = opening h (count vs) ++ encode_all vs

  pub encode_all : Trees → List ℕ
  encode_all none = []
  encode_all (more v vs) = encode v ++ encode_all vs

-- the cost of a value on the tape
abbrev pub tape_cost : Tree → ℕ
tape_cost v = length (encode v)
