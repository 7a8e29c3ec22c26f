-- What bytes on a tape mean, tied to how values are encoded.
use Rattle.std.specs.Prelude.{◌≡◌, ℕ, true, List, ◌∷◌, ◌++◌}
use Rattle.model.specs.Trees.{Tree, Formed}
use Rattle.model.specs.Tape.{encode}
use Rattle.tape.specs.Values.{starts, values, IsWhole, Stands}

pub record TapeLaw : Type 0 where
  -- decoding undoes encoding: bytes that begin with a value's encoding spell that value, and then what the rest spells
  pub decoding : (v : Tree) (bs : List ℕ) → Formed v → values 0 (encode v ++ bs) ≡ v ∷ values 0 bs
  -- so two values have one encoding only if they are equal
  pub unique : (v w : Tree) → Formed v → Formed w → encode v ≡ encode w → v ≡ w
  -- at each place that the headers come to stands the encoding of a value
  pub everywhere : (bs : List ℕ) (at : ℕ) → IsWhole bs → starts 0 bs at ≡ true → (v : Tree) × Stands bs at v
