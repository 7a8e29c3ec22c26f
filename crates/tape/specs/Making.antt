-- Making a value out of handles: what is asked for, and what is written.
use Rattle.std.specs.Prelude.{◌≡◌, ℕ, ◌≤◌, List, ◌++◌, drop, length, Some, Option, Result, ok_or, option_map}
use Rattle.model.specs.Trees.{Tree, Trees}
use Rattle.model.specs.Tape.{encode_all}
use Rattle.store.specs.declared.fault.StoreFault.{StoreFault}
use Rattle.store.specs.declared.fault.StoreFault.TheVariants.{Invalid}
use Rattle.store.specs.declared.shape.Shape.{Shape}
use Rattle.store.specs.Makers.{gathered}
use Rattle.tape.specs.Values.{build, meaning}

-- the values of some handles on bytes, if all are valid
abbrev pub parts_on : List ℕ → List ℕ → Option Trees
parts_on bs hs = gathered (meaning bs) hs

-- how many bytes the encodings of these values have
abbrev pub size_answer : Option Trees → Result ℕ StoreFault
size_answer o = ok_or (option_map (λ ts. length (encode_all ts)) o) Invalid

-- all are valid, and so many bytes are enough for their values
pub record HaveRoom (bs hs : List ℕ) (room : ℕ) : Type 0 where
  pub parts : Trees
  pub valid : parts_on bs hs ≡ Some parts
  pub enough : length (encode_all parts) ≤ room

-- the value of a shape that is asked for, out of handles
abbrev pub asked : List ℕ → Shape → List ℕ → Result Tree StoreFault
asked bs s hs = ok_or (option_map (build s) (parts_on bs hs)) Invalid

-- bytes written over the front of others
abbrev pub over : List ℕ → List ℕ → List ℕ
over xs ys = ys ++ drop (length ys) xs
