-- Decoding undoes encoding.
use Rattle.std.proofs.Common.{◌≡◌, ℕ, zero, suc, ◌+◌, ◌*◌, ◌/◌, ◌%◌, List, [], ◌∷◌, ◌++◌, length, drop, arith, refl, ap, sym, ◌∙◌, append_assoc}
use Rattle.std.specs.List.{flat_map}
use Rattle.model.specs.Lists.{Every}
use Rattle.model.specs.Trees.{tupled, crypted, applied, Tree, leaf, node, Trees, none, more, Formed, FormedAll}
use Rattle.model.specs.Roles.{count}
use Rattle.model.specs.Tape.{encode, encode_all}
use Rattle.store.specs.declared.shape.Shape.{Shape as Form}
use Rattle.store.specs.declared.shape.Shape.TheVariants.{Atom, Tuple, Crypt, Apply}
use Rattle.store.specs.Questions.{shape_of}
use Rattle.tape.specs.Headers.{header, header_bytes, header_size, parts_after}
use Rattle.tape.specs.Values.{first_parts, build, joined, values, parts_of}
use Rattle.tape.proofs.Formed.{listed}

pub formed_parts : (v : Tree) → Formed v → FormedAll (parts_of v)
formed_parts (leaf n) f = tt
formed_parts (node h ts) f = f.1

-- an encoding is a header, and the parts' encodings
pub encode_parts : (v : Tree) → encode v ≡ header_bytes (shape_of v) ++ encode_all (parts_of v)
encode_parts (leaf n) = refl
encode_parts (node tupled ts) = refl
encode_parts (node crypted ts) = refl
encode_parts (node (applied f) ts) = refl

pub count_parts : (v : Tree) → Formed v → parts_after (shape_of v) ≡ count (parts_of v)
count_parts (leaf n) f = refl
count_parts (node tupled ts) f = refl
count_parts (node crypted none) f = absurd f.0
count_parts (node crypted (more t none)) f = absurd f.0
count_parts (node crypted (more t (more k none))) f = refl
count_parts (node crypted (more t (more k (more u us)))) f = absurd f.0
count_parts (node (applied g) ts) f = refl

pub build_parts : (v : Tree) → build (shape_of v) (parts_of v) ≡ v
build_parts (leaf n) = refl
build_parts (node tupled ts) = refl
build_parts (node crypted ts) = refl
build_parts (node (applied f) ts) = refl

four_bytes : (n : ℕ) → n / 16777216 * 16777216 + n / 65536 % 256 * 65536 + n / 256 % 256 * 256 + n % 256 ≡ n
four_bytes n = omega arith

pub header_is : (s : Form) (bs : List ℕ) → header (header_bytes s ++ bs) ≡ s
header_is (Atom n) bs = ap Atom (four_bytes n)
header_is (Tuple c) bs = refl
header_is Crypt bs = refl
header_is (Apply f c) bs = refl

pub length_header : (s : Form) → length (header_bytes s) ≡ header_size s
length_header (Atom n) = refl
length_header (Tuple c) = refl
length_header Crypt = refl
length_header (Apply f c) = refl

values_header : (s : Form) (bs : List ℕ) → values 0 (header_bytes s ++ bs) ≡ joined s (values 0 bs)
unfolding values
values_header (Atom n) bs = ap (λ m. leaf m ∷ values 0 bs) (four_bytes n)
values_header (Tuple c) bs = refl
values_header Crypt bs = refl
values_header (Apply f c) bs = refl

first_listed : (n : ℕ) (ts : Trees) (vs : List Tree) → n ≡ count ts → first_parts n (listed ts ++ vs) ≡ ts
unfolding first_parts
first_listed zero none vs e = refl
first_listed zero (more t ts) vs e = absurd (omega arith)
first_listed (suc n) none vs e = absurd (omega arith)
first_listed (suc n) (more t ts) vs e = ap (more t) (first_listed n ts vs (omega arith))

drop_listed : (n : ℕ) (ts : Trees) (vs : List Tree) → n ≡ count ts → drop n (listed ts ++ vs) ≡ vs
drop_listed zero none vs e = refl
drop_listed zero (more t ts) vs e = absurd (omega arith)
drop_listed (suc n) none vs e = absurd (omega arith)
drop_listed (suc n) (more t ts) vs e = drop_listed n ts vs (omega arith)

joined_parts : (v : Tree) (vs : List Tree) → Formed v → joined (shape_of v) (listed (parts_of v) ++ vs) ≡ v ∷ vs
joined_parts v vs f =
    let n = parts_after (shape_of v) in
    let e : n ≡ count (parts_of v) = count_parts v f in
    rw (first_listed n (parts_of v) vs e, drop_listed n (parts_of v) vs e, build_parts v) refl

-- a value, from what its parts' bytes spell
from_parts : (v : Tree) (bs : List ℕ) → Formed v → values 0 (encode_all (parts_of v) ++ bs) ≡ listed (parts_of v) ++ values 0 bs → values 0 (encode v ++ bs) ≡ v ∷ values 0 bs
from_parts v bs f e =
    let s = shape_of v in
    let rest = encode_all (parts_of v) ++ bs in
    ap (λ (es : List ℕ). values 0 (es ++ bs)) (encode_parts v)
    ∙ ap (values 0) (append_assoc (header_bytes s) (encode_all (parts_of v)) bs)
    ∙ values_header s rest
    ∙ ap (joined s) e
    ∙ joined_parts v (values 0 bs) f

mutual
  pub decoding : (v : Tree) (bs : List ℕ) → Formed v → values 0 (encode v ++ bs) ≡ v ∷ values 0 bs
  decoding (leaf n) bs f = from_parts (leaf n) bs f refl
  decoding (node h ts) bs f = from_parts (node h ts) bs f (decoding_all ts bs f.1)

  decoding_all : (ts : Trees) (bs : List ℕ) → FormedAll ts → values 0 (encode_all ts ++ bs) ≡ listed ts ++ values 0 bs
  decoding_all none bs f = refl
  decoding_all (more t ts) bs f =
      ap (values 0) (append_assoc (encode t) (encode_all ts) bs)
      ∙ decoding t (encode_all ts ++ bs) f.0
      ∙ ap (λ vs. t ∷ vs) (decoding_all ts bs f.1)

pub decoding_each : (vs : List Tree) (bs : List ℕ) → Every Formed vs → values 0 (flat_map encode vs ++ bs) ≡ vs ++ values 0 bs
decoding_each [] bs f = refl
decoding_each (v ∷ vs) bs f =
    ap (values 0) (append_assoc (encode v) (flat_map encode vs) bs)
    ∙ decoding v (flat_map encode vs ++ bs) f.0
    ∙ ap (λ us. v ∷ us) (decoding_each vs bs f.1)

-- the parts' encodings, and those of more values
pub encode_listed : (ts : Trees) (vs : List Tree) → flat_map encode (listed ts ++ vs) ≡ encode_all ts ++ flat_map encode vs
encode_listed none vs = refl
encode_listed (more t ts) vs = ap (λ bs. encode t ++ bs) (encode_listed ts vs) ∙ sym (append_assoc (encode t) (encode_all ts) (flat_map encode vs))

-- a value before others, as its header and its parts before them
pub encode_first : (v : Tree) (vs : List Tree) → flat_map encode (v ∷ vs) ≡ header_bytes (shape_of v) ++ flat_map encode (listed (parts_of v) ++ vs)
encode_first v vs =
    let s = shape_of v in
    ap (λ bs. bs ++ flat_map encode vs) (encode_parts v)
    ∙ append_assoc (header_bytes s) (encode_all (parts_of v)) (flat_map encode vs)
    ∙ ap (λ bs. header_bytes s ++ bs) (sym (encode_listed (parts_of v) vs))
