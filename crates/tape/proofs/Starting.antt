-- Where encodings begin.
use Rattle.std.proofs.Common.{◌≡◌, ℕ, zero, suc, ◌+◌, ◌-◌, ◌<◌, ◌≤◌, true, false, List, [], ◌∷◌, ◌++◌, length, drop, arith, refl, ap, sym, ◌∙◌, append_assoc, length-append}
use Rattle.std.proofs.lemmas.Bool.{false≢true}
use Rattle.std.proofs.lemmas.List.{drop_at}
use Rattle.std.specs.List.{flat_map}
use Rattle.model.specs.Trees.{Tree, leaf, node, Trees, none, more}
use Rattle.model.specs.Tape.{encode, encode_all}
use Rattle.store.specs.declared.shape.Shape.{Shape as Form}
use Rattle.store.specs.declared.shape.Shape.TheVariants.{Atom, Tuple, Crypt, Apply}
use Rattle.store.specs.Questions.{shape_of}
use Rattle.tape.specs.Headers.{header, header_bytes, header_size}
use Rattle.tape.specs.Values.{starts, parts_of}
use Rattle.tape.proofs.Decoding.{header_is, length_header, encode_parts}

-- bytes of a header passed over, or a place among them
past : (k : ℕ) (bs : List ℕ) (h j : ℕ) → h ≡ k + j → starts k bs h ≡ starts 0 (drop k bs) j
unfolding starts
past zero [] h j e = refl
past (suc k) [] h j e = refl
past zero (b ∷ bs) h j e = ap (starts 0 (b ∷ bs)) (omega arith)
past (suc k) (b ∷ bs) zero j e = absurd (omega arith)
past (suc k) (b ∷ bs) (suc h) j e = past k bs h j (omega arith)

among : (k : ℕ) (bs : List ℕ) (h : ℕ) → h < k → starts k bs h ≡ false
unfolding starts
among zero bs h l = absurd (omega arith)
among (suc k) [] h l = refl
among (suc k) (b ∷ bs) zero l = refl
among (suc k) (b ∷ bs) (suc h) l = among k bs h (omega arith)

pub some_size : (s : Form) → 1 ≤ header_size s
some_size (Atom n) = omega arith
some_size (Tuple c) = omega arith
some_size Crypt = omega arith
some_size (Apply f c) = omega arith

drop_less : (n b : ℕ) (bs : List ℕ) → 1 ≤ n → drop n (b ∷ bs) ≡ drop (n - 1) bs
drop_less zero b bs l = absurd (omega arith)
drop_less (suc n) b bs l = let e : suc n - 1 ≡ n = omega arith in rw e refl

-- the same at a header
pub past_header : (bs : List ℕ) (h j : ℕ) → 0 < length bs → h ≡ header_size (header bs) + j → starts 0 bs h ≡ starts 0 (drop (header_size (header bs)) bs) j
unfolding starts
past_header [] h j l e = absurd (omega arith)
past_header (b ∷ bs) zero j l e = let p = some_size (header (b ∷ bs)) in absurd (omega arith)
past_header (b ∷ bs) (suc h) j l e =
    let n = header_size (header (b ∷ bs)) in
    let p : 1 ≤ n = some_size (header (b ∷ bs)) in
    past (n - 1) bs h j (omega arith) ∙ ap (λ cs. starts 0 cs j) (sym (drop_less n b bs p))

pub among_header : (bs : List ℕ) (h : ℕ) → 0 < h → h < header_size (header bs) → starts 0 bs h ≡ false
unfolding starts
among_header [] h l m = refl
among_header (b ∷ bs) zero l m = absurd (omega arith)
among_header (b ∷ bs) (suc h) l m = among (header_size (header (b ∷ bs)) - 1) bs h (omega arith)

pub starts_nowhere : (h : ℕ) → starts 0 [] h ≡ false
unfolding starts
starts_nowhere h = refl

pub starts_first : (bs : List ℕ) → 0 < length bs → starts 0 bs 0 ≡ true
unfolding starts
starts_first [] l = absurd (omega arith)
starts_first (b ∷ bs) l = refl

pub some_bytes : (v : Tree) → 1 ≤ length (encode v)
some_bytes v =
    let e = ap length (encode_parts v) in
    let l = length-append (header_bytes (shape_of v)) (encode_all (parts_of v)) in
    let m = length_header (shape_of v) in
    let p = some_size (shape_of v) in
    omega arith

-- the header of a value's encoding
pub header_of : (v : Tree) (bs : List ℕ) → header (encode v ++ bs) ≡ shape_of v
header_of v bs =
    let s = shape_of v in
    ap (λ (es : List ℕ). header (es ++ bs)) (encode_parts v)
    ∙ ap header (append_assoc (header_bytes s) (encode_all (parts_of v)) bs)
    ∙ header_is s (encode_all (parts_of v) ++ bs)

-- behind a header, and behind the encodings of some values
pub behind_header : (s : Form) (bs : List ℕ) (h j : ℕ) → h ≡ header_size s + j → starts 0 (header_bytes s ++ bs) h ≡ starts 0 bs j
behind_header s bs h j e =
    let all = header_bytes s ++ bs in
    let is : header all ≡ s = header_is s bs in
    let long : length all ≡ length (header_bytes s) + length bs = length-append (header_bytes s) bs in
    let p = some_size s in
    let q = length_header s in
    past_header all h j (omega arith) (e ∙ ap (λ t. header_size t + j) (sym is))
    ∙ ap (λ t. starts 0 (drop (header_size t) all) j) is
    ∙ ap (λ cs. starts 0 cs j) (drop_at (header_bytes s) bs (header_size s) q)

behind_parts : (v : Tree) (bs : List ℕ) (h j : ℕ) → h ≡ length (encode v) + j
    → ((i : ℕ) → i ≡ length (encode_all (parts_of v)) + j → starts 0 (encode_all (parts_of v) ++ bs) i ≡ starts 0 bs j)
    → starts 0 (encode v ++ bs) h ≡ starts 0 bs j
behind_parts v bs h j e f =
    let s = shape_of v in
    let es = encode_all (parts_of v) in
    let l : length (encode v) ≡ length (header_bytes s) + length es = ap length (encode_parts v) ∙ length-append (header_bytes s) es in
    let q = length_header s in
    ap (λ (cs : List ℕ). starts 0 (cs ++ bs) h) (encode_parts v)
    ∙ ap (λ cs. starts 0 cs h) (append_assoc (header_bytes s) es bs)
    ∙ behind_header s (es ++ bs) h (length es + j) (omega arith)
    ∙ f (length es + j) refl

mutual
  pub behind_value : (v : Tree) (bs : List ℕ) (h j : ℕ) → h ≡ length (encode v) + j → starts 0 (encode v ++ bs) h ≡ starts 0 bs j
  behind_value (leaf n) bs h j e = behind_parts (leaf n) bs h j e (λ i q. ap (starts 0 bs) (omega arith))
  behind_value (node g ts) bs h j e = behind_parts (node g ts) bs h j e (λ i q. behind_all ts bs i j q)

  behind_all : (ts : Trees) (bs : List ℕ) (h j : ℕ) → h ≡ length (encode_all ts) + j → starts 0 (encode_all ts ++ bs) h ≡ starts 0 bs j
  behind_all none bs h j e = ap (starts 0 bs) (omega arith)
  behind_all (more t ts) bs h j e =
      let l = length-append (encode t) (encode_all ts) in
      ap (λ cs. starts 0 cs h) (append_assoc (encode t) (encode_all ts) bs)
      ∙ behind_value t (encode_all ts ++ bs) h (length (encode_all ts) + j) (omega arith)
      ∙ behind_all ts bs (length (encode_all ts) + j) j refl

pub behind_each : (vs : List Tree) (bs : List ℕ) (h j : ℕ) → h ≡ length (flat_map encode vs) + j → starts 0 (flat_map encode vs ++ bs) h ≡ starts 0 bs j
behind_each [] bs h j e = ap (starts 0 bs) (omega arith)
behind_each (v ∷ vs) bs h j e =
    let l = length-append (encode v) (flat_map encode vs) in
    ap (λ cs. starts 0 cs h) (append_assoc (encode v) (flat_map encode vs) bs)
    ∙ behind_value v (flat_map encode vs ++ bs) h (length (flat_map encode vs) + j) (omega arith)
    ∙ behind_each vs bs (length (flat_map encode vs) + j) j refl

-- from one place where an encoding begins on, and with bytes added behind
pub starts_from : (k : ℕ) (bs : List ℕ) (h i j : ℕ) → starts k bs h ≡ true → i ≡ h + j → starts k bs i ≡ starts 0 (drop h bs) j
unfolding starts
starts_from k [] h i j e q = absurd (false≢true e)
starts_from zero (b ∷ bs) zero i j e q = ap (starts 0 (b ∷ bs)) (omega arith)
starts_from zero (b ∷ bs) (suc h) zero j e q = absurd (omega arith)
starts_from zero (b ∷ bs) (suc h) (suc i) j e q = starts_from (header_size (header (b ∷ bs)) - 1) bs h i j e (omega arith)
starts_from (suc k) (b ∷ bs) zero i j e q = absurd (false≢true e)
starts_from (suc k) (b ∷ bs) (suc h) zero j e q = absurd (omega arith)
starts_from (suc k) (b ∷ bs) (suc h) (suc i) j e q = starts_from k bs h i j e (omega arith)
