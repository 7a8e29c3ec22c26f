-- Where an encoding ends.
use Rattle.std.proofs.Common.{◌≡◌, ℕ, ◌+◌, ◌-◌, ◌<◌, ◌≤◌, List, [], ◌∷◌, ◌++◌, length, drop, arith, refl, ap, sym, ◌∙◌, length-drop, length-append, append_assoc, append-nil}
use Rattle.std.proofs.lemmas.List.{drop-drop, drop_at}
use Rattle.std.specs.List.{flat_map}
use Rattle.model.specs.Lists.{Every}
use Rattle.model.specs.Trees.{Tree, Trees, none, more, Formed}
use Rattle.model.specs.Roles.{count}
use Rattle.model.specs.Tape.{encode}
use Rattle.store.specs.Questions.{shape_of}
use Rattle.tape.specs.Headers.{header, header_bytes, header_size, parts_after}
use Rattle.tape.specs.Values.{Stands, parts_of}
use Rattle.tape.proofs.Formed.{listed, every_listed, every_append}
use Rattle.tape.proofs.Decoding.{formed_parts, count_parts, length_header, encode_first}
use Rattle.tape.proofs.Starting.{header_of, some_bytes}

length_listed : (ts : Trees) → length (listed ts) ≡ count ts
length_listed none = refl
length_listed (more t ts) = let e = length_listed ts in omega arith

-- an encoding stands within the bytes
pub stands_within : (bs : List ℕ) (at : ℕ) (v : Tree) → Stands bs at v → at + length (encode v) ≤ length bs
stands_within bs at v k =
    let e : length bs - at ≡ length (encode v) + length k.rest = sym (length-drop at bs) ∙ ap length k.spelled ∙ length-append (encode v) k.rest in
    let l = some_bytes v in
    omega arith

-- of the encoding of a value, the encodings of some values are still to be read
pub record Unread (bs : List ℕ) (start : ℕ) (v : Tree) (at left : ℕ) : Type 0 where
  pub values : List Tree
  pub rest : List ℕ
  pub formed : Every Formed values
  pub counted : length values ≡ left
  pub spelled : drop at bs ≡ flat_map encode values ++ rest
  pub ends : at + length (flat_map encode values) ≡ start + length (encode v)

pub all_unread : (bs : List ℕ) (start : ℕ) (v : Tree) → Stands bs start v → Unread bs start v start 1
all_unread bs start v k = record {
  values = v ∷ [];
  rest = k.rest;
  formed = (k.formed, tt);
  counted = refl;
  spelled = k.spelled ∙ ap (λ es. es ++ k.rest) (sym (append-nil (encode v)));
  ends = ap (λ es. start + length es) (append-nil (encode v));
}

pub one_read : (bs : List ℕ) (start : ℕ) (v : Tree) (at left n p : ℕ) → Unread bs start v at left → 0 < left
    → n ≡ header_size (header (drop at bs)) → p ≡ parts_after (header (drop at bs)) → Unread bs start v (at + n) (left - 1 + p)
one_read bs start v at left n p u l en ep = go u.values u.formed u.counted u.spelled u.ends
  where
    go : (vs : List Tree) → Every Formed vs → length vs ≡ left → drop at bs ≡ flat_map encode vs ++ u.rest → at + length (flat_map encode vs) ≡ start + length (encode v)
        → Unread bs start v (at + n) (left - 1 + p)
    go [] f c s e = absurd (omega arith)
    go (w ∷ ws) f c s e =
        let us = listed (parts_of w) ++ ws in
        let shape = shape_of w in
        let is : header (drop at bs) ≡ shape = ap header (s ∙ append_assoc (encode w) (flat_map encode ws) u.rest) ∙ header_of w (flat_map encode ws ++ u.rest) in
        let size : n ≡ header_size shape = en ∙ ap header_size is in
        let parts : p ≡ count (parts_of w) = ep ∙ ap parts_after is ∙ count_parts w f.0 in
        let split : flat_map encode (w ∷ ws) ≡ header_bytes shape ++ flat_map encode us = encode_first w ws in
        let long = length_header shape in
        let all : length (flat_map encode (w ∷ ws)) ≡ length (header_bytes shape) + length (flat_map encode us) = ap length split ∙ length-append (header_bytes shape) (flat_map encode us) in
        let many : length us ≡ count (parts_of w) + length ws = length-append (listed (parts_of w)) ws ∙ ap (λ k. k + length ws) (length_listed (parts_of w)) in
        record {
          values = us;
          rest = u.rest;
          formed = every_append Formed (listed (parts_of w)) ws (every_listed (parts_of w) (formed_parts w f.0)) f.1;
          counted = omega arith;
          spelled =
              sym (drop-drop n at bs)
              ∙ ap (drop n) (s ∙ ap (λ es. es ++ u.rest) split ∙ append_assoc (header_bytes shape) (flat_map encode us) u.rest)
              ∙ drop_at (header_bytes shape) (flat_map encode us ++ u.rest) n (omega arith);
          ends = omega arith;
        }

pub nothing_left : (bs : List ℕ) (start : ℕ) (v : Tree) (at left : ℕ) → Unread bs start v at left → left ≤ 0 → at ≡ start + length (encode v)
nothing_left bs start v at left u l = go u.values u.counted u.ends
  where
    go : (vs : List Tree) → length vs ≡ left → at + length (flat_map encode vs) ≡ start + length (encode v) → at ≡ start + length (encode v)
    go [] c e = omega arith
    go (w ∷ ws) c e = absurd (omega arith)

pub no_bytes_left : (bs : List ℕ) (start : ℕ) (v : Tree) (at left : ℕ) → Unread bs start v at left → length bs ≤ at → at ≡ start + length (encode v)
no_bytes_left bs start v at left u l = go u.values u.spelled u.ends
  where
    go : (vs : List Tree) → drop at bs ≡ flat_map encode vs ++ u.rest → at + length (flat_map encode vs) ≡ start + length (encode v) → at ≡ start + length (encode v)
    go [] s e = omega arith
    go (w ∷ ws) s e =
        let long : length (drop at bs) ≡ length (flat_map encode (w ∷ ws)) + length u.rest = ap length s ∙ length-append (flat_map encode (w ∷ ws)) u.rest in
        let more = length-append (encode w) (flat_map encode ws) in
        let none = length-drop at bs in
        let some = some_bytes w in
        absurd (omega arith)
