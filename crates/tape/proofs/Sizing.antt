-- The parts of a value that is to be made: how many bytes they have, and their copies.
use Rattle.std.proofs.Common.{◌≡◌, ℕ, ◌+◌, ◌*◌, ◌<◌, ◌≤◌, ◌⊎◌, inl, inr, true, false, List, [], ◌∷◌, ◌++◌, length, take, drop, get_or, arith, refl, ap, sym, ◌∙◌, append_assoc, append-nil, length-append}
use Rattle.std.proofs.lemmas.Bool.{cases_Bool}
use Rattle.std.proofs.lemmas.List.{take_at, drop_at, drop-drop}
use Rattle.std.specs.Prelude.{Some, None, Option, Ok, Err, option_map}
use Rattle.std.specs.List.{flat_map}
use Rattle.model.specs.Trees.{Tree, Trees, none}
use Rattle.model.specs.Tape.{encode, encode_all}
use Rattle.store.specs.declared.fault.StoreFault.TheVariants.{Invalid}
use Rattle.store.specs.Makers.{gathered}
use Rattle.tape.specs.Values.{starts, meaning, IsWhole, Stands, Begins}
use Rattle.tape.specs.Making.{parts_on, size_answer}
use Rattle.tape.proofs.Reaching.{value_there, nowhere, anywhere}
use Rattle.tape.proofs.Ending.{stands_within}
use Rattle.tape.proofs.Gathering.{before, encode_before, flat_push, Found, one_found, one_invalid, all_found}

module _ (bs hs : List ℕ) where
  -- so many bytes have the parts before an index
  pub record Sized (i size : ℕ) : Type 0 where
    pub values : List Tree
    pub found : Found (meaning bs) hs i values
    pub total : size ≡ length (flat_map encode values)
    pub few : size ≤ 65535 * i

  pub one_sized : IsWhole bs → length bs ≤ 65535 → (i size h n : ℕ) → Sized i size → h ≡ get_or hs i 0 → i < length hs → starts 0 bs h ≡ true
      → ((v : Tree) → Stands bs h v → n ≡ length (encode v)) → Sized (i + 1) (size + n)
  one_sized w few i size h n s e l p f =
      let there = anywhere bs h w p in
      let v = there.0 in
      let b = there.1 in
      let q : n ≡ length (encode v) = f v b.stands in
      let within = stands_within bs h v b.stands in
      let all : length (flat_map encode (s.values ++ v ∷ [])) ≡ length (flat_map encode s.values) + length (encode v) = ap length (flat_push s.values v) ∙ length-append (flat_map encode s.values) (encode v) in
      let t = s.total in
      let u = s.few in
      record {
        values = s.values ++ v ∷ [];
        found = one_found (meaning bs) hs i h s.values v s.found e l (value_there bs h v b);
        total = omega arith;
        few = omega arith;
      }

  pub invalid_answer : (i size h : ℕ) → Sized i size → h ≡ get_or hs i 0 → i < length hs → starts 0 bs h ≡ false → Err Invalid ≡ size_answer (parts_on bs hs)
  invalid_answer i size h s e l p = ap size_answer (sym (one_invalid (meaning bs) hs i h s.values s.found e l (nowhere bs h p)))

  pub sized_answer : (i size : ℕ) → Sized i size → length hs ≤ i → Ok size ≡ size_answer (parts_on bs hs)
  sized_answer i size s l =
      let all : encode_all (before s.values none) ≡ flat_map encode s.values = encode_before s.values none ∙ append-nil (flat_map encode s.values) in
      ap Ok (s.total ∙ ap length (sym all)) ∙ ap size_answer (sym (all_found (meaning bs) hs i s.values s.found l))

  -- the parts before an index were copied
  pub record Copied (old out : List ℕ) (i at : ℕ) : Type 0 where
    pub values : List Tree
    pub found : Found (meaning bs) hs i values
    pub placed : at ≡ length (flat_map encode values)
    pub copied : out ≡ flat_map encode values ++ drop at old

  never : {A : Type 0} (ts : Trees) → parts_on bs hs ≡ None → parts_on bs hs ≡ Some ts → A
  never ts p q = absurd (let z : ◌≡◌ {A = Option Trees} None (Some ts) = sym p ∙ q in cc)

  pub this_valid : IsWhole bs → (ts : Trees) → parts_on bs hs ≡ Some ts → (i h : ℕ) (us : List Tree) → Found (meaning bs) hs i us → h ≡ get_or hs i 0 → i < length hs → (v : Tree) × Begins bs h v
  this_valid w ts q i h us f e l = go (cases_Bool (starts 0 bs h))
    where
      go : (starts 0 bs h ≡ true) ⊎ (starts 0 bs h ≡ false) → (v : Tree) × Begins bs h v
      go (inl p) = anywhere bs h w p
      go (inr p) = never ts (one_invalid (meaning bs) hs i h us f e l (nowhere bs h p)) q

  found_within : (ts : Trees) → parts_on bs hs ≡ Some ts → (i : ℕ) (us : List Tree) → Found (meaning bs) hs i us → length (flat_map encode us) ≤ length (encode_all ts)
  found_within ts q i us f = go (gathered (meaning bs) (drop i hs)) (sym q ∙ f.all)
    where
      go : (o : Option Trees) → Some ts ≡ option_map (before us) o → length (flat_map encode us) ≤ length (encode_all ts)
      go None e = absurd (let z : ◌≡◌ {A = Option Trees} (Some ts) None = e in cc)
      go (Some rest) e =
          let p : ts ≡ before us rest = cc in
          let n : length (encode_all ts) ≡ length (flat_map encode us) + length (encode_all rest) = ap (λ us. length (encode_all us)) p ∙ ap length (encode_before us rest) ∙ length-append (flat_map encode us) (encode_all rest) in
          omega arith

  module _ (w : IsWhole bs) (ts : Trees) (valid : parts_on bs hs ≡ Some ts) (old out : List ℕ) (i at : ℕ) (c : Copied old out i at) where
    -- the next part, its bytes, and the end of their copy
    pub next_valid : i < length hs → (v : Tree) × Begins bs (get_or hs i 0) v
    next_valid l = this_valid w ts valid i (get_or hs i 0) c.values c.found refl l

    pub next_within : i < length hs → (n : ℕ) → ((v : Tree) → Stands bs (get_or hs i 0) v → n ≡ length (encode v)) → at + n ≤ length (encode_all ts)
    next_within l n f =
        let there = next_valid l in
        let v = there.0 in
        let b = there.1 in
        let us = c.values in
        let q : n ≡ length (encode v) = f v b.stands in
        let all : length (flat_map encode (us ++ v ∷ [])) ≡ length (flat_map encode us) + length (encode v) = ap length (flat_push us v) ∙ length-append (flat_map encode us) (encode v) in
        let m = found_within ts valid (i + 1) (us ++ v ∷ []) (one_found (meaning bs) hs i (get_or hs i 0) us v c.found refl l (value_there bs (get_or hs i 0) v b)) in
        let p = c.placed in
        omega arith

    pub one_copied : i < length hs → (source : List ℕ) → ((v : Tree) → Stands bs (get_or hs i 0) v → source ≡ encode v) → (n k : ℕ) → n ≡ length source → k ≡ n
        → Copied old (take at out ++ (source ++ drop k (drop at out))) (i + 1) (at + n)
    one_copied l source f n k en ek =
        let there = next_valid l in
        let v = there.0 in
        let b = there.1 in
        let us = c.values in
        let q : source ≡ encode v = f v b.stands in
        let front = flat_map encode us in
        let here : length front ≡ at = sym c.placed in
        let taken : take at out ≡ front = ap (take at) c.copied ∙ take_at front (drop at old) at here in
        let left : drop k (drop at out) ≡ drop (at + n) old =
        ap (drop k) (ap (drop at) c.copied ∙ drop_at front (drop at old) at here) ∙ drop-drop k at old ∙ ap (λ m. drop (at + m) old) ek in
        let push : flat_map encode (us ++ v ∷ []) ≡ front ++ source = flat_push us v ∙ ap (λ s. front ++ s) (sym q) in
        record {
          values = us ++ v ∷ [];
          found = one_found (meaning bs) hs i (get_or hs i 0) us v c.found refl l (value_there bs (get_or hs i 0) v b);
          placed = let long : length (front ++ source) ≡ length front + length source = length-append front source in let m = ap length push in omega arith;
          copied =
              ap (λ xs. xs ++ (source ++ drop k (drop at out))) taken
              ∙ ap (λ xs. front ++ (source ++ xs)) left
              ∙ sym (append_assoc front source (drop (at + n) old))
              ∙ ap (λ xs. xs ++ drop (at + n) old) (sym push);
        }

    pub all_copied : length hs ≤ i → out ≡ encode_all ts ++ drop (length (encode_all ts)) old
    all_copied l =
        let us = c.values in
        let p : ts ≡ before us none = let z : ◌≡◌ {A = Option Trees} (Some ts) (Some (before us none)) = sym valid ∙ all_found (meaning bs) hs i us c.found l in cc in
        let q : flat_map encode us ≡ encode_all ts = sym (ap encode_all p ∙ encode_before us none ∙ append-nil (flat_map encode us)) in
        c.copied ∙ ap (λ n. flat_map encode us ++ drop n old) c.placed ∙ ap (λ (xs : List ℕ). xs ++ drop (length xs) old) q
