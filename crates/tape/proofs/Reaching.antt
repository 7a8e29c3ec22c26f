-- At each place where an encoding begins stands the encoding of a value.
use Rattle.std.proofs.Common.{◌≡◌, ℕ, zero, suc, ◌+◌, ◌-◌, ◌<◌, ◌≤◌, ◌⊎◌, inl, inr, true, false, List, [], ◌∷◌, ◌++◌, length, drop, arith, refl, ap, sym, subst, ◌∙◌}
use Rattle.std.proofs.lemmas.Bool.{false≢true, cases_lt}
use Rattle.std.proofs.lemmas.List.{drop_at, drop-drop}
use Rattle.std.specs.Prelude.{Some, None}
use Rattle.std.specs.List.{flat_map}
use Rattle.model.specs.Lists.{Every}
use Rattle.model.specs.Trees.{Tree, Formed}
use Rattle.model.specs.Tape.{encode}
use Rattle.store.specs.Questions.{shape_of}
use Rattle.tape.specs.Headers.{header_bytes, header_size}
use Rattle.tape.specs.Values.{starts, values, meaning, IsWhole, Stands, Begins, parts_of}
use Rattle.tape.proofs.Formed.{listed, every_listed, every_append, values_formed}
use Rattle.tape.proofs.Decoding.{formed_parts, length_header, encode_first, decoding}
use Rattle.tape.proofs.Starting.{among_header, behind_header, starts_nowhere, header_of, some_size}

pub drop_past : (xs ys : List ℕ) (n h : ℕ) → length xs ≡ n → n ≤ h → drop h (xs ++ ys) ≡ drop (h - n) ys
drop_past xs ys n h e l =
    let q : h ≡ n + (h - n) = omega arith in
    ap (λ m. drop m (xs ++ ys)) q ∙ sym (drop-drop (h - n) n (xs ++ ys)) ∙ ap (drop (h - n)) (drop_at xs ys n e)

-- Among the encodings of some values, for what holds of a value only if it is formed, and then of its parts too.
module _ (P : Tree → Type 0) (formed : (v : Tree) → P v → Formed v) (inside : (v : Tree) → P v → Every P (listed (parts_of v))) where
  pub record Reached (bs : List ℕ) (h : ℕ) : Type 0 where
    pub value : Tree
    pub stands : Stands bs h value
    pub holds : P value

  -- from the values that follow a header to those that the header begins
  further : (v : Tree) (vs : List Tree) (h : ℕ) → header_size (shape_of v) ≤ h → Reached (flat_map encode (listed (parts_of v) ++ vs)) (h - header_size (shape_of v)) → Reached (flat_map encode (v ∷ vs)) h
  further v vs h m r =
      let k = r.stands in
      let us = flat_map encode (listed (parts_of v) ++ vs) in
      let s : drop h (flat_map encode (v ∷ vs)) ≡ drop (h - header_size (shape_of v)) us =
      ap (drop h) (encode_first v vs) ∙ drop_past (header_bytes (shape_of v)) us (header_size (shape_of v)) h (length_header (shape_of v)) m in
      record { value = r.value; stands = record { rest = k.rest; formed = k.formed; spelled = s ∙ k.spelled }; holds = r.holds }

  module _ (n : ℕ) (ih : (us : List Tree) (j : ℕ) → j < n → Every P us → starts 0 (flat_map encode us) j ≡ true → Reached (flat_map encode us) j) where
    later : (v : Tree) (vs : List Tree) (h : ℕ) → 0 < h → h < suc n → Every P (v ∷ vs) → starts 0 (flat_map encode (v ∷ vs)) h ≡ true → Reached (flat_map encode (v ∷ vs)) h
    later v vs h p l f e = go (cases_lt h size)
      where
        size : ℕ
        size = header_size (shape_of v)

        us : List Tree
        us = listed (parts_of v) ++ vs

        is : flat_map encode (v ∷ vs) ≡ header_bytes (shape_of v) ++ flat_map encode us
        is = encode_first v vs

        go : (h < size) ⊎ (size ≤ h) → Reached (flat_map encode (v ∷ vs)) h
        go (inl m) =
            let head = header_of v (flat_map encode vs) in
            absurd (false≢true (sym (among_header (flat_map encode (v ∷ vs)) h p (let q = ap header_size head in omega arith)) ∙ e))
        go (inr m) =
            let j = h - size in
            let s = sym (behind_header (shape_of v) (flat_map encode us) h j (omega arith)) ∙ ap (λ cs. starts 0 cs h) (sym is) ∙ e in
            let q : 1 ≤ size = some_size (shape_of v) in
            further v vs h m (ih us j (omega arith) (every_append P (listed (parts_of v)) vs (inside v f.0) f.1) s)

  pub reached : (n : ℕ) (vs : List Tree) (h : ℕ) → h < n → Every P vs → starts 0 (flat_map encode vs) h ≡ true → Reached (flat_map encode vs) h
  reached zero vs h l f e = absurd (omega arith)
  reached (suc n) [] h l f e = absurd (false≢true (sym (starts_nowhere h) ∙ e))
  reached (suc n) (v ∷ vs) zero l f e = record { value = v; stands = record { rest = flat_map encode vs; formed = formed v f.0; spelled = refl }; holds = f.0 }
  reached (suc n) (v ∷ vs) (suc h) l f e = later n (λ us j p g s. reached n us j p g s) v vs (suc h) (omega arith) l f e

pub value_there : (bs : List ℕ) (h : ℕ) (v : Tree) → Begins bs h v → meaning bs h ≡ Some v
value_there bs h v b =
    let k = b.stands in
    rw b.starts (rw (k.spelled, decoding v k.rest k.formed) refl)

pub nowhere : (bs : List ℕ) (h : ℕ) → starts 0 bs h ≡ false → meaning bs h ≡ None
nowhere bs h e = rw e refl

pub anywhere : (bs : List ℕ) (h : ℕ) → IsWhole bs → starts 0 bs h ≡ true → (v : Tree) × Begins bs h v
anywhere bs h w e =
    let r = reached Formed (λ v f. f) (λ v f. every_listed (parts_of v) (formed_parts v f)) (suc h) (values 0 bs) h (omega arith) (values_formed 0 bs) (subst (λ cs. starts 0 cs h ≡ true) (sym w) e) in
    (r.value, record { starts = e; stands = subst (λ cs. Stands cs h r.value) w r.stands })
