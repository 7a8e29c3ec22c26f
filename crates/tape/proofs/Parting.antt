-- The parts of a value, one after the other.
use Rattle.std.proofs.Common.{◌≡◌, ℕ, zero, suc, ◌+◌, ◌-◌, ◌<◌, ◌≤◌, true, List, ◌++◌, length, drop, arith, refl, ap, sym, subst, ◌∙◌, length-append, append_assoc}
use Rattle.std.proofs.lemmas.List.{drop-drop, drop_at}
use Rattle.std.specs.Prelude.{Some, None, Option}
use Rattle.model.specs.Trees.{Tree, Trees, none, more, FormedAll}
use Rattle.model.specs.Tape.{encode, encode_all}
use Rattle.store.specs.Questions.{shape_of, value_at}
use Rattle.tape.specs.Headers.{header, header_bytes, header_size}
use Rattle.tape.specs.Values.{starts, Stands, Begins, parts_of}
use Rattle.tape.proofs.Decoding.{formed_parts, length_header, encode_parts}
use Rattle.tape.proofs.Starting.{header_of, some_bytes, behind_header, behind_value, starts_from, starts_first}

-- parts stand at a place, and one of them is wanted
pub record Parts (bs : List ℕ) (at : ℕ) (p : Tree) (index : ℕ) : Type 0 where
  pub parts : Trees
  pub rest : List ℕ
  pub formed : FormedAll parts
  pub spelled : drop at bs ≡ encode_all parts ++ rest
  pub wanted : value_at parts index ≡ Some p
  pub starts : starts 0 bs at ≡ true

no_value : {A : Type 0} (p : Tree) → None ≡ Some p → A
no_value p e = absurd (let z : ◌≡◌ {A = Option Tree} None (Some p) = e in cc)

some_part : (ts : Trees) (rest : List ℕ) (i : ℕ) (p : Tree) → value_at ts i ≡ Some p → 0 < length (encode_all ts ++ rest)
some_part none rest i p e = no_value p e
some_part (more t ts) rest i p e =
    let l = some_bytes t in
    let k = length-append (encode t) (encode_all ts) in
    let m = length-append (encode t ++ encode_all ts) rest in
    omega arith

pub all_parts : (bs : List ℕ) (start n : ℕ) (v p : Tree) (index i : ℕ) → Begins bs start v → value_at (parts_of v) index ≡ Some p → n ≡ header_size (header (drop start bs)) → i ≡ index → Parts bs (start + n) p i
all_parts bs start n v p index i b e en ei =
    let k = b.stands in
    let s = shape_of v in
    let es = encode_all (parts_of v) in
    let size : n ≡ header_size s = en ∙ ap header_size (ap header k.spelled ∙ header_of v k.rest) in
    let split : drop start bs ≡ header_bytes s ++ (es ++ k.rest) = k.spelled ∙ ap (λ cs. cs ++ k.rest) (encode_parts v) ∙ append_assoc (header_bytes s) es k.rest in
    let long = length_header s in
    record {
      parts = parts_of v;
      rest = k.rest;
      formed = formed_parts v k.formed;
      spelled = sym (drop-drop n start bs) ∙ ap (drop n) split ∙ drop_at (header_bytes s) (es ++ k.rest) n (omega arith);
      wanted = ap (value_at (parts_of v)) ei ∙ e;
      starts =
          starts_from 0 bs start (start + n) n b.starts refl
          ∙ ap (λ cs. starts 0 cs n) split
          ∙ behind_header s (es ++ k.rest) n 0 (omega arith)
          ∙ starts_first (es ++ k.rest) (some_part (parts_of v) k.rest index p e);
    }

module _ (bs : List ℕ) (at : ℕ) (p : Tree) where
  pub one_part : (index i end : ℕ) → Parts bs at p index → 0 < index → i ≡ index - 1 → ((t : Tree) → Stands bs at t → end ≡ at + length (encode t)) → Parts bs end p i
  one_part index i end k l ei f = go k.parts k.formed k.spelled index i k.wanted l ei
    where
      go : (ts : Trees) → FormedAll ts → drop at bs ≡ encode_all ts ++ k.rest → (index i : ℕ) → value_at ts index ≡ Some p → 0 < index → i ≡ index - 1 → Parts bs end p i
      go none g s index i e l ei = no_value p e
      go (more t ts) g s zero i e l ei = absurd (omega arith)
      go (more t ts) g s (suc j) i e l ei =
          let split : drop at bs ≡ encode t ++ (encode_all ts ++ k.rest) = s ∙ append_assoc (encode t) (encode_all ts) k.rest in
          let n = length (encode t) in
          let q : end ≡ at + n = f t (record { rest = encode_all ts ++ k.rest; formed = g.0; spelled = split }) in
          let is : j ≡ i = omega arith in
          let w : value_at ts i ≡ Some p = ap (value_at ts) (sym is) ∙ e in
          record {
            parts = ts;
            rest = k.rest;
            formed = g.1;
            spelled = ap (λ m. drop m bs) q ∙ sym (drop-drop n at bs) ∙ ap (drop n) split ∙ drop_at (encode t) (encode_all ts ++ k.rest) n refl;
            wanted = w;
            starts =
                starts_from 0 bs at end n k.starts q
                ∙ ap (λ cs. starts 0 cs n) split
                ∙ behind_value t (encode_all ts ++ k.rest) n 0 (omega arith)
                ∙ starts_first (encode_all ts ++ k.rest) (some_part ts k.rest i p w);
          }

  pub this_part : (index : ℕ) → Parts bs at p index → index ≤ 0 → Begins bs at p
  this_part index k l = go k.parts k.formed k.spelled index k.wanted l
    where
      go : (ts : Trees) → FormedAll ts → drop at bs ≡ encode_all ts ++ k.rest → (index : ℕ) → value_at ts index ≡ Some p → index ≤ 0 → Begins bs at p
      go none g s index e l = no_value p e
      go (more t ts) g s (suc j) e l = absurd (omega arith)
      go (more t ts) g s zero e l =
          let is : t ≡ p = cc in
          subst (Begins bs at) is (record {
            starts = k.starts;
            stands = record { rest = encode_all ts ++ k.rest; formed = g.0; spelled = s ∙ append_assoc (encode t) (encode_all ts) k.rest };
          })
