-- What making a value does to a tape.
use Rattle.std.proofs.Common.{◌≡◌, ℕ, ◌+◌, ◌-◌, ◌<◌, ◌≤◌, List, ◌++◌, length, take, drop, vec_len, arith, refl, ap, sym, subst, ◌∙◌, length-append, length-take-le}
use Rattle.std.specs.Prelude.{Some, Ok, Err, option_map, ok_or}
use Rattle.model.specs.Trees.{Tree, Trees, Formed}
use Rattle.model.specs.Roles.{count}
use Rattle.model.specs.Tape.{encode, encode_all}
use Rattle.store.specs.declared.fault.StoreFault.TheVariants.{Invalid, Full}
use Rattle.store.specs.declared.shape.Shape.{Shape as Form}
use Rattle.store.specs.Makers.{Makes}
use Rattle.tape.specs.declared.tape.Tape.{Tape}
use Rattle.tape.specs.Headers.{header_bytes, header_size, parts_after}
use Rattle.tape.specs.Values.{build, meaning, IsWhole}
use Rattle.tape.specs.Held.{Held, IsNumbered}
use Rattle.tape.specs.Making.{parts_on, asked, over}
use Rattle.tape.specs.Tapes.{bytes_of, tape}
use Rattle.tape.proofs.Decoding.{length_header}
use Rattle.tape.proofs.Appending.{whole_append, kept_append, named_append, fresh_end}
use Rattle.tape.proofs.Building.{encode_build, build_formed, valid}
use Rattle.tape.proofs.HeldValues.{build_held, parts_held, held_append}
use Rattle.tape.proofs.Writes.{used_next}

module _ (t : Tape) (s : Form) (hs : List ℕ) (parts : Trees) (n : ℕ) (counted : length hs ≡ parts_after s) (are : parts_on (bytes_of t) hs ≡ Some parts) (long : n ≡ length (encode_all parts)) where
  -- the value that is to be made, and its encoding
  abbrev pub value : Tree
  value = build s parts

  wanted : asked (bytes_of t) s hs ≡ Ok value
  wanted = ap (λ o. ok_or (option_map (build s) o) Invalid) are

  enough : parts_after s ≡ count parts
  enough = sym counted ∙ (valid (bytes_of t) t.whole hs parts are).counted

  formed : Formed value
  formed = build_formed s parts enough (valid (bytes_of t) t.whole hs parts are).formed

  cost_is : length (encode value) ≡ header_size s + n
  cost_is =
      let e = ap length (encode_build s parts enough) in
      let a = length-append (header_bytes s) (encode_all parts) in
      let h = length_header s in
      omega arith

  pub refused : tape.space t < header_size s + n → Makes tape t t (asked (bytes_of t) s hs) (Err Full)
  refused l = subst (λ r. Makes tape t t r (Err Full)) (sym wanted) (refl, refl, (let c = cost_is in omega arith))

  -- the bytes once the value is written, of which so many are used
  module _ (old new : List ℕ) (size : ℕ) (all : size ≡ header_size s + n) (room : size ≤ vec_len t.bytes - t.used) (are_old : old ≡ t.bytes.items)
      (appended : (ts : Trees) → parts_on (take t.used old) hs ≡ Some ts → new ≡ take t.used old ++ over (drop t.used old) (encode (build s ts))) where
    written : new ≡ bytes_of t ++ over (drop t.used t.bytes.items) (encode value)
    written =
        subst (λ xs. (ts : Trees) → parts_on (take t.used xs) hs ≡ Some ts → new ≡ take t.used xs ++ over (drop t.used xs) (encode (build s ts))) are_old appended parts are

    here : length (bytes_of t) ≡ t.used
    here = let a = t.within in let b = t.bytes.ok.0 in length-take-le t.used t.bytes.items (omega arith)

    abbrev items : List ℕ
    items = take (vec_len t.bytes) (new ++ drop (length new) t.bytes.items)

    used : take (t.used + size) items ≡ bytes_of t ++ encode value
    used =
        let c = cost_is in
        let h = here in
        let w = t.within in
        used_next (bytes_of t) (drop t.used t.bytes.items) (encode value) new (drop (length new) t.bytes.items) (t.used + size) (vec_len t.bytes) (omega arith) (omega arith) written

    pub whole_after : IsWhole (take (t.used + size) items)
    whole_after = subst IsWhole (sym used) (whole_append (bytes_of t) t.whole value formed)

    pub held_after : IsNumbered s → parts_after s ≤ 8 → Held (take (t.used + size) items)
    held_after i l =
        let v = build_held s parts i enough l (parts_held (bytes_of t) t.held hs parts are) in
        subst Held (sym used) (held_append (bytes_of t) t.whole t.held value v)

    pub made : (t' : Tape) → bytes_of t' ≡ take (t.used + size) items → t'.used ≡ t.used + size → vec_len t'.bytes ≡ vec_len t.bytes → Makes tape t t' (asked (bytes_of t) s hs) (Ok t.used)
    made t' b u l = subst (λ r. Makes tape t t' r (Ok t.used)) (sym wanted) record {
      fresh = fresh_end (bytes_of t) t.used (let h = here in omega arith);
      named = ap (λ bs. meaning bs t.used) (b ∙ used) ∙ named_append (bytes_of t) t.whole value formed t.used (sym here);
      kept = λ k w e. ap (λ bs. meaning bs k) (b ∙ used) ∙ kept_append (bytes_of t) t.whole value formed k w e;
      paid = let c = cost_is in let f = t.within in omega arith;
      priced = refl;
    }
