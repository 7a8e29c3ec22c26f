-- The loops that go over a tape.
use Rattle.std.proofs.Common.{◌≡◌, ℕ, ◌+◌, ◌-◌, ◌<◌, ◌≤◌, ◌⊎◌, inl, inr, false, eqb, ltb, List, length, drop, arith, ap, sym, ◌∙◌, length-drop}
use Rattle.std.proofs.lemmas.List.{drop-drop, drop_all}
use Rattle.std.proofs.lemmas.Bool.{cases_lt, lt-ltb, le-ltb, ne_eqb}
use Rattle.tape.specs.Headers.{header, header_size}
use Rattle.tape.specs.Values.{starts}
use Rattle.tape.proofs.Starting.{among_header, past_header, starts_nowhere, starts_first}

-- the headers have been passed up to a place
pub record Passed (bs : List ℕ) (h at : ℕ) : Type 0 where
  pub before : at ≤ h → starts 0 bs h ≡ starts 0 (drop at bs) (h - at)
  pub beyond : h < at → starts 0 bs h ≡ false

pub one_passed : (bs : List ℕ) (h at n : ℕ) → Passed bs h at → at < h → at < length bs → n ≡ header_size (header (drop at bs)) → Passed bs h (at + n)
one_passed bs h at n p l m e =
    let long : 0 < length (drop at bs) = let q = length-drop at bs in omega arith in
    let here = p.before (omega arith) in
    record {
      before = λ q.
          here
          ∙ past_header (drop at bs) (h - at) (h - (at + n)) long (omega arith)
          ∙ ap (λ cs. starts 0 cs (h - (at + n))) (ap (λ k. drop k (drop at bs)) (sym e) ∙ drop-drop n at bs);
      beyond = λ q. here ∙ among_header (drop at bs) (h - at) (omega arith) (omega arith);
    }

-- what the end of the loop answers
past_end : (bs : List ℕ) (h at : ℕ) → Passed bs h at → at ≤ h → length bs ≤ at → starts 0 bs h ≡ false
past_end bs h at p l m = p.before l ∙ ap (λ cs. starts 0 cs (h - at)) (drop_all at bs m) ∙ starts_nowhere (h - at)

pub at_place : (bs : List ℕ) (h at : ℕ) → Passed bs h at → at ≡ h → ltb at (length bs) ≡ starts 0 bs h
at_place bs h at p e = go (cases_lt at (length bs))
  where
    go : (at < length bs) ⊎ (length bs ≤ at) → ltb at (length bs) ≡ starts 0 bs h
    go (inl l) =
        let long : 0 < length (drop at bs) = let q = length-drop at bs in omega arith in
        let z : h - at ≡ 0 = omega arith in
        lt-ltb at (length bs) l ∙ sym (p.before (omega arith) ∙ ap (starts 0 (drop at bs)) z ∙ starts_first (drop at bs) long)
    go (inr l) = le-ltb at (length bs) l ∙ sym (past_end bs h at p (omega arith) l)

pub elsewhere : (bs : List ℕ) (h at : ℕ) → Passed bs h at → (at ≡ h → ⊥) → ((at < h) × (length bs ≤ at)) ⊎ (h ≤ at) → eqb at h ≡ starts 0 bs h
elsewhere bs h at p n (inl q) = ne_eqb at h n ∙ sym (past_end bs h at p (let l = q.0 in omega arith) q.1)
elsewhere bs h at p n (inr q) = ne_eqb at h n ∙ sym (p.beyond (omega arith))
