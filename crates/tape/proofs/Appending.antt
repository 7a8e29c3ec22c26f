-- A value's encoding behind the others.
use Rattle.std.proofs.Common.{◌≡◌, ℕ, zero, suc, ◌-◌, ◌<◌, ◌≤◌, ◌⊎◌, inl, inr, Bool, true, false, List, [], ◌∷◌, ◌++◌, length, arith, refl, ap, sym, subst, ◌∙◌, append_assoc, append-nil}
use Rattle.std.proofs.lemmas.Bool.{cases_Bool}
use Rattle.std.proofs.lemmas.List.{drop-append-le, drop_at}
use Rattle.std.specs.Prelude.{Some, None, Option, if◌then◌else◌, ◌==◌, slice_index}
use Rattle.std.specs.List.{flat_map}
use Rattle.model.specs.Trees.{Tree, Formed}
use Rattle.model.specs.Tape.{encode}
use Rattle.store.specs.declared.shape.Shape.TheVariants.{Atom, Tuple, Crypt, Apply}
use Rattle.tape.specs.Headers.{header, header_size, number}
use Rattle.tape.specs.Values.{starts, values, meaning, IsWhole, Begins}
use Rattle.tape.specs.Fitting.{starts_within, means_starts}
use Rattle.tape.proofs.Formed.{values_formed}
use Rattle.tape.proofs.Decoding.{decoding, decoding_each}
use Rattle.tape.proofs.Starting.{behind_each, starts_first, some_bytes}
use Rattle.tape.proofs.Reaching.{value_there, nowhere, anywhere}
use Rattle.tape.proofs.Gathering.{flat_push}

-- how many bytes a header has, its first one tells
size_first : (b : ℕ) (bs cs : List ℕ) → header_size (header (b ∷ bs)) ≡ header_size (header (b ∷ cs))
size_first b bs cs = go (b == 1) (b == 2) (b == 3)
  where
    sized : Bool → Bool → Bool → List ℕ → ℕ
    sized p q r bs =
        header_size (if p then Atom (number (b ∷ bs)) else (if q then Tuple (slice_index (b ∷ bs) 1) else (if r then Crypt else Apply (slice_index (b ∷ bs) 1) (slice_index (b ∷ bs) 2))))

    go : (p q r : Bool) → sized p q r bs ≡ sized p q r cs
    go true q r = refl
    go false true r = refl
    go false false true = refl
    go false false false = refl

-- bytes added behind
pub starts_same : (k : ℕ) (bs : List ℕ) (h : ℕ) (cs : List ℕ) → h < length bs → starts k (bs ++ cs) h ≡ starts k bs h
unfolding starts
starts_same k [] h cs l = absurd (omega arith)
starts_same zero (b ∷ bs) zero cs l = refl
starts_same zero (b ∷ bs) (suc h) cs l =
    ap (λ n. starts (n - 1) (bs ++ cs) h) (size_first b (bs ++ cs) bs)
    ∙ starts_same (header_size (header (b ∷ bs)) - 1) bs h cs (omega arith)
starts_same (suc k) (b ∷ bs) zero cs l = refl
starts_same (suc k) (b ∷ bs) (suc h) cs l = starts_same k bs h cs (omega arith)

begins_append : (bs : List ℕ) (h : ℕ) (v : Tree) (cs : List ℕ) → Begins bs h v → Begins (bs ++ cs) h v
begins_append bs h v cs b =
    let l = starts_within 0 bs h b.starts in
    record {
      starts = starts_same 0 bs h cs l ∙ b.starts;
      stands = record {
        rest = b.stands.rest ++ cs;
        formed = b.stands.formed;
        spelled = drop-append-le h bs cs (omega arith) ∙ ap (λ xs. xs ++ cs) b.stands.spelled ∙ append_assoc (encode v) b.stands.rest cs;
      };
    }

-- what a handle means on whole bytes stands there
pub meant : (bs : List ℕ) (h : ℕ) (v : Tree) → IsWhole bs → meaning bs h ≡ Some v → Begins bs h v
meant bs h v w e =
    let there = anywhere bs h w (means_starts bs h v e) in
    let is : there.0 ≡ v = let z : ◌≡◌ {A = Option Tree} (Some there.0) (Some v) = sym (value_there bs h there.0 there.1) ∙ e in cc in
    subst (Begins bs h) is there.1

module _ (bs : List ℕ) (w : IsWhole bs) (v : Tree) (f : Formed v) where
  pub whole_append : IsWhole (bs ++ encode v)
  unfolding values
  whole_append =
      let vs = values 0 bs in
      let vf = values_formed 0 bs in
      let all : values 0 (bs ++ encode v) ≡ vs ++ v ∷ [] =
      ap (λ cs. values 0 (cs ++ encode v)) (sym w)
      ∙ decoding_each vs (encode v) vf
      ∙ ap (λ us. vs ++ us) (ap (values 0) (sym (append-nil (encode v))) ∙ decoding v [] f) in
      ap (flat_map encode) all ∙ flat_push vs v ∙ ap (λ cs. cs ++ encode v) w

  pub kept_append : (k : ℕ) (u : Tree) → meaning bs k ≡ Some u → meaning (bs ++ encode v) k ≡ Some u
  kept_append k u e = value_there (bs ++ encode v) k u (begins_append bs k u (encode v) (meant bs k u w e))

  pub named_append : (h : ℕ) → h ≡ length bs → meaning (bs ++ encode v) h ≡ Some v
  named_append h e = value_there (bs ++ encode v) h v (record {
    starts =
        ap (λ cs. starts 0 (cs ++ encode v) h) (sym w)
        ∙ behind_each (values 0 bs) (encode v) h 0 (let q = ap length w in omega arith)
        ∙ starts_first (encode v) (some_bytes v);
    stands = record { rest = []; formed = f; spelled = drop_at bs (encode v) h (sym e) ∙ sym (append-nil (encode v)) };
  })

pub fresh_end : (bs : List ℕ) (h : ℕ) → length bs ≤ h → meaning bs h ≡ None
fresh_end bs h l = go (cases_Bool (starts 0 bs h))
  where
    go : (starts 0 bs h ≡ true) ⊎ (starts 0 bs h ≡ false) → meaning bs h ≡ None
    go (inl e) = let m = starts_within 0 bs h e in absurd (omega arith)
    go (inr e) = nowhere bs h e
