-- How many bytes a run has.
use Rattle.std.proofs.Common.{◌≡◌, ℕ, suc, Bool, cond, List, [], ◌∷◌, min, length, take, drop, refl, ap, ◌∙◌, arith, ◌+◌, ◌-◌, length-drop}
use Rattle.std.proofs.lemmas.List.{drop_min, take_all}
use Rattle.std.specs.List.{prefix_len}
use Rattle.text.specs.Bytes.{class, span}
use Rattle.text.specs.declared.class.ByteClass.{ByteClass}

pub span_prefix : (p : ByteClass → Bool) (bs : List ℕ) → span p bs ≡ prefix_len (λ b. p (class b)) bs
unfolding span
span_prefix p [] = refl
span_prefix p (b ∷ bs) =
    let more : suc (span p bs) ≡ 1 + prefix_len (λ x. p (class x)) bs = omega (arith, span_prefix p bs) in
    ap (λ n. cond (p (class b)) n 0) more

-- The bytes from a place on, which may lie past the end.
pub rest_from : (xs : List ℕ) (from at : ℕ) → at ≡ min from (length xs) → take (length xs - at) (drop at xs) ≡ drop from xs
rest_from xs from at e = take_all (length xs - at) (drop at xs) (omega (arith, length-drop at xs)) ∙ ap (λ k. drop k xs) e ∙ drop_min from xs
