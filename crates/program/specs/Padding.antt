-- A short list in eight places.
use Rattle.std.proofs.Common.{◌≡◌, ℕ, ◌-◌, ◌≤◌, List, ◌++◌, length, take, drop, replicate, sym, ap, ◌∙◌, arith}
use Rattle.std.proofs.lemmas.List.{length-take-le, take-append-drop}

-- the places past the list's end are 0
pub record IsPadded (count : ℕ) (items : List ℕ) : Type 0 where
  pub fits : count ≤ 8
  pub full : length items ≡ 8
  pub rest : drop count items ≡ replicate (8 - count) 0

-- the places that hold a list
abbrev pub padded : List ℕ → List ℕ
padded xs = xs ++ replicate (8 - length xs) 0

pub padded-take : (count : ℕ) (items : List ℕ) → IsPadded count items → padded (take count items) ≡ items
padded-take count items p =
    let e = length-take-le count items (omega (arith, p.fits, p.full)) in
    ap (λ n. take count items ++ replicate (8 - n) 0) e ∙ ap (λ xs. take count items ++ xs) (sym p.rest) ∙ take-append-drop count items
