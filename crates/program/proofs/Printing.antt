-- Names as they are written.
use Rattle.std.proofs.Common.{◌≡◌, ℕ, zero, suc, ◌+◌, ◌<◌, List, [], ◌∷◌, ◌++◌, length, get_or, take, map, encode_utf8, refl, ap, ap₂, ◌∙◌, append-nil}
use Rattle.std.proofs.lemmas.List.{take_more}
use Rattle.std.proofs.lemmas.Str.{encodes-append, encodes-IsAscii}
use Rattle.program.specs.Printed.{name, written, Narrow}

-- one character more
pub written_more : (bytes : List ℕ) (i : ℕ) → i < length bytes → written (take (i + 1) bytes) ≡ written (take i bytes) ++ encode_utf8 (get_or bytes i 0)
written_more bytes i h =
    ap written (take_more bytes i 0 h) ∙ encodes-append (take i bytes) (get_or bytes i 0 ∷ [])
    ∙ ap (λ xs. written (take i bytes) ++ xs) (append-nil (encode_utf8 (get_or bytes i 0)))

module _ {A : Type 0} (f : A → List ℕ) where
  pub name_written : (xs : List A) (k : ℕ) → name (map (λ x. written (f x)) xs) k ≡ written (name (map f xs) k)
  name_written [] k = refl
  name_written (x ∷ xs) zero = refl
  name_written (x ∷ xs) (suc k) = name_written xs k

  -- names that are ASCII are written as they are
  pub narrow_written : (xs : List A) → Narrow (map f xs) → map (λ x. written (f x)) xs ≡ map f xs
  narrow_written [] n = refl
  narrow_written (x ∷ xs) n = ap₂ (λ y ys. y ∷ ys) (encodes-IsAscii (f x) (n 0)) (narrow_written xs (λ k. n (suc k)))
