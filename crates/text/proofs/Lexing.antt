-- Steps along the bytes of a token.
use Rattle.std.proofs.Common.{◌≡◌, ℕ, ◌+◌, ◌-◌, ◌*◌, ◌<◌, List, length, get_or, drop, drop-drop}
use Rattle.std.proofs.lemmas.List.{drop_more}
use Rattle.text.specs.Bytes.{class}
use Rattle.text.specs.Tokens.{number, number_next}

pub next_drop : (xs : List ℕ) (at : ℕ) → drop 1 (drop at xs) ≡ drop (at + 1) xs
next_drop xs at = drop-drop 1 at xs

pub number_step : (xs : List ℕ) (from i n : ℕ) → i < length xs → number from i n (drop i xs) ≡ number_next from i n (n * 10 + (get_or xs i 0 - 48)) (number from (i + 1) (n * 10 + (get_or xs i 0 - 48)) (drop (i + 1) xs)) (class (get_or xs i 0))
unfolding number
number_step xs from i n h = rw (drop_more xs i 0 h)
