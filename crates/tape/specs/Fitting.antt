-- Handles of values lie within the bytes; no value is free.
use Rattle.std.proofs.Common.{◌≡◌, ℕ, zero, suc, ◌-◌, ◌<◌, ◌≤◌, Bool, true, false, List, [], ◌∷◌, length, take, length-take, arith, refl}
use Rattle.std.proofs.lemmas.Bool.{false≢true}
use Rattle.std.specs.Prelude.{if◌then◌else◌, drop, Some, None, Option, slice_get}
use Rattle.model.specs.Trees.{Tree, leaf, node, tupled, crypted, applied}
use Rattle.model.specs.Tape.{tape_cost}
use Rattle.tape.specs.Headers.{header, header_size}
use Rattle.tape.specs.Values.{starts, values, meaning}

pub starts_within : (k : ℕ) (bs : List ℕ) (h : ℕ) → starts k bs h ≡ true → h < length bs
unfolding starts
starts_within k [] h e = absurd (false≢true e)
starts_within zero (b ∷ bs) zero e = omega arith
starts_within zero (b ∷ bs) (suc h) e = let l = starts_within (header_size (header (b ∷ bs)) - 1) bs h e in omega arith
starts_within (suc k) (b ∷ bs) zero e = absurd (false≢true e)
starts_within (suc k) (b ∷ bs) (suc h) e = let l = starts_within k bs h e in omega arith

pub means_starts : (bs : List ℕ) (h : ℕ) (v : Tree) → meaning bs h ≡ Some v → starts 0 bs h ≡ true
means_starts bs h v e = go (starts 0 bs h) e
  where
    go : (b : Bool) → (if b then slice_get (values 0 (drop h bs)) 0 else None) ≡ Some v → b ≡ true
    go true e = refl
    go false e = absurd (let z : ◌≡◌ {A = Option Tree} None (Some v) = e in cc)

pub some_cost : (v : Tree) → 1 ≤ tape_cost v
some_cost (leaf n) = omega arith
some_cost (node tupled ts) = omega arith
some_cost (node crypted ts) = omega arith
some_cost (node (applied f) ts) = omega arith

pub tape_handle : (used most : ℕ) (bytes : List ℕ) (h : ℕ) (v : Tree) → used ≤ most → most ≤ 65535 → meaning (take used bytes) h ≡ Some v → h < 4294967295
tape_handle used most bytes h v l m e =
    let n = starts_within 0 (take used bytes) h (means_starts (take used bytes) h v e) in
    let k = length-take used bytes in
    omega arith
