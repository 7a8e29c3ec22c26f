-- Handles of a row table are small, which every store has to show.
use Rattle.std.specs.Prelude.{◌≡◌, ℕ, ◌+◌, ◌<◌, ◌≤◌, List, [], ◌∷◌, ◌++◌, length, Some, Vec, vec_items, vec_capacity}
use Rattle.std.specs.declared.alloc.Global.{Global}
use Rattle.std.proofs.Common.{arith}
use Rattle.std.proofs.lemmas.List.{length-append}
use Rattle.std.proofs.lemmas.Option.{slice_get_within}
use Rattle.model.specs.Trees.{Tree}
use Rattle.rows.specs.declared.entry.Entry.{Entry}
use Rattle.rows.specs.Rows.{row_value, values_after, values, meaning}

-- there are as many values as rows
pub values_length : (vs : List Tree) (es : List Entry) → length (values_after vs es) ≡ length vs + length es
unfolding values_after
values_length vs [] = omega arith
values_length vs (e ∷ es) = let h = values_length (vs ++ row_value vs e.row ∷ []) es in let k = length-append vs (row_value vs e.row ∷ []) in omega arith

pub handles_fit : (v : Vec Entry Global) → vec_capacity v ≤ 4096 → (h : ℕ) → (w : Tree) → meaning (vec_items v) h ≡ Some w → h < 4294967295
handles_fit v few h w e =
    let n = values_length [] (vec_items v) in
    let l = slice_get_within (values (vec_items v)) h w e in
    let i = v.ok in
    omega (arith, i.0, i.1)
