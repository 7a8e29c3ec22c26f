-- The space of a row table: each value takes a row.
use Rattle.std.specs.Prelude.{ℕ, ◌-◌, Vec, vec_len, vec_capacity}
use Rattle.std.specs.declared.alloc.Global.{Global}
use Rattle.rows.specs.declared.entry.Entry.{Entry}

abbrev pub rows_left : Vec Entry Global → ℕ
rows_left v = vec_capacity v - vec_len v
