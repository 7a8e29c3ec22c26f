-- A row table as a store.
use Rattle.std.specs.Prelude.{ℕ, Result, vec_items}
use Rattle.model.specs.Trees.{Tree}
use Rattle.store.specs.declared.fault.StoreFault.{StoreFault}
use Rattle.store.specs.Semantics.{Semantics}
use Rattle.store.specs.Makers.{Makes}
use Rattle.rows.specs.declared.rows.Rows.{Rows}
use Rattle.rows.specs.Rows.{meaning}
use Rattle.rows.specs.Counts.{rows_left}

-- each value takes a row
abbrev pub table : Semantics Rows
table = record { means = λ t h. meaning (vec_items t.entries) h; space = λ t. rows_left t.entries; cost = λ t v. 1 }

abbrev pub Adds : Rows → Rows → Result Tree StoreFault → Result ℕ StoreFault → Type 0
Adds old new o r = Makes table old new o r
