-- Rows, as the model has them, and the registers that they fill.
use Rattle.std.specs.Prelude.{ℕ, suc, max, cond, List, [], ◌∷◌, ◌++◌, ◌==◌}
use Rattle.model.specs.Roles.{Act}
use Rattle.program.specs.declared.action.Row.{Row}
use Rattle.program.specs.Actions.{row_act}
use Rattle.program.specs.Held.{fills}

-- a row's line and its action
abbrev pub lined : Row → ℕ × Act
lined r = (r.line, row_act r)

-- the registers that some rows fill
abbrev pub filled_by : List Row → List ℕ
filled_by [] = []
filled_by (r ∷ rs) = fills r.action ++ filled_by rs

-- so many registers have all of some numbers: one more than the highest
abbrev pub span_to : List ℕ → ℕ
span_to [] = 0
span_to (r ∷ rs) = max (suc r) (span_to rs)

-- the rows of a line, if it is at the front
abbrev pub line_rows : ℕ → List Row → List Row
line_rows l [] = []
line_rows l (r ∷ rs) = cond (r.line == l) (r ∷ line_rows l rs) []
