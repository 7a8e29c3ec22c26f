-- The text of all roles' programs.
use Rattle.std.specs.Prelude.{ℕ, List, ◌++◌, map, codes, flat_map, vec_items}
use Rattle.program.specs.Printed.{written, row_text}
use Rattle.terms.specs.declared.declarations.Function.{Function}
use Rattle.terms.specs.Meanings.{functions_of}
use Rattle.terms.specs.Scope.{bytes}
use Rattle.roles.specs.declared.role.Role.{Role}
use Rattle.roles.specs.declared.translation.Translation.{Translation}

-- the functions' names as they are written: a row's function goes by its place among them
abbrev pub function_names : List ℕ → List Function → List (List ℕ)
function_names text fs = map (λ (f : Function). written (bytes text f.name)) fs

-- a line with the role's name, then a line for each of its rows
abbrev pub role_text : List ℕ → List (List ℕ) → Role → List ℕ
role_text text names r = codes "role " ++ (written (bytes text r.part) ++ (codes "\n" ++ flat_map (row_text names) (vec_items r.rows)))

-- role by role
abbrev pub listing : List ℕ → Translation → List ℕ
listing text T = flat_map (role_text text (function_names text (functions_of T.declarations))) (vec_items T.roles)
