-- The programs of a translation can be held.
use Rattle.std.specs.Prelude.{◌≡◌, ℕ, true, List, vec_items}
use Rattle.model.specs.Lists.{Every}
use Rattle.program.specs.Held.{passes}
use Rattle.terms.specs.Counts.{counts}
use Rattle.terms.specs.Meanings.{scope_of}
use Rattle.roles.specs.declared.role.Role.{Role}
use Rattle.roles.specs.declared.translation.Translation.{Translation}

-- how many parts each function of a translation takes
abbrev pub counts_of : Translation → List ℕ
counts_of T = counts (scope_of T.declarations).functions

-- each role's rows pass the check of a program, with these counts
pub record AllHeld (T : Translation) : Type 0 where
  pub each : Every (λ (r : Role). passes (counts_of T) (vec_items r.rows) ≡ true) (vec_items T.roles)
