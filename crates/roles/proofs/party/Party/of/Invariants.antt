use Rattle.std.proofs.Common.{◌≡◌, ◌++◌, drop, vec_items}
use Rattle.roles.proofs.Functions.{rows_from}
use Rattle.roles.proofs.party.Party.of.Given as goal

abbrev pub invariant-loop-number : goal.invariant-loop-number
invariant-loop-number l =
    vec_items l.functions ++ rows_from l.name (vec_items l.declarations.rights) l.number (drop l.number (vec_items l.declarations.functions))
    ≡ rows_from l.name (vec_items l.declarations.rights) 0 (vec_items l.declarations.functions)
