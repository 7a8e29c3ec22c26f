use Rattle.std.proofs.Common.{◌≡◌, ◌++◌, map, take, flat_map, string_bytes, vec_items}
use Rattle.program.specs.Printed.{written, row_text}
use Rattle.roles.proofs.listing.print_role.Given as goal

abbrev pub invariant-loop-row : goal.invariant-loop-row
invariant-loop-row l =
    string_bytes l.out ≡ string_bytes l.initial.out ++ flat_map (row_text (map (λ x. written x.now) l.functions)) (take l.row-index (vec_items l.role.rows))
