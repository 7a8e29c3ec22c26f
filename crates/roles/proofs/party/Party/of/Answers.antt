use Rattle.std.proofs.Common.{vec_items, ◌∙◌, rules}
use Rattle.terms.specs.Meanings.{functions_of, types_of}
use Rattle.roles.proofs.Functions.{rows_same, rows_end}
use Rattle.roles.proofs.party.Party.of.Goals as goal

pub returns-clause-functions : goal.returns-clause-functions
returns-clause-functions c =
    rows_end c.args.name (vec_items c.args.declarations.now.rights) (functions_of c.args.declarations.now) c.loop-number.number (vec_items c.loop-number.functions) _ c.loop-number.invariant (search rules)
    ∙ rows_same c.args.name (vec_items c.args.declarations.now.rights) (types_of c.args.declarations.now) 0 (functions_of c.args.declarations.now)
