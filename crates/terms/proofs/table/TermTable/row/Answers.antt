use Rattle.std.proofs.Common.{vec_items, rules}
use Rattle.terms.proofs.Tables.{stands}
use Rattle.terms.proofs.table.TermTable.row.Goals as goal

pub returns-clause-stands : goal.returns-clause-stands
returns-clause-stands c = λ h. stands (vec_items c.args.self.now.rows) c.args.self.now.ordered c.args.self.now.whole c.args.term _ (search rules) (search rules)
