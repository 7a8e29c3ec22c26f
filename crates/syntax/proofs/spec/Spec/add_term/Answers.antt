use Rattle.std.proofs.Common.{[], ◌∷◌}
use Rattle.syntax.proofs.Numbers.{kept_termed}
use Rattle.syntax.proofs.spec.Spec.add_term.Goals as goal

pub returns-clause-kept : goal.returns-clause-kept
returns-clause-kept c = kept_termed c.args.self.now c.push.new.list (c.args.term ∷ []) c.in_ok-push.ensures.items
