use Rattle.std.proofs.Common.{sym, ◌∙◌, arith}
use Rattle.terms.specs.Terms.{size}
use Rattle.terms.proofs.Numbered.{weaker}
use Rattle.roles.proofs.Due.{crypt_due}
use Rattle.roles.proofs.Turning.{crypt_settled, crypt_stays}
use Rattle.roles.proofs.state.RoleState.settle_compound.Goals as goal

pub open_compound-requires-clause-within : goal.open_compound-requires-clause-within
open_compound-requires-clause-within c = let h = c.requires.within in weaker c.args.known.term (size c.args.view.table.now) _ (omega arith) c.requires.below

pub open_crypt-requires-clause-composable : goal.open_crypt-requires-clause-composable
open_crypt-requires-clause-composable c =
    sym (crypt_due c.args.view.table.now c.args.view.party.now c.args.self.now _ _ _ c.in-Crypt.is c.as_slice.ensures.value (omega arith)) ∙ c.requires.due

pub returns-in-len2 : goal.returns-in-len2
returns-in-len2 c =
    rw (← crypt_settled c.args.view.table.now c.args.view.party.now c.args.known.register c.args.self.now _ _ _ c.in-Crypt.is c.as_slice.ensures.value (omega arith))
    c.open_crypt.ensures

pub returns-in_default : goal.returns-in_default
returns-in_default c =
    (crypt_stays c.args.view.table.now c.args.view.party.now _ c.args.self.now _ _ _ c.in-Crypt.is c.as_slice.ensures.value (λ n. omega arith), c.requires.knows)

pub returns-in_default-2 : goal.returns-in_default-2
returns-in_default-2 c =
    (crypt_stays c.args.view.table.now c.args.view.party.now _ c.args.self.now _ _ _ c.in-Crypt.is c.as_slice.ensures.value (λ n. omega arith), c.requires.knows)

pub open_compound-requires-else-one_way-clause-within : goal.open_compound-requires-else-one_way-clause-within
open_compound-requires-else-one_way-clause-within c = let h = c.requires.within in weaker c.args.known.term (size c.args.view.table.now) _ (omega arith) c.requires.below
