use Rattle.std.proofs.Common.{sym, ◌∙◌, arith}
use Rattle.model.specs.Roles.{due_parts}
use Rattle.roles.proofs.Composing.{below_at}
use Rattle.roles.proofs.Due.{crypt_due, crypt_never}
use Rattle.roles.proofs.Marks.{marked_can}
use Rattle.roles.proofs.state.RoleState.is_compound_due.Goals as goal

pub returns-in-len2 : goal.returns-in-len2
returns-in-len2 c =
    c.has.ensures ∙ c.requires.marks.marks _ (below_at _ 1 c.as_slice.ensures.value c.requires.within (omega arith))
    ∙ sym (crypt_due c.args.view.table.now c.args.view.party.now c.args.self.now _ _ _ c.in-Crypt.is c.as_slice.ensures.value (omega arith))

pub returns-in_default : goal.returns-in_default
returns-in_default c = sym (crypt_never c.args.view.table.now c.args.view.party.now c.args.self.now _ _ _ c.in-Crypt.is c.as_slice.ensures.value (λ n. omega arith))

pub returns-in_default-2 : goal.returns-in_default-2
returns-in_default-2 c = sym (crypt_never c.args.view.table.now c.args.view.party.now c.args.self.now _ _ _ c.in-Crypt.is c.as_slice.ensures.value (λ n. omega arith))

pub returns-then-may_make : goal.returns-then-may_make
unfolding due_parts
returns-then-may_make c =
    rw (c.in-Apply.is, ← c.if-not-one_way.ensures, ← c.if-may_make.ensures)
    (c.has_all.ensures ∙ rw c.as_slice-then-may_make.ensures.value (marked_can c.args.view.table.now c.args.self.now c.args.view.party.now _ _ c.requires.marks.marks _ c.requires.within))
