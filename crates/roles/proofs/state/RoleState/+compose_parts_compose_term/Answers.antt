use Rattle.std.proofs.Common.{sym, ◌∙◌, arith}
use Rattle.std.proofs.lemmas.Result.{err_from_is_err_and}
use Rattle.program.specs.Parts.{parts_of}
use Rattle.roles.proofs.Composing.{when_known, name_lacking, name_filled, not_allowed, part_lacking, compound_filled, one_more, one_lacking, all_done, below_at}
use Rattle.roles.proofs.Built.{more_parts, longer_parts}
use Rattle.roles.proofs.state.RoleState.+compose_parts_compose_term.Goals as goal

pub compose_parts-compose_term-requires : goal.compose_parts-compose_term-requires
compose_parts-compose_term-requires t c =
    let b = below_at c.args.whole c.loop-part.part-index c.as_slice-part-items.ensures.value c.requires.below c.loop-part-test.true in
    let w = c.requires.within in
    let m = c.decreases in
    (omega arith, (omega arith, c.loop-part.invariant.knows))

pub compose_parts-returns-in_err-register : goal.compose_parts-returns-in_err-register
compose_parts-returns-in_err-register t c =
    let p = err_from_is_err_and c.from_residual.result c.from_residual.ensures.1 in
    rw (p.1, p.2)
    (one_lacking c.args.view.table.now c.args.view.party.now c.args.made.now c.args.parts.now c.args.self.now _ c.as_slice-part-items.ensures.value
    c.loop-part.self (parts_of c.loop-part.registers) _ c.loop-part.invariant.halfway
    c.loop-part-test.true c.compose_term.new.self c.in_err-register.field-0.0 c.in_err-register.ensures)

pub compose_parts-loop-part-preserved : goal.compose_parts-loop-part-preserved
compose_parts-loop-part-preserved t c =
    let l = c.loop-part.invariant.long in
    let h = c.as_slice-part-items.ensures.bound in
    let n = c.loop-part-test.true in
    let e = more_parts (parts_of c.loop-part.registers) (parts_of c.push.new.self) c.in_ok-register.register (omega arith) c.push.ensures in
    let m = longer_parts (parts_of c.loop-part.registers) (parts_of c.push.new.self) c.in_ok-register.register e in record {
      halfway = one_more c.args.view.table.now c.args.view.party.now c.args.made.now c.args.parts.now c.args.self.now _ c.as_slice-part-items.ensures.value
          c.loop-part.self _ _ c.loop-part.invariant.halfway
          n c.compose_term.new.self c.in_ok-register.register _ c.in_ok-register.ensures e;
      knows = c.in_ok-register.ensures.1;
      long = omega arith;
    }

pub compose_parts-returns : goal.compose_parts-returns
compose_parts-returns t c = (
  all_done c.args.view.table.now c.args.view.party.now c.args.made.now c.args.parts.now c.args.self.now _ c.as_slice-part-items.ensures.value
      c.loop-part.self _ _ c.loop-part.invariant.halfway c.loop-part-test.false,
  c.loop-part.invariant.knows,
)

pub compose_term-returns-in-Some : goal.compose_term-returns-in-Some
compose_term-returns-in-Some t c =
    when_known c.args.view.table.now c.args.self.now _ c.requires.within c.requires.knows c.args.view.party.now c.args.made.now _ c.in-Some.ensures.number

pub compose_term-returns-then-not-contains : goal.compose_term-returns-then-not-contains
compose_term-returns-then-not-contains t c =
    name_lacking c.args.view.table.now c.args.self.now _ c.requires.within c.requires.knows c.args.view.party.now c.args.made.now c.in_default.ensures.number
    _ (c.in-Name.ensures.stands c.requires.within) (sym c.if-not-contains.true ∙ c.contains.ensures.value)

pub compose_term-returns-else-not-contains : goal.compose_term-returns-else-not-contains
compose_term-returns-else-not-contains t c =
    name_filled c.args.view.table.now c.args.self.now _ c.requires.within c.requires.knows c.args.view.party.now c.args.made.now c.in_default.ensures.number
    _ (c.in-Name.ensures.stands c.requires.within) (sym c.if-not-contains.false ∙ c.contains.ensures.value) c.fill.new.self c.fill.result c.fill.ensures

pub compose_term-returns-then-not-may_make : goal.compose_term-returns-then-not-may_make
compose_term-returns-then-not-may_make t c =
    not_allowed c.args.view.table.now c.args.self.now _ c.requires.within c.requires.knows c.args.view.party.now c.args.made.now c.in_default.ensures.number
    _ _ (c.in-Compound.ensures.stands c.requires.within) c.if-not-may_make.ensures

pub compose_term-returns-in_err-parts-in-Compound : goal.compose_term-returns-in_err-parts-in-Compound
compose_term-returns-in_err-parts-in-Compound t c =
    let p = err_from_is_err_and c.from_residual.result c.from_residual.ensures.1 in
    rw (p.1, p.2)
    (part_lacking c.args.view.table.now c.args.self.now _ c.requires.within c.requires.knows c.args.view.party.now c.args.made.now c.in_default.ensures.number
    _ _ (c.in-Compound.ensures.stands c.requires.within) c.if-not-may_make.ensures
    c.compose_parts.new.self c.in_err-parts-in-Compound.field-0.0 c.in_err-parts-in-Compound.ensures)

pub compose_term-returns-in_ok-parts-in-Compound : goal.compose_term-returns-in_ok-parts-in-Compound
compose_term-returns-in_ok-parts-in-Compound t c =
    compound_filled c.args.view.table.now c.args.self.now _ c.requires.within c.requires.knows c.args.view.party.now c.args.made.now c.in_default.ensures.number
    _ _ (c.in-Compound.ensures.stands c.requires.within) c.if-not-may_make.ensures
    c.compose_parts.new.self c.fill-in-Compound.new.self c.in_ok-parts-in-Compound.parts c.fill-in-Compound.result _ c.build.ensures c.in_ok-parts-in-Compound.ensures c.fill-in-Compound.ensures
