use Rattle.std.proofs.Common.{rules, vec_items, refl, sym, ◌∙◌, arith}
use Rattle.rows.proofs.Finding.{of_first}
use Rattle.rows.proofs.Equality.{above_each, other_count, of_one_row, of_two_firsts, eq_at, parts_before, parts_ahead}
use Rattle.rows.proofs.rows.Rows.+equality.Goals as goal
use Rattle.rows.proofs.rows.Rows.+equality.Goals.{equal_parts-else-part-other-via-then-part-other+else-not-equal, equal_parts-else-part-other-via-else-part-other}
use Rattle.rows.specs.Rows.{values}

pub equal-returns-then-left-right : goal.equal-returns-then-left-right
equal-returns-then-left-right t c =
    sym (of_one_row (vec_items c.args.self.now.entries) c.args.self.now.classed c.args.left c.args.right c.if-left-right.true)

pub equal-returns-then-other-right : goal.equal-returns-then-other-right
equal-returns-then-other-right t c =
    let s = c.args.self.now in
    sym (of_two_firsts (vec_items s.entries) s.classed c.args.left c.args.right c.requires.left c.requires.right (search rules) (search rules) c.if-left-right.false)

pub equal-equal_parts-requires : goal.equal-equal_parts-requires
equal-equal_parts-requires t c =
    let s = c.args.self.now in
    let l = parts_before (vec_items s.entries) s.earlier c.args.left c.requires.left in
    let f = of_first (vec_items s.entries) s.classed s.earlier s.first in
    let d = c.decreases in (
      rw (c.parts.ensures, c.entry-one.ensures) (omega (arith, l, d)),
      (rw (c.parts.ensures, c.entry-one.ensures) (f c.args.left c.requires.left), rw (c.parts-then-is_like.ensures, c.entry-other.ensures) (f c.args.right c.requires.right)),
    )

pub equal-returns-then-is_like : goal.equal-returns-then-is_like
equal-returns-then-is_like t c =
    let s = c.args.self.now in
    let e = eq_at (vec_items s.entries) s.classed s.earlier c.args.left c.args.right c.entry-one.result.now.row c.entry-other.result.now.row c.requires.left c.requires.right (search rules) (search rules) in
    rw (e, ← c.is_like.ensures, c.if-is_like.true, ← c.parts.ensures, ← c.parts-then-is_like.ensures) c.equal_parts.ensures

pub equal-returns-else-is_like : goal.equal-returns-else-is_like
equal-returns-else-is_like t c =
    let s = c.args.self.now in
    let e = eq_at (vec_items s.entries) s.classed s.earlier c.args.left c.args.right c.entry-one.result.now.row c.entry-other.result.now.row c.requires.left c.requires.right (search rules) (search rules) in
    rw (e, ← c.is_like.ensures, c.if-is_like.false) refl

pub equal_parts-returns-then-left-right : goal.equal_parts-returns-then-left-right
equal_parts-returns-then-left-right t c = sym (other_count _ c.args.left.now c.args.right.now (search rules))

pub equal_parts-equal-requires : goal.equal_parts-equal-requires
equal_parts-equal-requires t c =
    let n = c.loop-place-test.true in
    let l = above_each c.args.left.now c.loop-place.place n in
    let d = c.decreases in
    let e = c.if-left-right.false in
    (omega (arith, l, d), ((c.requires.left c.loop-place.place 0 n).0, (c.requires.right c.loop-place.place 0 (omega (arith, e, n))).0))

pub equal_parts-loop-place-preserved : goal.equal_parts-loop-place-preserved
equal_parts-loop-place-preserved t c =
    let s = c.args.self.now in
    let n = c.loop-place-test.true in
    let e = c.if-left-right.false in
    c.loop-place.invariant
    ∙ parts_ahead (values (vec_items s.entries)) c.args.left.now c.args.right.now c.loop-place.place n (omega (arith, e, n))
    (elim c.else-part-other.branch [
      | equal_parts-else-part-other-via-then-part-other+else-not-equal w ↦ sym w.equal.ensures ∙ w.if-not-equal.false
      | equal_parts-else-part-other-via-else-part-other w ↦ of_one_row (vec_items s.entries) s.classed _ _ w.if-part-other.false
    ])
