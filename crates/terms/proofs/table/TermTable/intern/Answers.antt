use Rattle.std.proofs.Common.{vec_items, refl, inl, inr, arith}
use Rattle.std.proofs.lemmas.List.{length_push}
use Rattle.terms.proofs.Interning.{already, pushed, sound_push}
use Rattle.terms.proofs.table.TermTable.intern.Goals as goal

pub returns-in-Some-clause-interned : goal.returns-in-Some-clause-interned
returns-in-Some-clause-interned c = (already (vec_items c.args.self.now.rows) c.args.row c.in-Some.term c.args.self.now.ordered c.args.self.now.whole (rw c.deref.ensures.value at c.in-Some.ensures), inl refl)

pub invariant_of-self : goal.invariant_of-self
invariant_of-self c =
    let t = c.args.self.now in
    let s = sound_push (vec_items t.rows) c.args.row (record { ordered = t.ordered; whole = t.whole; distinct = t.distinct; numbered = t.numbered }) (rw t.rows.ok.0 at c.requires) (rw c.deref.ensures.value at c.in_default.ensures) (omega arith)
    _ _ c.push.ensures.items in
    record { ordered = s.ordered; whole = s.whole; distinct = s.distinct; numbered = s.numbered }

pub returns-clause-interned : goal.returns-clause-interned
returns-clause-interned c =
    let t = c.args.self.now in
    let n = t.rows.ok.0 in
    let l = length_push (vec_items t.rows) c.args.row in
    let e = c.in_ok-push.ensures.items in
    rw (e, c.len-term.ensures, n)
    (pushed (vec_items t.rows) c.args.row t.ordered t.whole (rw n at c.requires), inr (omega arith, omega arith, omega arith, rw c.deref.ensures.value at c.in_default.ensures))
