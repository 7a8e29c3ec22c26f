use Rattle.std.proofs.Common.{◌≡◌, rules, tests, vec_items, ◌∙◌, arith}
use Rattle.std.proofs.lemmas.List.{get_or_read}
use Rattle.rows.proofs.Finding.{begins, goes_on, found, missing, rows_is}
use Rattle.rows.proofs.rows.Rows.class_of.Goals as goal

pub loop-at-init : goal.loop-at-init
loop-at-init c =
    let a = c.args.self.now.all in
    let i = c.chain.ensures.value in
    begins (vec_items c.args.self.now.heads) (vec_items c.args.self.now.entries) c.args.row.now _ c.args.self.now.headed (rw i at c.chain.ensures.bound)
    (rw i at (get_or_read (vec_items c.args.self.now.heads) c.chain.result c.index-at.result.now (omega arith) c.index-at.ensures 0))

pub returns-then-eq : goal.returns-then-eq
returns-then-eq c =
    found (vec_items c.args.self.now.entries) c.args.self.now.classed c.args.self.now.earlier c.args.row.now c.loop-at.at c.entry-entry.result.now (search rules) (search rules) c.loop-at.invariant (rows_is _ _ (search rules))

pub loop-at-smaller : goal.loop-at-smaller
loop-at-smaller c =
    (goes_on (vec_items c.args.self.now.entries) c.args.row.now c.loop-at.at c.entry-entry.result.now (search rules) (search rules) c.args.self.now.chained c.loop-at.invariant (search (rules, tests))).0

pub loop-at-preserved : goal.loop-at-preserved
loop-at-preserved c =
    (goes_on (vec_items c.args.self.now.entries) c.args.row.now c.loop-at.at c.entry-entry.result.now (search rules) (search rules) c.args.self.now.chained c.loop-at.invariant (search (rules, tests))).1

pub returns : goal.returns
returns c =
    let z : c.loop-at.at ≡ 0 = omega arith in
    search rules ∙ missing (vec_items c.args.self.now.entries) c.args.self.now.classed c.args.self.now.earlier c.args.self.now.first c.args.row.now c.requires (rw z at c.loop-at.invariant)
