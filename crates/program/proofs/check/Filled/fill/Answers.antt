use Rattle.std.proofs.Common.{sym, ◌∙◌, rules}
use Rattle.program.proofs.Filling.{fill_none, fill_more, fill_stops, fill_ends}
use Rattle.program.proofs.check.Filled.fill.Goals as goal

pub loop-register-init : goal.loop-register-init
loop-register-init c = fill_none c.args.self.now.marks c.args.span.first

pub loop-register-preserved : goal.loop-register-preserved
loop-register-preserved c =
    let l = c.loop-register in
    rw c.mark.ensures
    (fill_more c.args.self.now.marks l.self.marks c.args.span.first l.register l.self.whole l.auto.register l.invariant (search rules) (sym c.has.ensures ∙ c.if-has.false))

pub returns-then-has : goal.returns-then-has
returns-then-has c =
    let l = c.loop-register in
    fill_stops c.args.self.now.marks l.self.marks c.args.span.first l.register l.self.whole l.auto.register l.invariant c.args.span.count c.loop-register-test.true (sym c.has.ensures ∙ c.if-has.true)

pub returns : goal.returns
returns c =
    let l = c.loop-register in
    fill_ends c.args.self.now.marks l.self.marks c.args.span.first l.register l.self.whole l.auto.register l.invariant c.args.span.count (search rules)
