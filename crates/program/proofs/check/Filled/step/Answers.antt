use Rattle.std.proofs.Common.{sym, ◌∙◌}
use Rattle.program.proofs.Stepping.{not_ready, filled}
use Rattle.program.proofs.check.Filled.step.Goals as goal

pub returns-then-is_ready : goal.returns-then-is_ready
returns-then-is_ready c =
    filled c.args.counts.now c.args.line c.args.row c.args.self.now.marks (sym c.is_ready.ensures ∙ c.if-is_ready.true)
    c.fills-span.result c.fills-span.ensures c.fill.new.self.marks c.fill.result c.fill.ensures

pub returns-else-is_ready : goal.returns-else-is_ready
returns-else-is_ready c =
    rw c.if-is_ready.false (not_ready c.args.counts.now c.args.line c.args.row c.args.self.now.marks c.args.self.now.marks (sym c.is_ready.ensures ∙ c.if-is_ready.false))
