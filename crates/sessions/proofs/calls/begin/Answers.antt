use Rattle.std.proofs.Common.{◌≡◌, Result, arith}
use Rattle.run.specs.declared.fault.RunFault.{RunFault}
use Rattle.run.specs.Calls.{Begins}
use Rattle.sessions.specs.declared.reply.Reply.TheVariants as replies
use Rattle.sessions.specs.Replies.{reply_of}
use Rattle.sessions.proofs.There.{there}
use Rattle.sessions.proofs.calls.begin.Goals as goal

pub returns : goal.returns
returns g c =
    let h = c.if-role-runs.false in
    let old = c.args.store.now in
    let new = c.begin.new.store in
    there old new c.args.runs.now c.args.role c.done.result
    (λ run run'. (x : Result (Unit {0}) RunFault) × Begins g.S.Store.semantics old new run run' c.args.given.now c.args.numbers.now x × (c.done.result ≡ reply_of (λ u. replies.Done) x))
    (omega arith) c.index-runs-role.result c.begin.new.self (c.begin.result, c.begin.ensures, c.done.ensures)
