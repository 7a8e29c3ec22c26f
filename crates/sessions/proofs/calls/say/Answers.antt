use Rattle.std.proofs.Common.{◌≡◌, ℕ, Result, arith}
use Rattle.run.specs.declared.fault.RunFault.{RunFault}
use Rattle.run.specs.Calls.{Says}
use Rattle.sessions.specs.declared.reply.Reply.TheVariants as replies
use Rattle.sessions.specs.Replies.{reply_of}
use Rattle.sessions.proofs.There.{there}
use Rattle.sessions.proofs.calls.say.Goals as goal

pub returns : goal.returns
returns g c =
    let h = c.if-role-runs.false in
    let old = c.args.store.now in
    let new = c.say.new.store in
    there old new c.args.runs.now c.args.role c.told.result
    (λ run run'. (x : Result ℕ RunFault) × Says g.S.Store.semantics old new run run' x × (c.told.result ≡ reply_of replies.Handle x))
    (omega arith) c.index-runs-role.result c.say.new.self (c.say.result, c.say.ensures, c.told.ensures)
