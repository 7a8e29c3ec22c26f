-- Refusals of a run's call, by the fault that is answered.
use Rattle.std.specs.Prelude.{◌≡◌, ℕ, ◌⊎◌}
use Rattle.store.specs.declared.fault.StoreFault.TheVariants as stores
use Rattle.run.specs.declared.fault.RunFault.{RunFault}
use Rattle.run.specs.declared.fault.RunFault.TheVariants.{OutOfTurn, Counts, Mismatch, Store}
use Rattle.sessions.specs.declared.reply.Reply.{Reply}
use Rattle.sessions.specs.declared.reply.Reply.TheVariants as replies

-- with this fault, at some action's place
abbrev pub Fails : (ℕ → RunFault) → Reply → Type 0
Fails fault reply = (place : ℕ) × (reply ≡ replies.Run (fault place))

-- 11, 13, 12 and 15: a handle that is not valid, and want of space, are the store's whole fault
abbrev pub OutOfTurnFault : Reply → Type 0
OutOfTurnFault reply = Fails OutOfTurn reply

abbrev pub CountsFault : Reply → Type 0
CountsFault reply = Fails Counts reply

abbrev pub InvalidFault : Reply → Type 0
InvalidFault reply = Fails (Store stores.Invalid) reply

abbrev pub FullFault : Reply → Type 0
FullFault reply = Fails (Store stores.Full) reply

-- 14: what is opened does not fit or two values differ, or the store unlocks nothing with the key
abbrev pub MismatchFault : Reply → Type 0
MismatchFault reply = Fails Mismatch reply ⊎ Fails (Store stores.Mismatch) reply
