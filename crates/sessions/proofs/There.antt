-- A run that is there is called.
use Rattle.std.proofs.Common.{◌≡◌, ℕ, ◌<◌, cond, List, length, get_or, set, refl}
use Rattle.std.proofs.lemmas.Bool.{lt-ltb}
use mathlib.Core.Path.{subst⁻¹}
use Rattle.run.specs.declared.run.Run.{Run}
use Rattle.sessions.specs.declared.reply.Reply.{Reply}
use Rattle.sessions.specs.declared.reply.Reply.TheVariants as replies
use Rattle.sessions.specs.Replies.{Calls}

pub there : {S : Type 0} (old new : S) (runs : List Run) (r : ℕ) (reply : Reply) (Called : Run → Run → Type 0) → r < length runs → (run run' : Run) → Called (get_or runs r run) run'
    → Calls old new runs (set runs r run') r reply Called
there old new runs r reply Called l run run' z =
    subst⁻¹ (λ b. cond b ((d d' : Run) × (set runs r run' ≡ set runs r d') × Called (get_or runs r d) d') ((new ≡ old) × (set runs r run' ≡ runs) × (reply ≡ replies.NoRole)))
    (lt-ltb r (length runs) l) (run, run', refl, z)
