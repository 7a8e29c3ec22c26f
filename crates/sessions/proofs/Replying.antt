-- What a reply tells of the model's answer.
use Rattle.std.proofs.Common.{◌≡◌, ℕ, T, ◌↔◌, Ok, Err, Result, sym, refl, ◌∙◌}
use mathlib.Core.Path.{subst⁻¹}
use Rattle.model.specs.Sessions.{Answer, taken, declined, outside}
use Rattle.model.specs.SessionLaw as model
use Rattle.run.specs.declared.fault.RunFault.{RunFault}
use Rattle.run.specs.Called.{said, did, unsaid}
use Rattle.run.specs.Faults.{run_fault_number}
use Rattle.run.specs.Shown.{Meaning}
use Rattle.sessions.specs.declared.reply.Reply.{Reply}
use Rattle.sessions.specs.declared.reply.Reply.TheVariants as replies
use Rattle.sessions.specs.Observed.{taken as is_taken}
use Rattle.sessions.specs.Replies.{reply_of}
use Rattle.sessions.proofs.Events.{Took, Told}
use Rattle.sessions.proofs.Numbers.{Refused}

-- it is taken, or refused with a number, as the model answers
pub record Tells (a : Answer) (r : Reply) : Type 0 where
  pub takes : model.Taken a ↔ T (is_taken r)
  pub refuses : (n : ℕ) → model.Refused n a ↔ Refused n r

number_same : {n m k l : ℕ} → declined n k ≡ declined m l → n ≡ m
number_same e = cc

tells_refusal : (n k : ℕ) (f : RunFault) → n ≡ run_fault_number f → Tells (declined n k) (replies.Run f)
tells_refusal n k f e = record { takes = ((λ x. x), λ x. x); refuses = λ m. ((λ q. sym e ∙ q), λ q. e ∙ q) }

tells_taken : (a : Answer) → model.Taken a → (r : Reply) → T (is_taken r) → ((n : ℕ) → Refused n r → ⊥) → Tells a r
tells_taken (taken o) t r h f = record { takes = ((λ x. h), λ x. tt); refuses = λ n. ((λ q. absurd q), λ q. absurd (f n q)) }
tells_taken (declined n k) t r h f = absurd t
tells_taken outside t r h f = absurd t

took_by : (a : Answer) (x : Result (Unit {0}) RunFault) → unsaid a ≡ did x → Tells a (reply_of (λ u. replies.Done) x)
took_by (taken o) (Ok u) e = tells_taken (taken o) tt replies.Done tt (λ n q. q)
took_by (taken o) (Err f) e = absurd (cc)
took_by (declined n k) (Ok u) e = absurd (cc)
took_by (declined n k) (Err f) e = tells_refusal n k f (number_same e)
took_by outside (Ok u) e = absurd (cc)
took_by outside (Err f) e = absurd (cc)

pub took_tells : (a : Answer) (r : Reply) → Took a r → Tells a r
took_tells a r (x, e, is) = subst⁻¹ (Tells a) is (took_by a x e)

told_by : (m : Meaning) (a : Answer) (x : Result ℕ RunFault) → a ≡ said m x → Tells a (reply_of replies.Handle x)
told_by m a (Ok h) e = subst⁻¹ (λ a. Tells a (replies.Handle h)) e (tells_taken (said m (Ok h)) tt (replies.Handle h) tt (λ n q. q))
told_by m a (Err f) e = subst⁻¹ (λ a. Tells a (replies.Run f)) e (tells_refusal (run_fault_number f) _ f refl)

pub told_tells : (m : Meaning) (a : Answer) (r : Reply) → Told m a r → Tells a r
told_tells m a r (x, e, is) = subst⁻¹ (Tells a) is (told_by m a x e)
