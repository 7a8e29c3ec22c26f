-- What the model's law decides of a step, with refusals by their numbers.
use Rattle.std.specs.Prelude.{◌≡◌, ℕ, ◌<◌, Bool, T, ◌⊎◌, ◌↔◌, List, [], ◌∷◌, ◌++◌, map, Some, None, vec_items, Vec}
use Rattle.std.specs.declared.alloc.Global.{Global}
use Rattle.std.proofs.Math.Option.{Option, none as nothing, some}
use Rattle.model.specs.Trees.{Tree}
use Rattle.model.specs.Holdings.{nothing_held, add, Readable}
use Rattle.model.specs.Specifications.{Specification, message, begin, speak, listen}
use Rattle.store.specs.Semantics.{Semantics}
use Rattle.run.specs.Faults.{run_fault_number}
use Rattle.sessions.specs.declared.reply.Reply.{Reply}
use Rattle.sessions.specs.declared.reply.Reply.TheVariants as replies
use Rattle.sessions.specs.declared.request.Handle.{Handle}
use Rattle.sessions.specs.declared.request.Request.TheVariants.{Begin, Say, Hear}
use Rattle.sessions.specs.Requests.{handle_of}
use Rattle.sessions.specs.Observed.{Step, calls, taken, values_in, each_once, stock, next_duty}
use Rattle.run.specs.Faults.{run_fault_number}
use Rattle.sessions.specs.RunLaw.{RightCounts, InTurn}

-- a call is refused with this number
abbrev pub Refused : ℕ → Reply → Type 0
Refused n replies.Done = ⊥
Refused n (replies.Handle h) = ⊥
Refused n replies.Empty = ⊥
Refused n (replies.Shape s) = ⊥
Refused n (replies.Same b) = ⊥
Refused n (replies.Space m) = ⊥
Refused n (replies.Run f) = run_fault_number f ≡ n
Refused n (replies.Store f) = ⊥
Refused n replies.NoRole = ⊥

module _ {S : Type 0} (M : Semantics S) (X : Specification) where
  -- A value heard in turn, unless the store refuses one of its builds, is taken exactly if some choice for names and closed terms gives all
  -- the role's holdings, this one too, their values; and so are the values given at a begin in turn with right counts.
  pub record DecidedBy (H : List (Step S)) (e : Step S) : Type 0 where
    pub hear_taken : (r l : ℕ) (h : Handle) (v : Tree) → e.asked ≡ Hear r h → next_duty X r H ≡ some (listen l)
        → M.means e.before (handle_of e.earlier h) ≡ Some v → ¬ Refused 15 e.reply
        → T (taken e.reply) ↔ Readable (X.party r) (add (stock M.means X r H) (message X l ∷ []) (v ∷ []) [] [])
    pub hear_refused : (r l : ℕ) (h : Handle) (v : Tree) → e.asked ≡ Hear r h → next_duty X r H ≡ some (listen l)
        → M.means e.before (handle_of e.earlier h) ≡ Some v → ¬ T (taken e.reply) → Refused 14 e.reply ⊎ Refused 15 e.reply
    pub begin_taken : (r : ℕ) (given : Vec Handle Global) (numbers : Vec ℕ Global) (vs : List Tree) → e.asked ≡ Begin r given numbers
        → next_duty X r H ≡ some (begin (X.knows r)) → values_in M.means e ≡ map some vs → RightCounts X r (values_in M.means e) (vec_items numbers) → ¬ Refused 15 e.reply
        → T (taken e.reply) ↔ Readable (X.party r) (add nothing_held (each_once [] (X.knows r)) vs [] [])
    pub begin_refused : (r : ℕ) (given : Vec Handle Global) (numbers : Vec ℕ Global) (vs : List Tree) → e.asked ≡ Begin r given numbers
        → next_duty X r H ≡ some (begin (X.knows r)) → values_in M.means e ≡ map some vs → RightCounts X r (values_in M.means e) (vec_items numbers) → ¬ T (taken e.reply)
        → Refused 14 e.reply ⊎ Refused 15 e.reply
    pub say_refused : (r l : ℕ) (mk : ℕ → Bool) → e.asked ≡ Say r → next_duty X r H ≡ some (speak l mk) → ¬ T (taken e.reply) → Refused 15 e.reply
    -- a say that is taken answers a valid handle
    pub say_answers : (r : ℕ) → e.asked ≡ Say r → T (taken e.reply) → (h : ℕ) × (v : Tree) × (e.reply ≡ replies.Handle h) × (M.means e.after h ≡ Some v)
    -- refused for other reasons: a call of a role that is out of turn, a begin with wrong counts, a handle that is not valid
    pub out_of_turn : (r : ℕ) → T (calls r e.asked) → r < X.roles → Refused 11 e.reply ↔ (¬ InTurn M X H e.asked)
    pub wrong_counts : (r : ℕ) (given : Vec Handle Global) (numbers : Vec ℕ Global) → e.asked ≡ Begin r given numbers → next_duty X r H ≡ some (begin (X.knows r))
        → Refused 13 e.reply ↔ (¬ RightCounts X r (values_in M.means e) (vec_items numbers))
    pub hear_invalid : (r l : ℕ) (h : Handle) → e.asked ≡ Hear r h → next_duty X r H ≡ some (listen l) → M.means e.before (handle_of e.earlier h) ≡ None → Refused 12 e.reply
    pub begin_invalid : (r : ℕ) (given : Vec Handle Global) (numbers : Vec ℕ Global) (vs : List Tree) (hs : List (Option Tree)) → e.asked ≡ Begin r given numbers
        → next_duty X r H ≡ some (begin (X.knows r)) → values_in M.means e ≡ map some vs ++ (nothing ∷ hs) → RightCounts X r (values_in M.means e) (vec_items numbers)
        → Refused 12 e.reply
