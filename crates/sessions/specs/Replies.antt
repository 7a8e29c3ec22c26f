-- What one request does to a store and to runs, and what it is replied.
use Rattle.std.specs.Prelude.{◌≡◌, ℕ, cond, List, [], ◌∷◌, Some, None, Ok, Err, Option, Result, slice_index_or, slice_set, length, nat_lt, vec_items}
use Rattle.model.specs.Trees.{tupled, crypted, applied, Tree, leaf}
use Rattle.store.specs.declared.fault.StoreFault.{StoreFault}
use Rattle.store.specs.Makers.{wanted, Makes}
use Rattle.store.specs.Questions.{shape_answer, part_value, unlocked_value, same_answer, Answers}
use Rattle.store.specs.Semantics.{Semantics}
use Rattle.run.specs.declared.fault.RunFault.{RunFault}
use Rattle.run.specs.declared.run.Run.{Run}
use Rattle.run.specs.Calls.{Begins, Says, Hears}
use Rattle.run.specs.Looked.{looked}
use Rattle.run.specs.Shown.{register}
use Rattle.sessions.specs.declared.reply.Reply.{Reply}
use Rattle.sessions.specs.declared.reply.Reply.TheVariants as replies
use Rattle.sessions.specs.declared.request.Request.{Request}
use Rattle.sessions.specs.declared.request.Request.TheVariants.{Begin, Say, Hear, Register, Atom, Tuple, Crypt, Apply, Shape, Part, Unlock, Same, Space}
use Rattle.sessions.specs.Requests.{handle_of, handles_of}

-- a store's answer as a reply
abbrev pub reply_by : {A : Type 0} → (A → Reply) → Result A StoreFault → Reply
reply_by f (Ok x) = f x
reply_by f (Err e) = replies.Store e

-- a run's answer as a reply
abbrev pub reply_of : {A : Type 0} → (A → Reply) → Result A RunFault → Reply
reply_of f (Ok x) = f x
reply_of f (Err e) = replies.Run e

-- a register's handle, or that it holds none
abbrev pub reply_for : Option ℕ → Reply
reply_for None = replies.Empty
reply_for (Some h) = replies.Handle h

abbrev pub Looks : List Run → ℕ → ℕ → Reply → Type 0
Looks runs r n reply = cond (nat_lt r (length runs)) ((run : Run) × (reply ≡ reply_for (looked (register (slice_index_or runs r run).registers n)))) (reply ≡ replies.NoRole)

-- The run at a place is called, and no other moves; where there is none, nothing is done.
abbrev pub Calls : {S : Type 0} → S → S → List Run → List Run → ℕ → Reply → (Run → Run → Type 0) → Type 0
Calls old new runs runs' r reply Called =
    cond (nat_lt r (length runs))
    ((run run' : Run) × (runs' ≡ slice_set runs r run') × Called (slice_index_or runs r run) run')
    ((new ≡ old) × (runs' ≡ runs) × (reply ≡ replies.NoRole))

module _ {S : Type 0} (M : Semantics S) where
  -- begin, say and hear do what a run's call does
  abbrev pub BeginsAt : S → S → List Run → List Run → ℕ → List ℕ → List ℕ → Reply → Type 0
  BeginsAt old new runs runs' r given numbers reply =
      Calls old new runs runs' r reply (λ run run'. (x : Result (Unit {0}) RunFault) × Begins M old new run run' given numbers x × (reply ≡ reply_of (λ u. replies.Done) x))

  abbrev pub SaysAt : S → S → List Run → List Run → ℕ → Reply → Type 0
  SaysAt old new runs runs' r reply =
      Calls old new runs runs' r reply (λ run run'. (x : Result ℕ RunFault) × Says M old new run run' x × (reply ≡ reply_of replies.Handle x))

  abbrev pub HearsAt : S → S → List Run → List Run → ℕ → ℕ → Reply → Type 0
  HearsAt old new runs runs' r handle reply =
      Calls old new runs runs' r reply (λ run run'. (x : Result (Unit {0}) RunFault) × Hears M old new run run' handle x × (reply ≡ reply_of (λ u. replies.Done) x))

  -- a value is made, or the store refuses it
  abbrev pub Made : S → S → Result Tree StoreFault → Reply → Type 0
  Made old new v reply = (x : Result ℕ StoreFault) × Makes M old new v x × (reply ≡ reply_by replies.Handle x)

  -- a question about a handle
  abbrev pub Found : S → Result Tree StoreFault → Reply → Type 0
  Found s v reply = (x : Result ℕ StoreFault) × Answers (M.means s) v x × (reply ≡ reply_by replies.Handle x)

  module _ (old new : S) (runs runs' : List Run) (rs : List Reply) where
    -- only the store may change; nothing changes
    abbrev pub MakesValue : Result Tree StoreFault → Reply → Type 0
    MakesValue v reply = (runs' ≡ runs) × Made old new v reply

    abbrev pub Asks : Type 0 → Type 0
    Asks Answered = (new ≡ old) × (runs' ≡ runs) × Answered

    -- by the replies so far, which tell the handles that a request names
    abbrev pub Does : Request → Reply → Type 0
    Does (Begin r given numbers) reply = BeginsAt old new runs runs' r (handles_of rs (vec_items given)) (vec_items numbers) reply
    Does (Say r) reply = SaysAt old new runs runs' r reply
    Does (Hear r h) reply = HearsAt old new runs runs' r (handle_of rs h) reply
    Does (Register r n) reply = Asks (Looks runs r n reply)
    Does (Atom n) reply = MakesValue (Ok (leaf n)) reply
    Does (Tuple parts) reply = MakesValue (wanted (M.means old) tupled (handles_of rs (vec_items parts))) reply
    Does (Crypt text key) reply = MakesValue (wanted (M.means old) crypted (handle_of rs text ∷ handle_of rs key ∷ [])) reply
    Does (Apply f parts) reply = MakesValue (wanted (M.means old) (applied f) (handles_of rs (vec_items parts))) reply
    Does (Shape h) reply = Asks (reply ≡ reply_by replies.Shape (shape_answer (M.means old (handle_of rs h))))
    Does (Part h i) reply = Asks (Found old (part_value (M.means old (handle_of rs h)) i) reply)
    Does (Unlock h k) reply = Asks (Found old (unlocked_value (M.means old (handle_of rs h)) (M.means old (handle_of rs k))) reply)
    Does (Same h k) reply = Asks (reply ≡ reply_by replies.Same (same_answer (M.means old (handle_of rs h)) (M.means old (handle_of rs k))))
    Does Space reply = Asks (reply ≡ replies.Space (M.space old))
