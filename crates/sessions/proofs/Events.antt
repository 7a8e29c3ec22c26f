-- A request as the model's event, with the values behind its handles in the store as it is then, and its reply beside the model's answer.
use Rattle.std.specs.Prelude.{◌≡◌, ℕ, cond, List, [], ◌∷◌, Ok, Err, Result, nat_lt, vec_items}
use Rattle.std.proofs.Math.Option.{Option, none as nothing, some}
use Rattle.model.specs.Trees.{tupled, crypted, applied, Tree, leaf}
use Rattle.model.specs.Runs.{Memory}
use Rattle.model.specs.Sessions.{Event, begin, say, hear, build, other, Answer}
use Rattle.store.specs.declared.fault.StoreFault.{StoreFault}
use Rattle.store.specs.Makers.{wanted}
use Rattle.store.specs.Questions.{shape_answer, part_value, unlocked_value, same_answer}
use Rattle.store.specs.Semantics.{Semantics}
use Rattle.run.specs.declared.fault.RunFault.{RunFault}
use Rattle.run.specs.declared.fault.RunFault.TheVariants.{OutOfTurn, Counts}
use Rattle.run.specs.Called.{said, did, unsaid}
use Rattle.run.specs.Shown.{Meaning, as_option}
use Rattle.sessions.specs.declared.reply.Reply.{Reply}
use Rattle.sessions.specs.declared.reply.Reply.TheVariants as replies
use Rattle.sessions.specs.declared.request.Request.{Request}
use Rattle.sessions.specs.declared.request.Request.TheVariants.{Begin, Say, Hear, Register, Atom, Tuple, Crypt, Apply, Shape, Part, Unlock, Same, Space}
use Rattle.sessions.specs.Replies.{reply_by, reply_of, Made, Found}
use Rattle.sessions.specs.Requests.{handle_of, handles_of, values_of}

-- a call of a role that is not there is nothing to the model
abbrev pub of_role : ℕ → ℕ → Event → Event
of_role roles r e = cond (nat_lt r roles) e other

-- nor is what a store refuses for another reason than space
abbrev pub of_maker : Result Tree StoreFault → Event
of_maker (Ok v) = build v
of_maker (Err f) = other

module _ (roles : ℕ) (m : Meaning) (rs : List Reply) where
  abbrev pub event_of : Request → Event
  event_of (Begin r given numbers) = of_role roles r (begin r (values_of m (handles_of rs (vec_items given))) (vec_items numbers))
  event_of (Say r) = of_role roles r (say r)
  event_of (Hear r h) = of_role roles r (hear r (as_option (m (handle_of rs h))))
  event_of (Register r n) = other
  event_of (Atom n) = build (leaf n)
  event_of (Tuple parts) = of_maker (wanted m tupled (handles_of rs (vec_items parts)))
  event_of (Crypt text key) = of_maker (wanted m crypted (handle_of rs text ∷ handle_of rs key ∷ []))
  event_of (Apply f parts) = of_maker (wanted m (applied f) (handles_of rs (vec_items parts)))
  event_of (Shape h) = other
  event_of (Part h i) = other
  event_of (Unlock h k) = other
  event_of (Same h k) = other
  event_of Space = other

-- a begin or a hear is taken, or refused with this number and place
abbrev pub Took : Answer → Reply → Type 0
Took a r = (x : Result (Unit {0}) RunFault) × (unsaid a ≡ did x) × (r ≡ reply_of (λ u. replies.Done) x)

-- a say is taken, and its handle names the value said; or it is refused
abbrev pub Told : Meaning → Answer → Reply → Type 0
Told m a r = (x : Result ℕ RunFault) × (a ≡ said m x) × (r ≡ reply_of replies.Handle x)

-- a register's handle names its value
abbrev pub Looked : Meaning → Option Tree → Reply → Type 0
Looked m nothing r = r ≡ replies.Empty
Looked m (some v) r = (h : ℕ) × (r ≡ replies.Handle h) × (as_option (m h) ≡ some v)

-- out of turn, or with wrong counts, nothing is altered
abbrev pub Untouched : {A : Type 0} → A → A → Reply → Type 0
Untouched old new (replies.Run (OutOfTurn p)) = new ≡ old
Untouched old new (replies.Run (Counts p)) = new ≡ old
Untouched old new reply = Unit {0}

module _ {S : Type 0} (M : Semantics S) where
  module _ (roles : ℕ) (memories : ℕ → Memory) (answer : Answer) (rs : List Reply) (old new : S) where
    abbrev pub Replies : Request → Reply → Type 0
    Replies (Begin r given numbers) reply = cond (nat_lt r roles) (Took answer reply × Untouched old new reply) ((new ≡ old) × (reply ≡ replies.NoRole))
    Replies (Say r) reply = cond (nat_lt r roles) (Told (M.means new) answer reply × Untouched old new reply) ((new ≡ old) × (reply ≡ replies.NoRole))
    Replies (Hear r h) reply = cond (nat_lt r roles) (Took answer reply × Untouched old new reply) ((new ≡ old) × (reply ≡ replies.NoRole))
    Replies (Register r n) reply = (new ≡ old) × cond (nat_lt r roles) (Looked (M.means old) (memories r n) reply) (reply ≡ replies.NoRole)
    Replies (Atom n) reply = Made M old new (Ok (leaf n)) reply
    Replies (Tuple parts) reply = Made M old new (wanted (M.means old) tupled (handles_of rs (vec_items parts))) reply
    Replies (Crypt text key) reply = Made M old new (wanted (M.means old) crypted (handle_of rs text ∷ handle_of rs key ∷ [])) reply
    Replies (Apply f parts) reply = Made M old new (wanted (M.means old) (applied f) (handles_of rs (vec_items parts))) reply
    Replies (Shape h) reply = (new ≡ old) × (reply ≡ reply_by replies.Shape (shape_answer (M.means old (handle_of rs h))))
    Replies (Part h i) reply = (new ≡ old) × Found M old (part_value (M.means old (handle_of rs h)) i) reply
    Replies (Unlock h k) reply = (new ≡ old) × Found M old (unlocked_value (M.means old (handle_of rs h)) (M.means old (handle_of rs k))) reply
    Replies (Same h k) reply = (new ≡ old) × (reply ≡ reply_by replies.Same (same_answer (M.means old (handle_of rs h)) (M.means old (handle_of rs k))))
    Replies Space reply = (new ≡ old) × (reply ≡ replies.Space (M.space old))
