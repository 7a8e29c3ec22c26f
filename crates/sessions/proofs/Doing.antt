-- What one request does, beside plain runs, by its kind.
use Rattle.std.proofs.Common.{◌≡◌, ℕ, ◌<◌, Bool, true, false, cond, ltb, List, ◌∷◌, [], length, get_or, set, Ok, Some, None, Result, refl, ap, arith, eq-eqb, ne_eqb, vec_items}
use Rattle.std.proofs.lemmas.Bool.{ltb-true}
use mathlib.Core.Option as model
use mathlib.Core.Path.{subst⁻¹}
use Rattle.model.specs.Trees.{tupled, crypted, applied, Tree, leaf}
use Rattle.model.specs.Runs.{Memory}
use Rattle.model.specs.Sessions.{Event, begin, say, hear, other, Answer}
use Rattle.store.specs.declared.fault.StoreFault.{StoreFault}
use Rattle.store.specs.Makers.{wanted}
use Rattle.store.specs.Semantics.{Semantics}
use Rattle.run.specs.declared.run.Run.{Run}
use Rattle.run.specs.declared.fault.RunFault.{RunFault}
use Rattle.run.specs.Calls.{Begins, Says, Hears}
use Rattle.run.specs.Called.{unsaid, did, said}
use Rattle.run.proofs.ValueLaw.{value_law}
use Rattle.run.specs.Faults.{fault_of}
use Rattle.run.specs.Looked.{looked as looked_up}
use Rattle.run.specs.Plain as plain
use Rattle.run.specs.Shown.{Meaning, Small, as_option, register, vacant, StandsFor}
use Rattle.sessions.specs.declared.reply.Reply.{Reply}
use Rattle.sessions.specs.declared.reply.Reply.TheVariants as replies
use Rattle.sessions.specs.declared.request.Request.{Request}
use Rattle.sessions.specs.declared.request.Request.TheVariants.{Begin, Say, Hear, Register, Atom, Tuple, Crypt, Apply, Shape, Part, Unlock, Same, Space}
use Rattle.sessions.specs.Plays.{Playing}
use Rattle.sessions.specs.Replies.{reply_of, reply_for, Calls, Made, Does}
use Rattle.sessions.specs.Requests.{handle_of, handles_of, values_of}
use Rattle.sessions.proofs.Events.{of_role, of_maker, event_of, Took, Told, Looked, Untouched, Replies}
use Rattle.sessions.proofs.Standing.{Stands, Moves}
use Rattle.sessions.proofs.Moved.{unmoved, looked, untouched, role_moves, made_moves}

-- a register's handle, or nothing
register_looked : (m : Meaning) → Small m → (h : ℕ) (o : model.Option Tree) → StandsFor m h o → Looked m o (reply_for (looked_up h))
register_looked m small h model.none e = ap (λ b. reply_for (cond b None (Some h))) (eq-eqb h vacant e)
register_looked m small h (model.some v) e =
    (h, ap (λ b. reply_for (cond b None (Some h))) (ne_eqb h vacant (λ q. let l = small h v e in omega arith)), ap as_option e)

module _ {S : Type 0} (M : Semantics S) (small : (s : S) → Small (M.means s)) where
  module _ (old new : S) (runs runs' : List Run) (rs : List Reply) (reply : Reply) where
    -- a call of a run that is there, or of none
    called : (r : ℕ) (v : Event) (Called : Run → Run → Type 0) (Replied : Answer → Type 0) → Calls old new runs runs' r reply Called
        → ((d run' : Run) → r < length runs → Called (get_or runs r d) run' → Moves M old new runs (set runs r run') (of_role (length runs) r v) (λ memories a. cond (ltb r (length runs)) (Replied a) ((new ≡ old) × (reply ≡ replies.NoRole))))
        → Moves M old new runs runs' (of_role (length runs) r v) (λ memories a. cond (ltb r (length runs)) (Replied a) ((new ≡ old) × (reply ≡ replies.NoRole)))
    called r v Called Replied y f = go (ltb r (length runs)) refl y f
      where
        go : (b : Bool) → ltb r (length runs) ≡ b → cond b ((run run' : Run) × (runs' ≡ set runs r run') × Called (get_or runs r run) run') ((new ≡ old) × (runs' ≡ runs) × (reply ≡ replies.NoRole))
            → ((d run' : Run) → r < length runs → Called (get_or runs r d) run' → Moves M old new runs (set runs r run') (cond b v other) (λ memories a. cond b (Replied a) ((new ≡ old) × (reply ≡ replies.NoRole))))
            → Moves M old new runs runs' (cond b v other) (λ memories a. cond b (Replied a) ((new ≡ old) × (reply ≡ replies.NoRole)))
        go true i z g = subst⁻¹ (λ x. Moves M old new runs x v (λ memories a. Replied a)) z.2 (g z.0 z.1 (ltb-true r (length runs) i) z.3)
        go false i z g =
            subst⁻¹ (λ s. Moves M old s runs runs' other (λ memories a. (s ≡ old) × (reply ≡ replies.NoRole))) z.0
            (subst⁻¹ (λ x. Moves M old old runs x other (λ memories a. (old ≡ old) × (reply ≡ replies.NoRole))) z.1
            (unmoved M old runs (λ memories a. (old ≡ old) × (reply ≡ replies.NoRole)) (λ memories. (refl, z.2))))

    -- a question
    asks : (Replied : (ℕ → Memory) → Type 0) → new ≡ old → runs' ≡ runs → ((p : Playing) → Stands (M.means old) (M.space old) runs p → Replied (λ r. (p.runs r).memory))
        → Moves M old new runs runs' other (λ memories a. (new ≡ old) × Replied memories)
    asks Replied e q f =
        subst⁻¹ (λ s. Moves M old s runs runs' other (λ memories a. (s ≡ old) × Replied memories)) e
        (subst⁻¹ (λ x. Moves M old old runs x other (λ memories a. (old ≡ old) × Replied memories)) q
        (looked M old runs (λ memories a. (old ≡ old) × Replied memories) (λ p st. (refl, f p st))))

    -- a value that is made
    makes : (w : Result Tree StoreFault) → runs' ≡ runs → Made M old new w reply → Moves M old new runs runs' (of_maker w) (λ memories a. Made M old new w reply)
    makes w q (x, m, is) =
        subst⁻¹ (λ l. Moves M old new runs l (of_maker w) (λ memories a. Made M old new w reply)) q
        (subst⁻¹ (λ r. Moves M old new runs runs (of_maker w) (λ memories a. Made M old new w r)) is
        (made_moves M old new runs w x m))

    pub does_moves : (q : Request) → Does M old new runs runs' rs q reply
        → Moves M old new runs runs' (event_of (length runs) (M.means old) rs q) (λ memories answer. Replies M (length runs) memories answer rs old new q reply)
    does_moves (Begin r given numbers) y =
        called r v (λ run run'. (x : Result (Unit {0}) RunFault) × Begins M old new run run' hs ns x × (reply ≡ reply_of (λ u. replies.Done) x)) (λ a. Took a reply × Untouched old new reply) y
        (λ d run' l z.
        let answers = λ (a : Answer). unsaid a ≡ did z.0 in
        role_moves M old new runs r l d run' (plain.begin (values_of (M.means old) hs) ns) (fault_of z.0) answers ((value_law M small).begins old new (get_or runs r d) run' hs ns z.0 z.1)
        v refl (λ p. refl) (λ a. Took a reply × Untouched old new reply) ((new ≡ old) × (reply ≡ replies.NoRole))
        (λ a q. (
          (z.0, q, z.2),
          subst⁻¹ (Untouched old new) z.2 (untouched M old new runs r l d run' (plain.begin (values_of (M.means old) hs) ns) (fault_of z.0) answers ((value_law M small).begins old new (get_or runs r d) run' hs ns z.0 z.1) (λ u. replies.Done) (λ u. tt) z.0 refl),
        )))
      where
        hs : List ℕ
        hs = handles_of rs (vec_items given)

        ns : List ℕ
        ns = vec_items numbers

        v : Event
        v = begin r (values_of (M.means old) hs) ns
    does_moves (Say r) y =
        called r (say r) (λ run run'. (x : Result ℕ RunFault) × Says M old new run run' x × (reply ≡ reply_of replies.Handle x)) (λ a. Told (M.means new) a reply × Untouched old new reply) y
        (λ d run' l z.
        let answers = λ (a : Answer). a ≡ said (M.means new) z.0 in
        role_moves M old new runs r l d run' plain.say (fault_of z.0) answers ((value_law M small).says old new (get_or runs r d) run' z.0 z.1)
        (say r) refl (λ p. refl) (λ a. Told (M.means new) a reply × Untouched old new reply) ((new ≡ old) × (reply ≡ replies.NoRole))
        (λ a q. (
          (z.0, q, z.2),
          subst⁻¹ (Untouched old new) z.2 (untouched M old new runs r l d run' plain.say (fault_of z.0) answers ((value_law M small).says old new (get_or runs r d) run' z.0 z.1) replies.Handle (λ u. tt) z.0 refl),
        )))
    does_moves (Hear r h) y =
        called r v (λ run run'. (x : Result (Unit {0}) RunFault) × Hears M old new run run' (handle_of rs h) x × (reply ≡ reply_of (λ u. replies.Done) x)) (λ a. Took a reply × Untouched old new reply) y
        (λ d run' l z.
        let answers = λ (a : Answer). unsaid a ≡ did z.0 in
        role_moves M old new runs r l d run' (plain.hear o) (fault_of z.0) answers ((value_law M small).hears old new (get_or runs r d) run' (handle_of rs h) z.0 z.1)
        v refl (λ p. refl) (λ a. Took a reply × Untouched old new reply) ((new ≡ old) × (reply ≡ replies.NoRole))
        (λ a q. (
          (z.0, q, z.2),
          subst⁻¹ (Untouched old new) z.2 (untouched M old new runs r l d run' (plain.hear o) (fault_of z.0) answers ((value_law M small).hears old new (get_or runs r d) run' (handle_of rs h) z.0 z.1) (λ u. replies.Done) (λ u. tt) z.0 refl),
        )))
      where
        o : model.Option Tree
        o = as_option (M.means old (handle_of rs h))

        v : Event
        v = hear r o
    does_moves (Register r n) y = asks (λ memories. cond (ltb r (length runs)) (Looked (M.means old) (memories r n) reply) (reply ≡ replies.NoRole)) y.0 y.1 (λ p st. go p st (ltb r (length runs)) refl y.2)
      where
        go : (p : Playing) → Stands (M.means old) (M.space old) runs p → (b : Bool) → ltb r (length runs) ≡ b
            → cond b ((run : Run) × (reply ≡ reply_for (looked_up (register (get_or runs r run).registers n)))) (reply ≡ replies.NoRole)
            → cond b (Looked (M.means old) ((p.runs r).memory n) reply) (reply ≡ replies.NoRole)
        go p st true e f =
            subst⁻¹ (Looked (M.means old) ((p.runs r).memory n)) f.1
            (register_looked (M.means old) (small old) (register (get_or runs r f.0).registers n) ((p.runs r).memory n) ((st.each r f.0 (ltb-true r (length runs) e)).memory n))
        go p st false e f = f
    does_moves (Atom n) y = makes (Ok (leaf n)) y.0 y.1
    does_moves (Tuple parts) y = makes (wanted (M.means old) tupled (handles_of rs (vec_items parts))) y.0 y.1
    does_moves (Crypt text key) y = makes (wanted (M.means old) crypted (handle_of rs text ∷ handle_of rs key ∷ [])) y.0 y.1
    does_moves (Apply f parts) y = makes (wanted (M.means old) (applied f) (handles_of rs (vec_items parts))) y.0 y.1
    does_moves (Shape h) y = asks _ y.0 y.1 (λ p st. y.2)
    does_moves (Part h i) y = asks _ y.0 y.1 (λ p st. y.2)
    does_moves (Unlock h k) y = asks _ y.0 y.1 (λ p st. y.2)
    does_moves (Same h k) y = asks _ y.0 y.1 (λ p st. y.2)
    does_moves Space y = asks _ y.0 y.1 (λ p st. y.2)
