-- The handles that a request names, by the replies to those before it.
use Rattle.std.specs.Prelude.{ℕ, List, length, map, slice_index_or, vec_items}
use Rattle.std.proofs.Math.Option.{Option}
use Rattle.model.specs.Trees.{Tree}
use Rattle.run.specs.Shown.{Meaning, as_option}
use Rattle.sessions.specs.declared.reply.Reply.{Reply}
use Rattle.sessions.specs.declared.reply.Reply.TheVariants as replies
use Rattle.sessions.specs.declared.request.Handle.{Handle}
use Rattle.sessions.specs.declared.request.Handle.TheVariants.{Number, Answer}
use Rattle.sessions.specs.declared.request.Request.{Request}
use Rattle.sessions.specs.declared.request.Request.TheVariants.{Begin, Say, Hear, Register, Atom, Tuple, Crypt, Apply, Shape, Part, Unlock, Same, Space}

-- no store has a value for this handle
abbrev pub no_handle : ℕ
no_handle = 4294967295

-- the handle that a reply answers
abbrev pub handle_in : Reply → ℕ
handle_in replies.Done = no_handle
handle_in (replies.Handle h) = h
handle_in replies.Empty = no_handle
handle_in (replies.Shape s) = no_handle
handle_in (replies.Same b) = no_handle
handle_in (replies.Space n) = no_handle
handle_in (replies.Run f) = no_handle
handle_in (replies.Store f) = no_handle
handle_in replies.NoRole = no_handle

-- the handle that a request names, after some replies
abbrev pub handle_of : List Reply → Handle → ℕ
handle_of rs (Number n) = n
handle_of rs (Answer i) = handle_in (slice_index_or rs i replies.NoRole)

abbrev pub handles_of : List Reply → List Handle → List ℕ
handles_of rs hs = map (handle_of rs) hs

-- the values behind some handles
abbrev pub values_of : Meaning → List ℕ → List (Option Tree)
values_of m hs = map (λ h. as_option (m h)) hs

-- how many handles a request names in a list
abbrev pub width : Request → ℕ
width (Begin r given numbers) = length (vec_items given)
width (Say r) = 0
width (Hear r h) = 0
width (Register r n) = 0
width (Atom n) = 0
width (Tuple parts) = length (vec_items parts)
width (Crypt text key) = 0
width (Apply f parts) = length (vec_items parts)
width (Shape h) = 0
width (Part h i) = 0
width (Unlock h k) = 0
width (Same h k) = 0
width Space = 0
