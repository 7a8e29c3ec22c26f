-- What was seen of a session, and what each role was given, heard, said and made by it: told from requests, replies and what handles name.
use Rattle.std.specs.Prelude.{ℕ, Bool, true, false, cond, not, ◌&&◌, ◌||◌, List, [], ◌∷◌, ◌++◌, length, drop, take, ◌==◌, vec_items}
use Rattle.std.proofs.Math.Option.{Option, none as nothing, some}
use Rattle.model.specs.Lists.{zip}
use Rattle.model.specs.Trees.{Tree, leaf, node, Trees, none, more, eq_tree}
use Rattle.model.specs.Holdings.{Stock}
use Rattle.model.specs.Sessions.{valid}
use Rattle.model.specs.Specifications.{Specification, message, Duty, begin, speak, listen, duties}
use Rattle.run.specs.declared.run.Run.{Run}
use Rattle.run.specs.Shown.{Meaning, as_option}
use Rattle.sessions.specs.declared.reply.Reply.{Reply}
use Rattle.sessions.specs.declared.reply.Reply.TheVariants as replies
use Rattle.sessions.specs.declared.request.Request.{Request}
use Rattle.sessions.specs.declared.request.Request.TheVariants.{Begin, Say, Hear, Register, Atom, Tuple, Crypt, Apply, Shape, Part, Unlock, Same, Space}
use Rattle.sessions.specs.Requests.{handle_in, handle_of, handles_of, values_of}

-- One request that was performed: the replies to those before it, what was asked and replied, the store and the runs before and after.
pub record Step (S : Type 0) : Type 0 where
  pub earlier : List Reply
  pub asked : Request
  pub reply : Reply
  pub before : S
  pub after : S
  pub runs_before : List Run
  pub runs_after : List Run

-- is it a call of this role?
abbrev pub calls : ℕ → Request → Bool
calls r (Begin q given numbers) = r == q
calls r (Say q) = r == q
calls r (Hear q h) = r == q
calls r (Register q n) = false
calls r (Atom n) = false
calls r (Tuple parts) = false
calls r (Crypt text key) = false
calls r (Apply f parts) = false
calls r (Shape h) = false
calls r (Part h i) = false
calls r (Unlock h k) = false
calls r (Same h k) = false
calls r Space = false

-- a call that is not refused is taken
abbrev pub taken : Reply → Bool
taken replies.Done = true
taken (replies.Handle h) = true
taken replies.Empty = true
taken (replies.Shape s) = true
taken (replies.Same b) = true
taken (replies.Space n) = true
taken (replies.Run f) = false
taken (replies.Store f) = false
taken replies.NoRole = false

-- the terms of a list, each once, in order
abbrev pub is_one_of : Tree → List Tree → Bool
is_one_of t [] = false
is_one_of t (u ∷ us) = eq_tree t u || is_one_of t us

abbrev pub each_once : List Tree → List Tree → List Tree
each_once before [] = before
each_once before (t ∷ ts) = each_once (cond (is_one_of t before) before (before ++ (t ∷ []))) ts

-- the names that a line makes, in the order in which they first stand in its message
abbrev pub has_number : ℕ → List ℕ → Bool
has_number n [] = false
has_number n (k ∷ ks) = n == k || has_number n ks

module _ (makes : ℕ → Bool) where
  abbrev mutual
    pub names_on : List ℕ → Tree → List ℕ
    names_on before (leaf n) = cond (makes n && not (has_number n before)) (before ++ (n ∷ [])) before
    names_on before (node h ts) = names_on_all before ts

    pub names_on_all : List ℕ → Trees → List ℕ
    names_on_all before none = before
    names_on_all before (more t ts) = names_on_all (names_on before t) ts

module _ (X : Specification) where
  -- what a duty takes in, and the names that it makes
  abbrev pub terms_of : Duty → List Tree
  terms_of (begin ts) = each_once [] ts
  terms_of (speak l mk) = []
  terms_of (listen l) = message X l ∷ []

  abbrev pub names_of : Duty → List ℕ
  names_of (begin ts) = []
  names_of (speak l mk) = names_on mk [] (message X l)
  names_of (listen l) = []

  abbrev pub names_of_all : List Duty → List ℕ
  names_of_all [] = []
  names_of_all (d ∷ ds) = names_of d ++ names_of_all ds

-- the numbers that came with a begin
abbrev pub numbers_in : Request → List ℕ
numbers_in (Begin r given numbers) = vec_items numbers
numbers_in (Say r) = []
numbers_in (Hear r h) = []
numbers_in (Register r n) = []
numbers_in (Atom n) = []
numbers_in (Tuple parts) = []
numbers_in (Crypt text key) = []
numbers_in (Apply f parts) = []
numbers_in (Shape h) = []
numbers_in (Part h i) = []
numbers_in (Unlock h k) = []
numbers_in (Same h k) = []
numbers_in Space = []

-- the values behind the handles that came with a call
abbrev pub values_at : Meaning → List Reply → Request → List (Option Tree)
values_at m rs (Begin r given numbers) = values_of m (handles_of rs (vec_items given))
values_at m rs (Say r) = []
values_at m rs (Hear r h) = as_option (m (handle_of rs h)) ∷ []
values_at m rs (Register r n) = []
values_at m rs (Atom n) = []
values_at m rs (Tuple parts) = []
values_at m rs (Crypt text key) = []
values_at m rs (Apply f parts) = []
values_at m rs (Shape h) = []
values_at m rs (Part h i) = []
values_at m rs (Unlock h k) = []
values_at m rs (Same h k) = []
values_at m rs Space = []

abbrev pub first_of : List Duty → Option Duty
first_of [] = nothing
first_of (d ∷ ds) = some d

abbrev pub line_said : ℕ → Option Tree → List (ℕ × Tree)
line_said l nothing = []
line_said l (some v) = (l, v) ∷ []

module _ {S : Type 0} where
  -- the calls of a role that were taken, in order
  abbrev pub taken_by : ℕ → List (Step S) → List (Step S)
  taken_by r [] = []
  taken_by r (e ∷ es) = cond (calls r e.asked && taken e.reply) (e ∷ taken_by r es) (taken_by r es)

  abbrev pub numbers_given : List (Step S) → List ℕ
  numbers_given [] = []
  numbers_given (e ∷ es) = numbers_in e.asked ++ numbers_given es

  module _ (means : S → Meaning) where
    abbrev pub values_in : Step S → List (Option Tree)
    values_in e = values_at (means e.before) e.earlier e.asked

    -- the value that a say answered
    abbrev pub value_said : Step S → Option Tree
    value_said e = as_option (means e.after (handle_in e.reply))

    module _ (X : Specification) where
      -- what a taken call adds: terms taken in, with their values; what was said, with its line
      abbrev pub taken_in : Duty × Step S → List (Tree × Tree)
      taken_in p = zip (terms_of X p.0) (valid (values_in p.1))

      abbrev pub said_in : Duty → Step S → List (ℕ × Tree)
      said_in (begin ts) e = []
      said_in (speak l mk) e = line_said l (value_said e)
      said_in (listen l) e = []

      abbrev pub all_taken_in : List (Duty × Step S) → List (Tree × Tree)
      all_taken_in [] = []
      all_taken_in (p ∷ ps) = taken_in p ++ all_taken_in ps

      abbrev pub all_said : List (Duty × Step S) → List (ℕ × Tree)
      all_said [] = []
      all_said (p ∷ ps) = said_in p.0 p.1 ++ all_said ps

      module _ (r : ℕ) (H : List (Step S)) where
        -- The i-th taken call of a role did its i-th duty: first the begin, then each own line in order.
        abbrev pub done : List (Duty × Step S)
        done = zip (duties X r) (taken_by r H)

        abbrev pub lines_said : List (ℕ × Tree)
        lines_said = all_said done

        -- what it was given and heard, and the atoms that it made: the begin's numbers go to the names in order
        abbrev pub stock : Stock
        stock =
            record {
              taken = all_taken_in done;
              made = zip (names_of_all X (take (length (taken_by r H)) (duties X r))) (numbers_given (taken_by r H));
            }

  -- the duty that is next
  abbrev pub next_duty : Specification → ℕ → List (Step S) → Option Duty
  next_duty X r H = first_of (drop (length (taken_by r H)) (duties X r))
