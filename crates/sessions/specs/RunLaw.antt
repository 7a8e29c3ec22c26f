-- The law of runs, over what was seen of them: requests, replies, what handles name, the space, and the runs' registers.
use Rattle.std.specs.Prelude.{◌≡◌, ◌≢◌, ℕ, ◌<◌, ◌≤◌, Bool, true, false, cond, ◌&&◌, T, ◌⊎◌, ◌↔◌, List, [], ◌∷◌, ◌++◌, map, length, take, Some, None, slice_index_or, ◌==◌, nat_lt, vec_items, Vec}
use Rattle.std.specs.declared.alloc.Global.{Global}
use Rattle.std.proofs.Math.Option.{Option, none as nothing, some}
use Rattle.model.specs.Lists.{Every, SomeOf}
use Rattle.model.specs.Trees.{Tree, leaf}
use Rattle.model.specs.Deduction.{Party}
use Rattle.model.specs.Entries.{Has, Held}
use Rattle.model.specs.Roles.{Entry, Role}
use Rattle.model.specs.Readings.{reading_of}
use Rattle.model.specs.Holdings.{nothing_held, add, TermOf, ValueOf}
use Rattle.model.specs.Specifications.{Specification, message, Duty, begin, speak, listen, duties}
use Rattle.model.specs.Programs.{nobody_yet, next_role}
use Rattle.model.specs.CountLaw.{CountsKept}
use Rattle.model.specs.Deducible.{Deducible, ReadAsSpecified}
use Rattle.model.specs.SessionLaw.{costs}
use Rattle.store.specs.Semantics.{Semantics}
use Rattle.run.specs.declared.run.Run.{Run}
use Rattle.run.specs.Shown.{register}
use Rattle.sessions.specs.declared.reply.Reply.TheVariants as replies
use Rattle.sessions.specs.declared.request.Handle.{Handle}
use Rattle.sessions.specs.declared.request.Request.{Request}
use Rattle.sessions.specs.declared.request.Request.TheVariants.{Begin, Say, Hear, Register, Atom, Tuple, Crypt, Apply, Shape, Part, Unlock, Same, Space}
use Rattle.sessions.specs.Refusals.{OutOfTurnFault, CountsFault, InvalidFault, FullFault, MismatchFault}
use Rattle.sessions.specs.Requests.{handle_of}
use Rattle.sessions.specs.Observed.{Step, calls, taken, taken_by, values_in, each_once, names_of_all, stock, lines_said, next_duty}

-- a value that is built by somebody else
abbrev pub to_build : Request → Bool
to_build (Begin r given numbers) = false
to_build (Say r) = false
to_build (Hear r h) = false
to_build (Register r n) = false
to_build (Atom n) = true
to_build (Tuple parts) = true
to_build (Crypt text key) = true
to_build (Apply f parts) = true
to_build (Shape h) = false
to_build (Part h i) = false
to_build (Unlock h k) = false
to_build (Same h k) = false
to_build Space = false

module _ (X : Specification) where
  -- what a role is after some duties: it starts, hears and says
  abbrev pub role_after : Party → Role → List Duty → Role
  role_after P s [] = s
  role_after P s (d ∷ ds) = elim (next_role (message X) P d s) [ some s' ↦ role_after P s' ds | nothing ↦ s ]

  -- the terms that it knows after so many taken calls, each with the register that they filled for it
  abbrev pub known_after : ℕ → ℕ → List Entry
  known_after r n = (role_after (X.party r) nobody_yet (take n (duties X r))).known

  -- a begin has a value for each term that the role starts from, and a number for each name that it makes
  abbrev pub RightCounts : ℕ → List (Option Tree) → List ℕ → Type 0
  RightCounts r hs ns = (length hs ≡ length (each_once [] (X.knows r))) × (length ns ≡ length (names_of_all X (duties X r)))

module _ {S : Type 0} (M : Semantics S) (X : Specification) where
  -- something holds of each step, after those before it
  abbrev pub Along : (List (Step S) → Step S → Type 0) → List (Step S) → List (Step S) → Type 0
  Along Q before [] = Unit {0}
  Along Q before (e ∷ es) = Q before e × Along Q (before ++ (e ∷ [])) es

  -- Begin is in turn until taken, then each own line in order until taken: said where the role sends, heard where it receives.
  abbrev pub InTurn : List (Step S) → Request → Type 0
  InTurn H (Begin r given numbers) = next_duty X r H ≡ some (begin (X.knows r))
  InTurn H (Say r) = (l : ℕ) × (mk : ℕ → Bool) × (next_duty X r H ≡ some (speak l mk))
  InTurn H (Hear r h) = (l : ℕ) × (next_duty X r H ≡ some (listen l))
  InTurn H (Register r n) = ⊥
  InTurn H (Atom n) = ⊥
  InTurn H (Tuple parts) = ⊥
  InTurn H (Crypt text key) = ⊥
  InTurn H (Apply f parts) = ⊥
  InTurn H (Shape h) = ⊥
  InTurn H (Part h i) = ⊥
  InTurn H (Unlock h k) = ⊥
  InTurn H (Same h k) = ⊥
  InTurn H Space = ⊥

  -- each value in a role's registers, and each it said, can be derived from what it was given, made and heard, each function with its declared number of parts
  pub record Derived (H : List (Step S)) (s : S) (runs : List Run) : Type 0 where
    pub in_registers : (declared : ℕ → ℕ) → CountsKept declared X → (r q : ℕ) (run : Run) (v : Tree) → r < length runs
        → M.means s (register (slice_index_or runs r run).registers q) ≡ Some v → Deducible declared (X.party r) (ValueOf (stock M.means X r H)) v
    pub in_says : (declared : ℕ → ℕ) → CountsKept declared X → (r : ℕ) → Every (λ p. Deducible declared (X.party r) (ValueOf (stock M.means X r H)) p.1) (lines_said M.means X r H)

  -- each term that it was given, heard or made is known, and the register of each known term holds a value
  pub record Holding (H : List (Step S)) (s : S) (runs : List Run) : Type 0 where
    pub known : (r : ℕ) (t : Tree) → TermOf (stock M.means X r H) t → Has (known_after X r (length (taken_by r H))) t
    pub filled : (r i : ℕ) (run : Run) (t : Tree) → r < length runs → Held (known_after X r (length (taken_by r H))) t i
        → (v : Tree) × (M.means s (register (slice_index_or runs r run).registers i) ≡ Some v)

  -- A value heard in turn, unless the store refuses one of its builds, is taken exactly if some choice of values that a store can hold, for names
  -- and closed terms, gives all the role's holdings, this one too, their values; and so are the values given at a begin in turn with right counts.
  pub record Decided (H : List (Step S)) (e : Step S) : Type 0 where
    pub hear_taken : (declared : ℕ → ℕ) → CountsKept declared X → (r l : ℕ) (h : Handle) (v : Tree) → e.asked ≡ Hear r h → next_duty X r H ≡ some (listen l)
        → M.means e.before (handle_of e.earlier h) ≡ Some v → ¬ FullFault e.reply
        → T (taken e.reply) ↔ ReadAsSpecified declared (X.party r) (add (stock M.means X r H) (message X l ∷ []) (v ∷ []) [] [])
    pub hear_refused : (r l : ℕ) (h : Handle) (v : Tree) → e.asked ≡ Hear r h → next_duty X r H ≡ some (listen l)
        → M.means e.before (handle_of e.earlier h) ≡ Some v → ¬ T (taken e.reply) → MismatchFault e.reply ⊎ FullFault e.reply
    pub begin_taken : (declared : ℕ → ℕ) → CountsKept declared X → (r : ℕ) (given : Vec Handle Global) (numbers : Vec ℕ Global) (vs : List Tree) → e.asked ≡ Begin r given numbers
        → next_duty X r H ≡ some (begin (X.knows r)) → values_in M.means e ≡ map some vs → RightCounts X r (values_in M.means e) (vec_items numbers) → ¬ FullFault e.reply
        → T (taken e.reply) ↔ ReadAsSpecified declared (X.party r) (add nothing_held (each_once [] (X.knows r)) vs [] [])
    pub begin_refused : (r : ℕ) (given : Vec Handle Global) (numbers : Vec ℕ Global) (vs : List Tree) → e.asked ≡ Begin r given numbers
        → next_duty X r H ≡ some (begin (X.knows r)) → values_in M.means e ≡ map some vs → RightCounts X r (values_in M.means e) (vec_items numbers) → ¬ T (taken e.reply)
        → MismatchFault e.reply ⊎ FullFault e.reply
    pub say_refused : (r l : ℕ) (mk : ℕ → Bool) → e.asked ≡ Say r → next_duty X r H ≡ some (speak l mk) → ¬ T (taken e.reply) → FullFault e.reply
    -- a say that is taken answers a valid handle
    pub say_answers : (r : ℕ) → e.asked ≡ Say r → T (taken e.reply) → (h : ℕ) × (v : Tree) × (e.reply ≡ replies.Handle h) × (M.means e.after h ≡ Some v)
    -- refused for other reasons: a call of a role that is out of turn, a begin with wrong counts, a handle that is not valid
    pub out_of_turn : (r : ℕ) → T (calls r e.asked) → r < X.roles → OutOfTurnFault e.reply ↔ (¬ InTurn H e.asked)
    pub wrong_counts : (r : ℕ) (given : Vec Handle Global) (numbers : Vec ℕ Global) → e.asked ≡ Begin r given numbers → next_duty X r H ≡ some (begin (X.knows r))
        → CountsFault e.reply ↔ (¬ RightCounts X r (values_in M.means e) (vec_items numbers))
    pub hear_invalid : (r l : ℕ) (h : Handle) → e.asked ≡ Hear r h → next_duty X r H ≡ some (listen l) → M.means e.before (handle_of e.earlier h) ≡ None → InvalidFault e.reply
    pub begin_invalid : (r : ℕ) (given : Vec Handle Global) (numbers : Vec ℕ Global) (vs : List Tree) (hs : List (Option Tree)) → e.asked ≡ Begin r given numbers
        → next_duty X r H ≡ some (begin (X.knows r)) → values_in M.means e ≡ map some vs ++ (nothing ∷ hs) → RightCounts X r (values_in M.means e) (vec_items numbers)
        → InvalidFault e.reply
    -- out of turn or with wrong counts a call alters neither the store nor a run; refused for another reason it leaves every register as it was
    pub unaltered : (r : ℕ) → T (calls r e.asked) → OutOfTurnFault e.reply ⊎ CountsFault e.reply → (e.after ≡ e.before) × (e.runs_after ≡ e.runs_before)
    pub emptied : (r : ℕ) → T (calls r e.asked) → ¬ T (taken e.reply) → (q : ℕ) (run : Run) → q < length e.runs_before
        → (slice_index_or e.runs_after q run).registers ≡ (slice_index_or e.runs_before q run).registers

  -- a begin in turn has the readings of the start's terms as givens, and the numbers of the atoms chosen for the names that the role makes
  abbrev pub StartsFrom : (ℕ → Tree) → List (Step S) → Step S → Type 0
  StartsFrom ρ H e =
      (r : ℕ) (given : Vec Handle Global) (numbers : Vec ℕ Global) → e.asked ≡ Begin r given numbers → next_duty X r H ≡ some (begin (X.knows r))
      → (values_in M.means e ≡ map (λ t. some (reading_of ρ t)) (each_once [] (X.knows r))) × (map leaf (vec_items numbers) ≡ map ρ (names_of_all X (duties X r)))

  -- a hear in turn has a valid handle, with the value of an earlier taken say of that line
  abbrev pub AsSaid : List (Step S) → Step S → Type 0
  AsSaid H e =
      (r l : ℕ) (h : Handle) → e.asked ≡ Hear r h → next_duty X r H ≡ some (listen l)
      → (v : Tree) × (M.means e.before (handle_of e.earlier h) ≡ Some v) × (q : ℕ) × SomeOf (λ p. (p.0 ≡ l) × (p.1 ≡ v)) (lines_said M.means X q H)

  -- nobody else builds
  abbrev pub Unbuilt : Step S → Type 0
  Unbuilt e = (h : ℕ) → T (to_build e.asked) → e.reply ≢ replies.Handle h

  -- a begin in turn
  abbrev pub to_start : List (Step S) → Request → Bool
  to_start H (Begin r given numbers) = nat_lt r X.roles && length (taken_by r H) == 0
  to_start H (Say r) = false
  to_start H (Hear r h) = false
  to_start H (Register r n) = false
  to_start H (Atom n) = false
  to_start H (Tuple parts) = false
  to_start H (Crypt text key) = false
  to_start H (Apply f parts) = false
  to_start H (Shape h) = false
  to_start H (Part h i) = false
  to_start H (Unlock h k) = false
  to_start H (Same h k) = false
  to_start H Space = false

  -- at the first begin the space holds the costs of all that the programs make or build, and nobody else builds from then on
  abbrev pub Suffices : (Tree → Tree) → List (Step S) → List (Step S) → Type 0
  Suffices R before [] = Unit {0}
  Suffices R before (e ∷ es) =
      cond (to_start before e.asked) ((costs X (M.cost e.before) R X.roles ≤ M.space e.before) × Every Unbuilt es) (Suffices R (before ++ (e ∷ [])) es)

  -- so far all roles start from one choice for the names, each line arrives as said, and space suffices for every build
  pub record Fair (ρ : ℕ → Tree) (H : List (Step S)) : Type 0 where
    pub start : Along (StartsFrom ρ) [] H
    pub arrive : Along AsSaid [] H
    pub suffice : Suffices (reading_of ρ) [] H

  -- a call in turn is taken
  abbrev pub NotRefused : List (Step S) → Step S → Type 0
  NotRefused H e = InTurn H e.asked → T (taken e.reply)

  -- each term that a role holds has its reading as value
  abbrev pub AllRead : (Tree → Tree) → List (Step S) → S → List Run → Type 0
  AllRead R H s runs =
      (r i : ℕ) (run : Run) (t : Tree) → r < length runs → Held (known_after X r (length (taken_by r H))) t i
      → M.means s (register (slice_index_or runs r run).registers i) ≡ Some (R t)

  -- any two roles share one value for each term that both hold
  abbrev pub AllShare : List (Step S) → S → List Run → Type 0
  AllShare H s runs =
      (r q i j : ℕ) (run : Run) (t : Tree) → r < length runs → q < length runs
      → Held (known_after X r (length (taken_by r H))) t i → Held (known_after X q (length (taken_by q H))) t j
      → (v : Tree) × (M.means s (register (slice_index_or runs r run).registers i) ≡ Some v) × (M.means s (register (slice_index_or runs q run).registers j) ≡ Some v)

  -- the law, where these steps have led
  pub record Lawful (H : List (Step S)) (s : S) (runs : List Run) : Type 0 where
    pub derived : Derived H s runs
    pub holding : Holding H s runs
    pub decided : Along Decided [] H
    -- no call in turn was refused
    pub chosen : (ρ : ℕ → Tree) → Fair ρ H → Along NotRefused [] H × AllRead (reading_of ρ) H s runs × AllShare H s runs
