-- A run of a program on values, with no store and no handles: what each of its calls does.
use Rattle.std.specs.Prelude.{ℕ, ◌+◌, Bool, true, false, cond, ◌&&◌, List, [], ◌∷◌, map, length, drop, ◌==◌}
use Rattle.std.proofs.Math.Option.{Option}
use Rattle.model.specs.Trees.{Tree}
use Rattle.model.specs.Roles.{Act, give, new, hear as hear_it, say as say_it, same, make, split, unlock}
use Rattle.model.specs.Runs.{Memory, empty, Fault, mismatch, full, invalid, broken, Outcome, ended, stopped, attempt, answer}
use Rattle.model.specs.Sessions.{Answer, taken, declined, valid, gives, news}

-- A run: whether its begin was taken, how many actions were done in the lines taken, the rows still to come with their lines,
-- what the registers hold, and the numbers left for `new`.
pub record Plain : Type 0 where
  pub begun : Bool
  pub done : ℕ
  pub ahead : List (ℕ × Act)
  pub memory : Memory
  pub numbers : List ℕ

-- a run of these rows, before its begin
abbrev pub new_plain : List (ℕ × Act) → Plain
new_plain rows = record { begun = false; done = 0; ahead = rows; memory = empty; numbers = [] }

-- a call: a handle is given by the value behind it, if it is valid
pub data Call : Type 0 where
  begin : List (Option Tree) → List ℕ → Call
  say : Call
  hear : Option Tree → Call

-- the actions of a line, if it is at the front
abbrev pub of_line : ℕ → List (ℕ × Act) → List Act
of_line l [] = []
of_line l (x ∷ xs) = cond (x.0 == l) (x.1 ∷ of_line l xs) []

-- whose turn it is
pub data Turn : Type 0 where
  begins says hears nobody : Turn

abbrev pub is_hear : Act → Bool
is_hear (give r) = false
is_hear (new r) = false
is_hear (hear_it r) = true
is_hear (say_it r) = false
is_hear (same r q) = false
is_hear (make r h rs) = false
is_hear (split f n h r) = false
is_hear (unlock x r k) = false

-- the next line is heard if its first action hears, else it is said; after the last line it is nobody's turn
abbrev pub line_turn : List (ℕ × Act) → Turn
line_turn [] = nobody
line_turn (x ∷ xs) = cond (is_hear x.1) hears says

abbrev pub turn_now : Plain → Turn
turn_now w = cond w.begun (line_turn w.ahead) begins

-- the actions of the line that it is the turn of: line 0 at the begin
abbrev pub line_ahead : List (ℕ × Act) → List Act
line_ahead [] = []
line_ahead (x ∷ xs) = of_line x.0 (x ∷ xs)

abbrev pub line_now : Plain → List Act
line_now w = cond w.begun (line_ahead w.ahead) (of_line 0 w.ahead)

-- a begin has a value for each `give` of line 0, and a number for each `new` of the program
abbrev pub counts_fit : Plain → List (Option Tree) → List ℕ → Bool
counts_fit w hs ns = length hs == gives (of_line 0 w.ahead) && length ns == news (map (λ x. x.1) w.ahead)

-- the numbers of refusals: an empty register holds no valid handle
abbrev pub fault_number : Fault → ℕ
fault_number mismatch = 14
fault_number full = 15
fault_number invalid = 12
fault_number broken = 12

-- after a call: the run, the space left, and the answer
pub record After : Type 0 where
  pub run : Plain
  pub space : ℕ
  pub reply : Answer

-- a line is done whole, or it was refused, and then only the space shows it
abbrev pub concluded : Plain → List Act → Outcome → After
concluded w acts (ended M) =
    record {
      run = record { begun = true; done = w.done + length acts; ahead = drop (length acts) w.ahead; memory = M.mem; numbers = M.numbers };
      space = M.space;
      reply = taken (answer acts M.mem);
    }
concluded w acts (stopped f k left) = record { run = w; space = left; reply = declined (fault_number f) k }

-- the line that it is the turn of, with values to take in and numbers for `new`, where a value's cost is told by `c`
abbrev pub tried : (Tree → ℕ) → Plain → ℕ → List Tree → List ℕ → After
tried c w space vs ns =
    concluded w (line_now w) (attempt c (line_now w) w.done (record { mem = w.memory; space = space; inputs = vs; numbers = ns }))

-- a call that alters nothing
abbrev pub refused : ℕ → Plain → ℕ → After
refused n w space = record { run = w; space = space; reply = declined n w.done }

-- one call. Out of turn it is refused with 11, a begin with a wrong count with 13.
abbrev pub called : (Tree → ℕ) → Plain → ℕ → Turn → Call → After
called c w space begins (begin hs ns) = cond (counts_fit w hs ns) (tried c w space (valid hs) ns) (refused 13 w space)
called c w space begins say = refused 11 w space
called c w space begins (hear h) = refused 11 w space
called c w space says (begin hs ns) = refused 11 w space
called c w space says say = tried c w space [] w.numbers
called c w space says (hear h) = refused 11 w space
called c w space hears (begin hs ns) = refused 11 w space
called c w space hears say = refused 11 w space
called c w space hears (hear h) = tried c w space (valid (h ∷ [])) w.numbers
called c w space nobody (begin hs ns) = refused 11 w space
called c w space nobody say = refused 11 w space
called c w space nobody (hear h) = refused 11 w space

abbrev pub call : (Tree → ℕ) → Plain → ℕ → Call → After
call c w space e = called c w space (turn_now w) e
