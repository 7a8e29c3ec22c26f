-- A role's program, stage by stage: its actions, the terms that it takes in, the names that it makes, what it knows then.
use Rattle.std.specs.Prelude.{◌≡◌, ℕ, ◌<◌, List, [], ◌∷◌, ◌++◌, map}
use Rattle.std.proofs.Math.Option.{Option, none as nothing, some}
use Rattle.model.specs.Lists.{Every, rest_of}
use Rattle.model.specs.Trees.{Tree, leaf, node, Formed}
use Rattle.model.specs.Deduction.{Party}
use Rattle.model.specs.Roles.{Act, Entry, Role, give_all, start, heard, said}
use Rattle.model.specs.Lives.{spoken}
use Rattle.model.specs.Specifications.{Specification, message, Duty, begin, speak, listen, duties}

-- a role before its start
abbrev pub nobody_yet : Role
nobody_yet = record { known = []; next = 0; acts = [] }

-- a duty done: the role's state after it, if the line can be said
module _ (term : ℕ → Tree) where
  abbrev pub next_role : Party → Duty → Role → Option Role
  next_role P (begin ts) s = some (start P ts)
  next_role P (speak l mk) s = spoken (said P mk (term l) s)
  next_role P (listen l) s = some (heard P (term l) s)

-- the terms of a list, and the names among them
abbrev pub terms : List Entry → List Tree
terms [] = []
terms (e ∷ es) = e.term ∷ terms es

abbrev pub leaf_of : Tree → List ℕ
leaf_of (leaf n) = n ∷ []
leaf_of (node h ts) = []

abbrev pub leaves : List Entry → List ℕ
leaves [] = []
leaves (e ∷ es) = leaf_of e.term ++ leaves es

-- the terms that a start gives registers: each once, in order
abbrev pub given : Party → List Tree → List Tree
given P ts = terms (give_all P ts nobody_yet).known

-- what a duty adds: actions, terms that come in, names that are made
abbrev pub line : Role → Role → List Act
line s s' = rest_of s.acts s'.acts

abbrev pub takes : (ℕ → Tree) → Party → Duty → List Tree
takes term P (begin ts) = given P ts
takes term P (speak l mk) = []
takes term P (listen l) = term l ∷ []

abbrev pub new_names : Role → Role → List ℕ
new_names s s' = rest_of (leaves s.known) (leaves s'.known)

abbrev pub names : Duty → Role → Role → List ℕ
names (begin ts) s s' = []
names (speak l mk) s s' = new_names s s'
names (listen l) s s' = []

-- whose turn it is in a stage: the start's, or that of a line by its number
pub data Turn : Type 0 where
  begins : Turn
  says_line hears_line : ℕ → Turn

-- a stage: its actions, the terms that it takes in, the names that it makes, and all terms known after it, with their registers
pub record Stage : Type 0 where
  pub turn : Turn
  pub actions : List Act
  pub takes : List Tree
  pub makes : List ℕ
  pub known : List Entry

abbrev pub turn_of : Duty → Turn
turn_of (begin ts) = begins
turn_of (speak l mk) = says_line l
turn_of (listen l) = hears_line l

abbrev pub stage : (ℕ → Tree) → Party → Duty → Role → Role → Stage
stage term P d s s' =
    record { turn = turn_of d; actions = line s s'; takes = takes term P d; makes = names d s s'; known = s'.known }

-- the stages of a program, as far as all can be said
abbrev pub stages_from : (ℕ → Tree) → Party → Role → List Duty → List Stage
stages_from term P s [] = []
stages_from term P s (d ∷ ds) = elim (next_role term P d s) [ some s' ↦ stage term P d s s' ∷ stages_from term P s' ds | nothing ↦ [] ]

-- a role's program: the start, then each own line
abbrev pub stages : Specification → ℕ → List Stage
stages S r = stages_from (message S) (S.party r) nobody_yet (duties S r)

-- all actions of some stages, all terms that they take in, all names that they make
abbrev pub all_actions : List Stage → List Act
all_actions [] = []
all_actions (st ∷ rest) = st.actions ++ all_actions rest

abbrev pub all_takes : List Stage → List Tree
all_takes [] = []
all_takes (st ∷ rest) = st.takes ++ all_takes rest

abbrev pub all_makes : List Stage → List ℕ
all_makes [] = []
all_makes (st ∷ rest) = st.makes ++ all_makes rest

-- the program as it is printed: each action with its line, 0 for the start
abbrev pub line_of : Turn → ℕ
line_of begins = 0
line_of (says_line l) = l
line_of (hears_line l) = l

abbrev pub rows_of : List Stage → List (ℕ × Act)
rows_of [] = []
rows_of (st ∷ rest) = map (λ a. (line_of st.turn, a)) st.actions ++ rows_of rest

abbrev pub program : Specification → ℕ → List (ℕ × Act)
program S r = rows_of (stages S r)

-- everything can be said
abbrev pub Sayable : (ℕ → Tree) → Party → Role → List Duty → Type 0
Sayable term P s [] = Unit {0}
Sayable term P s (d ∷ ds) = elim (next_role term P d s) [ some s' ↦ Sayable term P s' ds | nothing ↦ ⊥ ]

-- a specification that is translated: lines go from one role to another, ciphertexts have a text and a key, and each role can say all its lines
pub record Accepted (S : Specification) : Type 0 where
  pub sayable : (r : ℕ) → r < S.roles → Sayable (message S) (S.party r) nobody_yet (duties S r)
  pub formed_starts : (r : ℕ) → r < S.roles → Every Formed (S.knows r)
  pub formed_lines : Every (λ x. Formed x.message) S.lines
  pub between_roles : Every (λ x. (x.sender < S.roles) × (x.receiver < S.roles) × ¬ (x.sender ≡ x.receiver)) S.lines
