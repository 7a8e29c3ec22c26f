-- The text of a program's rows.
use Rattle.std.specs.Prelude.{ℕ, List, [], ◌∷◌, ◌++◌, codes, IsAscii, encode_utf8_all, decimal, slice_index_or}
use Rattle.program.specs.declared.action.Action.{Action}
use Rattle.program.specs.declared.action.Row.{Row}
use Rattle.program.specs.Actions.{act_of}
use Rattle.model.specs.Trees.{tupled, crypted, applied}
use Rattle.model.specs.Roles.{Act, give, new, hear, say, same, make, split, unlock}

-- a blank and a number, for each number; then the line's end
abbrev pub numbers : List ℕ → List ℕ
numbers [] = 10 ∷ []
numbers (n ∷ ns) = 32 ∷ (decimal n ++ numbers ns)

-- the name of a function by its number
abbrev pub name : List (List ℕ) → ℕ → List ℕ
name names f = slice_index_or names f []

-- a name as it is written: each byte as the character of its number, in UTF-8
abbrev pub written : List ℕ → List ℕ
written bytes = encode_utf8_all bytes

-- names are ASCII
abbrev pub Narrow : List (List ℕ) → Type 0
Narrow names = (f : ℕ) → IsAscii (name names f)

-- an action, as the model has it, with its registers: what is filled comes first; no program opens a ciphertext without its key
abbrev pub act_text : List (List ℕ) → Act → List ℕ
act_text names (give t) = codes " give" ++ numbers (t ∷ [])
act_text names (new t) = codes " new" ++ numbers (t ∷ [])
act_text names (hear t) = codes " hear" ++ numbers (t ∷ [])
act_text names (say r) = codes " say" ++ numbers (r ∷ [])
act_text names (same l r) = codes " same" ++ numbers (l ∷ (r ∷ []))
act_text names (make t tupled rs) = codes " tuple" ++ numbers (t ∷ rs)
act_text names (make t crypted rs) = codes " crypt" ++ numbers (t ∷ rs)
act_text names (make t (applied f) rs) = codes " apply " ++ (decimal t ++ (codes " " ++ (name names f ++ numbers rs)))
act_text names (split f n tupled s) = codes " open-tuple" ++ numbers (f ∷ (n ∷ (s ∷ [])))
act_text names (split f n crypted s) = []
act_text names (split f n (applied g) s) = codes " open-apply " ++ (decimal f ++ (codes " " ++ (decimal n ++ (codes " " ++ (decimal s ++ (codes " " ++ (name names g ++ numbers [])))))))
act_text names (unlock t s k) = codes " open-crypt" ++ numbers (t ∷ (s ∷ (k ∷ [])))

-- an action with the number of its line
abbrev pub step_text : List (List ℕ) → ℕ × Act → List ℕ
step_text names s = decimal s.0 ++ act_text names s.1

abbrev pub action_text : List (List ℕ) → Action → List ℕ
action_text names a = act_text names (act_of a)

-- a row: its line, its action, the registers; a function goes by its name
abbrev pub row_text : List (List ℕ) → Row → List ℕ
row_text names r = decimal r.line ++ action_text names r.action
