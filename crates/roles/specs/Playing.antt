-- What each role does in a line: the role's program so far, as the model has it, with the rows that are its own.
use Rattle.std.specs.Prelude.{ℕ, zero, suc, min, Bool, cond, ◌||◌, List, [], ◌∷◌, ◌++◌, map, length, drop, Ok, Err, Result, nat_lt}
use Rattle.text.specs.declared.part.Part.{Part}
use Rattle.model.specs.Trees.{Tree, eq_tree}
use Rattle.model.specs.Deduction.{Party}
use Rattle.model.specs.Roles as model
use Rattle.model.specs.Roles.{Act, Said, spoke, failed, heard, said}
use Rattle.terms.specs.declared.limits.Limits.{Limits}
use Rattle.roles.specs.declared.line_fault.LineFault.{LineFault}
use Rattle.roles.specs.declared.line_fault.LineFault.TheVariants.{Limit, Underivable}

-- a role: its name by number and where it stands in the text, what the model has of it, and its rows: actions with their lines
pub record Player : Type 0 where
  pub name : ℕ
  pub part : Part
  pub party : Party
  pub role : model.Role
  pub rows : List (ℕ × Act)

-- the number of a term: its place among the distinct terms
abbrev pub term_number : Tree → List Tree → ℕ
term_number t [] = zero
term_number t (u ∷ us) = cond (eq_tree t u) zero (suc (term_number t us))

module _ (limits : Limits) where
  -- more registers or actions than a role may have
  abbrev pub over : model.Role → Bool
  over s = nat_lt (min limits.registers 512) s.next || nat_lt (min limits.actions 4096) (length s.acts)

  -- a line of a role ends: its new actions are rows of that line; a limit is passed at a place
  abbrev pub ended : ℕ → ℕ → Player → model.Role → Result Player LineFault
  ended line at p s =
      cond (over s) (Err (Limit at))
      (Ok (record { name = p.name; part = p.part; party = p.party; role = s; rows = p.rows ++ map (λ a. (line, a)) (drop (length p.rows) s.acts) }))

  abbrev pub hears : ℕ → ℕ → Tree → Player → Result Player LineFault
  hears line at t p = ended line at p (heard p.party t p.role)

  -- what cannot be derived is refused as such, also where a limit would be passed, with the role's number in the order of roles
  abbrev pub said_so : ℕ → ℕ → ℕ → List Tree → Player → Said → Result Player LineFault
  said_so line at role terms p (spoke s) = ended line at p s
  said_so line at role terms p (failed u) = Err (Underivable at role (term_number u terms))

  abbrev pub says : ℕ → ℕ → ℕ → List Tree → (ℕ → Bool) → Tree → Player → Result Player LineFault
  says line at role terms makes t p = said_so line at role terms p (said p.party makes t p.role)
