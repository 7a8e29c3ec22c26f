-- What taking up rows as a program answers.
use Rattle.std.specs.Prelude.{◌≡◌, ℕ, true, false, List, Ok, Err, Result}
use Rattle.std.specs.Borrow.{Bor}
use Rattle.program.specs.declared.action.Row.{Row}
use Rattle.program.specs.declared.held.Program.{Program}
use Rattle.program.specs.declared.take_up.ProgramFault.{ProgramFault}
use Rattle.program.specs.declared.take_up.ProgramFault.TheVariants.{Unsound, NoMemory}
use Rattle.program.specs.Held.{passes}

-- the rows pass, or they do not, want of memory aside
abbrev pub Checks : List ℕ → List Row → Result (Unit {0}) ProgramFault → Type 0
Checks counts rows (Ok x) = passes counts rows ≡ true
Checks counts rows (Err Unsound) = passes counts rows ≡ false
Checks counts rows (Err (NoMemory w)) = Unit {0}

-- the rows become a program exactly if they pass, want of memory aside
abbrev pub Holds : Bor (List Row) → Bor (List ℕ) → Result Program ProgramFault → Type 0
Holds rows counts (Ok p) = (passes counts.now rows.now ≡ true) × (p.rows.now ≡ rows.now) × (p.counts.now ≡ counts.now)
Holds rows counts (Err Unsound) = passes counts.now rows.now ≡ false
Holds rows counts (Err (NoMemory w)) = Unit {0}

-- it takes the rows exactly if they pass, want of memory aside; otherwise it is as it was
abbrev pub TakesUp : Program → Program → Bor (List Row) → Bor (List ℕ) → Result (Unit {0}) ProgramFault → Type 0
TakesUp p p' rows counts (Ok x) = (passes counts.now rows.now ≡ true) × (p'.rows.now ≡ rows.now) × (p'.counts.now ≡ counts.now)
TakesUp p p' rows counts (Err Unsound) = (passes counts.now rows.now ≡ false) × (p' ≡ p)
TakesUp p p' rows counts (Err (NoMemory w)) = p' ≡ p
