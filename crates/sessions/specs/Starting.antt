-- New runs of some roles.
use Rattle.std.specs.Prelude.{◌≡◌, ℕ, ◌<◌, min, true, false, List, [], map, length, Ok, Err, Result, slice_index_or, vec_items, Vec}
use Rattle.std.specs.List.{AllZip}
use Rattle.std.specs.declared.alloc.Global.{Global}
use Rattle.model.specs.Lists.{SomeOf}
use Rattle.model.specs.Specifications.{Specification}
use Rattle.model.specs.Programs.{program, Accepted}
use Rattle.model.specs.CountLaw.{CountsKept}
use Rattle.syntax.specs.Specs as syntax
use Rattle.terms.specs.declared.declarations.Function.{Function}
use Rattle.terms.specs.declared.limits.Limits.{Limits}
use Rattle.terms.specs.Counts.{count_or}
use Rattle.terms.specs.Meanings.{arity}
use Rattle.terms.specs.Scope.{Scope}
use Rattle.program.specs.declared.action.Row.{Row}
use Rattle.program.specs.Held.{passes}
use Rattle.roles.specs.declared.role.Role.{Role}
use Rattle.roles.specs.declared.translation.Translation.{Translation}
use Rattle.roles.specs.Specified.{specified}
use Rattle.roles.specs.Stages.{Stage, lines}
use Rattle.roles.specs.Staging.{stage_of}
use Rattle.roles.specs.Translating.{translation}
use Rattle.roles.specs.TranslationLaw.{no_roles, Declares}
use Rattle.run.specs.declared.run.Run.{Run}
use Rattle.run.specs.Called.{Shows}
use Rattle.run.specs.Filling.{lined}
use Rattle.run.specs.Plain.{new_plain}
use Rattle.run.specs.Shown.{Meaning}
use Rattle.sessions.specs.declared.fault.RunsFault.{RunsFault}
use Rattle.sessions.specs.declared.fault.RunsFault.TheVariants.{Unsound, NoMemory}

-- how many parts a function takes, in a byte
abbrev pub short_count : Function → ℕ
short_count f = min (arity f) 255

-- one run for each role, of its rows, before its begin, in every store
abbrev pub IsNew : Role → Run → Type 0
IsNew role run = (m : Meaning) → Shows m run (new_plain (map lined (vec_items role.rows)))

abbrev pub NewRuns : List Role → List Run → Type 0
NewRuns roles runs = AllZip IsNew roles runs

-- one for each role of an accepted specification: the run of its program before its begin, with nothing in its registers
pub record Begins (X : Specification) (runs : List Run) : Type 0 where
  pub accepted : Accepted X
  pub many : length runs ≡ X.roles
  pub fresh : (m : Meaning) (r : ℕ) (run : Run) → r < length runs → Shows m (slice_index_or runs r run) (new_plain (program X r))

-- one for each role of an accepted text, whose terms keep to the declared counts of parts
pub record TextRuns (limits : Limits) (text : List ℕ) (runs : List Run) : Type 0 where
  pub spec : syntax.Specification
  pub scope : Scope
  pub stage : Stage
  pub declares : Declares limits text spec scope
  pub accepted : lines limits text [] spec.lines (no_roles scope) ≡ Ok stage
  pub counted : (other : ℕ) → CountsKept (count_or other scope.functions) (specified text scope spec.lines)
  pub begins : Begins (specified text scope spec.lines) runs

-- a run of rows is refused if they cannot be held with these counts, want of memory aside
abbrev pub RunOf : List ℕ → List Row → Result Run RunsFault → Type 0
RunOf counts rows (Ok run) = (passes counts rows ≡ true) × ((m : Meaning) → Shows m run (new_plain (map lined rows)))
RunOf counts rows (Err Unsound) = passes counts rows ≡ false
RunOf counts rows (Err (NoMemory w)) = Unit {0}

-- and so are runs of roles, if some role's rows cannot
abbrev pub AllNew : List ℕ → List Role → Result (Vec Run Global) RunsFault → Type 0
AllNew counts roles (Ok runs) = NewRuns roles (vec_items runs)
AllNew counts roles (Err Unsound) = SomeOf (λ (r : Role). passes counts (vec_items r.rows) ≡ false) roles
AllNew counts roles (Err (NoMemory w)) = Unit {0}

-- new runs of a translation's roles are new runs of the roles of each text that it translates
abbrev pub RunsOf : Translation → List ℕ → Result (Vec Run Global) RunsFault → Type 0
RunsOf T counts (Ok runs) = NewRuns (vec_items T.roles) (vec_items runs) × ((limits : Limits) (text : List ℕ) → translation limits text ≡ Ok (stage_of T) → TextRuns limits text (vec_items runs))
RunsOf T counts (Err Unsound) = SomeOf (λ (r : Role). passes counts (vec_items r.rows) ≡ false) (vec_items T.roles)
RunsOf T counts (Err (NoMemory w)) = Unit {0}
