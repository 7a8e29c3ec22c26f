-- The answer to a text, in print: the programs of its roles, or one line that says why not and where.
use Rattle.std.specs.Prelude.{ℕ, List, [], ◌++◌, map, codes, flat_map, Some, None, Ok, Err, Option, Result}
use Rattle.base.specs.declared.refusal.Refusal.{Refusal}
use Rattle.base.specs.Refusals.{refusal_text}
use Rattle.program.specs.Printed.{written, step_text}
use Rattle.terms.specs.declared.limits.Limits.{Limits}
use Rattle.terms.specs.Scope.{Scope, Signature, bytes}
use Rattle.roles.specs.declared.translation_fault.TranslationFault.{TranslationFault}
use Rattle.roles.specs.Playing.{Player}
use Rattle.roles.specs.Refusals.{translation_refusal}
use Rattle.roles.specs.Stages.{Stage}
use Rattle.roles.specs.Translating.{translation}

module _ (text : List ℕ) where
  -- the functions' names as they are written: an action's function goes by its place among them
  abbrev pub names_in : Scope → List (List ℕ)
  names_in U = map (λ (f : Signature). written (bytes text f.name)) U.functions

  -- a line with the role's name, then a line for each of its actions
  abbrev pub program_text : List (List ℕ) → Player → List ℕ
  program_text names p = codes "role " ++ (written (bytes text p.part) ++ (codes "\n" ++ flat_map (step_text names) p.rows))

  -- role by role
  abbrev pub programs_text : Stage → List ℕ
  programs_text G = flat_map (program_text (names_in G.scope)) G.players

-- a refusal, to the end of its line
abbrev pub refusal_line : Option Refusal → List ℕ
refusal_line None = []
refusal_line (Some r) = refusal_text r ++ codes "\n"

abbrev pub answer_of : List ℕ → Result Stage TranslationFault → List ℕ
answer_of text (Ok G) = programs_text text G
answer_of text (Err f) = refusal_line (translation_refusal f)

-- why there are no programs
abbrev pub refusal_of : Result Stage TranslationFault → Option Refusal
refusal_of (Ok G) = None
refusal_of (Err f) = translation_refusal f

abbrev pub answer : Limits → List ℕ → List ℕ
answer limits text = answer_of text (translation limits text)
