-- The specification that the values of the code are.
use Rattle.std.specs.Prelude.{ℕ, List, [], ◌∷◌, map, slice_index_or, slice_range}
use Rattle.syntax.specs.declared.spec.Term.{Term as TermValue, fold-Term}
use Rattle.syntax.specs.declared.spec.Term.TheOpen.{Term-F}
use Rattle.syntax.specs.declared.spec.Declaration.{Declaration}
use Rattle.syntax.specs.declared.spec.Declaration.TheVariants as declarations
use Rattle.syntax.specs.declared.spec.Line.{Line}
use Rattle.syntax.specs.declared.spec.Name.{Name}
use Rattle.syntax.specs.declared.spec.Spec.{Spec}
use Rattle.syntax.specs.Specs.{Term, name, tuple, crypt, apply, Terms, none, more, Declared, value, function, knows, everybody, Lined, Specification}

abbrev pub terms : List Term → Terms
terms [] = none
terms (t ∷ ts) = more t (terms ts)

-- one level, with each term in it already seen
abbrev pub term_step : Term-F Term → Term
term_step (Term-F.Name n) = name n.at n.part
term_step (Term-F.Tuple at ts) = tuple at (terms ts.items)
term_step (Term-F.Crypt at t k) = crypt at t.value k.value
term_step (Term-F.Apply at f ts) = apply at f (terms ts.items)

abbrev pub term_of : TermValue → Term
term_of = fold-Term Term term_step

abbrev pub terms_of : List TermValue → Terms
terms_of ts = terms (map term_of ts)

-- what a number that is no term's stands for
abbrev pub nothing : Term
nothing = name 0 (record { at = 0; len = 0 })

abbrev pub term_in : List TermValue → ℕ → Term
term_in ts k = slice_index_or (map term_of ts) k nothing

-- rows, by the names and terms that they name by number
module _ (ns : List Name) (ts : List TermValue) where
  abbrev pub declared_in : Declaration → Declared
  declared_in (declarations.Value n k shared) = value n k shared
  declared_in (declarations.Function n c r first end) = function n c r (slice_range ns first end)
  declared_in (declarations.Knows n t) = knows n (term_in ts t)
  declared_in (declarations.EverybodyKnows t) = everybody (term_in ts t)

  abbrev pub line_in : Line → Lined
  line_in l = record { label = l.label; sender = l.sender; receiver = l.receiver; message = term_in ts l.message }

abbrev pub declared_of : Spec → Declaration → Declared
declared_of s = declared_in s.parameters.items s.terms.items

abbrev pub line_of : Spec → Line → Lined
line_of s = line_in s.parameters.items s.terms.items

abbrev pub specification_of : Spec → Specification
specification_of s = record { declarations = map (declared_of s) s.declarations.items; lines = map (line_of s) s.lines.items }
