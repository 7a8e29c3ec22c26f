-- Labels are used once. They are compared by value: numbers as numbers, names by their bytes.
use Rattle.std.specs.Prelude.{ℕ, Bool, false, cond, List, Ok, Err, Result, ◌==◌}
use Rattle.std.specs.List.{list_any}
use Rattle.syntax.specs.declared.spec.Label.{Label}
use Rattle.syntax.specs.declared.spec.Label.TheVariants.{Number, Name}
use Rattle.syntax.specs.declared.spec.Line.{Line}
use Rattle.syntax.specs.Places.{label_place}
use Rattle.std.specs.Str.{bytes_eq}
use Rattle.terms.specs.Scope.{bytes}
use Rattle.roles.specs.declared.line_fault.LineFault.{LineFault}
use Rattle.roles.specs.declared.line_fault.LineFault.TheVariants.{Repeated}

module _ (text : List ℕ) where
  abbrev pub equal_labels : Label → Label → Bool
  equal_labels (Number at m) (Number at' n) = m == n
  equal_labels (Number at m) (Name n) = false
  equal_labels (Name m) (Number at n) = false
  equal_labels (Name m) (Name n) = bytes_eq (bytes text m.part) (bytes text n.part)

  -- a label that one of some things has is refused at its place
  abbrev pub unused_by : {A : Type 0} → (A → Label) → List A → Label → Result (Unit {0}) LineFault
  unused_by label xs b = cond (list_any (λ x. equal_labels (label x) b) xs) (Err (Repeated (label_place b))) (Ok tt)

  abbrev pub unused : List Label → Label → Result (Unit {0}) LineFault
  unused earlier b = unused_by (λ a. a) earlier b

  abbrev pub new_label : List Line → Label → Result (Unit {0}) LineFault
  new_label ls b = unused_by (λ (l : Line). l.label) ls b
