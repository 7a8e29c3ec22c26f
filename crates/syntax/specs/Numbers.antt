-- The numbers by which the rows of a specification name its parameters and its terms: they run on from row to row, and nothing else stands there.
use Rattle.std.specs.Prelude.{◌≡◌, ℕ, suc, ◌≤◌, List, [], ◌∷◌, vec_len}
use Rattle.syntax.specs.declared.spec.Declaration.{Declaration}
use Rattle.syntax.specs.declared.spec.Declaration.TheVariants as declarations
use Rattle.syntax.specs.declared.spec.Line.{Line}
use Rattle.syntax.specs.declared.spec.Spec.{Spec}

-- what a declaration takes, where so many parameters and terms stand before it, and so many after it
abbrev pub DeclarationTakes : ℕ → ℕ → Declaration → ℕ → ℕ → Type 0
DeclarationTakes p t (declarations.Value n k shared) p' t' = (p' ≡ p) × (t' ≡ t)
DeclarationTakes p t (declarations.Function n c r first end) p' t' = (first ≡ p) × ((end ≡ p') × ((p ≤ p') × (t' ≡ t)))
DeclarationTakes p t (declarations.Knows n k) p' t' = (k ≡ t) × ((p' ≡ p) × (t' ≡ suc t))
DeclarationTakes p t (declarations.EverybodyKnows k) p' t' = (k ≡ t) × ((p' ≡ p) × (t' ≡ suc t))

-- what a line takes: a term, its message
abbrev pub LineTakes : ℕ → ℕ → Line → ℕ → ℕ → Type 0
LineTakes p t l p' t' = (l.message ≡ t) × ((p' ≡ p) × (t' ≡ suc t))

-- rows, one after the other
abbrev pub AllTake : {A : Type 0} → (ℕ → ℕ → A → ℕ → ℕ → Type 0) → ℕ → ℕ → List A → ℕ → ℕ → Type 0
AllTake takes p t [] p' t' = (p' ≡ p) × (t' ≡ t)
AllTake takes p t (x ∷ xs) p' t' = (q : ℕ) × ((u : ℕ) × (takes p t x q u × AllTake takes q u xs p' t'))

-- the declarations, and then the lines
abbrev pub InOrder : Spec → Type 0
InOrder s = (p : ℕ) × ((t : ℕ) × (AllTake DeclarationTakes 0 0 s.declarations.items p t × AllTake LineTakes p t s.lines.items (vec_len s.parameters) (vec_len s.terms)))

-- the same between two states of the lists
abbrev pub Took : {A : Type 0} → (ℕ → ℕ → A → ℕ → ℕ → Type 0) → Spec → A → Spec → Type 0
Took takes old x new = takes (vec_len old.parameters) (vec_len old.terms) x (vec_len new.parameters) (vec_len new.terms)
