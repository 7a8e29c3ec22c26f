-- Holdings with their values, and what it is to read them as specified.
use Rattle.std.specs.Prelude.{◌≡◌, ℕ, ◌⊎◌, List, [], ◌++◌}
use Rattle.model.specs.Lists.{Every, SomeOf, zip}
use Rattle.model.specs.Trees.{Tree, leaf}
use Rattle.model.specs.Deduction.{Party}
use Rattle.model.specs.Readings.{Reading}

-- holdings with their values: the terms given and heard, and the names made with their numbers
pub record Stock : Type 0 where
  pub taken : List (Tree × Tree)
  pub made : List (ℕ × ℕ)

abbrev pub nothing_held : Stock
nothing_held = record { taken = []; made = [] }

-- a line adds what came in and what was made
abbrev pub add : Stock → List Tree → List Tree → List ℕ → List ℕ → Stock
add h is vs ns ks = record { taken = h.taken ++ zip is vs; made = h.made ++ zip ns ks }

-- a term is held; a value is held; each holding has its reading as value
abbrev pub TermOf : Stock → Tree → Type 0
TermOf h t = SomeOf (λ p. t ≡ p.0) h.taken ⊎ SomeOf (λ p. t ≡ leaf p.0) h.made

abbrev pub ValueOf : Stock → Tree → Type 0
ValueOf h v = SomeOf (λ p. v ≡ p.1) h.taken ⊎ SomeOf (λ p. v ≡ leaf p.1) h.made

abbrev pub ReadsAs : (Tree → Tree) → Stock → Type 0
ReadsAs R h = Every (λ p. R p.0 ≡ p.1) h.taken × Every (λ p. R (leaf p.0) ≡ leaf p.1) h.made

-- some reading gives all holdings their values
abbrev pub Readable : Party → Stock → Type 0
Readable P h = (R : Tree → Tree) × Reading P (TermOf h) R × ReadsAs R h
