-- The law of counts: in a program each function has its declared count of parts.
use Rattle.std.specs.Prelude.{◌≡◌, ℕ, ◌<◌, length}
use Rattle.model.specs.Lists.{Every}
use Rattle.model.specs.Trees.{Head, tupled, crypted, applied, Tree, leaf, node, Trees, none, more}
use Rattle.model.specs.Roles.{Act, give, new, hear, say, same, make, split, unlock, count}
use Rattle.model.specs.Specifications.{Specification}
use Rattle.model.specs.Programs.{program}

-- a ciphertext has two parts, an application as many as declared for its function; a tuple has any number
abbrev pub Parts : (ℕ → ℕ) → Head → ℕ → Type 0
Parts declared tupled n = Unit {0}
Parts declared crypted n = n ≡ 2
Parts declared (applied f) n = n ≡ declared f

-- so it is throughout a term
abbrev mutual
  pub Declared : (ℕ → ℕ) → Tree → Type 0
  Declared declared (leaf n) = Unit {0}
  Declared declared (node h ts) = Parts declared h (count ts) × DeclaredAll declared ts

  pub DeclaredAll : (ℕ → ℕ) → Trees → Type 0
  DeclaredAll declared none = Unit {0}
  DeclaredAll declared (more t ts) = Declared declared t × DeclaredAll declared ts

-- and in an action that makes or opens a compound
abbrev pub Counted : (ℕ → ℕ) → Act → Type 0
Counted declared (give r) = Unit {0}
Counted declared (new r) = Unit {0}
Counted declared (hear r) = Unit {0}
Counted declared (say r) = Unit {0}
Counted declared (same r q) = Unit {0}
Counted declared (make r h rs) = Parts declared h (length rs)
Counted declared (split f n h r) = Parts declared h n
Counted declared (unlock x r k) = Unit {0}

-- the terms of a specification keep to the declared counts
pub record CountsKept (declared : ℕ → ℕ) (S : Specification) : Type 0 where
  pub starts : (r : ℕ) → r < S.roles → Every (Declared declared) (S.knows r)
  pub lines : Every (λ x. Declared declared x.message) S.lines

-- then so do the actions of its programs
abbrev pub CountLaw : Type 0
CountLaw = (declared : ℕ → ℕ) (S : Specification) → CountsKept declared S → (r : ℕ) → Every (λ x. Counted declared x.1) (program S r)
