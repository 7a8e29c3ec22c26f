-- The law of names: which line makes a name.
use Rattle.std.specs.Prelude.{◌≡◌, ℕ, ◌<◌, T, ◌↔◌}
use Rattle.model.specs.Lists.{Every}
use Rattle.model.specs.Trees.{leaf, Within}
use Rattle.model.specs.Lives.{Disciplined}
use Rattle.model.specs.Specifications.{Specification, message, makes, life}

-- the name stands in the line's message and in no earlier one, no role starts from a term in which it stands, and it is not barred
pub record FirstStands (S : Specification) (l n : ℕ) : Type 0 where
  pub here : Within (leaf n) (message S l)
  pub not_earlier : (k : ℕ) → k < l → ¬ Within (leaf n) (message S k)
  pub not_started : (r : ℕ) → r < S.roles → Every (λ t. ¬ Within (leaf n) t) (S.knows r)
  pub not_barred : ¬ T (S.barred n)

-- a line makes exactly these names; so no two lines make one name, and a role makes each before it stands in what the role was given, heard or said
pub record MakesOnce (S : Specification) : Type 0 where
  pub exactly : (l n : ℕ) → T (makes S l n) ↔ FirstStands S l n
  pub one_line : (k l n : ℕ) → T (makes S k n) → T (makes S l n) → k ≡ l
  pub before_use : (r : ℕ) → r < S.roles → Disciplined (life S r)

abbrev pub NamesLaw : Type 0
NamesLaw = (S : Specification) → MakesOnce S
