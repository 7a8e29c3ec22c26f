-- What a line adds to a role's program, and what saying does.
use Rattle.std.proofs.Common.{◌≡◌, ℕ, Bool, List, ◌++◌, ap, ◌∙◌, subst}
use Rattle.model.specs.Lists.{rest_of}
use Rattle.model.specs.Trees.{Tree, Formed}
use Rattle.model.specs.Deduction.{Party}
use Rattle.model.specs.Roles.{Role, spoke, said}
use Rattle.model.specs.Runs.{Memory}
use Rattle.model.specs.Programs.{leaves, line, new_names}
use Rattle.model.proofs.Lists.{rest_append}
use Rattle.model.proofs.Grounds.{Good}
use Rattle.model.proofs.Filling.{Grew}
use Rattle.model.proofs.Marked.{None}
use Rattle.model.proofs.Lines.{Spoken, went_said}

module _ (P : Party) where
  pub line_is : {s s' : Role} {Γ Γ' : Memory} {is : List Tree} {ns : List ℕ} → (g : Grew P s Γ s' Γ' is ns) → line s s' ≡ g.line
  line_is {s = s} g = ap (rest_of s.acts) g.adds ∙ rest_append s.acts g.line

  -- what saying does
  pub said_went : (may_make : ℕ → Bool) (t : Tree) (s s' : Role) (Γ : Memory) → Good s Γ s.next None → Formed t → said P may_make t s ≡ spoke s'
      → Spoken P may_make s Γ t (spoke s')
  said_went may_make t s s' Γ g f e = subst (Spoken P may_make s Γ t) e (went_said P may_make t s Γ g f)

  pub names_are : (s s' : Role) (ns : List ℕ) → leaves s'.known ≡ leaves s.known ++ ns → new_names s s' ≡ ns
  names_are s s' ns e = ap (rest_of (leaves s.known)) e ∙ rest_append (leaves s.known) ns
