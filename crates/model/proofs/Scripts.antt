-- A role's state after its lines, with the terms that it took and the names that it made.
use Rattle.std.proofs.Common.{◌≡◌, ℕ, Bool, List, [], ◌∷◌, ◌++◌, subst, append-nil}
use mathlib.Core.Path.{subst⁻¹}
use Rattle.model.specs.Lists.{Every}
use Rattle.model.specs.Trees.{Tree, Formed}
use Rattle.model.specs.Deduction.{Party}
use Rattle.model.specs.Roles.{Role, start, heard, spoke, said}
use Rattle.model.specs.Lives.{Life, starts, hears, says}
use Rattle.model.specs.Runs.{Memory, empty}
use Rattle.model.specs.Programs.{nobody_yet, given, new_names}
use Rattle.model.proofs.Filling.{grew_then, Went}
use Rattle.model.proofs.Marked.{None}
use Rattle.model.proofs.Lines.{went_heard, went_start}
use Rattle.model.proofs.Adding.{said_went, names_are}

pub data Script (P : Party) : Life → Role → List Tree → List ℕ → Type 0 where
  started : (ts : List Tree) → Every Formed ts → Script P (starts ts) (start P ts) (given P ts) []
  hearing : {l : Life} {s : Role} {is : List Tree} {ns : List ℕ} → Script P l s is ns → (t : Tree) → Formed t
      → Script P (hears l t) (heard P t s) (is ++ (t ∷ [])) ns
  saying : {l : Life} {s : Role} {is : List Tree} {ns : List ℕ} → Script P l s is ns → (may_make : ℕ → Bool) (t : Tree) → Formed t
      → (s' : Role) → said P may_make t s ≡ spoke s' → Script P (says l may_make t) s' is (ns ++ new_names s s')

module _ (P : Party) where
  abbrev pub went_then : {s s₁ s₂ : Role} {Γ : Memory} {is js : List Tree} {ns ks : List ℕ} (w : Went P s Γ s₁ None is ns) → Went P s₁ w.sheet s₂ None js ks
      → Went P s Γ s₂ None (is ++ js) (ns ++ ks)
  went_then w v = record { sheet = v.sheet; good = v.good; grew = grew_then P w.grew v.grew }

  pub script_went : {l : Life} {s : Role} {is : List Tree} {ns : List ℕ} → Script P l s is ns → Went P nobody_yet empty s None is ns
  script_went (started ts f) = (went_start P ts f).0
  script_went (hearing {s = s} {is = is} {ns = ns} k t f) =
      let w = script_went k in
      subst (λ l. Went P nobody_yet empty (heard P t s) None (is ++ (t ∷ [])) l) (append-nil ns)
      (went_then w (went_heard P t s w.sheet w.good f).0)
  script_went (saying {s = s} {is = is} {ns = ns} k may_make t f s' e) =
      let w = script_went k in
      let z = said_went P may_make t s s' w.sheet w.good f e in
      subst (λ l. Went P nobody_yet empty s' None l (ns ++ new_names s s')) (append-nil is)
      (went_then w (subst⁻¹ (λ l. Went P s w.sheet s' None [] l) (names_are P s s' z.0 z.3) z.1))
