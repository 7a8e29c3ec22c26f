-- How each run of a session stands: its role's state and the duties left.
use Rattle.std.proofs.Common.{◌≡◌, ℕ, ◌<◌, Bool, true, false, cond, T, ltb, ◌⊎◌, List, [], ◌∷◌, length, refl, inl, inr}
use Rattle.model.specs.Lists.{Every}
use Rattle.model.specs.Deduction.{Derives}
use Rattle.model.specs.Roles.{Role}
use Rattle.model.specs.Runs.{Memory, empty}
use Rattle.model.specs.Holdings.{ValueOf}
use Rattle.model.specs.Specifications.{Specification, message, Duty, begin as to_start, own, duties}
use Rattle.model.specs.Programs.{nobody_yet, stages_from, stages, all_makes, Accepted}
use Rattle.model.specs.Sessions.{View, State, new_runs, begins_next}
use Rattle.model.specs.CountLaw.{CountsKept}
use Rattle.model.specs.Deducible.{Deducible}
use Rattle.model.proofs.Counting.{Counts}
use Rattle.model.proofs.CountLaw.{DutyCounted, nobody_counts, duties_counted}
use Rattle.model.proofs.Standing.{Stands, stands_nobody}
use Rattle.model.proofs.Fitting.{Fitting, all_fitting, role_or_nothing}
use Rattle.model.proofs.Living.{Living}

-- how a run stands; from its begin on it has a number for each name still to be made
pub record Attends (S : Specification) (r : ℕ) (v : View) : Type 0 where
  pub role : Role
  pub left : List Duty
  pub comes : v.ahead ≡ stages_from (message S) (S.party r) role left
  pub fits : Fitting (message S) (S.party r) role left
  pub sheet : Memory
  pub stands : Stands (S.party r) role sheet v.memory v.holdings
  pub counts : (A : ℕ → ℕ) → CountsKept A S → Counts A role × Every (DutyCounted A (S.party r) (message S)) left
  pub says : (A : ℕ → ℕ) → CountsKept A S → Every (λ p. Deducible A (S.party r) (ValueOf v.holdings) p.1) v.said
  pub says_derive : Every (λ p. Derives (S.party r) (ValueOf v.holdings) p.1) v.said
  pub knows : v.known ≡ role.known
  pub there : (r < S.roles) ⊎ (left ≡ [])
  pub living : Living S r role left v.holdings
  pub numbered : T (begins_next v.ahead) ⊎ (length v.numbers ≡ length (all_makes v.ahead))

pub new_numbered : (S : Specification) (r : ℕ) → T (begins_next (stages S r)) ⊎ (0 ≡ length (all_makes (stages S r)))
new_numbered S r = go (ltb r S.roles)
  where
    go : (b : Bool) → (let xs = stages_from (message S) (S.party r) nobody_yet (cond b (to_start (S.knows r) ∷ own S r) []) in T (begins_next xs) ⊎ (0 ≡ length (all_makes xs)))
    go true = inl tt
    go false = inr refl

abbrev pub AllAttend : Specification → State → Type 0
AllAttend S s = (r : ℕ) → Attends S r (s.views r)

abbrev pub new_attend : (S : Specification) → Accepted S → (space : ℕ) → AllAttend S (new_runs S space)
new_attend S acc space r =
    record {
      role = nobody_yet;
      left = duties S r;
      comes = refl;
      fits = all_fitting S acc r;
      sheet = empty;
      stands = stands_nobody (S.party r);
      counts = λ A kept. (nobody_counts A, duties_counted A S kept (S.party r) r);
      says = λ A kept. tt;
      says_derive = tt;
      knows = refl;
      there = role_or_nothing S r;
      living = inl (refl, refl, refl);
      numbered = new_numbered S r;
    }
