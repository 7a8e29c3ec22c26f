-- Actions in order, up to the first refusal: how a list of actions ends, without the place where it stopped.
use Rattle.std.proofs.Common.{◌≡◌, ℕ, suc, List, [], ◌∷◌, refl}
use Rattle.model.specs.Trees.{Tree}
use Rattle.model.specs.Roles.{Act}
use Rattle.model.specs.Runs.{Machine, Result, ran, refused, step, Outcome, ended, stopped, attempt}
use Rattle.model.proofs.Machine.{never_ran}

abbrev pub and_on : Result → (Machine → Result) → Result
and_on (ran M) k = k M
and_on (refused f) k = refused f

-- actions in order, up to the first refusal
abbrev pub exec : (Tree → ℕ) → List Act → Machine → Result
exec c [] M = ran M
exec c (a ∷ rest) M = and_on (step c a M) (exec c rest)

pub ran_split : (c : Tree → ℕ) (a : Act) (rest : List Act) (M M' : Machine) → exec c (a ∷ rest) M ≡ ran M'
    → (N : Machine) × (step c a M ≡ ran N) × (exec c rest N ≡ ran M')
ran_split c a rest M M' e = go (step c a M) refl e
  where
    go : (x : Result) → step c a M ≡ x → and_on x (exec c rest) ≡ ran M' → (N : Machine) × (step c a M ≡ ran N) × (exec c rest N ≡ ran M')
    go (ran N) p e = (N, p, e)
    go (refused f) p e = absurd (never_ran e)

abbrev pub result_of : Outcome → Result
result_of (ended M) = ran M
result_of (stopped f k n) = refused f

-- it ends as `exec` does
pub attempt_exec : (c : Tree → ℕ) (xs : List Act) (k : ℕ) (M : Machine) → result_of (attempt c xs k M) ≡ exec c xs M
attempt_exec c [] k M = refl
attempt_exec c (a ∷ rest) k M = go (step c a M) (λ N. attempt_exec c rest (suc k) N)
  where
    go : (x : Result) → ((N : Machine) → result_of (attempt c rest (suc k) N) ≡ exec c rest N)
        → result_of (elim x [ ran N ↦ attempt c rest (suc k) N | refused f ↦ stopped f k M.space ]) ≡ and_on x (exec c rest)
    go (ran N) f = f N
    go (refused e) f = refl
