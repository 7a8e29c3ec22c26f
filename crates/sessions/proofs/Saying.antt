-- A say that is taken says a value.
use Rattle.std.proofs.Common.{◌≡◌, ℕ, suc, cond, List, [], ◌∷◌, ◌++◌, sym, refl, ap, ◌∙◌, subst}
use mathlib.Core.Option.{Option, none as nothing, some}
use Rattle.model.specs.Trees.{Tree}
use Rattle.model.specs.Roles.{Act, say as say_it}
use Rattle.model.specs.Runs.{Machine, Result, ran, refused, need, Outcome, ended, stopped, step, attempt, answer, says_of, later}
use Rattle.model.specs.Programs.{Turn, begins, says_line, hears_line, Stage}
use Rattle.model.specs.Sessions.{State, say, taken, only, to_say, handled, concluded, machine_for, call}
use Rattle.sessions.proofs.Playing.{AllShaped}
use Rattle.sessions.proofs.Shaped.{Opens, Shaped, SaysLast}

module _ (c : Tree → ℕ) where
  -- actions that end with a say
  ended_says : (q : ℕ) (ys : List Act) (k : ℕ) (M N : Machine) → attempt c (ys ++ (say_it q ∷ [])) k M ≡ ended N → (v : Tree) × (answer (ys ++ (say_it q ∷ [])) N.mem ≡ some v)
  ended_says q [] k M N e = go (M.mem q) refl e
    where
      go : (o : Option Tree) → M.mem q ≡ o → elim (need o (λ v. ran M)) as (λ x. Outcome) [ ran K ↦ ended K | refused f ↦ stopped f k M.space ] ≡ ended N → (v : Tree) × (N.mem q ≡ some v)
      go nothing p h = absurd (cc)
      go (some v) p h = let i : M ≡ N = cc in (v, ap (λ (K : Machine). K.mem q) (sym i) ∙ p)
  ended_says q (a ∷ ys) k M N e = go (step c a M) e (λ K. ended_says q ys (suc k) K N)
    where
      rest : List Act
      rest = ys ++ (say_it q ∷ [])

      go : (x : Result) → elim x as (λ x. Outcome) [ ran K ↦ attempt c rest (suc k) K | refused f ↦ stopped f k M.space ] ≡ ended N
          → ((K : Machine) → attempt c rest (suc k) K ≡ ended N → (v : Tree) × (answer rest N.mem ≡ some v)) → (v : Tree) × (later (answer rest N.mem) (says_of a N.mem) ≡ some v)
      go (ran K) h f = let w = f K h in (w.0, ap (λ o. later o (says_of a N.mem)) w.1)
      go (refused g) h f = absurd (cc)

  pub say_valued : (s : State) (r : ℕ) → AllShaped s → (o : Option Tree) → (call c s (say r)).1 ≡ taken o → (v : Tree) × (o ≡ some v)
  say_valued s r all o e = go (s.views r).ahead (all r).1 e
    where
      go : (xs : List Stage) → Shaped (all r).0 xs → (handled c s (say r) (only to_say xs)).1 ≡ taken o → (v : Tree) × (o ≡ some v)
      go [] h i = absurd (cc)
      go (st ∷ rest) h i = one st.turn refl i
        where
          said : SaysLast st.actions → (y : Outcome) → attempt c st.actions (s.views r).done (machine_for r [] (s.views r).numbers s) ≡ y
              → (concluded r st [] (s.views r).numbers s y).1 ≡ taken o → (v : Tree) × (o ≡ some v)
          said l (ended N) p q =
              let w = ended_says l.0 l.1 (s.views r).done (machine_for r [] (s.views r).numbers s) N
              (subst (λ acts. attempt c acts (s.views r).done (machine_for r [] (s.views r).numbers s) ≡ ended N) l.2 p) in
              let j : answer st.actions N.mem ≡ o = cc in
              (w.0, sym j ∙ ap (λ acts. answer acts N.mem) l.2 ∙ w.1)
          said l (stopped f k n) p q = absurd (cc)

          one : (t : Turn) → st.turn ≡ t → (handled c s (say r) (cond (to_say t) (some st) nothing)).1 ≡ taken o → (v : Tree) × (o ≡ some v)
          one begins p q = absurd (cc)
          one (says_line k) p q = said (subst (λ t. Opens t st.actions) p h.1).1 (attempt c st.actions (s.views r).done (machine_for r [] (s.views r).numbers s)) refl q
          one (hears_line k) p q = absurd (cc)
