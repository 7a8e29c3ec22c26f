-- A message goes from one role to another as the definition says.
use Rattle.std.proofs.Common.{◌≡◌, ℕ, zero, suc, ◌<◌, List, [], ◌∷◌, map, length, get_or, set, Ok, Err, Result, sym, refl, ap, ◌∙◌, subst, ap₂, arith}
use mathlib.Core.Path.{subst⁻¹}
use Rattle.terms.specs.declared.table.TermTable.{TermTable}
use Rattle.terms.specs.Declaring.{bind}
use Rattle.terms.specs.Terms.{Grows}
use Rattle.roles.specs.declared.line_fault.LineFault.{LineFault}
use Rattle.roles.specs.declared.line_fault.LineFault.TheVariants.{Limit, Undeclared, WrongType, Repeated, Underivable, Exhausted}
use Rattle.roles.specs.declared.role.Role.{Role}
use Rattle.roles.specs.AllRoles.{AllFit}
use Rattle.roles.specs.Players.{player_of, Plays}
use Rattle.roles.specs.Playing.{Player}
use Rattle.roles.specs.Stages.{change}
use Rattle.roles.specs.Staging.{Refused}
use Rattle.roles.proofs.AllFit.{same_player}

-- a fault comes through all that would follow
pub refused_through : {A B : Type 0} (o : Result A LineFault) (k : A → Result B LineFault) (e : LineFault) → Refused o e → Refused (bind o k) e
refused_through o k (Limit p) q = ap (λ x. bind x k) q
refused_through o k (Undeclared p) q = ap (λ x. bind x k) q
refused_through o k (WrongType p) q = ap (λ x. bind x k) q
refused_through o k (Repeated p) q = ap (λ x. bind x k) q
refused_through o k (Underivable p n t) q = ap (λ x. bind x k) q
refused_through o k (Exhausted w) q = tt

pub refused_path : {A : Type 0} {o u : Result A LineFault} (e : LineFault) → o ≡ u → Refused u e → Refused o e
refused_path e q r = subst⁻¹ (λ x. Refused x e) q r

pub refused_play : (t : TermTable) (o : Result Player LineFault) (r : Role) (e : LineFault) → Plays t o r (Err e) → Refused o e
refused_play t o r (Limit p) q = q
refused_play t o r (Undeclared p) q = absurd q
refused_play t o r (WrongType p) q = absurd q
refused_play t o r (Repeated p) q = absurd q
refused_play t o r (Underivable p n k) q = q
refused_play t o r (Exhausted w) q = tt

-- one of the roles does something
module _ (g : Role → Player) (f : Player → Result Player LineFault) where
  pub changed : (rs : List Role) (i : ℕ) (r r' : Role) → i < length rs → r ≡ get_or rs i r → f (g r) ≡ Ok (g r') → change i f (map g rs) ≡ Ok (map g (set rs i r'))
  changed [] i r r' h e q = absurd (omega arith)
  changed (x ∷ rs) zero r r' h e q = ap (λ o. bind o (λ p. Ok (p ∷ map g rs))) (ap (λ y. f (g y)) (sym e) ∙ q)
  changed (x ∷ rs) (suc i) r r' h e q = ap (λ o. bind o (λ ps. Ok (g x ∷ ps))) (changed rs i r r' (omega arith) e q)

  pub not_changed : (rs : List Role) (i : ℕ) (r : Role) (x : LineFault) → i < length rs → r ≡ get_or rs i r → Refused (f (g r)) x → Refused (change i f (map g rs)) x
  not_changed [] i r x h e q = absurd (omega arith)
  not_changed (y ∷ rs) zero r x h e q = refused_through (f (g y)) (λ p. Ok (p ∷ map g rs)) x (subst (λ z. Refused (f (g z)) x) e q)
  not_changed (y ∷ rs) (suc i) r x h e q = refused_through (change i f (map g rs)) (λ ps. Ok (g y ∷ ps)) x (not_changed rs i r x (omega arith) e q)

-- the roles are the same to a longer table
pub same_players : (t u : TermTable) → Grows t u → (rs : List Role) → AllFit t rs → map (player_of u) rs ≡ map (player_of t) rs
same_players t u g [] f = refl
same_players t u g (r ∷ rs) f = ap₂ (λ (p : Player) (ps : List Player). p ∷ ps) (same_player t u g r f.0) (same_players t u g rs f.1)
