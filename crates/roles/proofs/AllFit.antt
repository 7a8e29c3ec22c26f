-- Roles that fit a table: also a longer one, and after one of them was changed or added.
use Rattle.std.proofs.Common.{◌≡◌, ℕ, zero, suc, ◌<◌, ◌≤◌, List, [], ◌∷◌, ◌++◌, length, get_or, set, Ok, Err, vec_items, Result, refl, ap₂, arith}
use mathlib.Core.Path.{subst⁻¹}
use Rattle.model.specs.Trees.{Tree}
use Rattle.model.specs.Keeping.{Kept}
use Rattle.model.specs.Roles as model
use Rattle.terms.specs.declared.table.TermTable.{TermTable}
use Rattle.terms.specs.Terms.{tree_in, size, Grows}
use Rattle.roles.specs.declared.party.Party.{Party}
use Rattle.roles.specs.declared.role.Role.{Role}
use Rattle.roles.specs.declared.state.Entry.{Entry}
use Rattle.roles.specs.declared.state.RoleState.{RoleState}
use Rattle.roles.specs.Parties.{party_of}
use Rattle.roles.specs.States.{known_of, role_of, Within}
use Rattle.roles.specs.Settled.{Any}
use Rattle.roles.specs.declared.line_fault.LineFault.{LineFault}
use Rattle.roles.specs.Players.{player_of}
use Rattle.roles.specs.Roles.{Fit, Keeps}
use Rattle.roles.specs.AllRoles.{AllFit, AllKeep}

known_same : (f g : ℕ → Tree) (n : ℕ) → ((j : ℕ) → j < n → g j ≡ f j) → (es : List Entry) → Within n es → known_of g es ≡ known_of f es
known_same f g n e [] w = refl
known_same f g n e (x ∷ es) w =
    ap₂ (λ (t : Tree) (rest : List model.Entry). record { term = t; at = x.register; settled = x.settled } ∷ rest) (e x.term w.0) (known_same f g n e es w.1)

within_more : (m n : ℕ) (es : List Entry) → m ≤ n → Within m es → Within n es
within_more m n [] l w = tt
within_more m n (x ∷ es) l w = (let h = w.0 in omega arith, within_more m n es l w.1)

module _ (t u : TermTable) (g : Grows t u) where
  same_role : (p : Party) (s : RoleState) → Fit t p s → role_of (tree_in u) s ≡ role_of (tree_in t) s
  same_role p s f = rw (known_same (tree_in t) (tree_in u) (size t) g.kept (vec_items s.known) f.knows)

  fit_grows : (p : Party) (s : RoleState) → Fit t p s → Fit u p s
  fit_grows p s f = record {
    knows = within_more (size t) (size u) (vec_items s.known) g.longer f.knows;
    orderly = subst⁻¹ (Kept (party_of (vec_items p.functions)) Any Any) (same_role p s f) f.orderly;
  }

  pub same_player : (r : Role) → Fit t r.party r.state → player_of u r ≡ player_of t r
  same_player r f = rw (same_role r.party r.state f)

  pub all_fit_grows : (rs : List Role) → AllFit t rs → AllFit u rs
  all_fit_grows [] f = tt
  all_fit_grows (r ∷ rs) f = (fit_grows r.party r.state f.0, all_fit_grows rs f.1)

module _ (t : TermTable) where
  pub all_fit_at : (rs : List Role) (i : ℕ) (r : Role) → AllFit t rs → i < length rs → r ≡ get_or rs i r → Fit t r.party r.state
  all_fit_at [] i r f l e = absurd (omega arith)
  all_fit_at (x ∷ rs) zero r f l e = subst⁻¹ (λ (y : Role). Fit t y.party y.state) e f.0
  all_fit_at (x ∷ rs) (suc i) r f l e = all_fit_at rs i r f.1 (omega arith) e

  pub all_fit_set : (rs : List Role) (i : ℕ) (r : Role) → AllFit t rs → Fit t r.party r.state → AllFit t (set rs i r)
  all_fit_set [] i r f h = tt
  all_fit_set (x ∷ rs) zero r f h = (h, f.1)
  all_fit_set (x ∷ rs) (suc i) r f h = (f.0, all_fit_set rs i r f.1 h)

  pub all_fit_push : (rs : List Role) (r : Role) → AllFit t rs → Fit t r.party r.state → AllFit t (rs ++ r ∷ [])
  all_fit_push [] r f h = (h, tt)
  all_fit_push (x ∷ rs) r f h = (f.0, all_fit_push rs r f.1 h)

  -- one of the roles kept its fit, unless it was refused
  pub all_keep_set : (rs : List Role) (i : ℕ) (x : Role) (r : Result (Unit {0}) LineFault) → AllFit t rs → Keeps t x.party x.state r → AllKeep t (set rs i x) r
  all_keep_set rs i x (Ok y) f k = all_fit_set rs i x f k
  all_keep_set rs i x (Err e) f k = tt

-- the table has grown, and one of the roles was changed
pub all_fit_after : (t u : TermTable) → Grows t u → (rs : List Role) → AllFit t rs → (i : ℕ) (r : Role) → Fit u r.party r.state → AllFit u (set rs i r)
all_fit_after t u g rs f i r h = all_fit_set u rs i r (all_fit_grows t u g rs f) h
