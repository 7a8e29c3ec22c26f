-- A role at its start is what the definition says.
use Rattle.std.proofs.Common.{◌≡◌, ℕ, List, [], map, Ok, Err, vec_items, Result, subst}
use Rattle.model.specs.Roles.{start}
use Rattle.syntax.specs.declared.spec.Name.{Name}
use Rattle.terms.specs.declared.limits.Limits.{Limits}
use Rattle.terms.specs.declared.table.TermTable.{TermTable}
use Rattle.terms.specs.Scope.{Scope}
use Rattle.terms.specs.Starting.{given_to}
use Rattle.terms.specs.Terms.{tree_in}
use Rattle.roles.specs.declared.line_fault.LineFault.{LineFault}
use Rattle.roles.specs.declared.line_fault.LineFault.TheVariants.{Limit, Undeclared, WrongType, Repeated, Underivable, Exhausted}
use Rattle.roles.specs.declared.role.Role.{Role}
use Rattle.roles.specs.declared.state.RoleState.{RoleState}
use Rattle.roles.specs.Ended.{KeepsRest, Ends}
use Rattle.roles.specs.Lines.{Starts}
use Rattle.roles.specs.Parties.{party_of}
use Rattle.roles.specs.Players.{player_of, Plays}
use Rattle.roles.specs.Playing.{ended}
use Rattle.roles.specs.Starting.{functions_from, started, StartsAs}
use Rattle.roles.proofs.Played.{with_state, line_ended}

-- the result of ending the line, with the role in place of nothing
abbrev pub with_role : Role → Result (Unit {0}) LineFault → Result Role LineFault
with_role r (Ok x) = Ok r
with_role r (Err f) = Err f

module _ (t : TermTable) (limits : Limits) (S : Scope) (n : ℕ) (name : Name) where
  as_started : (r : Role) (x : Result (Unit {0}) LineFault) → Plays t (started limits S n name) r x → StartsAs t (started limits S n name) (with_role r x)
  as_started r (Ok x) p = p.0
  as_started r (Err (Limit at)) p = p
  as_started r (Err (Undeclared at)) p = p
  as_started r (Err (WrongType at)) p = p
  as_started r (Err (Repeated at)) p = p
  as_started r (Err (Underivable at m k)) p = p
  as_started r (Err (Exhausted w)) p = tt

  module _ (r : Role) (rn : r.name ≡ n) (rp : r.part ≡ name.part) (rr : vec_items r.rows ≡ [])
      (rf : vec_items r.party.functions ≡ functions_from n S.rights 0 S.functions) (ks : List ℕ) (g : map (tree_in t) ks ≡ given_to n S.starts) where
    pub begun : (s : RoleState) (y : Unit {0}) → Starts t r.party ks s (Ok y) → (r' : Role) (x : Result (Unit {0}) LineFault)
        → KeepsRest (with_state r s) r' → Ends limits 0 name.at (with_state r s) r' x
        → StartsAs t (started limits S n name) (with_role r' x)
    begun s y c r' x k d =
        as_started r' x
        (subst (λ o. Plays t o r' x) same
        (line_ended t (record { line = 0; at = name.at; role = 0; limits = limits }) r s _ c.0 (record { knows = c.1; orderly = c.2 }) r' x k d).1)
      where
        same : ended limits 0 name.at (player_of t r) (start (party_of (vec_items r.party.functions)) (map (tree_in t) ks)) ≡ started limits S n name
        same = rw (rn, rp, rr, rf, g)
