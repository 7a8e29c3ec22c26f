-- A role's party and its start.
use Rattle.std.specs.Prelude.{◌≡◌, ℕ, ◌+◌, List, [], ◌∷◌, Ok, Err, Result}
use Rattle.model.specs.Roles as model
use Rattle.model.specs.Roles.{start}
use Rattle.model.specs.Deduction as deduction
use Rattle.syntax.specs.declared.spec.Name.{Name}
use Rattle.terms.specs.declared.declarations.Right.{Right}
use Rattle.terms.specs.declared.limits.Limits.{Limits}
use Rattle.terms.specs.declared.table.TermTable.{TermTable}
use Rattle.terms.specs.Scope.{Scope, Signature}
use Rattle.terms.specs.Starting.{given_to, has_right}
use Rattle.roles.specs.declared.line_fault.LineFault.{LineFault}
use Rattle.roles.specs.declared.line_fault.LineFault.TheVariants.{Limit, Undeclared, WrongType, Repeated, Underivable, Exhausted}
use Rattle.roles.specs.declared.party.Function.{Function}
use Rattle.roles.specs.declared.role.Role.{Role}
use Rattle.roles.specs.Parties.{party_of}
use Rattle.roles.specs.Playing.{Player, ended}
use Rattle.roles.specs.Players.{player_of}

-- the functions as the party of this name may apply them, numbered on from a number
abbrev pub functions_from : ℕ → List Right → ℕ → List Signature → List Function
functions_from n rights f [] = []
functions_from n rights f (s ∷ ss) = record { secret = s.class.secret; one_way = s.class.one_way; right = has_right n f rights } ∷ functions_from n rights (f + 1) ss

abbrev pub party_in : Scope → ℕ → deduction.Party
party_in S n = party_of (functions_from n S.rights 0 S.functions)

-- a role that was given nothing
abbrev pub nobody : model.Role
nobody = record { known = []; next = 0; acts = [] }

-- a role at its start: what its party starts from is given and settled; a limit is passed at its name
abbrev pub started : Limits → Scope → ℕ → Name → Result Player LineFault
started limits S n name =
    ended limits 0 name.at (record { name = n; part = name.part; party = party_in S n; role = nobody; rows = [] })
    (start (party_in S n) (given_to n S.starts))

-- it starts as the definition says, want of memory aside
abbrev pub StartsAs : TermTable → Result Player LineFault → Result Role LineFault → Type 0
StartsAs t o (Ok r) = o ≡ Ok (player_of t r)
StartsAs t o (Err (Limit p)) = o ≡ Err (Limit p)
StartsAs t o (Err (Undeclared p)) = ⊥
StartsAs t o (Err (WrongType p)) = ⊥
StartsAs t o (Err (Repeated p)) = ⊥
StartsAs t o (Err (Underivable p n k)) = o ≡ Err (Underivable p n k)
StartsAs t o (Err (Exhausted w)) = Unit {0}
