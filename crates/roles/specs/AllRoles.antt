-- All roles of a translation fit the table of terms.
use Rattle.std.specs.Prelude.{ℕ, ◌<◌, ◌≤◌, cond, List, [], ◌∷◌, length, Some, None, Ok, Err, Option, Result, ◌==◌, nat_lt}
use Rattle.std.specs.List.{position_or_len}
use Rattle.terms.specs.declared.table.TermTable.{TermTable}
use Rattle.roles.specs.declared.line_fault.LineFault.{LineFault}
use Rattle.roles.specs.declared.role.Role.{Role}
use Rattle.roles.specs.Roles.{Fit}

abbrev pub AllFit : TermTable → List Role → Type 0
AllFit t [] = Unit {0}
AllFit t (r ∷ rs) = Fit t r.party r.state × AllFit t rs

abbrev pub AllKeep : {A : Type 0} → TermTable → List Role → Result A LineFault → Type 0
AllKeep t rs (Ok x) = AllFit t rs
AllKeep t rs (Err f) = Unit {0}

-- the place of the first role of this name
abbrev pub place_of : ℕ → List Role → Option ℕ
place_of n rs =
    let k = position_or_len (λ (r : Role). r.name == n) rs in
    cond (nat_lt k (length rs)) (Some k) None

-- a role has its place among the roles, and none is lost
abbrev pub Placed : TermTable → List Role → List Role → Result ℕ LineFault → Type 0
Placed t rs rs' (Ok k) = AllFit t rs' × (k < length rs') × (length rs ≤ length rs')
Placed t rs rs' (Err f) = Unit {0}
