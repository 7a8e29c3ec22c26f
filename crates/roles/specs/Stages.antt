-- The lines of a specification, one after the other: label, roles with their starts, types and terms of the message, sender, receiver.
use Rattle.std.specs.Prelude.{ℕ, zero, suc, min, cond, List, [], ◌∷◌, ◌++◌, length, drop, Ok, Err, Result, ◌==◌, nat_le, nat_lt}
use Rattle.syntax.specs.declared.spec.Label.{Label}
use Rattle.syntax.specs.declared.spec.Name.{Name}
use Rattle.syntax.specs.Places.{term_place}
use Rattle.syntax.specs.Specs.{Term, Lined}
use Rattle.terms.specs.declared.limits.Limits.{Limits}
use Rattle.terms.specs.Declaring.{bind, principal, with_term}
use Rattle.terms.specs.Numbering.{tree}
use Rattle.terms.specs.Scope.{Scope}
use Rattle.terms.specs.Starting.{made_among}
use Rattle.roles.specs.declared.line_fault.LineFault.{LineFault}
use Rattle.roles.specs.declared.line_fault.LineFault.TheVariants.{Limit, Repeated}
use Rattle.roles.specs.Labels.{unused}
use Rattle.roles.specs.Parties.{makes_of}
use Rattle.roles.specs.Playing.{Player, says, hears}
use Rattle.roles.specs.Refusals.{to_line}
use Rattle.roles.specs.Starting.{started}

-- what is declared, with all terms so far, and the roles in the order of first standing in a line
pub record Stage : Type 0 where
  pub scope : Scope
  pub players : List Player

-- a fault, in other words
abbrev pub refused_by : {A E F : Type 0} → (E → F) → Result A E → Result A F
refused_by f (Ok x) = Ok x
refused_by f (Err e) = Err (f e)

-- the place of the role of this name: behind all roles if there is none
abbrev pub place_among : ℕ → List Player → ℕ
place_among n [] = zero
place_among n (p ∷ ps) = cond (p.name == n) zero (suc (place_among n ps))

-- the role at this place does something
abbrev pub change : ℕ → (Player → Result Player LineFault) → List Player → Result (List Player) LineFault
change k f [] = Ok []
change zero f (p ∷ ps) = bind (f p) (λ q. Ok (q ∷ ps))
change (suc k) f (p ∷ ps) = bind (change k f ps) (λ qs. Ok (p ∷ qs))

module _ (limits : Limits) (text : List ℕ) where
  -- a role starts where it stands first
  abbrev pub with_role : ℕ → Name → Stage → Result Stage LineFault
  with_role n x G =
      cond (nat_lt (place_among n G.players) (length G.players)) (Ok G)
      (cond (nat_le (min limits.roles 8) (length G.players)) (Err (Limit x.at))
      (bind (started limits G.scope n x) (λ p. Ok (record { scope = G.scope; players = G.players ++ (p ∷ []) }))))

  -- a message goes from one role to another: its types and terms, then its sender, which may make the names that are new with it, then its receiver
  abbrev pub message : ℕ → Term → ℕ → ℕ → Stage → Result Stage LineFault
  message number t from to G =
      bind (refused_by to_line (with_term text (min limits.terms 512) t G.scope)) (λ S.
      bind (change from (says limits number (term_place t) from S.terms (makes_of (made_among S.names (drop (length G.scope.terms) S.terms))) (tree text G.scope.names t)) G.players) (λ ps.
      bind (change to (hears limits number (term_place t) (tree text G.scope.names t)) ps) (λ qs.
      Ok (record { scope = S; players = qs }))))

  -- a line, by its number: its sender and its receiver are two parties
  abbrev pub line : ℕ → Lined → Stage → Result Stage LineFault
  line number l G =
      bind (refused_by to_line (principal text G.scope l.sender)) (λ a.
      bind (with_role a l.sender G) (λ H.
      bind (refused_by to_line (principal text H.scope l.receiver)) (λ b.
      cond (b == a) (Err (Repeated l.receiver.at))
      (bind (with_role b l.receiver H) (λ K. message number l.message (place_among a K.players) (place_among b K.players) K)))))

  -- lines behind those that have these labels; they are numbered from 1
  abbrev pub lines : List Label → List Lined → Stage → Result Stage LineFault
  lines earlier [] G = Ok G
  lines earlier (l ∷ ls) G =
      bind (unused text earlier l.label) (λ _. bind (line (suc (length earlier)) l G) (lines (earlier ++ (l.label ∷ [])) ls))
