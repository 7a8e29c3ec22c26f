-- When a message is refused as underivable: exactly if its sender cannot say it.
use Rattle.std.proofs.Common.{◌≡◌, ℕ, ◌<◌, Bool, true, false, cond, min, List, length, drop, get_or, Ok, Err, Result, sym, refl, ap, ◌∙◌}
use Rattle.model.specs.Trees.{Tree}
use Rattle.model.specs.Roles.{Role, Said, spoke, failed, said, heard}
use Rattle.syntax.specs.Places.{term_place}
use Rattle.syntax.specs.Specs.{Term}
use Rattle.terms.specs.Declaring.{bind, with_term}
use Rattle.terms.specs.Numbering.{tree}
use Rattle.terms.specs.Scope.{Scope}
use Rattle.terms.specs.Starting.{made_among}
use Rattle.terms.specs.declared.limits.Limits.{Limits}
use Rattle.roles.specs.declared.line_fault.LineFault.{LineFault}
use Rattle.roles.specs.declared.line_fault.LineFault.TheVariants.{Limit, Underivable}
use Rattle.roles.specs.Parties.{makes_of}
use Rattle.roles.specs.Playing.{Player, term_number, over, ended, said_so, says, hears}
use Rattle.roles.specs.Refusals.{to_line}
use Rattle.roles.specs.Stages.{Stage, refused_by, change, message}
use Rattle.roles.proofs.Changing.{fault_at, fault_through}
use Rattle.roles.proofs.Doing.{after}

module _ (limits : Limits) (k at : ℕ) where
  pub ended_never : (p : Player) (s : Role) (a n t : ℕ) → ended limits k at p s ≡ Err (Underivable a n t) → ⊥
  ended_never p s a n t = go (over limits s)
    where
      go : (b : Bool) → cond b (Err (Limit at)) (Ok (after k p s)) ≡ Err (Underivable a n t) → ⊥
      go true e = absurd (cc)
      go false e = absurd (cc)

  -- what a role cannot say
  pub record Unsaid (sender : ℕ) (terms : List Tree) (o : Said) (a n t : ℕ) : Type 0 where
    pub lacked : Tree
    pub is : o ≡ failed lacked
    pub place : a ≡ at
    pub role : n ≡ sender
    pub term : t ≡ term_number lacked terms

  unsaid : (role : ℕ) (terms : List Tree) (p : Player) (o : Said) (a n t : ℕ) → said_so limits k at role terms p o ≡ Err (Underivable a n t) → Unsaid role terms o a n t
  unsaid role terms p (spoke s) a n t e = absurd (ended_never p s a n t e)
  unsaid role terms p (failed u) a n t e = record { lacked = u; is = refl; place = cc; role = cc; term = cc }

module _ (limits : Limits) (text : List ℕ) (k from to : ℕ) (t : Term) (G : Stage) (V : Scope) (v : with_term text (min limits.terms 512) t G.scope ≡ Ok V) (none : Player) where
  abbrev mk : ℕ → Bool
  mk = makes_of (made_among V.names (drop (length G.scope.terms) V.terms))

  abbrev u : Tree
  u = tree text G.scope.names t

  abbrev p : Player
  p = get_or G.players from none

  abbrev saying : Player → Result Player LineFault
  saying = says limits k (term_place t) from V.terms mk u

  abbrev hearing : Player → Result Player LineFault
  hearing = hears limits k (term_place t) u

  abbrev heard_then : List Player → Result Stage LineFault
  heard_then ps = bind (change to hearing ps) (λ qs. Ok (record { scope = V; players = qs }))

  opened : message limits text k t from to G ≡ bind (change from saying G.players) heard_then
  opened =
      ap (λ o. bind (refused_by to_line o) (λ (S : Scope).
      bind (change from (says limits k (term_place t) from S.terms (makes_of (made_among S.names (drop (length G.scope.terms) S.terms))) u) G.players) (λ ps.
      bind (change to hearing ps) (λ qs. Ok (record { scope = S; players = qs }))))) v

  pub not_said : (w : Tree) → from < length G.players → said p.party mk u p.role ≡ failed w → message limits text k t from to G ≡ Err (Underivable (term_place t) from (term_number w V.terms))
  not_said w h e =
      opened ∙ ap (λ o. bind o heard_then)
      (fault_through saying from G.players (Underivable (term_place t) from (term_number w V.terms)) none h (ap (said_so limits k (term_place t) from V.terms p) e))

  pub was_not_said : (a n m : ℕ) → message limits text k t from to G ≡ Err (Underivable a n m) → Unsaid limits k (term_place t) from V.terms (said p.party mk u p.role) a n m
  was_not_said a n m e = go (change from saying G.players) refl (sym opened ∙ e)
    where
      later : (ps : List Player) (o : Result (List Player) LineFault) → change to hearing ps ≡ o → bind {B = Stage} o (λ qs. Ok (record { scope = V; players = qs })) ≡ Err (Underivable a n m) → ⊥
      later ps (Ok qs) q f = absurd (cc)
      later ps (Err x) q f =
          let y : x ≡ Underivable a n m = cc in
          ended_never limits k (term_place t) (get_or ps to none) (heard (get_or ps to none).party u (get_or ps to none).role) a n m (fault_at hearing to ps x q none ∙ ap Err y)

      go : (o : Result (List Player) LineFault) → change from saying G.players ≡ o → bind o heard_then ≡ Err (Underivable a n m) → Unsaid limits k (term_place t) from V.terms (said p.party mk u p.role) a n m
      go (Ok ps) q f = absurd (later ps (change to hearing ps) refl f)
      go (Err x) q f =
          let y : x ≡ Underivable a n m = cc in
          unsaid limits k (term_place t) from V.terms p (said p.party mk u p.role) a n m (fault_at saying from G.players x q none ∙ ap Err y)
