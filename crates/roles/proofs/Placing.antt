-- The place of a role among the roles, and a role that is new there.
use Rattle.std.proofs.Common.{◌≡◌, ℕ, zero, suc, ◌<◌, ◌≤◌, min, Bool, true, false, cond, eqb, leb, List, [], ◌∷◌, ◌++◌, map, length, Some, None, Ok, Err, Result, sym, refl, ap, ◌∙◌, arith}
use Rattle.std.proofs.lemmas.List.{length-map, map-append}
use Rattle.std.proofs.lemmas.List.Recursion.{is_position_or_len}
use Rattle.std.proofs.lemmas.Option.{cond_some, none-some}
use Rattle.std.specs.List.{position_or_len}
use Rattle.std.proofs.lemmas.Bool.{eq-eqb, ltb-true, ltb-false, lt-ltb, le-ltb, le-leb, lt-leb, cond-true, cond-false}
use Rattle.model.specs.Roles.{start}
use Rattle.syntax.specs.declared.spec.Name.{Name}
use Rattle.terms.specs.declared.limits.Limits.{Limits}
use Rattle.terms.specs.declared.table.TermTable.{TermTable}
use Rattle.terms.specs.Declaring.{bind}
use Rattle.terms.specs.Scope.{Scope}
use Rattle.terms.specs.Starting.{given_to}
use Rattle.roles.specs.declared.line_fault.LineFault.{LineFault}
use Rattle.roles.specs.declared.line_fault.LineFault.TheVariants.{Limit, Undeclared, WrongType, Repeated, Underivable, Exhausted}
use Rattle.roles.specs.declared.role.Role.{Role}
use Rattle.roles.specs.Players.{player_of}
use Rattle.roles.specs.Playing.{Player, over}
use Rattle.roles.specs.Starting.{party_in, started, StartsAs}
use Rattle.roles.specs.Stages.{Stage, place_among, with_role}
use Rattle.roles.specs.AllRoles.{place_of}
use Rattle.roles.specs.Staging.{Refused}

-- the name of a role that came out, or another
abbrev name_or : ℕ → Result Player LineFault → ℕ
name_or n (Ok p) = p.name
name_or n (Err f) = n

module _ (t : TermTable) (n : ℕ) where
  abbrev pub place : List Role → ℕ
  place rs = place_among n (map (player_of t) rs)

  -- the place, as the library counts it
  place_is : (rs : List Role) → place rs ≡ position_or_len (λ (r : Role). eqb r.name n) rs
  place_is = is_position_or_len place (λ (r : Role). eqb r.name n) refl (λ r rs. ap (λ k. cond (eqb r.name n) zero k) (omega arith))

  pub placed_here : (rs : List Role) (k : ℕ) → Some k ≡ place_of n rs → (k ≡ place rs) × (k < length rs)
  placed_here rs k e =
      let f = cond_some _ _ _ (sym e) in
      let l = ltb-true _ _ f.0 in
      let p = place_is rs in
      let q = f.1 in
      (omega arith, omega arith)

  pub placed_nowhere : (rs : List Role) → None ≡ place_of n rs → length rs ≤ place rs
  placed_nowhere rs e = let p = place_is rs in let l = ltb-false _ _ (none_cond _ _ e) in omega arith
    where
      none_cond : (b : Bool) (k : ℕ) → None ≡ cond b (Some k) None → b ≡ false
      none_cond true k h = absurd (none-some k h)
      none_cond false k h = refl

  -- a role of that name behind the others, of which none has it
  pub placed_last : (rs : List Role) (r : Role) → r.name ≡ n → length rs ≤ place rs → length rs ≡ place (rs ++ (r ∷ []))
  placed_last [] r e h = ap (λ b. cond b zero 1) (sym (eq-eqb _ _ e))
  placed_last (x ∷ rs) r e h = go (eqb x.name n) h (placed_last rs r e)
    where
      go : (b : Bool) → suc (length rs) ≤ cond b zero (suc (place rs)) → (length rs ≤ place rs → length rs ≡ place (rs ++ (r ∷ [])))
          → suc (length rs) ≡ cond b zero (suc (place (rs ++ (r ∷ []))))
      go true l f = absurd (omega arith)
      go false l f = ap suc (f (omega arith))

  module _ (limits : Limits) (text : List ℕ) (U : Scope) (x : Name) (rs : List Role) where
    named : (b : Bool) (p : Player) → name_or p.name (cond b (Err (Limit x.at)) (Ok p)) ≡ p.name
    named true p = refl
    named false p = refl

    pub begun_name : (r : Role) → StartsAs t (started limits U n x) (Ok r) → r.name ≡ n
    begun_name r q = sym (ap (name_or n) q) ∙ named (over limits (start (party_in U n) (given_to n U.starts))) _

    abbrev stage : Stage
    stage = record { scope = U; players = map (player_of t) rs }

    pub role_there : place rs < length rs → with_role limits text n x stage ≡ Ok stage
    role_there h = cond-true _ _ _ (lt-ltb (place rs) (length (map (player_of t) rs)) (let l = length-map rs (player_of t) in omega arith))

    module _ (h : length rs ≤ place rs) where
      abbrev begins : Result Stage LineFault
      begins = bind (started limits U n x) (λ p. Ok (record { scope = U; players = map (player_of t) rs ++ (p ∷ []) }))

      role_new : with_role limits text n x stage ≡ cond (leb (min limits.roles 8) (length (map (player_of t) rs))) (Err (Limit x.at)) begins
      role_new = cond-false _ _ _ (le-ltb (place rs) (length (map (player_of t) rs)) (let l = length-map rs (player_of t) in omega arith))

      pub no_room : min limits.roles 8 ≤ length rs → with_role limits text n x stage ≡ Err (Limit x.at)
      no_room f = role_new ∙ cond-true _ _ _ (le-leb (min limits.roles 8) (length (map (player_of t) rs)) (let l = length-map rs (player_of t) in omega arith))

      module _ (f : length rs < min limits.roles 8) where
        role_begins : with_role limits text n x stage ≡ begins
        role_begins = role_new ∙ cond-false _ _ _ (lt-leb (min limits.roles 8) (length (map (player_of t) rs)) (let l = length-map rs (player_of t) in omega arith))

        pub not_begun : (e : LineFault) → StartsAs t (started limits U n x) (Err e) → Refused (with_role limits text n x stage) e
        not_begun (Limit p) q = role_begins ∙ ap (λ o. bind o (λ y. Ok (record { scope = U; players = map (player_of t) rs ++ (y ∷ []) }))) q
        not_begun (Undeclared p) q = absurd q
        not_begun (WrongType p) q = absurd q
        not_begun (Repeated p) q = absurd q
        not_begun (Underivable p m k) q = role_begins ∙ ap (λ o. bind o (λ y. Ok (record { scope = U; players = map (player_of t) rs ++ (y ∷ []) }))) q
        not_begun (Exhausted w) q = tt

        pub one_more : (r : Role) → StartsAs t (started limits U n x) (Ok r) → with_role limits text n x stage ≡ Ok (record { scope = U; players = map (player_of t) (rs ++ (r ∷ [])) })
        one_more r q =
            role_begins ∙ ap (λ o. bind o (λ y. Ok (record { scope = U; players = map (player_of t) rs ++ (y ∷ []) }))) q
            ∙ ap (λ ps. Ok (record { scope = U; players = ps })) (sym (map-append (player_of t) rs (r ∷ [])))
