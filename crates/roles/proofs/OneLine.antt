-- A line, step by step: its two roles have their places, and the message goes from one to the other.
use Rattle.std.proofs.Common.{◌≡◌, ℕ, zero, suc, ◌<◌, Bool, true, false, cond, eqb, leb, List, [], ◌∷◌, ◌++◌, length, min, Ok, Err, Result, sym, refl, ap, ◌∙◌, arith}
use mathlib.Core.Path.{subst⁻¹}
use Rattle.std.proofs.lemmas.Bool.{ne_eqb, cond-false}
use Rattle.std.specs.Prelude.{nat_lt}
use Rattle.syntax.specs.declared.spec.Name.{Name}
use Rattle.syntax.specs.Specs.{Lined}
use Rattle.terms.specs.declared.fault.TermFault.{TermFault}
use Rattle.terms.specs.declared.limits.Limits.{Limits}
use Rattle.terms.specs.Declaring.{bind, principal}
use Rattle.roles.specs.declared.line_fault.LineFault.{LineFault}
use Rattle.roles.specs.declared.line_fault.LineFault.TheVariants.{Limit, Undeclared, WrongType, Repeated, Underivable, Exhausted}
use Rattle.roles.specs.declared.translation.Translation.{Translation}
use Rattle.roles.specs.Playing.{Player}
use Rattle.roles.specs.Refusals.{to_line}
use Rattle.roles.specs.Starting.{started}
use Rattle.roles.specs.Stages.{Stage, refused_by, place_among, with_role, message, line}
use Rattle.roles.specs.Staging.{Refused, Comes}
use Rattle.roles.proofs.Messaging.{refused_through, refused_path}

-- what is refused is refused so
pub refused_is : {A : Type 0} {q : Result A LineFault} (f : LineFault) → q ≡ Err f → Refused q f
refused_is (Limit p) e = e
refused_is (Undeclared p) e = e
refused_is (WrongType p) e = e
refused_is (Repeated p) e = e
refused_is (Underivable p n k) e = e
refused_is (Exhausted w) e = tt

-- a role that has its place keeps it when another comes
place_kept : (n : ℕ) (ps more : List Player) → place_among n ps < length ps → place_among n (ps ++ more) ≡ place_among n ps
place_kept n [] more h = absurd (omega arith)
place_kept n (p ∷ ps) more h = go (eqb p.name n) h (place_kept n ps more)
  where
    go : (b : Bool) → cond b zero (suc (place_among n ps)) < suc (length ps) → (place_among n ps < length ps → place_among n (ps ++ more) ≡ place_among n ps)
        → cond b zero (suc (place_among n (ps ++ more))) ≡ cond b zero (suc (place_among n ps))
    go true l f = refl
    go false l f = ap suc (f (omega arith))

module _ (limits : Limits) (text : List ℕ) where
  still_there : (n k : ℕ) (x : Name) (G H : Stage) → with_role limits text n x G ≡ Ok H → place_among k G.players < length G.players → place_among k H.players ≡ place_among k G.players
  still_there n k x G H e h = go (nat_lt (place_among n G.players) (length G.players)) (leb (min limits.roles 8) (length G.players)) (started limits G.scope n x) e
    where
      go : (b c : Bool) (o : Result Player LineFault)
          → cond b (Ok G) (cond c (Err (Limit x.at)) (bind o (λ p. Ok (record { scope = G.scope; players = G.players ++ (p ∷ []) })))) ≡ Ok H
          → place_among k H.players ≡ place_among k G.players
      go true c o e = let q : G ≡ H = cc in ap (λ (z : Stage). place_among k z.players) (sym q)
      go false true o e = absurd (cc)
      go false false (Err f) e = absurd (cc)
      go false false (Ok p) e =
          let q : record { scope = G.scope; players = G.players ++ (p ∷ []) } ≡ H = cc in
          ap (λ (z : Stage). place_among k z.players) (sym q) ∙ place_kept k G.players (p ∷ []) h

  module _ (number : ℕ) (l : Lined) where
    -- the message, when both have their places
    abbrev sent : ℕ → ℕ → Stage → Result Stage LineFault
    sent a b K = message limits text number l.message (place_among a K.players) (place_among b K.players) K

    -- what follows the sender
    abbrev received : ℕ → Stage → Result Stage LineFault
    received a H =
        bind (refused_by to_line (principal text H.scope l.receiver)) (λ b.
        cond (eqb b a) (Err (Repeated l.receiver.at)) (bind (with_role limits text b l.receiver H) (sent a b)))

    module _ (G : Stage) (a : ℕ) (ea : principal text G.scope l.sender ≡ Ok a) where
      sender_known : line limits text number l G ≡ bind (with_role limits text a l.sender G) (received a)
      sender_known = rw ea refl

      pub no_sender_place : (f : LineFault) → Refused (with_role limits text a l.sender G) f → Refused (line limits text number l G) f
      no_sender_place f q = refused_path f sender_known (refused_through (with_role limits text a l.sender G) (received a) f q)

      module _ (H : Stage) (eH : with_role limits text a l.sender G ≡ Ok H) where
        sender_placed : line limits text number l G ≡ received a H
        sender_placed = sender_known ∙ ap (λ o. bind o (received a)) eH

        pub no_receiver : (f : TermFault) → principal text H.scope l.receiver ≡ Err f → line limits text number l G ≡ Err (to_line f)
        no_receiver f e = sender_placed ∙ rw e refl

        module _ (b : ℕ) (eb : principal text H.scope l.receiver ≡ Ok b) where
          receiver_known : line limits text number l G ≡ cond (eqb b a) (Err (Repeated l.receiver.at)) (bind (with_role limits text b l.receiver H) (sent a b))
          receiver_known = sender_placed ∙ rw eb refl

          module _ (ne : b ≡ a → ⊥) where
            to_other : line limits text number l G ≡ bind (with_role limits text b l.receiver H) (sent a b)
            to_other = receiver_known ∙ cond-false _ _ _ (ne_eqb b a ne)

            pub no_receiver_place : (f : LineFault) → Refused (with_role limits text b l.receiver H) f → Refused (line limits text number l G) f
            no_receiver_place f q = refused_path f to_other (refused_through (with_role limits text b l.receiver H) (sent a b) f q)

            module _ (K : Stage) (eK : with_role limits text b l.receiver H ≡ Ok K) (i j : ℕ) (ei : i ≡ place_among a H.players) (si : i < length H.players) (ej : j ≡ place_among b K.players) where
              both_placed : line limits text number l G ≡ message limits text number l.message i j K
              both_placed =
                  to_other ∙ ap (λ o. bind o (sent a b)) eK
                  ∙ ap (λ x. message limits text number l.message x (place_among b K.players) K) (still_there b a l.receiver H K eK (omega arith) ∙ sym ei)
                  ∙ ap (λ y. message limits text number l.message i y K) (sym ej)

              pub message_comes : (T : Translation) (r : Result (Unit {0}) LineFault) → Comes (message limits text number l.message i j K) T r → Comes (line limits text number l G) T r
              message_comes T r q = subst⁻¹ (λ o. Comes o T r) both_placed q
