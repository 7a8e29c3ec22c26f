-- A message with its terms: what is left to do of it, and what its sender and its receiver do.
use Rattle.std.proofs.Common.{◌≡◌, ℕ, ◌<◌, min, List, map, length, get_or, drop, set, Ok, Err, vec_items, Result, sym, ap, ◌∙◌}
use Rattle.model.specs.Trees.{Tree}
use Rattle.syntax.specs.Places.{term_place}
use Rattle.syntax.specs.Specs.{Term}
use Rattle.terms.specs.declared.limits.Limits.{Limits}
use Rattle.terms.specs.declared.table.TermTable.{TermTable}
use Rattle.terms.specs.Declaring.{bind, with_term}
use Rattle.terms.specs.Meanings.{scope_of}
use Rattle.terms.specs.Numbering.{tree}
use Rattle.terms.specs.Scope.{Scope}
use Rattle.terms.specs.Starting.{made_among}
use Rattle.terms.specs.Terms.{tree_in, Grows}
use Rattle.roles.specs.declared.line_fault.LineFault.{LineFault}
use Rattle.roles.specs.declared.role.Role.{Role}
use Rattle.roles.specs.declared.translation.Translation.{Translation}
use Rattle.roles.specs.AllRoles.{AllFit}
use Rattle.roles.specs.Parties.{makes_of}
use Rattle.roles.specs.Players.{player_of, Plays}
use Rattle.roles.specs.Playing.{Player, says, hears}
use Rattle.roles.specs.Stages.{Stage, change, message}
use Rattle.roles.specs.Staging.{Refused, Comes}
use Rattle.roles.proofs.Messaging.{refused_through, refused_path, refused_play, changed, not_changed, same_players}

-- the names that are new with the terms
pub made_there : (U V : Scope) {xs ys : List ℕ} {n m : ℕ} → xs ≡ ys → ys ≡ made_among V.names (drop n V.terms) → n ≡ m → length U.terms ≡ m
    → xs ≡ made_among V.names (drop (length U.terms) V.terms)
made_there U V e f a b = e ∙ f ∙ ap (λ k. made_among V.names (drop k V.terms)) (a ∙ sym b)

module _ (limits : Limits) (text : List ℕ) (number : ℕ) (t : Term) (i j : ℕ) (U : Scope) (before : TermTable) (rs : List Role) where
  abbrev stage : Stage
  stage = record { scope = U; players = map (player_of before) rs }

  module _ (fits : AllFit before rs) (after : TermTable) (grows : Grows before after) (V : Scope) (w : with_term text (min limits.terms 512) t U ≡ Ok V)
      (at : ℕ) (here : at ≡ term_place t) (made : List ℕ) (those : made ≡ made_among V.names (drop (length U.terms) V.terms)) (k : ℕ) (that : tree_in after k ≡ tree text U.names t) where
    abbrev sending : Player → Result Player LineFault
    sending = says limits number at i V.terms (makes_of made) (tree_in after k)

    abbrev receiving : Player → Result Player LineFault
    receiving = hears limits number at (tree_in after k)

    abbrev received : List Player → Result Stage LineFault
    received ps = bind (change j receiving ps) (λ qs. Ok (record { scope = V; players = qs }))

    with_terms : message limits text number t i j stage ≡ bind (change i sending (map (player_of after) rs)) received
    with_terms = rw w (sym (ap (λ a. both a made (tree_in after k) (map (player_of after) rs)) here
        ∙ ap (λ m. both (term_place t) m (tree_in after k) (map (player_of after) rs)) those
        ∙ ap (λ x. both (term_place t) (made_among V.names (drop (length U.terms) V.terms)) x (map (player_of after) rs)) that
        ∙ ap (both (term_place t) (made_among V.names (drop (length U.terms) V.terms)) (tree text U.names t)) (same_players before after grows rs fits)))
      where
        both : ℕ → List ℕ → Tree → List Player → Result Stage LineFault
        both a m x ps =
            bind (change i (says limits number a i V.terms (makes_of m) x) ps) (λ qs. bind (change j (hears limits number a x) qs) (λ us. Ok (record { scope = V; players = us })))

    module _ (si : i < length rs) (r r' : Role) (ri : r ≡ get_or rs i r) where
      pub say_refused : (e : LineFault) → Plays after (sending (player_of after r)) r' (Err e) → Refused (message limits text number t i j stage) e
      say_refused e q =
          refused_path e with_terms
          (refused_through (change i sending (map (player_of after) rs)) received e
          (not_changed (player_of after) sending rs i r e si ri (refused_play after (sending (player_of after r)) r' e q)))

      module _ (x : Unit {0}) (said : Plays after (sending (player_of after r)) r' (Ok x)) (sj : j < length (set rs i r')) (h h' : Role) (hj : h ≡ get_or (set rs i r') j h) where
        after_say : message limits text number t i j stage ≡ received (map (player_of after) (set rs i r'))
        after_say = with_terms ∙ ap (λ o. bind o received) (changed (player_of after) sending rs i r r' si ri said.0)

        pub heard_so : (T : Translation) → T.declarations.terms ≡ after → vec_items T.roles ≡ set (set rs i r') j h' → scope_of T.declarations ≡ V → (y : Result (Unit {0}) LineFault)
            → Plays after (receiving (player_of after h)) h' y → Comes (message limits text number t i j stage) T y
        heard_so T et er m (Ok y) q =
            after_say ∙ ap (λ o. bind o (λ qs. Ok (record { scope = V; players = qs }))) (changed (player_of after) receiving (set rs i r') j h h' sj hj q.0)
            ∙ ap (λ ps. Ok (record { scope = V; players = ps })) (rw (et, er)) ∙ ap (λ U. Ok (record { scope = U; players = map (player_of T.declarations.terms) (vec_items T.roles) })) (sym m)
        heard_so T et er m (Err e) q =
            refused_path e after_say
            (refused_through (change j receiving (map (player_of after) (set rs i r'))) (λ qs. Ok (record { scope = V; players = qs })) e
            (not_changed (player_of after) receiving (set rs i r') j h e sj hj (refused_play after (receiving (player_of after h)) h' e q)))
