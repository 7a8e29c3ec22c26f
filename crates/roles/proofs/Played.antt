-- What a role does in a line is what the definition says.
use Rattle.std.proofs.Common.{◌≡◌, ℕ, zero, suc, ◌<◌, min, Bool, true, false, cond, ◌||◌, T, ltb, List, [], ◌∷◌, ◌++◌, map, length, get_or, drop, Ok, Err, vec_items, Result, sym, refl, ap, ◌∙◌, arith}
use mathlib.Core.Path.{subst⁻¹}
use Rattle.std.proofs.lemmas.List.{length-map, map-append, drop-map}
use Rattle.model.specs.Trees.{Tree, leaf, eq_tree}
use Rattle.model.proofs.Trees.{eq_tree_is, is_eq_tree}
use Rattle.model.specs.Roles as model
use Rattle.model.specs.Roles.{Act, spoke, failed, said, heard}
use Rattle.program.specs.declared.action.Action.{Action}
use Rattle.program.specs.Actions.{act_of}
use Rattle.terms.specs.declared.table.TermTable.{TermTable}
use Rattle.terms.specs.Terms.{tree_in, size}
use Rattle.terms.specs.Meanings.{Lists}
use Rattle.terms.proofs.Tables.{one_term}
use Rattle.roles.specs.declared.fault.Fault.{Fault}
use Rattle.roles.specs.declared.fault.Fault.TheVariants as lacking
use Rattle.roles.specs.declared.line_fault.LineFault.{LineFault}
use Rattle.roles.specs.declared.line_fault.LineFault.TheVariants.{Limit, Undeclared, WrongType, Repeated, Underivable, Exhausted}
use Rattle.roles.specs.declared.role.Role.{Role}
use Rattle.roles.specs.declared.role.Turn.{Turn}
use Rattle.roles.specs.declared.state.RoleState.{RoleState}
use Rattle.roles.specs.Parties.{party_of, makes_of}
use Rattle.roles.specs.States.{role_of}
use Rattle.roles.specs.Lines.{Says}
use Rattle.roles.specs.Roles.{Fit, Keeps}
use Rattle.roles.specs.Playing.{over, ended, says, said_so, term_number}
use Rattle.roles.specs.Ended.{row, too_much, refused_as, KeepsRest, Ends}
use Rattle.roles.specs.Players.{lined, player_of, Plays}

abbrev pub with_state : Role → RoleState → Role
with_state r s = record { name = r.name; part = r.part; rows = r.rows; party = r.party; state = s }

labels : (line : ℕ) (xs : List Action) → map (λ a. (line, a)) (map act_of xs) ≡ map lined (map (row line) xs)
labels line [] = refl
labels line (x ∷ xs) = ap (λ (ys : List (ℕ × Act)). (line, act_of x) ∷ ys) (labels line xs)

module _ (t : TermTable) (turn : Turn) (r : Role) (s : RoleState) (S : model.Role) (e : role_of (tree_in t) s ≡ S) where
  -- the limits see the same numbers
  over_same : too_much turn.limits (with_state r s) ≡ over turn.limits S
  over_same =
      ap (λ n. ltb (min turn.limits.registers 512) s.next || ltb (min turn.limits.actions 4096) n) (sym (length-map (vec_items s.actions) act_of))
      ∙ ap (over turn.limits) e

  abbrev new_rows : List (ℕ × Act)
  new_rows = map lined (vec_items r.rows) ++ map (λ a. (turn.line, a)) (drop (length (map lined (vec_items r.rows))) S.acts)

  rows_same : (r' : Role) → vec_items r'.rows ≡ vec_items r.rows ++ map (row turn.line) (drop (length (vec_items r.rows)) (vec_items s.actions)) → map lined (vec_items r'.rows) ≡ new_rows
  rows_same r' q =
      ap (map lined) q
      ∙ map-append lined (vec_items r.rows) (map (row turn.line) (drop (length (vec_items r.rows)) (vec_items s.actions)))
      ∙ ap (λ ys. map lined (vec_items r.rows) ++ ys)
      (sym (labels turn.line (drop (length (vec_items r.rows)) (vec_items s.actions)))
      ∙ ap (map (λ a. (turn.line, a))) (sym (drop-map act_of (length (vec_items r.rows)) (vec_items s.actions))
      ∙ ap (λ n. drop n (map act_of (vec_items s.actions))) (sym (length-map (vec_items r.rows) lined))
      ∙ ap (λ (x : model.Role). drop (length (map lined (vec_items r.rows))) x.acts) e))

  played : Fit t r.party s → (r' : Role) (x : Result (Unit {0}) LineFault) → KeepsRest (with_state r s) r' → Ends turn.limits turn.line turn.at (with_state r s) r' x
      → Plays t (ended turn.limits turn.line turn.at (player_of t r) S) r' x
  played f r' (Ok x) k d = (
    ap (λ b. cond b (Err (Limit turn.at)) (Ok (record { name = r.name; part = r.part; party = party_of (vec_items r.party.functions); role = S; rows = new_rows }))) (sym over_same ∙ d.0)
        ∙ rw (k.name, k.part, k.party, k.state, rows_same r' d.1, e),
    subst⁻¹ (λ (p : RoleState). Fit t r'.party p) k.state (rw k.party f),
  )
  played f r' (Err (Limit p)) k d =
      ap (λ b. cond b (Err (Limit turn.at)) (Ok (record { name = r.name; part = r.part; party = party_of (vec_items r.party.functions); role = S; rows = new_rows }))) (sym over_same ∙ d.0)
      ∙ rw d.1
  played f r' (Err (Undeclared p)) k d = d
  played f r' (Err (WrongType p)) k d = d
  played f r' (Err (Repeated p)) k d = d
  played f r' (Err (Underivable p n u)) k d = elim d [ ]
  played f r' (Err (Exhausted w)) k d = tt

  -- a role that is refused keeps nothing to speak of
  kept : Fit t r.party s → (r' : Role) (x : Result (Unit {0}) LineFault) → KeepsRest (with_state r s) r' → Keeps t r'.party r'.state x
  kept f r' (Ok x) k = subst⁻¹ (λ (p : RoleState). Fit t r'.party p) k.state (rw k.party f)
  kept f r' (Err y) k = tt

  pub line_ended : Fit t r.party s → (r' : Role) (x : Result (Unit {0}) LineFault) → KeepsRest (with_state r s) r' → Ends turn.limits turn.line turn.at (with_state r s) r' x
      → Keeps t r'.party r'.state x × Plays t (ended turn.limits turn.line turn.at (player_of t r) S) r' x
  line_ended f r' x k d = (kept f r' x k, played f r' x k d)

-- the place of the first of its kind
place_of : (us : List Tree) (k : ℕ) (x : Tree) → k < length us → ((j : ℕ) → j < k → ¬ (x ≡ get_or us j (leaf 0))) → x ≡ get_or us k (leaf 0) → term_number x us ≡ k
place_of [] k x h f e = absurd (omega arith)
place_of (u ∷ us) zero x h f e = go (eq_tree x u) (is_eq_tree x u e)
  where
    go : (b : Bool) → T b → cond b zero (suc (term_number x us)) ≡ zero
    go true q = refl
    go false q = elim q [ ]
place_of (u ∷ us) (suc k) x h f e = go (eq_tree x u) (λ q. f 0 (omega arith) (eq_tree_is x u q)) (place_of us k x (omega arith) (λ j l. f (suc j) (omega arith)) e)
  where
    go : (b : Bool) → ¬ T b → term_number x us ≡ k → cond b zero (suc (term_number x us)) ≡ suc k
    go true q i = absurd (q tt)
    go false q i = ap suc i

pub numbered : (t : TermTable) (us : List Tree) → Lists t us → (u : ℕ) → u < size t → term_number (tree_in t u) us ≡ u
numbered t us l u h =
    let n = l.long in
    place_of us u (tree_in t u) (omega arith)
    (λ j i q.
    let m = t.rows.ok.0 in
    let z = one_term (vec_items t.rows) t.ordered t.distinct u j (omega arith) (omega arith) (q ∙ l.each j (omega arith)) in
    omega arith) (sym (l.each u h))

module _ (t : TermTable) (turn : Turn) (r : Role) (term : ℕ) where
  -- what cannot be said
  pub not_said : (made : List ℕ) (us : List Tree) → Lists t us → (s : RoleState) (f : Fault) → Says t r.party made term r.state s (Err f)
      → (x : LineFault) → x ≡ refused_as turn.role turn.at f → (r' : Role) → Plays t (says turn.limits turn.line turn.at turn.role us (makes_of made) (tree_in t term) (player_of t r)) r' (Err x)
  not_said made us l s (lacking.Lacks u) d x e r' =
      rw e (ap (said_so turn.limits turn.line turn.at turn.role us (player_of t r)) d.0 ∙ ap (λ k. Err (Underivable turn.at turn.role k)) (numbered t us l u d.1))
  not_said made us l s (lacking.Exhausted w) d x e r' = rw e tt

  pub said_well : (made : List ℕ) (us : List Tree) (s : RoleState)
      → said (party_of (vec_items r.party.functions)) (makes_of made) (tree_in t term) (role_of (tree_in t) r.state) ≡ spoke (role_of (tree_in t) s)
      → (r' : Role) (x : Result (Unit {0}) LineFault) → Plays t (ended turn.limits turn.line turn.at (player_of t r) (role_of (tree_in t) s)) r' x
      → Plays t (says turn.limits turn.line turn.at turn.role us (makes_of made) (tree_in t term) (player_of t r)) r' x
  said_well made us s q r' x p = subst⁻¹ (λ o. Plays t (said_so turn.limits turn.line turn.at turn.role us (player_of t r) o) r' x) q p
