-- Which terms can be composed: the model's steps as equations, and the marks that the code keeps.
use Rattle.std.specs.Prelude.{option_map}
use Rattle.std.specs.List.{find}
use Rattle.std.proofs.Common.{◌≡◌, ℕ, ◌+◌, ◌<◌, ◌≤◌, Bool, true, false, cond, ◌&&◌, ◌||◌, eqb, List, [], ◌∷◌, ◌++◌, length, get_or, take, set, is_some, Some, None, vec_items, Option, sym, refl, ap, ◌∙◌, ap₂, arith, below_more, eq-eqb, ne_eqb}
use native.Mathlib.Decide.{ℕ_discrete}
use Rattle.std.proofs.lemmas.List.{get_or-set_same, get_or-set_other, length-set, take_more}
use mathlib.Core.Path.{subst⁻¹}
use mathlib.Core.Option.{none as nothing, some}
use Rattle.model.specs.Trees.{Head, Tree, Trees, leaf, node}
use Rattle.model.specs.Deduction.{may}
use Rattle.model.specs.Deduction as model
use Rattle.model.specs.Roles as model_roles
use Rattle.model.specs.Roles.{knows, can, can_all}
use Rattle.roles.specs.declared.party.Party.{Party}
use Rattle.roles.specs.declared.state.RoleState.{RoleState}
use Rattle.terms.specs.declared.table.TermTable.{TermTable}
use Rattle.program.specs.declared.kind.Kind.{Kind}
use Rattle.program.specs.declared.parts.Parts.{Parts}
use Rattle.terms.specs.declared.term.TermRow.{TermRow}
use Rattle.terms.specs.declared.term.TermRow.TheVariants.{Name, Compound}
use Rattle.roles.specs.declared.state.Entry.{Entry}
use Rattle.terms.specs.Shapes.{trees, AllBelow}
use Rattle.program.specs.Actions.{head_of}
use Rattle.program.specs.Marked.{marked_all}
use Rattle.program.specs.Parts.{parts_of}
use Rattle.terms.specs.Rows.{Stands}
use Rattle.roles.specs.Parties.{party_of}
use Rattle.roles.specs.Filled.{find_entry}
use Rattle.roles.specs.States.{known_of, as_model}
use Rattle.terms.specs.Terms.{tree_in, size}
use Rattle.roles.specs.Composed.{Knows, row_composable, can_be, can_all_be}
use Rattle.roles.proofs.Composing.{model_finds}

module _ (P : model.Party) (es : List model_roles.Entry) where
  can_known : (t : Tree) → knows es t ≡ true → can P t es ≡ true
  unfolding can
  can_known (leaf n) e = e
  can_known (node h ts) e = ap (λ b. b || (may P h && can_all P ts es)) e

  can_name : (t : Tree) (n : ℕ) → t ≡ leaf n → knows es t ≡ false → can P t es ≡ false
  unfolding can
  can_name t n p = subst⁻¹ (λ u. knows es u ≡ false → can P u es ≡ false) p at_leaf
    where
      at_leaf : knows es (leaf n) ≡ false → can P (leaf n) es ≡ false
      at_leaf e = e

  can_node : (t : Tree) (h : Head) (ts : Trees) → t ≡ node h ts → knows es t ≡ false → can P t es ≡ (may P h && can_all P ts es)
  unfolding can
  can_node t h ts p = subst⁻¹ (λ u. knows es u ≡ false → can P u es ≡ (may P h && can_all P ts es)) p at_node
    where
      at_node : knows es (node h ts) ≡ false → can P (node h ts) es ≡ (may P h && can_all P ts es)
      at_node e = ap (λ b. b || (may P h && can_all P ts es)) e

known_test : (o : Option ℕ) → is_some o ≡ elim (as_model o) [ some r ↦ true | nothing ↦ false ]
known_test None = refl
known_test (Some r) = refl

module _ (t : TermTable) (s : RoleState) (p : Party) where
  -- marks that are right below a number give whether parts below it can be composed
  pub marked_can : (n : ℕ) (bs : List Bool) → ((k : ℕ) → k < n → get_or bs k false ≡ can_be t p s k) → (ks : List ℕ) → AllBelow n ks → marked_all bs ks ≡ can_all_be t p s ks
  unfolding can
  marked_can n bs f [] b = refl
  marked_can n bs f (k ∷ ks) b = ap₂ (λ (x y : Bool). x && y) (f k b.0) (marked_can n bs f ks b.1)

  module _ (k : ℕ) (h : k < size t) (w : Knows t s) where
    pub knows_same : is_some (find_entry k (vec_items s.known)) ≡ knows (known_of (tree_in t) (vec_items s.known)) (tree_in t k)
    knows_same = known_test (find_entry k (vec_items s.known)) ∙ ap (λ o. elim o [ some r ↦ true | nothing ↦ false ]) (model_finds t s k h w)

    pub can_when_known : true ≡ is_some (find_entry k (vec_items s.known)) → true ≡ can_be t p s k
    can_when_known e = sym (can_known _ _ (tree_in t k) (sym knows_same ∙ sym e))

    module _ (e : false ≡ is_some (find_entry k (vec_items s.known))) where
      pub cannot_name : (n : ℕ) → Stands (vec_items t.rows) k (Name n) → false ≡ can_be t p s k
      cannot_name n d = sym (can_name _ _ (tree_in t k) n d.tree (sym knows_same ∙ sym e))

      module _ (kind : Kind) (parts : Parts) (d : Stands (vec_items t.rows) k (Compound kind parts)) where
        compound : can_be t p s k ≡ (may (party_of (vec_items p.functions)) (head_of kind) && can_all_be t p s (parts_of parts))
        compound = can_node _ _ (tree_in t k) (head_of kind) (trees (tree_in t) (parts_of parts)) d.tree (sym knows_same ∙ sym e)

        pub by_parts : (bs : List Bool) → ((j : ℕ) → j < k → get_or bs j false ≡ can_be t p s j)
            → (may (party_of (vec_items p.functions)) (head_of kind) && marked_all bs (parts_of parts)) ≡ can_be t p s k
        by_parts bs f = ap (λ b. may (party_of (vec_items p.functions)) (head_of kind) && b) (marked_can k bs f (parts_of parts) d.below) ∙ sym compound

    -- a row over marks that are right below it
    pub row_can : (row : TermRow) → Stands (vec_items t.rows) k row → (bs : List Bool) → ((j : ℕ) → j < k → get_or bs j false ≡ can_be t p s j)
        → false ≡ is_some (find_entry k (vec_items s.known)) → row_composable p row bs ≡ can_be t p s k
    row_can (Name n) d bs f e = cannot_name e n d
    row_can (Compound kind parts) d bs f e = by_parts e kind parts d bs f

-- one more entry is looked at
pub found_more : (k : ℕ) (es : List Entry) (e : Entry) → is_some (find_entry k (es ++ e ∷ [])) ≡ cond (eqb e.term k) true (is_some (find_entry k es))
found_more k [] e = go (eqb e.term k)
  where
    go : (b : Bool) → is_some (option_map (λ (y : Entry). y.register) (cond b (Some e) None)) ≡ cond b true false
    go true = refl
    go false = refl
found_more k (x ∷ es) e = go (eqb x.term k) (eqb e.term k) (found_more k es e)
  where
    go : (a b : Bool) → is_some (find_entry k (es ++ e ∷ [])) ≡ cond b true (is_some (find_entry k es))
        → is_some (option_map (λ (y : Entry). y.register) (cond a (Some x) (find (λ (y : Entry). eqb y.term k) (es ++ e ∷ []))))
        ≡ cond b true (is_some (option_map (λ (y : Entry). y.register) (cond a (Some x) (find (λ (y : Entry). eqb y.term k) es))))
    go true true h = refl
    go true false h = refl
    go false b h = h

-- the marks of the terms of the first i entries
module _ (n : ℕ) (es : List Entry) where
  abbrev pub MarkedUpto : ℕ → List Bool → Type 0
  MarkedUpto i bs = (length bs ≡ n) × ((k : ℕ) → k < n → get_or bs k false ≡ is_some (find_entry k (take i es)))

  module _ (i : ℕ) (d : Entry) (bs : List Bool) (h : i < length es) (m : MarkedUpto i bs) where
    found_at : (k : ℕ) → is_some (find_entry k (take (i + 1) es)) ≡ cond (eqb (get_or es i d).term k) true (is_some (find_entry k (take i es)))
    found_at k = ap (λ xs. is_some (find_entry k xs)) (take_more es i d h) ∙ found_more k (take i es) (get_or es i d)

    -- a mark at the entry's term
    pub mark_more : MarkedUpto (i + 1) (set bs (get_or es i d).term true)
    mark_more = (length-set bs (get_or es i d).term true ∙ m.0, λ k q. go k q (ℕ_discrete k (get_or es i d).term))
      where
        go : (k : ℕ) → k < n → Dec (k ≡ (get_or es i d).term) → get_or (set bs (get_or es i d).term true) k false ≡ is_some (find_entry k (take (i + 1) es))
        go k q (yes e) =
            let z = m.0 in
            ap (λ j. get_or (set bs (get_or es i d).term true) j false) e ∙ get_or-set_same bs (get_or es i d).term true false (omega arith)
            ∙ sym (found_at k ∙ ap (λ b. cond b true (is_some (find_entry k (take i es)))) (eq-eqb (get_or es i d).term k (sym e)))
        go k q (no e) =
            get_or-set_other bs (get_or es i d).term k true false e ∙ m.1 k q
            ∙ sym (found_at k ∙ ap (λ b. cond b true (is_some (find_entry k (take i es)))) (ne_eqb (get_or es i d).term k (λ z. e (sym z))))

-- the marks below i are right, those from i on say what is known
module _ (t : TermTable) (p : Party) (s : RoleState) where
  pub record Upto (i : ℕ) (bs : List Bool) : Type 0 where
    pub long : length bs ≡ size t
    pub done : (k : ℕ) → k < i → get_or bs k false ≡ can_be t p s k
    pub left : (k : ℕ) → i ≤ k → k < size t → get_or bs k false ≡ is_some (find_entry k (vec_items s.known))

  module _ (w : Knows t s) (i : ℕ) (bs : List Bool) (u : Upto i bs) (h : i < size t) where
    pub stays : get_or bs i false ≡ true → Upto (i + 1) bs
    stays e = record {
      long = u.long;
      done = below_more (λ k. get_or bs k false ≡ can_be t p s k) i u.done (e ∙ can_when_known t s p i h w (sym e ∙ u.left i (omega arith) h));
      left = λ k a b. u.left k (omega arith) b;
    }

    module _ (e : get_or bs i false ≡ false) (row : TermRow) (d : Stands (vec_items t.rows) i row) where
      right : (x : Bool) → x ≡ row_composable p row bs → x ≡ can_be t p s i
      right x q = q ∙ row_can t s p i h w row d bs u.done (sym e ∙ u.left i (omega arith) h)

      pub sets : true ≡ row_composable p row bs → Upto (i + 1) (set bs i true)
      sets q =
          let l = u.long in
          record {
            long = length-set bs i true ∙ u.long;
            done = below_more (λ k. get_or (set bs i true) k false ≡ can_be t p s k) i
                (λ k m. get_or-set_other bs i k true false (λ z. omega arith) ∙ u.done k m)
                (get_or-set_same bs i true false (omega arith) ∙ right true q);
            left = λ k a b. get_or-set_other bs i k true false (λ z. omega arith) ∙ u.left k (omega arith) b;
          }

      pub passes : false ≡ row_composable p row bs → Upto (i + 1) bs
      passes q = record {
        long = u.long;
        done = below_more (λ k. get_or bs k false ≡ can_be t p s k) i u.done (e ∙ right false q);
        left = λ k a b. u.left k (omega arith) b;
      }
