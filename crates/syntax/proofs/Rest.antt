-- Nodes that are read one by one, each value behind those before it.
use Rattle.std.proofs.Common.{◌≡◌, ℕ, ◌+◌, ◌<◌, ◌≤◌, List, [], ◌∷◌, ◌++◌, length, get_or, drop, map, Ok, Err, ap, sym, refl, ◌∙◌, append-nil, append_assoc}
use Rattle.std.proofs.lemmas.List.{at_drop_more, at_drop_all}
use Rattle.text.specs.declared.tree.Tree.{Tree as TreeValue}
use Rattle.text.specs.Nodes.{tree_of, trees_of}
use Rattle.text.specs.Trees.{Tree, Trees, none, more}
use Rattle.syntax.specs.declared.fault.ShapeFault.{ShapeFault}
use Rattle.syntax.specs.Shape.{Shaped, and_then, each, term, terms}
use Rattle.syntax.specs.Specs.{more as and_term}
use Rattle.syntax.specs.Views.{term_of, terms_of}

module _ {T A L : Type 0} (one : Tree → Shaped A) (all : Trees → Shaped L) (view : T → A) (views : List T → L) where
  -- What is answered for all is what is answered for each, joined.
  pub record ByOne : Type 0 where
    pub join : A → L → L
    pub nothing : all none ≡ Ok (views [])
    pub further : (t : Tree) (ts : Trees) → all (more t ts) ≡ and_then (one t) (λ a. and_then (all ts) (λ l. Ok (join a l)))
    pub joined : (x : T) (xs : List T) → views (x ∷ xs) ≡ join (view x) (views xs)

  module _ (nodes : List TreeValue) where
    -- What follows for all the nodes from what is said of those from the i-th on, with these values before them.
    pub record Rest (i : ℕ) (xs : List T) : Type 0 where
      pub ok : (ys : List T) → all (trees_of (drop i nodes)) ≡ Ok (views ys) → all (trees_of nodes) ≡ Ok (views (xs ++ ys))
      pub err : (f : ShapeFault) → all (trees_of (drop i nodes)) ≡ Err f → all (trees_of nodes) ≡ Err f

    pub rest_first : Rest 0 []
    rest_first = record { ok = λ ys p. p; err = λ f p. p }

    -- The values so far stand behind those that the list had.
    pub record Behind (i : ℕ) (old now : List T) : Type 0 where
      pub more : List T
      pub is : now ≡ old ++ more
      pub rest : Rest i more

    module _ (b : ByOne) (i : ℕ) (xs : List T) (r : Rest i xs) where
      module _ (d : TreeValue) (h : i < length nodes) where
        next : all (trees_of (drop i nodes)) ≡ and_then (one (tree_of (get_or nodes i d))) (λ a. and_then (all (trees_of (drop (i + 1) nodes))) (λ l. Ok (b.join a l)))
        next = at_drop_more (λ ns. all (trees_of ns)) nodes i d h ∙ b.further (tree_of (get_or nodes i d)) (trees_of (drop (i + 1) nodes))

        pub rest_more : (x : T) → one (tree_of (get_or nodes i d)) ≡ Ok (view x) → Rest (i + 1) (xs ++ x ∷ [])
        rest_more x q =
            let here = next ∙ ap (λ o. and_then o (λ a. and_then (all (trees_of (drop (i + 1) nodes))) (λ l. Ok (b.join a l)))) q in
            record {
              ok = λ ys p. r.ok (x ∷ ys) (here ∙ ap (λ o. and_then o (λ l. Ok (b.join (view x) l))) p ∙ ap Ok (sym (b.joined x ys))) ∙ ap (λ zs. Ok (views zs)) (sym (append_assoc xs (x ∷ []) ys));
              err = λ f p. r.err f (here ∙ ap (λ o. and_then o (λ l. Ok (b.join (view x) l))) p);
            }

        pub rest_refused : (f : ShapeFault) → one (tree_of (get_or nodes i d)) ≡ Err f → all (trees_of nodes) ≡ Err f
        rest_refused f q = r.err f (next ∙ ap (λ o. and_then o (λ a. and_then (all (trees_of (drop (i + 1) nodes))) (λ l. Ok (b.join a l)))) q)

      pub rest_none : length nodes ≤ i → all (trees_of nodes) ≡ Ok (views xs)
      rest_none h = r.ok [] (at_drop_all (λ ns. all (trees_of ns)) nodes i h ∙ b.nothing) ∙ ap (λ ys. Ok (views ys)) (append-nil xs)

    module _ (b : ByOne) (i : ℕ) (old now : List T) (r : Behind i old now) where
      pub behind_more : (d : TreeValue) → i < length nodes → (later : List T) (x : T) → later ≡ now ++ x ∷ [] → one (tree_of (get_or nodes i d)) ≡ Ok (view x) → Behind (i + 1) old later
      behind_more d h later x e q =
          record {
            more = r.more ++ x ∷ [];
            is = e ∙ ap (λ l. l ++ x ∷ []) r.is ∙ append_assoc old r.more (x ∷ []);
            rest = rest_more b i r.more r.rest d h x q;
          }

pub by_term : (text : List ℕ) → ByOne (term text) (terms text) term_of terms_of
unfolding terms
by_term text = record { join = and_term; nothing = refl; further = λ t ts. refl; joined = λ x xs. refl }

pub by_each : {T A : Type 0} (one : Tree → Shaped A) (view : T → A) → ByOne one (each one) view (map view)
unfolding each
by_each one view = record { join = λ a l. a ∷ l; nothing = refl; further = λ t ts. refl; joined = λ x xs. refl }
