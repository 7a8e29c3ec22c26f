-- Loops that gather what passes a test.
use Rattle.std.proofs.Common.{◌≡◌, ℕ, suc, ◌+◌, ◌<◌, Bool, true, false, cond, List, [], ◌∷◌, ◌++◌, map, length, get_or, take, drop, Some, None, vec_items, Option, sym, refl, ap, ◌∙◌, ap₂, arith}
use Rattle.std.proofs.lemmas.List.{append-nil, take_more, drop-map, get_or-map, length-map, same_lists}
use Rattle.std.proofs.lemmas.List.Elements.{filter_map-append}
use Rattle.model.specs.Trees.{Tree, leaf, node}
use Rattle.terms.specs.declared.declarations.Declared.{Declared}
use Rattle.terms.specs.declared.declarations.Start.{Start}
use Rattle.terms.specs.declared.table.TermTable.{TermTable}
use Rattle.terms.specs.declared.term.TermRow.{TermRow}
use Rattle.terms.specs.declared.term.TermRow.TheVariants.{Name, Compound}
use Rattle.std.specs.List.{filter, filter_map, cons_option}
use Rattle.terms.specs.Shapes.{grown, AllBelow}
use Rattle.terms.specs.Rows.{shape_of, row_at}
use Rattle.terms.specs.Terms.{tree_in, size}
use Rattle.terms.specs.Consistency.{Started}
use Rattle.terms.specs.Meanings.{Lists, given_in}
use Rattle.terms.specs.Starting.{concerns, given_to, is_makeable, made_among}
use Rattle.terms.proofs.Tables.{stands}

-- one item more
module _ {X Y : Type 0} (h : X → Option Y) (xs : List X) (i : ℕ) (x : X) (l : i < length xs) (e : x ≡ get_or xs i x) (ys : List Y) (so_far : ys ≡ filter_map h (take i xs)) where
  with_item : ys ++ cons_option (h x) [] ≡ filter_map h (take (i + 1) xs)
  with_item = ap₂ (λ zs z. zs ++ cons_option (h z) []) so_far e ∙ sym (ap (filter_map h) (take_more xs i x l) ∙ filter_map-append h (take i xs) (get_or xs i x ∷ []))

  pub filter_map_more : (y : Y) → h x ≡ Some y → ys ++ y ∷ [] ≡ filter_map h (take (i + 1) xs)
  filter_map_more y q = ap (λ o. ys ++ cons_option o []) (sym q) ∙ with_item

  pub filter_map_not : h x ≡ None → ys ≡ filter_map h (take (i + 1) xs)
  filter_map_not q = sym (append-nil ys) ∙ ap (λ o. ys ++ cons_option o []) (sym q) ∙ with_item

-- what a party starts from, by number
abbrev pub starts_test : ℕ → Start → Bool
starts_test n s = concerns s.knower n

pub starting_below : (n size : ℕ) (ss : List Start) → Started ss size → AllBelow size (map (λ (s : Start). s.term) (filter (starts_test n) ss))
starting_below n size [] h = tt
starting_below n size (s ∷ ss) h = go (starts_test n s) (starting_below n size ss (λ k x l. h (suc k) x (omega arith)))
  where
    go : (b : Bool) → AllBelow size (map (λ (s : Start). s.term) (filter (starts_test n) ss)) → AllBelow size (map (λ (s : Start). s.term) (cond b (s ∷ filter (starts_test n) ss) (filter (starts_test n) ss)))
    go true a = (h 0 s (omega arith), a)
    go false a = a

pub starting_given : (n : ℕ) (t : TermTable) (ss : List Start) → map (tree_in t) (map (λ (s : Start). s.term) (filter (starts_test n) ss)) ≡ given_to n (map (given_in t) ss)
starting_given n t [] = refl
starting_given n t (s ∷ ss) = go (concerns s.knower n) (starting_given n t ss)
  where
    go : (b : Bool) → map (tree_in t) (map (λ (s : Start). s.term) (filter (starts_test n) ss)) ≡ given_to n (map (given_in t) ss)
        → map (tree_in t) (map (λ (s : Start). s.term) (cond b (s ∷ filter (starts_test n) ss) (filter (starts_test n) ss))) ≡ cond b (tree_in t s.term ∷ given_to n (map (given_in t) ss)) (given_to n (map (given_in t) ss))
    go true e = ap (λ z. tree_in t s.term ∷ z) e
    go false e = e

-- names among rows, and among trees
abbrev row_name : TermRow → Option ℕ
row_name (Name n) = Some n
row_name (Compound k p) = None

abbrev tree_name : Tree → Option ℕ
tree_name (leaf n) = Some n
tree_name (node h ts) = None

abbrev makeable_name : List Declared → Option ℕ → Option ℕ
makeable_name names None = None
makeable_name names (Some n) = cond (is_makeable names n) (Some n) None

-- the name of a row, if it may be made
abbrev pub made_name : List Declared → TermRow → Option ℕ
made_name names r = makeable_name names (row_name r)

made_trees : (names : List Declared) (us : List Tree) → made_among names us ≡ filter_map (makeable_name names) (map tree_name us)
made_trees names [] = refl
made_trees names (leaf n ∷ us) = go (is_makeable names n) (made_trees names us)
  where
    go : (b : Bool) → made_among names us ≡ filter_map (makeable_name names) (map tree_name us) → cond b (n ∷ made_among names us) (made_among names us) ≡ cons_option (cond b (Some n) None) (filter_map (makeable_name names) (map tree_name us))
    go true e = ap (λ z. n ∷ z) e
    go false e = e
made_trees names (node h ts ∷ us) = made_trees names us

made_rows : (names : List Declared) (rs : List TermRow) → filter_map (made_name names) rs ≡ filter_map (makeable_name names) (map row_name rs)
made_rows names [] = refl
made_rows names (r ∷ rs) = ap (cons_option (made_name names r)) (made_rows names rs)

shape_name : (f : ℕ → Tree) (r : TermRow) → tree_name (grown f (shape_of r)) ≡ row_name r
shape_name f (Name n) = refl
shape_name f (Compound k p) = refl

module _ (t : TermTable) (us : List Tree) (l : Lists t us) where
  same_names : map tree_name us ≡ map row_name (vec_items t.rows)
  same_names =
      let a = length-map us tree_name in
      let b = length-map (vec_items t.rows) row_name in
      let c = l.long in
      let z = t.rows.ok.0 in
      same_lists (map tree_name us) (map row_name (vec_items t.rows)) (omega arith)
      (λ k d h. get_or-map tree_name us k (leaf 0) d (omega arith)
      ∙ ap tree_name (l.each k (omega arith) ∙ (stands (vec_items t.rows) t.ordered t.whole k (row_at (vec_items t.rows) k) (omega arith) refl).tree)
      ∙ shape_name (tree_in t) (row_at (vec_items t.rows) k) ∙ sym (get_or-map row_name (vec_items t.rows) k (Name 0) d (omega arith)))

  pub made_same : (names : List Declared) (i : ℕ) → filter_map (made_name names) (drop i (vec_items t.rows)) ≡ made_among names (drop i us)
  made_same names i =
      made_rows names (drop i (vec_items t.rows)) ∙ ap (filter_map (makeable_name names)) (sym (drop-map row_name i (vec_items t.rows)) ∙ ap (drop i) (sym same_names) ∙ drop-map tree_name i us) ∙ sym (made_trees names (drop i us))
