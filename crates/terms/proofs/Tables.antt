-- What a sound table gives of its rows.
use Rattle.std.proofs.Common.{◌≡◌, ℕ, zero, suc, ◌<◌, List, [], ◌∷◌, length, get_or, sym, refl, ap, ◌∙◌, subst, arith}
use Rattle.std.proofs.lemmas.List.{length-map}
use Rattle.terms.specs.declared.term.TermRow.{TermRow}
use Rattle.terms.specs.Shapes.{Shape, named, grown, AllBelow, numbers}
use Rattle.terms.specs.Rows.{shape_of, shapes, row_at, term_tree, Ordered, Formed, Distinct, Stands}
use Rattle.terms.proofs.Numbered.{tree_grown, one_number, same_shape}

all_below : (k : ℕ) (ps : List ℕ) → ((i : ℕ) → i < length ps → get_or ps i 0 < k) → AllBelow k ps
all_below k [] f = tt
all_below k (p ∷ ps) f = (f 0 (omega arith), all_below k ps (λ i h. f (suc i) (omega arith)))

pub shape_at : (rows : List TermRow) (k : ℕ) → get_or (shapes rows) k (named 0) ≡ shape_of (row_at rows k)
shape_at [] k = refl
shape_at (r ∷ rows) zero = refl
shape_at (r ∷ rows) (suc k) = shape_at rows k

module _ (rows : List TermRow) (ordered : Ordered rows) where
  parts_below : (k : ℕ) → k < length rows → AllBelow k (numbers (shape_of (row_at rows k)))
  parts_below k h = all_below k _ (λ i l. ordered k i h l)

  pub shapes_below : (k : ℕ) → k < length (shapes rows) → AllBelow k (numbers (get_or (shapes rows) k (named 0)))
  shapes_below k h = let n = length-map rows shape_of in subst (λ s. AllBelow k (numbers s)) (sym (shape_at rows k)) (parts_below k (omega arith))

  pub stands : Formed rows → (k : ℕ) (r : TermRow) → k < length rows → r ≡ row_at rows k → Stands rows k r
  stands whole k r h e =
      let n = length-map rows shape_of in
      subst (Stands rows k) (sym e) (record {
        tree = tree_grown (shapes rows) shapes_below k (omega arith) ∙ ap (grown (term_tree rows)) (shape_at rows k);
        below = parts_below k h;
        whole = whole k h;
      })

  -- different numbers stand for different trees
  pub one_term : Distinct rows → (i j : ℕ) → i < length rows → j < length rows → term_tree rows i ≡ term_tree rows j → i ≡ j
  one_term distinct i j h l =
      let n = length-map rows shape_of in
      one_number (shapes rows) shapes_below (λ a b m e.
      let p : shape_of (row_at rows a) ≡ shape_of (row_at rows b) = sym (shape_at rows a) ∙ e ∙ shape_at rows b in
      let x = distinct a b (omega arith, omega arith) p in
      let y = distinct b a (omega arith, omega arith) (sym p) in
      omega arith) i j (omega arith) (omega arith)

  -- the row of a tree
  pub row_of_tree : Formed rows → Distinct rows → (s : Shape) (j : ℕ) → AllBelow (length rows) (numbers s) → j < length rows → term_tree rows j ≡ grown (term_tree rows) s → shape_of (row_at rows j) ≡ s
  row_of_tree whole distinct s j b h e =
      same_shape (term_tree rows) j (length rows) (λ p q l m. one_term distinct p q (omega arith) m) (shape_of (row_at rows j)) s (parts_below j h) b
      (sym (stands whole j (row_at rows j) h refl).tree ∙ e)
