-- The loop of the check, row by row.
use Rattle.std.proofs.Common.{◌≡◌, ℕ, ◌+◌, ◌<◌, ◌≤◌, Bool, true, false, ◌&&◌, List, ◌∷◌, ◌++◌, length, get_or, drop, sym, ap, ◌∙◌}
use Rattle.std.proofs.lemmas.List.{drop_more, at_drop_all}
use Rattle.program.specs.declared.action.Row.{Row}
use Rattle.program.specs.Held.{fills, row_passes, passes_from}

module _ (counts : List ℕ) (rows : List Row) (all : Bool) (done : List ℕ) (line i : ℕ) (e : all ≡ passes_from counts done line (drop i rows)) where
  module _ (r : Row) (is : r ≡ get_or rows i r) (h : i < length rows) where
    here : (b : Bool) → row_passes counts done line r ≡ b → all ≡ (b && passes_from counts (done ++ fills r.action) r.line (drop (i + 1) rows))
    here b q =
        e ∙ ap (passes_from counts done line) (drop_more rows i r h ∙ ap (λ x. x ∷ drop (i + 1) rows) (sym is))
        ∙ ap (λ x. x && passes_from counts (done ++ fills r.action) r.line (drop (i + 1) rows)) q

    pub row_bad : row_passes counts done line r ≡ false → all ≡ false
    row_bad q = here false q

    pub row_good : row_passes counts done line r ≡ true → all ≡ passes_from counts (done ++ fills r.action) r.line (drop (i + 1) rows)
    row_good q = here true q

  pub rows_end : length rows ≤ i → all ≡ true
  rows_end h = e ∙ at_drop_all (passes_from counts done line) rows i h
