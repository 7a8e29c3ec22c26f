-- The values of rows: what one more row adds, and what a row's value is made of.
use Rattle.std.proofs.Common.{◌≡◌, ℕ, zero, suc, ◌+◌, ◌<◌, List, [], ◌∷◌, ◌++◌, length, get_or, None, refl, sym, ap, ◌∙◌, ap₂, subst, arith}
use Rattle.std.proofs.lemmas.List.{length-append, get_or_append_left, get_or_at}
use Rattle.std.specs.List.{All}
use Rattle.program.specs.Actions.{head_of}
use Rattle.model.specs.Trees.{Tree, leaf, node, more}
use Rattle.rows.specs.declared.entry.Row.{Row}
use Rattle.rows.specs.declared.entry.Row.TheVariants.{Atom, Compound}
use Rattle.rows.specs.declared.entry.Entry.{Entry}
use Rattle.rows.specs.Rows.{values_at, row_value, values_after, values, meaning}
use Rattle.rows.specs.Classes.{parts_of, row_at}

pub values_push : (vs : List Tree) (es : List Entry) (e : Entry) → values_after vs (es ++ e ∷ []) ≡ values_after vs es ++ row_value (values_after vs es) e.row ∷ []
unfolding values_after
values_push vs [] e = refl
values_push vs (x ∷ es) e = values_push (vs ++ row_value vs x.row ∷ []) es e

-- what was there stays
values_stay : (vs : List Tree) (es : List Entry) (k : ℕ) → k < length vs → get_or (values_after vs es) k (leaf 0) ≡ get_or vs k (leaf 0)
unfolding values_after
values_stay vs [] k h = refl
values_stay vs (e ∷ es) k h =
    let l = length-append vs (row_value vs e.row ∷ []) in
    values_stay (vs ++ row_value vs e.row ∷ []) es k (omega arith) ∙ get_or_append_left vs (row_value vs e.row ∷ []) (leaf 0) k h

module _ (vs ws : List Tree) (n : ℕ) (same : (k : ℕ) → k < n → get_or vs k (leaf 0) ≡ get_or ws k (leaf 0)) where
  pub values_at_same : (ks : List ℕ) → All (λ k. k < n) ks → values_at vs ks ≡ values_at ws ks
  values_at_same [] b = refl
  values_at_same (k ∷ ks) b = ap₂ more (same k (b 0 0 (omega arith))) (values_at_same ks (λ i d h. b (suc i) d (omega arith)))

  pub row_value_same : (r : Row) → All (λ k. k < n) (parts_of r) → row_value vs r ≡ row_value ws r
  row_value_same (Atom m) b = refl
  row_value_same (Compound k ps) b = ap (node (head_of k)) (values_at_same ps b)

value_from : (vs : List Tree) (es : List Entry) (j : ℕ) → j < length es → All (λ k. k < length vs + j) (parts_of (row_at es j))
    → get_or (values_after vs es) (length vs + j) (leaf 0) ≡ row_value (values_after vs es) (row_at es j)
unfolding values_after
value_from vs [] j h b = absurd (omega arith)
value_from vs (e ∷ es) zero h b =
    let v = row_value vs e.row in
    let l = length-append vs (v ∷ []) in
    let z : length vs + 0 ≡ length vs = omega arith in
    ap (λ n. get_or (values_after (vs ++ v ∷ []) es) n (leaf 0)) z
    ∙ values_stay (vs ++ v ∷ []) es (length vs) (omega arith)
    ∙ get_or_at vs v [] (leaf 0) (length vs) refl
    ∙ row_value_same vs (values_after (vs ++ v ∷ []) es) (length vs)
    (λ k m. sym (values_stay (vs ++ v ∷ []) es k (omega arith) ∙ get_or_append_left vs (v ∷ []) (leaf 0) k m))
    e.row (λ i d m. let x = b i d m in omega arith)
value_from vs (e ∷ es) (suc j) h b =
    let v = row_value vs e.row in
    let l = length-append vs (v ∷ []) in
    let z : length vs + suc j ≡ length (vs ++ v ∷ []) + j = omega arith in
    ap (λ n. get_or (values_after (vs ++ v ∷ []) es) n (leaf 0)) z
    ∙ value_from (vs ++ v ∷ []) es j (omega arith) (λ i d m. let x = b i d m in omega arith)

-- a row's value is that over all values, since its parts are earlier rows
pub value_of_row : (es : List Entry) (k : ℕ) → k < length es → All (λ p. p < k) (parts_of (row_at es k)) → get_or (values es) k (leaf 0) ≡ row_value (values es) (row_at es k)
value_of_row es k h b =
    let z : 0 + k ≡ k = omega arith in
    subst (λ n. get_or (values es) n (leaf 0) ≡ row_value (values es) (row_at es k)) z (value_from [] es k h (λ i d m. let x = b i d m in omega arith))

-- no handle names a value where there is no row
pub none_there : (h : ℕ) → meaning [] h ≡ None
unfolding values_after
none_there h = refl
