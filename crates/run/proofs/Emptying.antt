-- Registers are emptied.
use Rattle.std.proofs.Common.{◌≡◌, ℕ, suc, ◌+◌, ◌<◌, ◌≤◌, Bool, true, false, ◌||◌, ◌⊎◌, inl, inr, List, [], ◌∷◌, ◌++◌, length, get_or, take, set, if◌then◌else◌, sym, refl, ap, ◌∙◌, arith, eq-eqb, ne_eqb}
use Rattle.std.proofs.lemmas.Bool.{cases_eq, cases_lt}
use Rattle.std.proofs.lemmas.List.{append_assoc, append-nil, get_or-set_same, get_or-set_other, length-set, get_or_past, take_more}
use mathlib.Core.Path.{subst⁻¹}
use Rattle.program.specs.declared.action.Row.{Row}
use Rattle.program.specs.Held.{has, from, fills}
use Rattle.program.proofs.Filling.{has_append, from_more}
use Rattle.run.specs.Shown.{vacant, register}
use Rattle.run.specs.Filling.{filled_by}
use Rattle.run.specs.Lines.{Empties}

pub emptied_then : (a b cells now cells' : List ℕ) → Empties a cells now → Empties b now cells' → Empties (a ++ b) cells cells'
emptied_then a b cells now cells' e f = (f.0 ∙ e.0, λ r. f.1 r ∙ ap (λ x. if has r b then vacant else x) (e.1 r) ∙ both (has r a) (has r b) (register cells r) ∙ ap (λ x. if x then vacant else register cells r) (sym (has_append r a b)))
  where
    both : (x y : Bool) (z : ℕ) → (if y then vacant else (if x then vacant else z)) ≡ (if (x || y) then vacant else z)
    both true true z = refl
    both true false z = refl
    both false true z = refl
    both false false z = refl

pub one_emptied : (cells : List ℕ) (t : ℕ) → Empties (t ∷ []) cells (set cells t vacant)
one_emptied cells t = (length-set cells t vacant, λ r. go r (cases_eq r t))
  where
    same : (l : (t < length cells) ⊎ (length cells ≤ t)) → register (set cells t vacant) t ≡ vacant
    same (inl l) = get_or-set_same cells t vacant vacant l
    same (inr l) = get_or_past (set cells t vacant) t vacant (omega (arith, length-set cells t vacant))

    go : (r : ℕ) → (r ≡ t) ⊎ (r ≡ t → ⊥) → register (set cells t vacant) r ≡ (if has r (t ∷ []) then vacant else register cells r)
    go r (inl e) =
        ap (λ x. register (set cells t vacant) x) e ∙ same (cases_lt t (length cells)) ∙ ap (λ b. if (b || false) then vacant else register cells r) (sym (eq-eqb r t e))
    go r (inr ne) =
        get_or-set_other cells t r vacant vacant ne ∙ ap (λ b. if (b || false) then vacant else register cells r) (sym (ne_eqb r t ne))

-- registers in a row
pub row_more : (cells now : List ℕ) (first i : ℕ) → Empties (from first i) cells now → Empties (from first (i + 1)) cells (set now (first + i) vacant)
row_more cells now first i e =
    let n : i + 1 ≡ suc i = omega arith in
    subst⁻¹ (λ k. Empties (from first k) cells (set now (first + i) vacant)) n
    (subst⁻¹ (λ rs. Empties rs cells (set now (first + i) vacant)) (from_more first i) (emptied_then (from first i) ((first + i) ∷ []) cells now _ e (one_emptied now (first + i))))

-- the registers of rows
pub filled_append : (a b : List Row) → filled_by (a ++ b) ≡ filled_by a ++ filled_by b
filled_append [] b = refl
filled_append (x ∷ a) b = ap (λ rs. fills x.action ++ rs) (filled_append a b) ∙ sym (append_assoc (fills x.action) (filled_by a) (filled_by b))

pub filled_more : (rows : List Row) (i : ℕ) (r : Row) → r ≡ get_or rows i r → i < length rows → filled_by (take (i + 1) rows) ≡ filled_by (take i rows) ++ fills r.action
filled_more rows i r is l =
    ap filled_by (take_more rows i r l) ∙ filled_append (take i rows) (get_or rows i r ∷ [])
    ∙ ap (λ rs. filled_by (take i rows) ++ rs) (append-nil (fills (get_or rows i r).action) ∙ ap (λ (x : Row). fills x.action) (sym is))

pub rows_more : (rows : List Row) (i : ℕ) (r : Row) (cells now cells' : List ℕ) → r ≡ get_or rows i r → i < length rows → Empties (filled_by (take i rows)) cells now → Empties (fills r.action) now cells'
    → Empties (filled_by (take (i + 1) rows)) cells cells'
rows_more rows i r cells now cells' is l e f =
    subst⁻¹ (λ rs. Empties rs cells cells') (filled_more rows i r is l) (emptied_then (filled_by (take i rows)) (fills r.action) cells now cells' e f)
