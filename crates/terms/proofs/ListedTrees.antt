-- The trees of a table, as a list.
use Rattle.std.proofs.Common.{◌≡◌, ℕ, zero, suc, ◌<◌, Bool, true, false, cond, T, ltb, List, [], ◌∷◌, length, get_or, Some, None, vec_items, sym, refl, ap, ◌∙◌, ⊎_elim, subst, arith}
use Rattle.std.specs.List.{position}
use Rattle.std.proofs.lemmas.List.{length_push, get_or_push, get_or_append_left, same_lists}
use Rattle.std.proofs.lemmas.List.Quantifiers.{position-Some}
use Rattle.std.proofs.lemmas.List.Sums.{position_or_len_is}
use Rattle.std.proofs.lemmas.Bool.{cases_lt, lt-ltb}
use Rattle.model.specs.Trees.{Tree, leaf, eq_tree}
use Rattle.model.proofs.Trees.{eq_tree_is, is_eq_tree}
use Rattle.terms.specs.declared.table.TermTable.{TermTable}
use Rattle.terms.specs.declared.term.TermRow.{TermRow}
use Rattle.terms.specs.Terms.{tree_in, size}
use Rattle.terms.specs.Rows.{term_tree}
use Rattle.terms.specs.Meanings.{Lists, first_trees, trees_of}
use Rattle.terms.proofs.Tables.{one_term}

first_long : (f : ℕ → Tree) (n : ℕ) → length (first_trees f n) ≡ n
first_long f zero = refl
first_long f (suc n) = let x = length_push (first_trees f n) (f n) in let y = first_long f n in omega arith

first_at : (f : ℕ → Tree) (n k : ℕ) → k < n → get_or (first_trees f n) k (leaf 0) ≡ f k
first_at f zero k h = absurd (omega arith)
first_at f (suc n) k h =
    let l = first_long f n in
    ⊎_elim (λ lt. get_or_append_left (first_trees f n) (f n ∷ []) (leaf 0) k (omega arith) ∙ first_at f n k lt)
    (λ ge. let e : n ≡ k = omega arith in get_or_push (first_trees f n) (f n) (leaf 0) k (omega arith) ∙ ap f e) (cases_lt k n)

pub lists_of : (t : TermTable) → Lists t (trees_of t)
unfolding trees_of
lists_of t = record { long = first_long (tree_in t) (size t); each = first_at (tree_in t) (size t) }

pub lists_are : (t : TermTable) (us : List Tree) → Lists t us → us ≡ trees_of t
lists_are t us l =
    let m = lists_of t in
    let a = l.long in
    let b = m.long in
    same_lists us (trees_of t) (omega arith) (λ k d h. default us k d (leaf 0) h ∙ l.each k (omega arith) ∙ sym (m.each k (omega arith)) ∙ default (trees_of t) k (leaf 0) d (omega arith))
  where
    default : (xs : List Tree) (k : ℕ) (c d : Tree) → k < length xs → get_or xs k c ≡ get_or xs k d
    default [] k c d h = absurd (omega arith)
    default (x ∷ xs) zero c d h = refl
    default (x ∷ xs) (suc k) c d h = default xs k c d (omega arith)

-- the same rows have the same trees
pub same_trees : (t t' : TermTable) → vec_items t'.rows ≡ vec_items t.rows → trees_of t' ≡ trees_of t
same_trees t t' e =
    let l = lists_of t' in
    let a = t.rows.ok.0 in
    let b = t'.rows.ok.0 in
    let c = ap length e in
    lists_are t (trees_of t') (record { long = let x = l.long in omega arith; each = λ k h. l.each k (omega arith) ∙ ap (λ (rs : List TermRow). term_tree rs k) e })

-- the place of a tree among those of a table, by a number that it has
pub place_of : (t : TermTable) (us : List Tree) → Lists t us → (k : ℕ) (u : Tree) → k < size t → tree_in t k ≡ u → position (eq_tree u) us ≡ Some k
place_of t us l k u h e =
    let long = l.long in
    let at = position_or_len_is (eq_tree u) us k (leaf 0) (omega arith) (λ j lt. other j lt (eq_tree u (get_or us j (leaf 0))) refl) (λ lt. same (eq_tree u (get_or us k (leaf 0))) refl) in
    ap (λ n. cond (ltb n (length us)) (Some n) None) at ∙ ap (λ b. cond b (Some k) None) (lt-ltb k (length us) (omega arith))
  where
    same : (b : Bool) → eq_tree u (get_or us k (leaf 0)) ≡ b → b ≡ true
    same true p = refl
    same false p = absurd (let x = is_eq_tree u (get_or us k (leaf 0)) (sym e ∙ sym (l.each k h)) in subst T p x)

    other : (j : ℕ) → j < k → (b : Bool) → eq_tree u (get_or us j (leaf 0)) ≡ b → b ≡ false
    other j lt false p = refl
    other j lt true p =
        let n = t.rows.ok.0 in
        let q : u ≡ get_or us j (leaf 0) = eq_tree_is u (get_or us j (leaf 0)) (subst T (sym p) tt) in
        let same : k ≡ j = one_term (vec_items t.rows) t.ordered t.distinct k j (omega arith) (omega arith) (e ∙ q ∙ l.each j (omega arith)) in
        absurd (omega arith)

-- and back: the number that is a tree's place has that tree
pub listed_at : (t : TermTable) (k : ℕ) (u : Tree) → position (eq_tree u) (trees_of t) ≡ Some k → (k < size t) × (tree_in t k ≡ u)
listed_at t k u e =
    let p = position-Some (eq_tree u) (trees_of t) k (leaf 0) e in
    let l = lists_of t in
    let long = l.long in
    let h = p.0 in
    (omega arith, sym (l.each k (omega arith)) ∙ sym (eq_tree_is u (get_or (trees_of t) k (leaf 0)) (subst T (sym p.1) tt)))
