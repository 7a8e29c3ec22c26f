-- The list of terms that were read is what the law of numbers says.
use Rattle.std.proofs.Common.{◌≡◌, ℕ, zero, suc, ◌<◌, ◌≤◌, Bool, true, false, ◌||◌, T, List, [], ◌∷◌, ◌++◌, length, get_or, take, drop, Ok, vec_items, Result, sym, refl, ap, ◌∙◌, subst, ⊎_elim, inl, inr, arith}
use mathlib.Core.Path.{subst⁻¹}
use Rattle.std.proofs.Math.Bool.{or-false}
use Rattle.std.proofs.lemmas.Bool.{or_parts, cases_lt}
use Rattle.std.proofs.lemmas.List.{append-nil, append_assoc, length_push, get_or_push, get_or_append_left}
use Rattle.model.specs.Trees.{Head, Tree, Trees, leaf, node, eq_tree, ◌among◌}
use Rattle.model.proofs.Trees.{eq_tree_is}
use Rattle.syntax.specs.Specs.{Term, name, tuple, crypt, apply, Terms, none, more}
use Rattle.terms.specs.declared.declarations.Declared.{Declared}
use Rattle.terms.specs.declared.declarations.Declarations.{Declarations}
use Rattle.terms.specs.declared.fault.TermFault.{TermFault}
use Rattle.terms.specs.declared.table.TermTable.{TermTable}
use Rattle.terms.specs.Meanings.{trees_of, scope_of}
use Rattle.terms.specs.Numbering.{tree, trees, has, noted, next, at_most_eight, read, read_all}
use Rattle.terms.specs.Rows.{shape_of, row_at}
use Rattle.terms.specs.Shapes as shapes
use Rattle.terms.specs.Shapes.{Shape, named, formed, grown, AllBelow, numbers}
use Rattle.terms.specs.TermNumbers.{read_in, read_in_all, numbered, ReadBefore, Numbers, PartsFirst, Follows}
use Rattle.terms.specs.Terms.{tree_in}
use Rattle.terms.specs.Declaring.{with_term}
use Rattle.terms.proofs.Leaves.{has_append, has_old, noted_either}
use Rattle.terms.proofs.ListedTrees.{lists_of}
use Rattle.terms.proofs.Noting.{has_there, has_place}
use Rattle.terms.proofs.Steps.{steps_read, few_read}
use Rattle.terms.proofs.Scopes.{taken}
use Rattle.terms.proofs.Tables.{one_term, stands}

-- what is in a list stands somewhere in it
has_split : (u : Tree) (xs : List Tree) → has u xs ≡ true → (before : List Tree) × ((after : List Tree) × (xs ≡ before ++ (u ∷ after)))
has_split u [] e = absurd (cc)
has_split u (x ∷ xs) e = go (eq_tree u x) (eq_tree_is u x) e (has_split u xs)
  where
    go : (b : Bool) → (T b → u ≡ x) → (b || has u xs) ≡ true → (has u xs ≡ true → (before : List Tree) × ((after : List Tree) × (xs ≡ before ++ (u ∷ after)))) → (before : List Tree) × ((after : List Tree) × (x ∷ xs ≡ before ++ (u ∷ after)))
    go true is e f = ([], (xs, ap (λ z. z ∷ xs) (sym (is tt))))
    go false is e f = let r = f e in (x ∷ r.0, (r.1.0, ap (λ l. x ∷ l) r.1.1))

-- what is not in a list is not in its beginning
not_in_beginning : (v : Tree) (xs before after : List Tree) → xs ≡ before ++ after → has v xs ≡ false → has v before ≡ false
not_in_beginning v xs before after e n = (or_parts (has v before) (has v after) (sym (has_append v before after) ∙ sym (ap (has v) e) ∙ n)).0

read_before_more : (u v : Tree) (xs : List Tree) (t : Tree) → ReadBefore u v xs → ReadBefore u v (xs ++ (t ∷ []))
read_before_more u v xs t r = record { before = r.before; after = r.after ++ (t ∷ []); all = ap (λ l. l ++ (t ∷ [])) r.all ∙ append_assoc r.before (u ∷ r.after) (t ∷ []); not_yet = r.not_yet }

module _ (xs us : List Tree) (n : Numbers xs us) where
  -- one term more
  module _ (most at : ℕ) (t : Tree) (vs : List Tree) where
    old : has t us ≡ true → vs ≡ us → Numbers (xs ++ (t ∷ [])) vs
    old h e = subst⁻¹ (Numbers (xs ++ (t ∷ []))) e (record {
      one = n.one;
      same = λ u. sym (has_old t us h u) ∙ ap (λ b. b || eq_tree u t) (n.same u) ∙ ap (λ b. has u xs || b) (sym (or-false (eq_tree u t))) ∙ sym (has_append u xs (t ∷ []));
      in_order = λ i j l m. read_before_more (numbered us i) (numbered us j) xs t (n.in_order i j l m);
    })

    added : has t us ≡ false → vs ≡ us ++ (t ∷ []) → Numbers (xs ++ (t ∷ [])) vs
    added h e = subst⁻¹ (Numbers (xs ++ (t ∷ []))) e (record {
      one = one;
      same = λ u. has_append u us (t ∷ []) ∙ ap (λ b. b || has u (t ∷ [])) (n.same u) ∙ sym (has_append u xs (t ∷ []));
      in_order = in_order;
    })
      where
        left : (i : ℕ) → i < length us → numbered (us ++ (t ∷ [])) i ≡ numbered us i
        left i l = get_or_append_left us (t ∷ []) (leaf 0) i l

        last : (i : ℕ) → i ≡ length us → numbered (us ++ (t ∷ [])) i ≡ t
        last i l = get_or_push us t (leaf 0) i (sym l)

        not_there : (i : ℕ) → i < length us → numbered us i ≡ t → ⊥
        not_there i l q = let x = has_there t us i l q in cc

        one : (i j : ℕ) → i < length (us ++ (t ∷ [])) → j < length (us ++ (t ∷ [])) → numbered (us ++ (t ∷ [])) i ≡ numbered (us ++ (t ∷ [])) j → i ≡ j
        one i j l m q =
            let k = length_push us t in
            ⊎_elim
            (λ a. ⊎_elim (λ b. n.one i j a b (sym (left i a) ∙ q ∙ left j b)) (λ b. absurd (not_there i a (sym (left i a) ∙ q ∙ last j (omega arith)))) (cases_lt j (length us)))
            (λ a. ⊎_elim (λ b. absurd (not_there j b (sym (left j b) ∙ sym q ∙ last i (omega arith)))) (λ b. omega arith) (cases_lt j (length us)))
            (cases_lt i (length us))

        in_order : (i j : ℕ) → i < j → j < length (us ++ (t ∷ [])) → ReadBefore (numbered (us ++ (t ∷ [])) i) (numbered (us ++ (t ∷ [])) j) (xs ++ (t ∷ []))
        in_order i j l m =
            let k = length_push us t in
            ⊎_elim
            (λ b. subst⁻¹ (λ u. ReadBefore u (numbered (us ++ (t ∷ [])) j) (xs ++ (t ∷ []))) (left i (omega arith)) (subst⁻¹ (λ v. ReadBefore (numbered us i) v (xs ++ (t ∷ []))) (left j b) (read_before_more (numbered us i) (numbered us j) xs t (n.in_order i j l b))))
            (λ b.
            let u = numbered us i in
            let s = has_split u xs (sym (n.same u) ∙ has_there u us i (omega arith) refl) in
            subst⁻¹ (λ u. ReadBefore u (numbered (us ++ (t ∷ [])) j) (xs ++ (t ∷ []))) (left i (omega arith))
            (subst⁻¹ (λ v. ReadBefore u v (xs ++ (t ∷ []))) (last j (omega arith))
            (read_before_more u t xs t (record { before = s.0; after = s.1.0; all = s.1.1; not_yet = not_in_beginning t xs s.0 (u ∷ s.1.0) s.1.1 (sym (n.same t) ∙ h) }))))
            (cases_lt j (length us))

    pub one_more : noted most at t us ≡ Ok vs → Numbers (xs ++ (t ∷ [])) vs
    one_more e = ⊎_elim (λ h. old h.0 h.1) (λ h. added h.0 h.1) (noted_either most at t us vs e)

-- parts, and then the whole
whole_next : (most at : ℕ) (t : Tree) (xs ys us vs : List Tree) (r : Result (List Tree) TermFault) → ((ws : List Tree) → r ≡ Ok ws → Numbers (xs ++ ys) ws) → next r (noted most at t) ≡ Ok vs → Numbers (xs ++ (ys ++ (t ∷ []))) vs
whole_next most at t xs ys us vs r f e =
    let s = steps_read r (noted most at t) vs e in
    subst (λ l. Numbers l vs) (append_assoc xs ys (t ∷ [])) (one_more (xs ++ ys) s.mid (f s.mid s.first) most at t vs s.second)

module _ (text : List ℕ) (names : List Declared) (most : ℕ) where
  mutual
    read_next : (t : Term) (xs us vs : List Tree) → Numbers xs us → read text names most t us ≡ Ok vs → Numbers (xs ++ read_in (tree text names t)) vs
    read_next (name at p) xs us vs n e = one_more xs us n most at (tree text names (name at p)) vs e
    read_next (tuple at ts) xs us vs n e =
        whole_next most at (tree text names (tuple at ts)) xs (read_in_all (trees text names ts)) us vs (at_most_eight at ts (read_all text names most ts us))
        (λ ws w. all_next ts xs us ws n (few_read at ts (read_all text names most ts us) ws w)) e
    read_next (crypt at t k) xs us vs n e =
        let a = read_in (tree text names t) in
        let b = read_in (tree text names k) in
        whole_next most at (tree text names (crypt at t k)) xs (a ++ (b ++ [])) us vs (next (read text names most t us) (read text names most k))
        (λ ws w.
        let s = steps_read (read text names most t us) (read text names most k) ws w in
        subst (λ l. Numbers l ws) (append_assoc xs a b ∙ ap (λ l. xs ++ (a ++ l)) (sym (append-nil b))) (read_next k (xs ++ a) s.mid ws (read_next t xs us s.mid n s.first) s.second)) e
    read_next (apply at f ts) xs us vs n e =
        whole_next most at (tree text names (apply at f ts)) xs (read_in_all (trees text names ts)) us vs (at_most_eight at ts (read_all text names most ts us))
        (λ ws w. all_next ts xs us ws n (few_read at ts (read_all text names most ts us) ws w)) e

    all_next : (ts : Terms) (xs us vs : List Tree) → Numbers xs us → read_all text names most ts us ≡ Ok vs → Numbers (xs ++ read_in_all (trees text names ts)) vs
    all_next none xs us vs n e = let p : us ≡ vs = cc in subst (λ l. Numbers l vs) (sym (append-nil xs)) (subst (Numbers xs) p n)
    all_next (more t ts) xs us vs n e =
        let s = steps_read (read text names most t us) (read_all text names most ts) vs e in
        let a = read_in (tree text names t) in
        subst (λ l. Numbers l vs) (append_assoc xs a (read_in_all (trees text names ts))) (all_next ts (xs ++ a) s.mid vs (read_next t xs us s.mid n s.first) s.second)

-- the beginning of a list, and what comes behind it
split_at : (us : List Tree) (i : ℕ) → i < length us → us ≡ take i us ++ (get_or us i (leaf 0) ∷ drop (suc i) us)
split_at [] i h = absurd (omega arith)
split_at (u ∷ us) zero h = refl
split_at (u ∷ us) (suc i) h = ap (λ l. u ∷ l) (split_at us i (omega arith))

-- an element of the beginning is one of the list
in_beginning : (us : List Tree) (i k : ℕ) → k < length (take i us) → i ≤ length us → (k < i) × (get_or (take i us) k (leaf 0) ≡ get_or us k (leaf 0))
in_beginning us zero k h l = absurd (omega arith)
in_beginning [] (suc i) k h l = absurd (omega arith)
in_beginning (u ∷ us) (suc i) zero h l = (omega arith, refl)
in_beginning (u ∷ us) (suc i) (suc k) h l = let r = in_beginning us i k (omega arith) (omega arith) in let a = r.0 in (omega arith, r.1)

-- the terms of a table
module _ (t : TermTable) where
  distinct_trees : (i j : ℕ) → i < length (trees_of t) → j < length (trees_of t) → numbered (trees_of t) i ≡ numbered (trees_of t) j → i ≡ j
  distinct_trees i j h m e =
      let l = lists_of t in
      let n = l.long in
      let r = t.rows.ok.0 in
      one_term (vec_items t.rows) t.ordered t.distinct i j (omega arith) (omega arith) (sym (l.each i (omega arith)) ∙ e ∙ l.each j (omega arith))

  numbers_of : Numbers (trees_of t) (trees_of t)
  numbers_of = record {
    one = distinct_trees;
    same = λ u. refl;
    in_order = λ i j l m. record { before = take i (trees_of t); after = drop (suc i) (trees_of t); all = split_at (trees_of t) i (omega arith); not_yet = not_yet i j l m (has (numbered (trees_of t) j) (take i (trees_of t))) refl };
  }
    where
      not_yet : (i j : ℕ) → i < j → j < length (trees_of t) → (b : Bool) → has (numbered (trees_of t) j) (take i (trees_of t)) ≡ b → b ≡ false
      not_yet i j l m false e = refl
      not_yet i j l m true e =
          let p = has_place (numbered (trees_of t) j) (take i (trees_of t)) e in
          let q = in_beginning (trees_of t) i p.0 p.1.0 (omega arith) in
          let a = q.0 in
          let s = distinct_trees p.0 j (omega arith) m (sym q.1 ∙ p.1.1) in
          absurd (omega arith)

  -- a part of a row's tree is the tree of one of its numbers
  among_numbers : (f : ℕ → Tree) (k : ℕ) (ps : List ℕ) (p : Tree) → AllBelow k ps → p among (shapes.trees f ps) → (j : ℕ) × (j < k) × (f j ≡ p)
  among_numbers f k [] p b i = elim i [ ]
  among_numbers f k (n ∷ ps) p b (inl e) = (n, b.0, sym e)
  among_numbers f k (n ∷ ps) p b (inr i) = among_numbers f k ps p b.1 i

  of_shape : (f : ℕ → Tree) (k : ℕ) (s : Shape) (h : Head) (ts : Trees) (p : Tree) → AllBelow k (numbers s) → grown f s ≡ node h ts → p among ts → (j : ℕ) × (j < k) × (f j ≡ p)
  of_shape f k (named n) h ts p b e i = absurd (cc)
  of_shape f k (formed g ps) h ts p b e i = let q : shapes.trees f ps ≡ ts = cc in among_numbers f k ps p b (subst⁻¹ (λ us. p among us) q i)

  pub parts_of : PartsFirst (trees_of t)
  parts_of k h ts p l e i =
      let m = lists_of t in
      let n = m.long in
      let r = t.rows.ok.0 in
      let s = stands (vec_items t.rows) t.ordered t.whole k (row_at (vec_items t.rows) k) (omega arith) refl in
      let x = of_shape (tree_in t) k (shape_of (row_at (vec_items t.rows) k)) h ts p s.below (sym s.tree ∙ sym (m.each k (omega arith)) ∙ e) i in
      let a = x.1 in
      (x.0, x.1, m.each x.0 (omega arith) ∙ x.2)

-- what a term that got its number leaves
pub follows : (text : List ℕ) (most : ℕ) (t : Term) (d d' : Declarations) → with_term text most t (scope_of d) ≡ Ok (scope_of d') → Follows (tree text (scope_of d).names t) (scope_of d).terms (scope_of d').terms
follows text most t d d' e = record {
  numbers = read_next text (scope_of d).names most t (trees_of d.terms) (trees_of d.terms) (trees_of d'.terms) (numbers_of d.terms) (taken text most t (scope_of d) (scope_of d') e).read_well;
  parts = parts_of d'.terms;
}
