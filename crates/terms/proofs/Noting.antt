-- A number that was looked up or added, among the trees that were read.
use Rattle.std.proofs.Common.{◌≡◌, ℕ, zero, suc, ◌+◌, ◌<◌, ◌≤◌, Bool, true, false, cond, ◌||◌, T, leb, List, [], ◌∷◌, ◌++◌, length, get_or, Ok, Err, vec_items, Result, sym, refl, ap, ◌∙◌, subst, ⊎_elim, arith}
use Rattle.std.proofs.lemmas.List.{length_push, get_or_push, get_or_append_left}
use Rattle.std.proofs.lemmas.Bool.{le-leb, lt-leb, cases_eq, cases_lt}
use Rattle.model.specs.Trees.{Tree, leaf, eq_tree}
use Rattle.model.proofs.Trees.{eq_tree_is, is_eq_tree}
use Rattle.terms.specs.declared.fault.TermFault.{TermFault}
use Rattle.terms.specs.declared.fault.TermFault.TheVariants.{Limit, Undeclared, WrongType, NoMemory}
use Rattle.terms.specs.declared.table.TermTable.{TermTable}
use Rattle.terms.specs.Shapes.{Shape, grown, AllBelow, numbers}
use Rattle.terms.specs.Rows.{shape_of, row_at, term_tree}
use Rattle.terms.specs.Interned.{Interned, Numbers}
use Rattle.terms.specs.Terms.{tree_in, size}
use Rattle.terms.specs.Numbering.{has, noted}
use Rattle.terms.specs.Meanings.{Lists}
use Rattle.terms.specs.Reads.{Gives}
use Rattle.terms.proofs.Tables.{row_of_tree}

pub has_there : (u : Tree) (us : List Tree) (k : ℕ) → k < length us → get_or us k (leaf 0) ≡ u → has u us ≡ true
has_there u [] k h e = absurd (omega arith)
has_there u (v ∷ us) zero h e = go (eq_tree u v) (is_eq_tree u v (sym e))
  where
    go : (b : Bool) → T b → (b || has u us) ≡ true
    go true t = refl
    go false t = elim t [ ]
has_there u (v ∷ us) (suc k) h e = go (eq_tree u v) (has_there u us k (omega arith) e)
  where
    go : (b : Bool) → has u us ≡ true → (b || has u us) ≡ true
    go true t = refl
    go false t = t

pub has_place : (u : Tree) (us : List Tree) → has u us ≡ true → (k : ℕ) × ((k < length us) × (get_or us k (leaf 0) ≡ u))
has_place u [] e = absurd (cc)
has_place u (v ∷ us) e = go (eq_tree u v) (eq_tree_is u v) e (λ q. has_place u us q)
  where
    go : (b : Bool) → (T b → u ≡ v) → (b || has u us) ≡ true → (has u us ≡ true → (k : ℕ) × ((k < length us) × (get_or us k (leaf 0) ≡ u))) → (k : ℕ) × ((k < length (v ∷ us)) × (get_or (v ∷ us) k (leaf 0) ≡ u))
    go true is t f = (0, (omega arith, sym (is tt)))
    go false is t f = let p = f t in let h = p.1.0 in (suc p.0, (omega arith, p.1.1))

module _ (t t' : TermTable) (us : List Tree) (l : Lists t us) (s : Shape) (b : AllBelow (size t) (numbers s)) (most at : ℕ) where
  abbrev the_tree : Tree
  the_tree = grown (tree_in t) s

  rows_long : length (vec_items t.rows) ≡ length us
  rows_long = let x = t.rows.ok.0 in let y = l.long in omega arith

  absent : ((j : ℕ) → j < length (vec_items t.rows) → shape_of (row_at (vec_items t.rows) j) ≡ s → ⊥) → has the_tree us ≡ false
  absent f = go (has the_tree us) refl
    where
      go : (b : Bool) → has the_tree us ≡ b → b ≡ false
      go false e = refl
      go true e =
          let p = has_place the_tree us e in
          let h = p.1.0 in
          let n = rows_long in
          let m = l.long in
          absurd (f p.0 (omega arith) (row_of_tree (vec_items t.rows) t.ordered t.whole t.distinct s p.0
          (subst (λ n. AllBelow n (numbers s)) t.rows.ok.0 b) (omega arith) (sym (l.each p.0 (omega arith)) ∙ p.1.1)))

  noting_old : (k : ℕ) → Numbers (vec_items t.rows) (vec_items t'.rows) s k → vec_items t'.rows ≡ vec_items t.rows → Gives t' the_tree (noted most at the_tree us) (Ok k)
  noting_old k i e =
      let x = i.within in
      let y = ap length e in
      let n = rows_long in
      let m = l.long in
      let z = t.rows.ok.0 in
      let z' = t'.rows.ok.0 in (
        i.tree,
        record {
          terms = us;
          is = ap (λ c. cond c (Ok us) (cond (leb most (length us)) (Err (Limit at)) (Ok (us ++ (the_tree ∷ []))))) (has_there the_tree us k (omega arith) (l.each k (omega arith) ∙ ap (λ rows. term_tree rows k) (sym e) ∙ i.tree));
          lists = record { long = omega arith; each = λ j h. l.each j (omega arith) ∙ ap (λ rows. term_tree rows j) (sym e) };
        },
      )

  noting_new : (k : ℕ) → Numbers (vec_items t.rows) (vec_items t'.rows) s k → length (vec_items t'.rows) ≡ length (vec_items t.rows) + 1 → k ≡ length (vec_items t.rows) → length (vec_items t.rows) < most
      → ((j : ℕ) → j < length (vec_items t.rows) → shape_of (row_at (vec_items t.rows) j) ≡ s → ⊥) → Gives t' the_tree (noted most at the_tree us) (Ok k)
  noting_new k i len q room f =
      let n = rows_long in
      let m = l.long in
      let z = t.rows.ok.0 in
      let z' = t'.rows.ok.0 in
      let p = length_push us the_tree in (
        i.tree,
        record {
          terms = us ++ (the_tree ∷ []);
          is = ap (λ c. cond c (Ok us) (cond (leb most (length us)) (Err (Limit at)) (Ok (us ++ (the_tree ∷ []))))) (absent f)
              ∙ ap (λ c. cond c (Err (Limit at)) (Ok (us ++ (the_tree ∷ [])))) (lt-leb most (length us) (omega arith));
          lists = record { long = omega arith; each = each };
        },
      )
    where
      each : (j : ℕ) → j < size t' → get_or (us ++ (the_tree ∷ [])) j (leaf 0) ≡ tree_in t' j
      each j h =
          let n = rows_long in
          let m = l.long in
          let z = t.rows.ok.0 in
          let z' = t'.rows.ok.0 in
          ⊎_elim
          (λ e. get_or_push us the_tree (leaf 0) j (omega arith) ∙ sym i.tree ∙ ap (tree_in t') (let e' : k ≡ j = omega arith in e'))
          (λ ne. let lt : j < length us = go ne in get_or_append_left us (the_tree ∷ []) (leaf 0) j lt ∙ l.each j (omega arith) ∙ sym (i.kept j (omega arith)))
          (cases_eq j (length us))
        where
          go : (j ≡ length us → ⊥) → j < length us
          go ne =
              let n = rows_long in
              let z' = t'.rows.ok.0 in
              ⊎_elim (λ lt. lt) (λ ge. absurd (ne (omega arith))) (cases_lt j (length us))

  pub noting : (r : Result ℕ TermFault) → most ≤ 65536 → Interned (vec_items t.rows) (vec_items t'.rows) s most at r → Gives t' the_tree (noted most at the_tree us) r
  noting (Ok k) small i = ⊎_elim (noting_old k i.0) (λ a. noting_new k i.0 a.0 a.1 a.2 a.3) i.1
  noting (Err (Limit q)) small i =
      let n = rows_long in
      let z = t.numbered in
      let few : most ≤ length us = ⊎_elim (λ h. omega arith) (λ h. omega arith) i.2 in
      ap (λ c. cond c (Ok us) (cond (leb most (length us)) (Err (Limit at)) (Ok (us ++ (the_tree ∷ []))))) (absent i.3)
      ∙ ap (λ c. cond c (Err (Limit at)) (Ok (us ++ (the_tree ∷ [])))) (le-leb most (length us) few)
      ∙ ap (λ p. Err (Limit p)) (sym i.0)
  noting (Err (Undeclared q)) small i = absurd i
  noting (Err (WrongType q)) small i = absurd i
  noting (Err (NoMemory w)) small i = tt
