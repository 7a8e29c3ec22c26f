-- The terms of a message that was read: those so far, and behind them its own.
use Rattle.std.proofs.Common.{◌≡◌, ℕ, ◌<◌, ◌≤◌, Bool, true, false, cond, leb, List, [], ◌∷◌, ◌++◌, length, Ok, Err, Result, sym, refl, ap, ◌∙◌, subst, append-nil, arith, length-append}
use native.Mathlib.Decide.{dec_lt}
use Rattle.std.proofs.lemmas.Bool.{leb-true, leb-false, le-leb, cond-true}
use Rattle.model.specs.Trees.{Tree}
use Rattle.syntax.specs.Specs.{Term, name, tuple, crypt, apply, Terms, none, more, count}
use Rattle.terms.specs.declared.declarations.Declared.{Declared}
use Rattle.terms.specs.declared.fault.TermFault.{TermFault}
use Rattle.terms.specs.declared.fault.TermFault.TheVariants.{Limit}
use Rattle.terms.specs.Numbering.{tree, trees, has, noted, next, at_most_eight, read, read_all}
use Rattle.terms.specs.TermNumbers.{read_in, read_in_all}
use Rattle.terms.proofs.Steps.{steps_read, few_read}
use Rattle.roles.specs.LineReadiness.{joined, Below}
use Rattle.roles.proofs.FewParts.{AtMostEight, EachAtMostEight}

joined_append : (us xs ys : List Tree) → joined us (xs ++ ys) ≡ joined (joined us xs) ys
joined_append us [] ys = refl
joined_append us (x ∷ xs) ys = joined_append (cond (has x us) us (us ++ (x ∷ []))) xs ys

joined_longer : (us ts : List Tree) → length us ≤ length (joined us ts)
joined_longer us [] = omega arith
joined_longer us (t ∷ ts) = let a = one (has t us) in let b = joined_longer (cond (has t us) us (us ++ (t ∷ []))) ts in omega arith
  where
    one : (b : Bool) → length us ≤ length (cond b us (us ++ (t ∷ [])))
    one true = omega arith
    one false = let l = length-append us (t ∷ []) in omega arith

module _ (most : ℕ) (us vs ws : List Tree) where
  below_then : Below most us vs → Below most vs ws → Below most us ws
  below_then f g k n h = go (dec_lt k (length vs))
    where
      go : Dec (k < length vs) → k < most
      go (yes i) = f k n i
      go (no i) = g k i h

  below_first : Below most us ws → length vs ≤ length ws → Below most us vs
  below_first f e k n h = f k n (omega arith)

  below_rest : Below most us ws → length us ≤ length vs → Below most vs ws
  below_rest f e k n h = f k (λ i. n (omega arith)) h

module _ (most at : ℕ) (t : Tree) (us : List Tree) where
  abbrev with_one : Bool → List Tree
  with_one b = cond b us (us ++ (t ∷ []))

  was_noted : (vs : List Tree) → noted most at t us ≡ Ok vs → (vs ≡ joined us (t ∷ [])) × Below most us vs
  was_noted vs e = go (has t us) (leb most (length us)) refl e
    where
      go : (b c : Bool) → leb most (length us) ≡ c → cond b (Ok us) (cond c (Err (Limit at)) (Ok (us ++ (t ∷ [])))) ≡ Ok vs → (vs ≡ with_one b) × Below most us vs
      go true c q e = let p : us ≡ vs = cc in (sym p, subst (Below most us) p (λ k n h. absurd (n h)))
      go false true q e = absurd (cc)
      go false false q e =
          let p : us ++ (t ∷ []) ≡ vs = cc in
          let m = leb-false most (length us) q in
          (sym p, subst (Below most us) p (λ k n h. let l = length-append us (t ∷ []) in omega arith))

  is_noted : Below most us (joined us (t ∷ [])) → noted most at t us ≡ Ok (joined us (t ∷ []))
  is_noted f = go (has t us) (leb most (length us)) refl f
    where
      go : (b c : Bool) → leb most (length us) ≡ c → Below most us (with_one b) → cond b (Ok us) (cond c (Err (Limit at)) (Ok (us ++ (t ∷ [])))) ≡ Ok (with_one b)
      go true c q f = refl
      go false true q f =
          let m = leb-true most (length us) q in
          let l = length-append us (t ∷ []) in
          let k = f (length us) (λ i. absurd (omega arith)) (omega arith) in
          absurd (omega arith)
      go false false q f = refl

eight : (at : ℕ) (ts : Terms) (r : Result (List Tree) TermFault) (us : List Tree) → at_most_eight at ts r ≡ Ok us → count ts ≤ 8
eight at ts r us e = go (leb (count ts) 8) refl e
  where
    go : (b : Bool) → leb (count ts) 8 ≡ b → cond b r (Err (Limit at)) ≡ Ok us → count ts ≤ 8
    go true q e = leb-true (count ts) 8 q
    go false q e = absurd (cc)

module _ (text : List ℕ) (names : List Declared) (most : ℕ) where
  -- what reading leaves
  pub record Read (us vs own : List Tree) (parts : Type 0) : Type 0 where
    pub is : vs ≡ joined us own
    pub few : parts
    pub below : Below most us vs

  -- a whole behind its parts
  module _ (at : ℕ) (whole : Tree) (us : List Tree) (own : List Tree) where
    whole_was_read : (parts : Type 0) (vs ws : List Tree) → Read us vs own parts → noted most at whole vs ≡ Ok ws → Read us ws (own ++ (whole ∷ [])) parts
    whole_was_read parts vs ws r e =
        let n = was_noted most at whole vs ws e in
        record {
          is = n.0 ∙ ap (λ xs. joined xs (whole ∷ [])) r.is ∙ sym (joined_append us own (whole ∷ []));
          few = r.few;
          below = below_then most us vs ws r.below n.1;
        }

    module _ (f : Below most us (joined us (own ++ (whole ∷ [])))) where
      apart : Below most us (joined (joined us own) (whole ∷ []))
      apart = subst (Below most us) (joined_append us own (whole ∷ [])) f

      parts_below : Below most us (joined us own)
      parts_below = below_first most us (joined us own) (joined (joined us own) (whole ∷ [])) apart (joined_longer (joined us own) (whole ∷ []))

      whole_is_read : noted most at whole (joined us own) ≡ Ok (joined us (own ++ (whole ∷ [])))
      whole_is_read =
          is_noted most at whole (joined us own) (below_rest most us (joined us own) (joined (joined us own) (whole ∷ [])) apart (joined_longer us own))
          ∙ ap Ok (sym (joined_append us own (whole ∷ [])))

  mutual
    pub was_read : (t : Term) (us vs : List Tree) → read text names most t us ≡ Ok vs → Read us vs (read_in (tree text names t)) (AtMostEight t)
    was_read (name at p) us vs e = let n = was_noted most at (tree text names (name at p)) us vs e in record { is = n.0; few = tt; below = n.1 }
    was_read (tuple at ts) us vs e =
        let s = steps_read (at_most_eight at ts (read_all text names most ts us)) (noted most at (tree text names (tuple at ts))) vs e in
        let r = were_read ts us s.mid (few_read at ts (read_all text names most ts us) s.mid s.first) in
        whole_was_read at (tree text names (tuple at ts)) us (read_in_all (trees text names ts)) ((count ts ≤ 8) × EachAtMostEight ts) s.mid vs
        (record { is = r.is; few = (eight at ts (read_all text names most ts us) s.mid s.first, r.few); below = r.below }) s.second
    was_read (crypt at t k) us vs e =
        let s = steps_read (next (read text names most t us) (read text names most k)) (noted most at (tree text names (crypt at t k))) vs e in
        let p = steps_read (read text names most t us) (read text names most k) s.mid s.first in
        let a = was_read t us p.mid p.first in
        let b = was_read k p.mid s.mid p.second in
        whole_was_read at (tree text names (crypt at t k)) us (read_in (tree text names t) ++ (read_in (tree text names k) ++ [])) (AtMostEight t × AtMostEight k) s.mid vs
        (record {
          is =
              b.is ∙ ap (λ xs. joined xs (read_in (tree text names k))) a.is ∙ sym (joined_append us (read_in (tree text names t)) (read_in (tree text names k)))
              ∙ ap (λ xs. joined us (read_in (tree text names t) ++ xs)) (sym (append-nil (read_in (tree text names k))));
          few = (a.few, b.few);
          below = below_then most us p.mid s.mid a.below b.below;
        })
        s.second
    was_read (apply at f ts) us vs e =
        let s = steps_read (at_most_eight at ts (read_all text names most ts us)) (noted most at (tree text names (apply at f ts))) vs e in
        let r = were_read ts us s.mid (few_read at ts (read_all text names most ts us) s.mid s.first) in
        whole_was_read at (tree text names (apply at f ts)) us (read_in_all (trees text names ts)) ((count ts ≤ 8) × EachAtMostEight ts) s.mid vs
        (record { is = r.is; few = (eight at ts (read_all text names most ts us) s.mid s.first, r.few); below = r.below }) s.second

    pub were_read : (ts : Terms) (us vs : List Tree) → read_all text names most ts us ≡ Ok vs → Read us vs (read_in_all (trees text names ts)) (EachAtMostEight ts)
    were_read none us vs e = let p : us ≡ vs = cc in record { is = sym p; few = tt; below = subst (Below most us) p (λ k n h. absurd (n h)) }
    were_read (more t ts) us vs e =
        let p = steps_read (read text names most t us) (read_all text names most ts) vs e in
        let a = was_read t us p.mid p.first in
        let b = were_read ts p.mid vs p.second in
        record {
          is = b.is ∙ ap (λ xs. joined xs (read_in_all (trees text names ts))) a.is ∙ sym (joined_append us (read_in (tree text names t)) (read_in_all (trees text names ts)));
          few = (a.few, b.few);
          below = below_then most us p.mid vs a.below b.below;
        }

  -- what is read behind other terms
  module _ (us xs ys : List Tree) (f : Below most us (joined us (xs ++ ys))) where
    both_below : Below most us (joined (joined us xs) ys)
    both_below = subst (Below most us) (joined_append us xs ys) f

    first_below : Below most us (joined us xs)
    first_below = below_first most us (joined us xs) (joined (joined us xs) ys) both_below (joined_longer (joined us xs) ys)

    then_below : Below most (joined us xs) (joined (joined us xs) ys)
    then_below = below_rest most us (joined us xs) (joined (joined us xs) ys) both_below (joined_longer us xs)

  at_most : (at : ℕ) (ts : Terms) (us : List Tree) → count ts ≤ 8 → at_most_eight at ts (Ok us) ≡ Ok us
  at_most at ts us h = cond-true _ _ _ (le-leb (count ts) 8 h)

  mutual
    pub is_read : (t : Term) (us : List Tree) → AtMostEight t → Below most us (joined us (read_in (tree text names t))) → read text names most t us ≡ Ok (joined us (read_in (tree text names t)))
    is_read (name at p) us h f = is_noted most at (tree text names (name at p)) us f
    is_read (tuple at ts) us h f =
        let own = read_in_all (trees text names ts) in
        let w = tree text names (tuple at ts) in
        ap (λ o. next (at_most_eight at ts o) (noted most at w)) (are_read ts us h.1 (parts_below at w us own f))
        ∙ ap (λ o. next o (noted most at w)) (at_most at ts (joined us own) h.0) ∙ whole_is_read at w us own f
    is_read (crypt at t k) us h f =
        let x = read_in (tree text names t) in
        let y = read_in (tree text names k) in
        let w = tree text names (crypt at t k) in
        let g = parts_below at w us (x ++ (y ++ [])) f in
        let g' = subst (λ ys. Below most us (joined us (x ++ ys))) (append-nil y) g in
        let a = is_read t us h.0 (first_below us x y g') in
        let b = is_read k (joined us x) h.1 (then_below us x y g') in
        ap (λ o. next (next o (read text names most k)) (noted most at w)) a ∙ ap (λ o. next o (noted most at w)) b
        ∙ ap (noted most at w) (sym (joined_append us x y) ∙ ap (λ ys. joined us (x ++ ys)) (sym (append-nil y))) ∙ whole_is_read at w us (x ++ (y ++ [])) f
    is_read (apply at g ts) us h f =
        let own = read_in_all (trees text names ts) in
        let w = tree text names (apply at g ts) in
        ap (λ o. next (at_most_eight at ts o) (noted most at w)) (are_read ts us h.1 (parts_below at w us own f))
        ∙ ap (λ o. next o (noted most at w)) (at_most at ts (joined us own) h.0) ∙ whole_is_read at w us own f

    pub are_read : (ts : Terms) (us : List Tree) → EachAtMostEight ts → Below most us (joined us (read_in_all (trees text names ts)))
        → read_all text names most ts us ≡ Ok (joined us (read_in_all (trees text names ts)))
    are_read none us h f = refl
    are_read (more t ts) us h f =
        let x = read_in (tree text names t) in
        let ys = read_in_all (trees text names ts) in
        ap (λ o. next o (read_all text names most ts)) (is_read t us h.0 (first_below us x ys f)) ∙ are_read ts (joined us x) h.1 (then_below us x ys f) ∙ ap Ok (sym (joined_append us x ys))
