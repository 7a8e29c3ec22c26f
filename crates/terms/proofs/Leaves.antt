-- The terms that reading a term adds, and the names among them.
use Rattle.std.proofs.Common.{◌≡◌, ℕ, Bool, true, false, cond, ◌||◌, T, leb, List, [], ◌∷◌, ◌++◌, length, Ok, Err, Result, sym, refl, ap, ◌∙◌, ◌⊎◌, ⊎_elim, subst, inl, inr}
use Rattle.std.proofs.Math.Bool.{or_assoc, or-false, or-true}
use Rattle.std.proofs.lemmas.Bool.{or_parts}
use Rattle.std.proofs.lemmas.List.{append-nil, append_assoc}
use Rattle.model.specs.Lists.{Every}
use Rattle.model.specs.Trees as model
use Rattle.model.specs.Trees.{Head, tupled, crypted, applied, Tree, Trees, leaf, node, eq_tree, ◌among◌, Within, itself, inside, Formed, FormedAll}
use Rattle.model.specs.Specifications.{stands, stands_in_one}
use Rattle.model.proofs.Lists.{every_join, every_map}
use Rattle.model.proofs.Trees.{eq_tree_is, is_eq_tree}
use Rattle.syntax.specs.Specs.{Term, name, tuple, crypt, apply, Terms, none, more}
use Rattle.terms.specs.declared.declarations.Declared.{Declared}
use Rattle.terms.specs.declared.fault.TermFault.{TermFault}
use Rattle.terms.specs.declared.fault.TermFault.TheVariants.{Limit}
use Rattle.terms.specs.Scope.{meaning_of}
use Rattle.terms.specs.Numbering.{tree, trees, has, noted, next, at_most_eight, read, read_all, function_number}
use Rattle.terms.proofs.Steps.{steps_read, few_read}

pub has_append : (u : Tree) (us vs : List Tree) → has u (us ++ vs) ≡ (has u us || has u vs)
has_append u [] vs = refl
has_append u (v ∷ us) vs = ap (λ b. eq_tree u v || b) (has_append u us vs) ∙ sym (or_assoc (eq_tree u v) (has u us) (has u vs))

-- a list with new terms at its end: what each of them is, and which names are in it that were not
pub record More (P : Tree → Type 0) (q : ℕ → Bool) (us vs : List Tree) : Type 0 where
  pub new : List Tree
  pub is : vs ≡ us ++ new
  pub each : Every P new
  pub fresh : Every (λ u. has u us ≡ false) new
  pub names : (n : ℕ) → has (leaf n) vs ≡ (has (leaf n) us || q n)

module _ (P : Tree → Type 0) where
  more_none : (us : List Tree) → More P (λ n. false) us us
  more_none us = record { new = []; is = sym (append-nil us); each = tt; fresh = tt; names = λ n. sym (or-false (has (leaf n) us)) }

  more_then : (q q' : ℕ → Bool) (us vs ws : List Tree) → More P q us vs → More P q' vs ws → More P (λ n. q n || q' n) us ws
  more_then q q' us vs ws m k = record {
    new = m.new ++ k.new;
    is = k.is ∙ ap (λ l. l ++ k.new) m.is ∙ append_assoc us m.new k.new;
    each = every_join P m.new k.new m.each k.each;
    fresh = every_join (λ u. has u us ≡ false) m.new k.new m.fresh
        (every_map (λ u. has u vs ≡ false) (λ u. has u us ≡ false) (λ u e. (or_parts (has u us) (has u m.new) (sym (has_append u us m.new) ∙ sym (ap (has u) m.is) ∙ e)).0) k.new k.fresh);
    names = λ n. k.names n ∙ ap (λ b. b || q' n) (m.names n) ∙ or_assoc (has (leaf n) us) (q n) (q' n);
  }

  more_as : (P' : Tree → Type 0) (q q' : ℕ → Bool) (us vs : List Tree) → ((u : Tree) → P u → P' u) → ((n : ℕ) → q n ≡ q' n) → More P q us vs → More P' q' us vs
  more_as P' q q' us vs f g m = record {
    new = m.new;
    is = m.is;
    each = every_map P P' f m.new m.each;
    fresh = m.fresh;
    names = λ n. m.names n ∙ ap (λ b. has (leaf n) us || b) (g n);
  }

-- one term
pub has_old : (t : Tree) (us : List Tree) → has t us ≡ true → (u : Tree) → (has u us || eq_tree u t) ≡ has u us
has_old t us e u = go (eq_tree u t) (eq_tree_is u t)
  where
    go : (b : Bool) → (T b → u ≡ t) → (has u us || b) ≡ has u us
    go false f = or-false (has u us)
    go true f = or-true (has u us) ∙ sym (ap (λ z. has z us) (f tt) ∙ e)

-- it was there, and nothing changed; or it was not, and is the last
pub noted_either : (most at : ℕ) (t : Tree) (us vs : List Tree) → noted most at t us ≡ Ok vs → ((has t us ≡ true) × (vs ≡ us)) ⊎ ((has t us ≡ false) × (vs ≡ us ++ (t ∷ [])))
noted_either most at t us vs e = go (has t us) (leb most (length us)) refl e
  where
    go : (b c : Bool) → has t us ≡ b → cond b (Ok us) (cond c (Err (Limit at)) (Ok (us ++ (t ∷ [])))) ≡ Ok vs → ((has t us ≡ true) × (vs ≡ us)) ⊎ ((has t us ≡ false) × (vs ≡ us ++ (t ∷ [])))
    go true c h e = inl (h, cc)
    go false true h e = absurd (cc)
    go false false h e = inr (h, cc)

pub noted_more : (most at : ℕ) (t : Tree) (us vs : List Tree) → noted most at t us ≡ Ok vs → More (λ u. u ≡ t) (λ n. eq_tree (leaf n) t) us vs
noted_more most at t us vs e = ⊎_elim old pushed (noted_either most at t us vs e)
  where
    old : (has t us ≡ true) × (vs ≡ us) → More (λ u. u ≡ t) (λ n. eq_tree (leaf n) t) us vs
    old h = record { new = []; is = h.1 ∙ sym (append-nil us); each = tt; fresh = tt; names = λ n. ap (has (leaf n)) h.1 ∙ sym (has_old t us h.0 (leaf n)) }

    pushed : (has t us ≡ false) × (vs ≡ us ++ (t ∷ [])) → More (λ u. u ≡ t) (λ n. eq_tree (leaf n) t) us vs
    pushed h = record {
      new = t ∷ [];
      is = h.1;
      each = (refl, tt);
      fresh = (h.0, tt);
      names = λ n. ap (has (leaf n)) h.1 ∙ has_append (leaf n) us (t ∷ []) ∙ ap (λ b. has (leaf n) us || b) (or-false (eq_tree (leaf n) t));
    }

eq_self : (t : Tree) → eq_tree t t ≡ true
eq_self t = go (eq_tree t t) (is_eq_tree t t refl)
  where
    go : (b : Bool) → T b → b ≡ true
    go true h = refl
    go false h = absurd h

noted_there : (most at : ℕ) (t : Tree) (us vs : List Tree) → noted most at t us ≡ Ok vs → has t vs ≡ true
noted_there most at t us vs e =
    ⊎_elim (λ h. ap (has t) h.1 ∙ h.0)
    (λ h. ap (has t) h.1 ∙ has_append t us (t ∷ []) ∙ ap (λ b. has t us || (b || false)) (eq_self t) ∙ or-true (has t us)) (noted_either most at t us vs e)

-- within a tree, and within one of some trees
abbrev InTree : Tree → Tree → Type 0
InTree t u = Within u t

abbrev InOne : Trees → Tree → Type 0
InOne ts u = (t : Tree) × (t among ts) × Within u t

-- parts, and then the whole
whole_more : (h : Head) (ts : Trees) (most at : ℕ) (us : List Tree) (r : Result (List Tree) TermFault) → ((ws : List Tree) → r ≡ Ok ws → More (InOne ts) (λ n. stands_in_one n ts) us ws)
    → (vs : List Tree) → next r (noted most at (node h ts)) ≡ Ok vs → More (InTree (node h ts)) (λ n. stands n (node h ts)) us vs
whole_more h ts most at us r f vs e =
    let s = steps_read r (noted most at (node h ts)) vs e in
    more_as (InTree (node h ts)) (InTree (node h ts)) (λ n. stands_in_one n ts || false) (λ n. stands n (node h ts)) us vs (λ u w. w) (λ n. or-false (stands_in_one n ts))
    (more_then (InTree (node h ts)) (λ n. stands_in_one n ts) (λ n. false) us s.mid vs
    (more_as (InOne ts) (InTree (node h ts)) (λ n. stands_in_one n ts) (λ n. stands_in_one n ts) us s.mid (λ u w. inside w.1 w.2) (λ n. refl) (f s.mid s.first))
    (more_as (λ u. u ≡ node h ts) (InTree (node h ts)) (λ n. false) (λ n. false) s.mid vs (λ u p. subst (λ z. Within u z) p itself) (λ n. refl) (noted_more most at (node h ts) s.mid vs s.second)))

-- one part, and the others
part_more : (t : Tree) (ts : Trees) (us ws vs : List Tree) → More (InTree t) (λ n. stands n t) us ws → More (InOne ts) (λ n. stands_in_one n ts) ws vs → More (InOne (model.more t ts)) (λ n. stands_in_one n (model.more t ts)) us vs
part_more t ts us ws vs m k =
    more_then (InOne (model.more t ts)) (λ n. stands n t) (λ n. stands_in_one n ts) us ws vs
    (more_as (InTree t) (InOne (model.more t ts)) (λ n. stands n t) (λ n. stands n t) us ws (λ u w. (t, inl refl, w)) (λ n. refl) m)
    (more_as (InOne ts) (InOne (model.more t ts)) (λ n. stands_in_one n ts) (λ n. stands_in_one n ts) ws vs (λ u w. (w.0, inr w.1, w.2)) (λ n. refl) k)

-- text and key
two_more : (t k : Tree) (us ws vs : List Tree) → More (InTree t) (λ n. stands n t) us ws → More (InTree k) (λ n. stands n k) ws vs
    → More (InOne (model.more t (model.more k model.none))) (λ n. stands_in_one n (model.more t (model.more k model.none))) us vs
two_more t k us ws vs m l = part_more t (model.more k model.none) us ws vs m (part_more k model.none ws vs vs l (more_none (InOne model.none) vs))

module _ (text : List ℕ) (names : List Declared) (most : ℕ) where
  mutual
    -- reading adds parts of the term, and names are there exactly if they were or stand in it
    pub read_more : (t : Term) (us vs : List Tree) → read text names most t us ≡ Ok vs → More (λ u. Within u (tree text names t)) (λ n. stands n (tree text names t)) us vs
    read_more (name at p) us vs e =
        let t = tree text names (name at p) in
        more_as (λ u. u ≡ t) (InTree t) (λ n. eq_tree (leaf n) t) (λ n. stands n t) us vs (λ u p. subst (λ z. Within u z) p itself) (λ n. refl) (noted_more most at t us vs e)
    read_more (tuple at ts) us vs e = whole_more tupled (trees text names ts) most at us (at_most_eight at ts (read_all text names most ts us)) (λ ws w. read_all_more ts us ws (few_read at ts (read_all text names most ts us) ws w)) vs e
    read_more (crypt at t k) us vs e =
        whole_more crypted (model.more (tree text names t) (model.more (tree text names k) model.none)) most at us (next (read text names most t us) (read text names most k))
        (λ ws w. let s = steps_read (read text names most t us) (read text names most k) ws w in two_more (tree text names t) (tree text names k) us s.mid ws (read_more t us s.mid s.first) (read_more k s.mid ws s.second))
        vs e
    read_more (apply at f ts) us vs e =
        whole_more (applied (function_number (meaning_of text names f.part))) (trees text names ts) most at us (at_most_eight at ts (read_all text names most ts us)) (λ ws w. read_all_more ts us ws (few_read at ts (read_all text names most ts us) ws w)) vs e

    pub read_all_more : (ts : Terms) (us vs : List Tree) → read_all text names most ts us ≡ Ok vs → More (InOne (trees text names ts)) (λ n. stands_in_one n (trees text names ts)) us vs
    read_all_more none us vs e = subst (More (InOne model.none) (λ n. false) us) (let x : us ≡ vs = cc in x) (more_none (InOne model.none) us)
    read_all_more (more t ts) us vs e =
        let s = steps_read (read text names most t us) (read_all text names most ts) vs e in
        part_more (tree text names t) (trees text names ts) us s.mid vs (read_more t us s.mid s.first) (read_all_more ts s.mid vs s.second)

  whole_there : (r : Result (List Tree) TermFault) (at : ℕ) (t : Tree) (vs : List Tree) → next r (noted most at t) ≡ Ok vs → has t vs ≡ true
  whole_there r at t vs e = let s = steps_read r (noted most at t) vs e in noted_there most at t s.mid vs s.second

  -- and the term itself is there
  pub read_there : (t : Term) (us vs : List Tree) → read text names most t us ≡ Ok vs → has (tree text names t) vs ≡ true
  read_there (name at p) us vs e = noted_there most at (tree text names (name at p)) us vs e
  read_there (tuple at ts) us vs e = whole_there (at_most_eight at ts (read_all text names most ts us)) at (tree text names (tuple at ts)) vs e
  read_there (crypt at t k) us vs e = whole_there (next (read text names most t us) (read text names most k)) at (tree text names (crypt at t k)) vs e
  read_there (apply at f ts) us vs e = whole_there (at_most_eight at ts (read_all text names most ts us)) at (tree text names (apply at f ts)) vs e

-- ciphertexts have a text and a key
module _ (text : List ℕ) (names : List Declared) where
  mutual
    pub tree_formed : (t : Term) → Formed (tree text names t)
    tree_formed (name at p) = tt
    tree_formed (tuple at ts) = (tt, trees_formed ts)
    tree_formed (crypt at t k) = (tt, (tree_formed t, (tree_formed k, tt)))
    tree_formed (apply at f ts) = (tt, trees_formed ts)

    trees_formed : (ts : Terms) → FormedAll (trees text names ts)
    trees_formed none = tt
    trees_formed (more t ts) = (tree_formed t, trees_formed ts)
