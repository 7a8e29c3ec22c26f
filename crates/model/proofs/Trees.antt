-- The tests of equality decide it; parts within parts.
use Rattle.std.proofs.Common.{◌≡◌, ◌+◌, T, refl, ap, subst, ap₂, eqb→eq}
use lib.Dec.{eqb_refl}
use Rattle.model.specs.Trees.{Head, tupled, crypted, applied, Tree, leaf, node, Trees, none, more, eq_head, eq_tree, eq_trees, ◌among◌, Within, itself, inside, map_trees}
use Rattle.model.specs.Roles.{count}
use Rattle.model.proofs.Tests.{and_both, and_left, and_right}

eq_head_is : (g h : Head) → T (eq_head g h) → g ≡ h
eq_head_is tupled tupled e = refl
eq_head_is tupled crypted e = elim e [ ]
eq_head_is tupled (applied g) e = elim e [ ]
eq_head_is crypted tupled e = elim e [ ]
eq_head_is crypted crypted e = refl
eq_head_is crypted (applied g) e = elim e [ ]
eq_head_is (applied f) tupled e = elim e [ ]
eq_head_is (applied f) crypted e = elim e [ ]
eq_head_is (applied f) (applied g) e = ap applied (eqb→eq f g e)

eq_head_refl : (h : Head) → T (eq_head h h)
eq_head_refl tupled = tt
eq_head_refl crypted = tt
eq_head_refl (applied f) = eqb_refl f

mutual
  pub eq_tree_is : (t u : Tree) → T (eq_tree t u) → t ≡ u
  eq_tree_is (leaf m) (leaf n) e = ap leaf (eqb→eq m n e)
  eq_tree_is (leaf m) (node h us) e = elim e [ ]
  eq_tree_is (node g ts) (leaf n) e = elim e [ ]
  eq_tree_is (node g ts) (node h us) e =
      ap₂ node (eq_head_is g h (and_left (eq_head g h) (eq_trees ts us) e)) (eq_trees_is ts us (and_right (eq_head g h) (eq_trees ts us) e))

  pub eq_trees_is : (ts us : Trees) → T (eq_trees ts us) → ts ≡ us
  eq_trees_is none none e = refl
  eq_trees_is none (more u us) e = elim e [ ]
  eq_trees_is (more t ts) none e = elim e [ ]
  eq_trees_is (more t ts) (more u us) e =
      ap₂ more (eq_tree_is t u (and_left (eq_tree t u) (eq_trees ts us) e)) (eq_trees_is ts us (and_right (eq_tree t u) (eq_trees ts us) e))

mutual
  eq_tree_refl : (t : Tree) → T (eq_tree t t)
  eq_tree_refl (leaf n) = eqb_refl n
  eq_tree_refl (node h ts) = and_both (eq_head h h) (eq_trees ts ts) (eq_head_refl h) (eq_trees_refl ts)

  eq_trees_refl : (ts : Trees) → T (eq_trees ts ts)
  eq_trees_refl none = tt
  eq_trees_refl (more t ts) = and_both (eq_tree t t) (eq_trees ts ts) (eq_tree_refl t) (eq_trees_refl ts)

pub is_eq_tree : (t u : Tree) → t ≡ u → T (eq_tree t u)
is_eq_tree t u p = subst (λ v. T (eq_tree t v)) p (eq_tree_refl t)

pub count_map : (R : Tree → Tree) (ts : Trees) → count (map_trees R ts) ≡ count ts
count_map R none = refl
count_map R (more t ts) = ap (λ n. 1 + n) (count_map R ts)

pub within_trans : {a b c : Tree} → Within a b → Within b c → Within a c
within_trans w itself = w
within_trans w (inside i x) = inside i (within_trans w x)

pub within_part : (h : Head) (ts : Trees) (t : Tree) → Within (node h ts) t → (u : Tree) → u among ts → Within u t
within_part h ts t w u i = within_trans (inside i itself) w
