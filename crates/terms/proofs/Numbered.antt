-- The tree of a number is made of the trees of its parts, and different numbers stand for different trees.
use Rattle.std.proofs.Common.{◌≡◌, ℕ, zero, suc, ◌<◌, ◌≤◌, List, [], ◌∷◌, ◌++◌, length, get_or, take, sym, refl, ap, ◌∙◌, ap₂, arith}
use mathlib.Core.Path.{subst⁻¹}
use Rattle.model.specs.Trees.{Tree, node, more}
use Rattle.terms.specs.Shapes.{Shape, named, formed, trees, grown, tree_within, tree_of, AllBelow, numbers}

pub trees_same : (f g : ℕ → Tree) (k : ℕ) (ps : List ℕ) → AllBelow k ps → ((p : ℕ) → p < k → f p ≡ g p) → trees f ps ≡ trees g ps
trees_same f g k [] b e = refl
trees_same f g k (p ∷ ps) b e = ap₂ more (e p b.0) (trees_same f g k ps b.1 e)

pub grown_same : (f g : ℕ → Tree) (k : ℕ) (s : Shape) → AllBelow k (numbers s) → ((p : ℕ) → p < k → f p ≡ g p) → grown f s ≡ grown g s
grown_same f g k (named n) b e = refl
grown_same f g k (formed h ps) b e = ap (node h) (trees_same f g k ps b e)

same_numbers : (f : ℕ → Tree) (i j : ℕ) → ((p q : ℕ) → p < i → q < j → f p ≡ f q → p ≡ q) → (ps qs : List ℕ) → AllBelow i ps → AllBelow j qs → trees f ps ≡ trees f qs → ps ≡ qs
same_numbers f i j one [] [] a b e = refl
same_numbers f i j one [] (q ∷ qs) a b e = absurd (cc)
same_numbers f i j one (p ∷ ps) [] a b e = absurd (cc)
same_numbers f i j one (p ∷ ps) (q ∷ qs) a b e = ap₂ (λ (x : ℕ) (xs : List ℕ). x ∷ xs) (one p q a.0 b.0 (cc)) (same_numbers f i j one ps qs a.1 b.1 (cc))

pub same_shape : (f : ℕ → Tree) (i j : ℕ) → ((p q : ℕ) → p < i → q < j → f p ≡ f q → p ≡ q) → (s t : Shape) → AllBelow i (numbers s) → AllBelow j (numbers t) → grown f s ≡ grown f t → s ≡ t
same_shape f i j one (named m) (named n) a b e = cc
same_shape f i j one (named m) (formed h qs) a b e = absurd (cc)
same_shape f i j one (formed g ps) (named n) a b e = absurd (cc)
same_shape f i j one (formed g ps) (formed h qs) a b e = ap₂ formed (cc) (same_numbers f i j one ps qs a b (cc))

module _ (ss : List Shape) (ordered : (k : ℕ) → k < length ss → AllBelow k (numbers (get_or ss k (named 0)))) where
  within_same : (d e k : ℕ) → k < length ss → k < d → k < e → tree_within d ss k ≡ tree_within e ss k
  unfolding tree_within
  within_same zero e k m h l = absurd (omega arith)
  within_same (suc d) zero k m h l = absurd (omega arith)
  within_same (suc d) (suc e) k m h l =
      grown_same (tree_within d ss) (tree_within e ss) k (get_or ss k (named 0)) (ordered k m) (λ p q. within_same d e p (omega arith) (omega arith) (omega arith))

  pub tree_grown : (k : ℕ) → k < length ss → tree_of ss k ≡ grown (tree_of ss) (get_or ss k (named 0))
  unfolding tree_of tree_within
  tree_grown k m =
      grown_same (tree_within k ss) (tree_of ss) k (get_or ss k (named 0)) (ordered k m) (λ p q. within_same k (suc p) p (omega arith) q (omega arith))

  module _ (distinct : (i j : ℕ) → (i < length ss) × (j < length ss) → get_or ss i (named 0) ≡ get_or ss j (named 0) → i ≡ j) where
    one_within : (d i j : ℕ) → i < d → i < length ss → j < length ss → tree_of ss i ≡ tree_of ss j → i ≡ j
    one_within zero i j h l m e = absurd (omega arith)
    one_within (suc d) i j h l m e =
        distinct i j (l, m)
        (same_shape (tree_of ss) i j (λ p q a b. one_within d p q (omega arith) (omega arith) (omega arith)) _ _ (ordered i l) (ordered j m) (sym (tree_grown i l) ∙ e ∙ tree_grown j m))

    pub one_number : (i j : ℕ) → i < length ss → j < length ss → tree_of ss i ≡ tree_of ss j → i ≡ j
    one_number i j = one_within (suc i) i j (omega arith)

-- a longer list leaves the trees of the numbers that were there
pub agree : (ss us : List Shape) (n : ℕ) → ((k : ℕ) → k < n → get_or ss k (named 0) ≡ get_or us k (named 0)) → ((k : ℕ) → k < n → AllBelow k (numbers (get_or ss k (named 0))))
    → (d k : ℕ) → k < n → tree_within d ss k ≡ tree_within d us k
unfolding tree_within
agree ss us n e o zero k h = refl
agree ss us n e o (suc d) k h =
    grown_same (tree_within d ss) (tree_within d us) k (get_or ss k (named 0)) (o k h) (λ p q. agree ss us n e o d p (omega arith)) ∙ ap (grown (tree_within d us)) (e k h)

-- numbers below a bound stay below a larger one, and so do the first of them, with one more
pub weaker : (k n : ℕ) (ks : List ℕ) → k ≤ n → AllBelow k ks → AllBelow n ks
weaker k n [] l b = tt
weaker k n (x ∷ ks) l b = (omega (arith, b.0), weaker k n ks l b.1)

pub below_push : (n : ℕ) (ks : List ℕ) (x : ℕ) → AllBelow n ks → x < n → AllBelow n (ks ++ x ∷ [])
below_push n [] x b h = (h, tt)
below_push n (k ∷ ks) x b h = (b.0, below_push n ks x b.1 h)

below_take : (n i : ℕ) (ks : List ℕ) → AllBelow n ks → AllBelow n (take i ks)
below_take n zero ks b = tt
below_take n (suc i) [] b = tt
below_take n (suc i) (k ∷ ks) b = (b.0, below_take n i ks b.1)

pub below_more_parts : (k n : ℕ) (ks js : List ℕ) (x : ℕ) → k ≤ n → AllBelow k ks → x < n → js ≡ take 8 (ks ++ x ∷ []) → AllBelow n js
below_more_parts k n ks js x l b h e = subst⁻¹ (AllBelow n) e (below_take n 8 (ks ++ x ∷ []) (below_push n ks x (weaker k n ks l b) h))
