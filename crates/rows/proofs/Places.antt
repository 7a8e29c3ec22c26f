-- The place of a value among some values.
use Rattle.std.proofs.Common.{◌≡◌, ℕ, zero, suc, ◌<◌, ◌≤◌, Bool, true, false, T, if◌then◌else◌, List, [], ◌∷◌, ◌++◌, length, get_or, refl, sym, ap, arith}
use Rattle.model.specs.Trees.{Tree, leaf, eq_tree}
use Rattle.model.proofs.Trees.{eq_tree_is, is_eq_tree}
use Rattle.rows.specs.Classes.{place_of}

pub place_bound : (v : Tree) (ws : List Tree) → place_of v ws ≤ length ws
place_bound v [] = omega arith
place_bound v (w ∷ ws) = go (eq_tree v w) (place_bound v ws)
  where
    go : (b : Bool) → place_of v ws ≤ length ws → (if b then 0 else suc (place_of v ws)) ≤ suc (length ws)
    go true h = omega arith
    go false h = omega arith

-- there it stands
pub place_is : (v : Tree) (ws : List Tree) → place_of v ws < length ws → get_or ws (place_of v ws) (leaf 0) ≡ v
place_is v [] h = absurd (omega arith)
place_is v (w ∷ ws) h = go (eq_tree v w) (eq_tree_is v w) h (place_is v ws)
  where
    go : (b : Bool) → (T b → v ≡ w) → (if b then 0 else suc (place_of v ws)) < suc (length ws) → (place_of v ws < length ws → get_or ws (place_of v ws) (leaf 0) ≡ v)
        → get_or (w ∷ ws) (if b then 0 else suc (place_of v ws)) (leaf 0) ≡ v
    go true i h f = sym (i tt)
    go false i h f = f (omega arith)

-- and nowhere before
pub place_least : (v : Tree) (ws : List Tree) (k : ℕ) → k < length ws → get_or ws k (leaf 0) ≡ v → place_of v ws ≤ k
place_least v [] k h e = absurd (omega arith)
place_least v (w ∷ ws) zero h e = go (eq_tree v w) (is_eq_tree v w (sym e))
  where
    go : (b : Bool) → T b → (if b then 0 else suc (place_of v ws)) ≤ 0
    go true t = omega arith
    go false t = elim t [ ]
place_least v (w ∷ ws) (suc k) h e = go (eq_tree v w) (place_least v ws k (omega arith) e)
  where
    go : (b : Bool) → place_of v ws ≤ k → (if b then 0 else suc (place_of v ws)) ≤ suc k
    go true l = omega arith
    go false l = omega arith

-- more values at the end leave the place of one that is there
pub place_more : (v : Tree) (ws us : List Tree) → place_of v ws < length ws → place_of v (ws ++ us) ≡ place_of v ws
place_more v [] us h = absurd (omega arith)
place_more v (w ∷ ws) us h = go (eq_tree v w) h (place_more v ws us)
  where
    go : (b : Bool) → (if b then 0 else suc (place_of v ws)) < suc (length ws) → (place_of v ws < length ws → place_of v (ws ++ us) ≡ place_of v ws)
        → (if b then 0 else suc (place_of v (ws ++ us))) ≡ (if b then 0 else suc (place_of v ws))
    go true h f = refl
    go false h f = ap suc (f (omega arith))

-- one that is not there has its place at the end
pub place_new : (v : Tree) (ws : List Tree) → place_of v (ws ++ v ∷ []) ≡ place_of v ws
place_new v [] = go (eq_tree v v) (is_eq_tree v v refl)
  where
    go : (b : Bool) → T b → ◌≡◌ {A = ℕ} (if b then 0 else 1) 0
    go true t = refl
    go false t = elim t [ ]
place_new v (w ∷ ws) = ap (λ n. if eq_tree v w then 0 else suc n) (place_new v ws)
