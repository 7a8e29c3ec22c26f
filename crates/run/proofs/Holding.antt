-- Registers and the values that their handles stand for.
use Rattle.std.proofs.Common.{◌≡◌, ℕ, suc, ◌+◌, ◌<◌, true, false, cond, eqb, Some, None, Option, List, [], ◌∷◌, length, map, set, sym, refl, ap, ap₂, ◌∙◌, subst, arith, eq-eqb, ne_eqb, ◌⊎◌, inl, inr}
use Rattle.std.proofs.Math.Option as model
use Rattle.std.proofs.lemmas.Bool.{both_ways, cases_eq, or_parts, or_right}
use Rattle.std.proofs.lemmas.List.{get_or-set_same, get_or-set_other, length-set}
use mathlib.Core.Path.{subst⁻¹}
use Rattle.model.specs.Trees.{Tree, Trees, none, more}
use Rattle.model.specs.Roles.{count}
use Rattle.model.specs.Runs.{Memory, set as put, puts, reads, and_more}
use Rattle.program.specs.Held.{from, has}
use Rattle.program.proofs.CheckLaw.{has_first}
use Rattle.store.specs.Makers.{with_more, gathered}
use Rattle.run.specs.Shown.{Meaning, Small, as_option, vacant, register, StandsFor, StandFor, Holds, Kept}
use Rattle.run.specs.Actions.{Filled, no_more, one_more}

no_value : (m : Meaning) → Small m → (o : Option Tree) → m vacant ≡ o → o ≡ None
no_value m small None e = refl
no_value m small (Some v) e = absurd (let l = small vacant v e in omega arith)

-- the value of a handle that stands for something
pub stands_for : (m : Meaning) → Small m → (h : ℕ) (o : model.Option Tree) → StandsFor m h o → o ≡ as_option (m h)
stands_for m small h model.none e = sym (ap as_option (ap m e ∙ no_value m small (m vacant) refl))
stands_for m small h (model.some v) e = sym (ap as_option e)

pub held : (m : Meaning) → Small m → (cells : List ℕ) (memory : Memory) → Holds m cells memory → (r : ℕ) → memory r ≡ as_option (m (register cells r))
held m small cells memory holds r = stands_for m small (register cells r) (memory r) (holds r)

and_with : (o : Option Tree) (vs : Option Trees) → and_more (as_option o) (as_option vs) ≡ as_option (with_more o vs)
and_with None vs = refl
and_with (Some v) None = refl
and_with (Some v) (Some vs) = refl

pub read_all : (m : Meaning) → Small m → (cells : List ℕ) (memory : Memory) → Holds m cells memory → (rs : List ℕ) → reads memory rs ≡ as_option (gathered m (map (λ r. register cells r) rs))
unfolding gathered
read_all m small cells memory holds [] = refl
read_all m small cells memory holds (r ∷ rs) =
    ap₂ and_more (held m small cells memory holds r) (read_all m small cells memory holds rs)
    ∙ and_with (m (register cells r)) (gathered m (map (λ r. register cells r) rs))

-- a store that keeps its handles
stays_for : (m m' : Meaning) → Kept m m' → (h : ℕ) (o : model.Option Tree) → StandsFor m h o → StandsFor m' h o
stays_for m m' kept h model.none e = e
stays_for m m' kept h (model.some v) e = kept h v e

pub holds_still : (m m' : Meaning) → Kept m m' → (cells : List ℕ) (memory : Memory) → Holds m cells memory → Holds m' cells memory
holds_still m m' kept cells memory holds r = stays_for m m' kept (register cells r) (memory r) (holds r)

pub stand_still : (m m' : Meaning) → Kept m m' → (hs : List ℕ) (vs : List Tree) → StandFor m hs vs → StandFor m' hs vs
stand_still m m' kept [] [] e = tt
stand_still m m' kept [] (v ∷ vs) e = absurd e
stand_still m m' kept (h ∷ hs) [] e = absurd e
stand_still m m' kept (h ∷ hs) (v ∷ vs) e = (kept h v e.0, stand_still m m' kept hs vs e.1)

-- one register filled
pub holds_set : (m : Meaning) (cells : List ℕ) (memory : Memory) (r h : ℕ) (v : Tree) → r < length cells → m h ≡ Some v → Holds m cells memory → Holds m (set cells r h) (put memory r v)
holds_set m cells memory r h v l e holds q = go (cases_eq r q)
  where
    go : (r ≡ q) ⊎ (r ≡ q → ⊥) → StandsFor m (register (set cells r h) q) (cond (eqb r q) (model.some v) (memory q))
    go (inl p) =
        subst⁻¹ (λ b. StandsFor m (register (set cells r h) q) (cond b (model.some v) (memory q))) (eq-eqb r q p)
        (ap m (ap (λ x. register (set cells r h) x) (sym p) ∙ get_or-set_same cells r h vacant l) ∙ e)
    go (inr n) =
        subst⁻¹ (λ b. StandsFor m (register (set cells r h) q) (cond b (model.some v) (memory q))) (ne_eqb r q n)
        (subst⁻¹ (λ x. StandsFor m x (memory q)) (get_or-set_other cells r q h vacant (λ p. n (sym p))) (holds q))

-- registers that are not filled stay
pub other_set : (cells : List ℕ) (t h q : ℕ) → has q (t ∷ []) ≡ false → register (set cells t h) q ≡ register cells q
other_set cells t h q e = get_or-set_other cells t q h vacant (λ p. both_ways (eqb q t) (or_parts (eqb q t) false e).0 (eq-eqb q t p))

module _ (m : Meaning) where
  pub room_after : (cells : List ℕ) (r h n : ℕ) → ((q : ℕ) → has q (from r (suc n)) ≡ true → q < length cells) → (q : ℕ) → has q (from (suc r) n) ≡ true → q < length (set cells r h)
  room_after cells r h n room q e = let l = room q (or_right (eqb q r) (has q (from (suc r) n)) e) in subst⁻¹ (λ n. q < n) (length-set cells r h) l

  pub filled_holds : (cells cells' : List ℕ) (memory : Memory) (r : ℕ) (vs : Trees) → ((q : ℕ) → has q (from r (count vs)) ≡ true → q < length cells) → Filled m cells r vs cells'
      → Holds m cells memory → Holds m cells' (puts memory r vs)
  filled_holds cells cells' memory r none room no_more holds = holds
  filled_holds cells cells' memory r (more v vs) room (one_more h e f) holds =
      let n : 1 + count vs ≡ suc (count vs) = omega arith in
      let all = subst (λ n. (q : ℕ) → has q (from r n) ≡ true → q < length cells) n room in
      let x : r + 1 ≡ suc r = omega arith in
      subst⁻¹ (λ k. Holds m cells' (puts (put memory r v) k vs)) x
      (filled_holds (set cells r h) cells' (put memory r v) (suc r) vs (room_after cells r h (count vs) all) f
      (holds_set m cells memory r h v (all r (has_first r (from (suc r) (count vs)))) e holds))

  pub filled_size : (cells cells' : List ℕ) (r : ℕ) (vs : Trees) → Filled m cells r vs cells' → length cells' ≡ length cells
  filled_size cells cells' r none no_more = refl
  filled_size cells cells' r (more v vs) (one_more h e f) = filled_size (set cells r h) cells' (suc r) vs f ∙ length-set cells r h

  pub filled_other : (cells cells' : List ℕ) (r : ℕ) (vs : Trees) → Filled m cells r vs cells' → (q : ℕ) → has q (from r (count vs)) ≡ false → register cells' q ≡ register cells q
  filled_other cells cells' r none no_more q e = refl
  filled_other cells cells' r (more v vs) (one_more h x f) q e =
      let n : 1 + count vs ≡ suc (count vs) = omega arith in
      let parts = or_parts (eqb q r) (has q (from (suc r) (count vs))) (subst (λ n. has q (from r n) ≡ false) n e) in
      filled_other (set cells r h) cells' (suc r) vs f q parts.1
      ∙ get_or-set_other cells r q h vacant (λ p. both_ways (eqb q r) parts.0 (eq-eqb q r p))
