-- Sheets: which term each register is for, as the actions of a program fill them.
use Rattle.std.proofs.Common.{◌≡◌, ℕ, ◌+◌, Bool, true, false, cond, T, eqb, List, [], ◌∷◌, ◌++◌, sym, refl, subst, append_assoc}
use mathlib.Core.Option.{some}
use Rattle.model.specs.Trees.{Head, Tree, leaf, node, Trees, none, more, crypt, Shape}
use Rattle.model.specs.Deduction.{Party, may, opens}
use Rattle.model.specs.Roles.{Act, give, new, hear, say, same, make, split, unlock, count}
use Rattle.model.specs.Runs.{Memory, set, puts, reads}
use Rattle.model.proofs.Machine.{some_inj, Below, below_set, below_puts, ◌⊑◌, ⊑-set, ⊑-puts, reads_parts, reads_more, ⊑-reads, regs}

-- one action on a sheet: the next register and the sheet before and after, the terms that come in, and the names made
pub data Move (P : Party) : ℕ → Memory → Act → ℕ → Memory → List Tree → List ℕ → Type 0 where
  gives : {n : ℕ} {Γ : Memory} (t : Tree) → Move P n Γ (give n) (n + 1) (set Γ n t) (t ∷ []) []
  hears : {n : ℕ} {Γ : Memory} (t : Tree) → Move P n Γ (hear n) (n + 1) (set Γ n t) (t ∷ []) []
  news : {n : ℕ} {Γ : Memory} (a : ℕ) → Move P n Γ (new n) (n + 1) (set Γ n (leaf a)) [] (a ∷ [])
  says : {n : ℕ} {Γ : Memory} {r : ℕ} {t : Tree} → Γ r ≡ some t → Move P n Γ (say r) n Γ [] []
  sames : {n : ℕ} {Γ : Memory} {r q : ℕ} {t : Tree} → Γ r ≡ some t → Γ q ≡ some t → Move P n Γ (same r q) n Γ [] []
  makes : {n : ℕ} {Γ : Memory} {h : Head} {ts : Trees} {rs : List ℕ} → reads Γ rs ≡ some ts → T (may P h) → Shape h ts
      → Move P n Γ (make n h rs) (n + 1) (set Γ n (node h ts)) [] []
  splits : {n : ℕ} {Γ : Memory} {h : Head} {ts : Trees} {r : ℕ} → Γ r ≡ some (node h ts) → T (opens P h)
      → Move P n Γ (split n (count ts) h r) (n + count ts) (puts Γ n ts) [] []
  unlocks : {n : ℕ} {Γ : Memory} {t k : Tree} {r q : ℕ} → Γ r ≡ some (crypt t k) → Γ q ≡ some k
      → Move P n Γ (unlock n r q) (n + 1) (set Γ n t) [] []

pub data Plan (P : Party) : ℕ → Memory → List Act → ℕ → Memory → List Tree → List ℕ → Type 0 where
  done : {n : ℕ} {Γ : Memory} → Plan P n Γ [] n Γ [] []
  then : {n n' n'' : ℕ} {Γ Γ' Γ'' : Memory} {a : Act} {rest : List Act} {is js : List Tree} {ns ks : List ℕ}
      → Move P n Γ a n' Γ' is ns → Plan P n' Γ' rest n'' Γ'' js ks → Plan P n Γ (a ∷ rest) n'' Γ'' (is ++ js) (ns ++ ks)

module _ (P : Party) where
  pub plan_append : {n n' n'' : ℕ} {Γ Γ' Γ'' : Memory} {xs ys : List Act} {is js : List Tree} {ns ks : List ℕ}
      → Plan P n Γ xs n' Γ' is ns → Plan P n' Γ' ys n'' Γ'' js ks → Plan P n Γ (xs ++ ys) n'' Γ'' (is ++ js) (ns ++ ks)
  plan_append done q = q
  plan_append {n'' = n''} {Γ'' = Γ''} {ys = ys} {js = js₀} {ks = ks₀} (then {n = n} {Γ = Γ} {a = a} {rest = rest} {is = is} {js = js} {ns = ns} {ks = ks} m p) q =
      subst (λ l. Plan P n Γ (a ∷ (rest ++ ys)) n'' Γ'' l ((ns ++ ks) ++ ks₀)) (sym (append_assoc is js js₀))
      (subst (λ l. Plan P n Γ (a ∷ (rest ++ ys)) n'' Γ'' (is ++ (js ++ js₀)) l) (sym (append_assoc ns ks ks₀))
      (then m (plan_append p q)))

  pub move_keeps : {n n' : ℕ} {Γ Γ' : Memory} {a : Act} {is : List Tree} {ns : List ℕ} → Move P n Γ a n' Γ' is ns
      → Below n Γ → (Γ ⊑ Γ') × Below n' Γ'
  move_keeps (gives {n} {Γ} t) b = (⊑-set Γ n t b, below_set Γ n t b)
  move_keeps (hears {n} {Γ} t) b = (⊑-set Γ n t b, below_set Γ n t b)
  move_keeps (news {n} {Γ} a) b = (⊑-set Γ n (leaf a) b, below_set Γ n (leaf a) b)
  move_keeps (says e) b = ((λ r v x. x), b)
  move_keeps (sames e f) b = ((λ r v x. x), b)
  move_keeps (makes {n} {Γ} {h} {ts} e f s) b = (⊑-set Γ n (node h ts) b, below_set Γ n (node h ts) b)
  move_keeps (splits {n} {Γ} {h} {ts} e f) b = (⊑-puts Γ n ts b, below_puts Γ n ts b)
  move_keeps (unlocks {n} {Γ} {t} {k} e f) b = (⊑-set Γ n t b, below_set Γ n t b)

  pub plan_keeps : {n n' : ℕ} {Γ Γ' : Memory} {xs : List Act} {is : List Tree} {ns : List ℕ} → Plan P n Γ xs n' Γ' is ns
      → Below n Γ → (Γ ⊑ Γ') × Below n' Γ'
  plan_keeps done b = ((λ r v x. x), b)
  plan_keeps (then m p) b =
      let x = move_keeps m b in
      let y = plan_keeps p x.1 in
      ((λ r v e. y.0 r v (x.0 r v e)), y.1)

-- what a memory shows of an action that was done
abbrev pub Fact : Memory → Act → Type 0
Fact m (give r) = Unit {0}
Fact m (hear r) = Unit {0}
Fact m (new r) = Unit {0}
Fact m (say r) = Unit {0}
Fact m (same r q) = (v : Tree) × (m r ≡ some v) × (m q ≡ some v)
Fact m (make r h rs) = (vs : Trees) × (reads m rs ≡ some vs) × (m r ≡ some (node h vs))
Fact m (split f n h r) = (vs : Trees) × (n ≡ count vs) × (m r ≡ some (node h vs)) × (reads m (regs vs f) ≡ some vs)
Fact m (unlock x r k) = (v : Tree) × (w : Tree) × (m r ≡ some (crypt v w)) × (m k ≡ some w) × (m x ≡ some v)

abbrev pub Facts : Memory → List Act → Type 0
Facts m [] = Unit {0}
Facts m (a ∷ rest) = Fact m a × Facts m rest

pub fact_keeps : (m m' : Memory) → m ⊑ m' → (a : Act) → Fact m a → Fact m' a
fact_keeps m m' k (give r) f = f
fact_keeps m m' k (hear r) f = f
fact_keeps m m' k (new r) f = f
fact_keeps m m' k (say r) f = f
fact_keeps m m' k (same r q) f = (f.0, k r _ f.1, k q _ f.2)
fact_keeps m m' k (make r h rs) f = (f.0, ⊑-reads m m' k rs _ f.1, k r _ f.2)
fact_keeps m m' k (split r n h q) f = (f.0, f.1, k q _ f.2, ⊑-reads m m' k _ _ f.3)
fact_keeps m m' k (unlock x r q) f = (f.0, f.1, k r _ f.2, k q _ f.3, k x _ f.4)

pub facts_left : (m : Memory) (xs ys : List Act) → Facts m (xs ++ ys) → Facts m xs
facts_left m [] ys f = tt
facts_left m (a ∷ xs) ys f = (f.0, facts_left m xs ys f.1)

pub facts_right : (m : Memory) (xs ys : List Act) → Facts m (xs ++ ys) → Facts m ys
facts_right m [] ys f = f
facts_right m (a ∷ xs) ys f = facts_right m xs ys f.1

pub facts_join : (m : Memory) (xs ys : List Act) → Facts m xs → Facts m ys → Facts m (xs ++ ys)
facts_join m [] ys f g = g
facts_join m (a ∷ xs) ys f g = (f.0, facts_join m xs ys f.1 g)

pub facts_keep : (m m' : Memory) → m ⊑ m' → (xs : List Act) → Facts m xs → Facts m' xs
facts_keep m m' k [] f = tt
facts_keep m m' k (a ∷ xs) f = (fact_keeps m m' k a f.0, facts_keep m m' k xs f.1)

-- the values of a sheet's terms stand in some relation to them
abbrev pub Rel : (Tree → Tree → Type 0) → Memory → Memory → Type 0
Rel Q Γ m = (r : ℕ) (t : Tree) → Γ r ≡ some t → (v : Tree) × (m r ≡ some v) × Q t v

abbrev pub Each : (Tree → Tree → Type 0) → Trees → Trees → Type 0
Each Q none none = Unit {0}
Each Q none (more v vs) = ⊥
Each Q (more t ts) none = ⊥
Each Q (more t ts) (more v vs) = Q t v × Each Q ts vs

module _ (Q : Tree → Tree → Type 0) where
  pub rel_set : (Γ m : Memory) (n : ℕ) (t v : Tree) → Rel Q Γ m → Q t v → Rel Q (set Γ n t) (set m n v)
  rel_set Γ m n t v f h r u e = go (eqb n r) e
    where
      go : (b : Bool) → cond b (some t) (Γ r) ≡ some u → (w : Tree) × (cond b (some v) (m r) ≡ some w) × Q u w
      go true x = (v, refl, subst (λ z. Q z v) (some_inj x) h)
      go false x = f r u x

  pub rel_puts : (Γ m : Memory) (n : ℕ) (ts vs : Trees) → Rel Q Γ m → Each Q ts vs → Rel Q (puts Γ n ts) (puts m n vs)
  rel_puts Γ m n none none f h = f
  rel_puts Γ m n none (more v vs) f h = elim h [ ]
  rel_puts Γ m n (more t ts) none f h = elim h [ ]
  rel_puts Γ m n (more t ts) (more v vs) f h =
      rel_puts (set Γ n t) (set m n v) (n + 1) ts vs (rel_set Γ m n t v f h.0) h.1

  pub rel_reads : (Γ m : Memory) → Rel Q Γ m → (rs : List ℕ) (ts : Trees) → reads Γ rs ≡ some ts
      → (vs : Trees) × (reads m rs ≡ some vs) × Each Q ts vs
  rel_reads Γ m f [] ts e = (none, refl, subst (λ l. Each Q l none) (some_inj e) tt)
  rel_reads Γ m f (r ∷ rs) ts e =
      let x = reads_parts Γ r rs ts e in
      let y = f r x.0 x.2 in
      let z = rel_reads Γ m f rs x.1 x.3 in
      (more y.0 z.0, reads_more m r rs y.0 z.0 y.1 z.1, subst (λ l. Each Q l (more y.0 z.0)) (sym x.4) (y.2, z.2))
