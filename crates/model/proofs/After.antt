-- What actions that ran have left: old registers untouched, new ones filled, and what was done shows.
use Rattle.std.proofs.Common.{◌≡◌, ℕ, ◌+◌, List, [], ◌∷◌, ◌++◌, refl, subst, arith}
use mathlib.Core.Option.{some}
use mathlib.Core.Path.{subst⁻¹}
use Rattle.model.specs.Trees.{Tree, leaf, node, Trees, none, more}
use Rattle.model.specs.Deduction.{Party}
use Rattle.model.specs.Roles.{Act, give, new, hear, say, same, make, split, unlock, count}
use Rattle.model.specs.Runs.{Memory, set, puts, Machine, ran}
use Rattle.model.proofs.Machine.{ran_inj, set_same, Below, below_set, below_puts, ◌⊑◌, ⊑-set, ⊑-puts, ⊑-reads, reads_puts, Did, did}
use Rattle.model.proofs.Exec.{exec, ran_split}
use Rattle.model.proofs.Sheets.{Move, gives, hears, news, says, sames, makes, splits, unlocks, Plan, done, then, move_keeps, plan_keeps, Facts, fact_keeps, Rel, Each, rel_set, rel_puts}
use Rattle.model.proofs.Feeding.{Fed, fed_map, fed_join}

-- a register that is for a term and holds a value
abbrev pub Holds : Memory → Memory → Tree → Tree → Type 0
Holds Γ m t v = (r : ℕ) × (Γ r ≡ some t) × (m r ≡ some v)

abbrev pub Any : Tree → Tree → Type 0
Any t v = Unit {0}

pub each_any : (ts vs : Trees) → count ts ≡ count vs → Each Any ts vs
each_any none none e = tt
each_any none (more v vs) e = absurd (omega arith)
each_any (more t ts) none e = absurd (omega arith)
each_any (more t ts) (more v vs) e = (tt, each_any ts vs (omega arith))

-- after actions that ran: the old registers are untouched, the new ones are filled, and what was done shows
pub record After (n' : ℕ) (Γ' : Memory) (xs : List Act) (is : List Tree) (ns : List ℕ) (M M' : Machine) : Type 0 where
  pub keeps : M.mem ⊑ M'.mem
  pub below : Below n' M'.mem
  pub filled : Rel Any Γ' M'.mem
  pub facts : Facts M'.mem xs
  pub fed : Fed (Holds Γ' M'.mem) is M.inputs M'.inputs
  pub numbered : Fed (λ a k. Holds Γ' M'.mem (leaf a) (leaf k)) ns M.numbers M'.numbers

module _ (P : Party) where
  pub move_after : {n n' : ℕ} {Γ Γ' : Memory} {a : Act} {is : List Tree} {ns : List ℕ} → Move P n Γ a n' Γ' is ns
      → (M M' : Machine) → Did a M M' → Below n Γ → Below n M.mem → Rel Any Γ M.mem → After n' Γ' (a ∷ []) is ns M M'
  move_after (gives {n} {Γ} t) M M' d g b f =
      subst⁻¹ (After (n + 1) (set Γ n t) (give n ∷ []) (t ∷ []) [] M) d.3
      (record {
        keeps = ⊑-set M.mem n d.0 b;
        below = below_set M.mem n d.0 b;
        filled = rel_set Any Γ M.mem n t d.0 f tt;
        facts = (tt, tt);
        fed = subst⁻¹ (λ l. Fed (Holds (set Γ n t) (set M.mem n d.0)) (t ∷ []) l d.1) d.2 ((n, set_same Γ n t, set_same M.mem n d.0), refl);
        numbered = refl;
      })
  move_after (hears {n} {Γ} t) M M' d g b f =
      subst⁻¹ (After (n + 1) (set Γ n t) (hear n ∷ []) (t ∷ []) [] M) d.3
      (record {
        keeps = ⊑-set M.mem n d.0 b;
        below = below_set M.mem n d.0 b;
        filled = rel_set Any Γ M.mem n t d.0 f tt;
        facts = (tt, tt);
        fed = subst⁻¹ (λ l. Fed (Holds (set Γ n t) (set M.mem n d.0)) (t ∷ []) l d.1) d.2 ((n, set_same Γ n t, set_same M.mem n d.0), refl);
        numbered = refl;
      })
  move_after (news {n} {Γ} a₀) M M' d g b f =
      subst⁻¹ (After (n + 1) (set Γ n (leaf a₀)) (new n ∷ []) [] (a₀ ∷ []) M) d.4
      (record {
        keeps = ⊑-set M.mem n (leaf d.0) b;
        below = below_set M.mem n (leaf d.0) b;
        filled = rel_set Any Γ M.mem n (leaf a₀) (leaf d.0) f tt;
        facts = (tt, tt);
        fed = refl;
        numbered = subst⁻¹ (λ l. Fed (λ a k. Holds (set Γ n (leaf a₀)) (set M.mem n (leaf d.0)) (leaf a) (leaf k)) (a₀ ∷ []) l d.1) d.3 ((n, set_same Γ n (leaf a₀), set_same M.mem n (leaf d.0)), refl);
      })
  move_after (says {n} {Γ} {r} {t} e) M M' d g b f =
      subst⁻¹ (After n Γ (say r ∷ []) [] [] M) d.2
      (record { keeps = λ r v x. x; below = b; filled = f; facts = (tt, tt); fed = refl; numbered = refl })
  move_after (sames {n} {Γ} {r} {q} {t} e e') M M' d g b f =
      subst⁻¹ (After n Γ (same r q ∷ []) [] [] M) d.3
      (record { keeps = λ r v x. x; below = b; filled = f; facts = ((d.0, d.1, d.2), tt); fed = refl; numbered = refl })
  move_after (makes {n} {Γ} {h} {ts} {rs} e p s) M M' d g b f =
      subst⁻¹ (After (n + 1) (set Γ n (node h ts)) (make n h rs ∷ []) [] [] M) d.3
      (record {
        keeps = ⊑-set M.mem n (node h d.0) b;
        below = below_set M.mem n (node h d.0) b;
        filled = rel_set Any Γ M.mem n (node h ts) (node h d.0) f tt;
        facts = ((d.0, ⊑-reads M.mem _ (⊑-set M.mem n (node h d.0) b) rs d.0 d.2, set_same M.mem n (node h d.0)), tt);
        fed = refl;
        numbered = refl;
      })
  move_after (splits {n} {Γ} {h} {ts} {r} e p) M M' d g b f =
      subst⁻¹ (After (n + count ts) (puts Γ n ts) (split n (count ts) h r ∷ []) [] [] M) d.3
      (record {
        keeps = ⊑-puts M.mem n d.0 b;
        below = subst⁻¹ (λ k. Below (n + k) (puts M.mem n d.0)) d.1 (below_puts M.mem n d.0 b);
        filled = rel_puts Any Γ M.mem n ts d.0 f (each_any ts d.0 d.1);
        facts = ((d.0, d.1, ⊑-puts M.mem n d.0 b r _ d.2, reads_puts M.mem n d.0), tt);
        fed = refl;
        numbered = refl;
      })
  move_after (unlocks {n} {Γ} {t} {k} {r} {q} e p) M M' d g b f =
      subst⁻¹ (After (n + 1) (set Γ n t) (unlock n r q ∷ []) [] [] M) d.4
      (record {
        keeps = ⊑-set M.mem n d.0 b;
        below = below_set M.mem n d.0 b;
        filled = rel_set Any Γ M.mem n t d.0 f tt;
        facts = ((d.0, d.1, ⊑-set M.mem n d.0 b r _ d.2, ⊑-set M.mem n d.0 b q _ d.3, set_same M.mem n d.0), tt);
        fed = refl;
        numbered = refl;
      })

  -- one action more in front
  after_then : {n' n'' : ℕ} {Γ' Γ'' : Memory} (a : Act) (rest : List Act) (is js : List Tree) (ns ks : List ℕ) (M N M' : Machine)
      → Γ' ⊑ Γ'' → After n' Γ' (a ∷ []) is ns M N → After n'' Γ'' rest js ks N M' → After n'' Γ'' (a ∷ rest) (is ++ js) (ns ++ ks) M M'
  after_then {Γ' = Γ'} {Γ'' = Γ''} a rest is js ns ks M N M' k x y =
      record {
        keeps = λ r v e. y.keeps r v (x.keeps r v e);
        below = y.below;
        filled = y.filled;
        facts = (fact_keeps N.mem M'.mem y.keeps a x.facts.0, y.facts);
        fed = fed_join _ is js _ _ _ (fed_map _ _ (λ t v h. (h.0, k _ _ h.1, y.keeps _ _ h.2)) is _ _ x.fed) y.fed;
        numbered = fed_join _ ns ks _ _ _ (fed_map _ _ (λ t v h. (h.0, k _ _ h.1, y.keeps _ _ h.2)) ns _ _ x.numbered) y.numbered;
      }

  pub plan_after : (c : Tree → ℕ) {n n' : ℕ} {Γ Γ' : Memory} {xs : List Act} {is : List Tree} {ns : List ℕ} → Plan P n Γ xs n' Γ' is ns
      → (M M' : Machine) → exec c xs M ≡ ran M' → Below n Γ → Below n M.mem → Rel Any Γ M.mem → After n' Γ' xs is ns M M'
  plan_after c (done {n} {Γ}) M M' e g b f =
      subst (After n Γ [] [] [] M) (ran_inj e)
      (record { keeps = λ r v x. x; below = b; filled = f; facts = tt; fed = refl; numbered = refl })
  plan_after c (then {a = a} {rest = rest} {is = is} {js = js} {ns = ns} {ks = ks} m p) M M' e g b f =
      let x = ran_split c a rest M M' e in
      let y = move_after m M x.0 (did c a M x.0 x.1) g b f in
      let g' = (move_keeps P m g).1 in
      after_then a rest is js ns ks M x.0 M' (plan_keeps P p g').0 y
      (plan_after c p x.0 M' x.2 g' y.below y.filled)
