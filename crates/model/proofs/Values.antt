-- Every value in a register can be derived from the values that came in and the atoms made, and with the declared counts of parts where actions keep to these.
use Rattle.std.proofs.Common.{◌≡◌, ℕ, ◌+◌, T, List, [], ◌∷◌, length, ap, subst, arith}
use mathlib.Core.Option.{some}
use mathlib.Core.Path.{subst⁻¹}
use Rattle.model.specs.Lists.{Every}
use Rattle.model.specs.Trees.{Head, Tree, leaf, node, Trees, crypt, ◌among◌}
use Rattle.model.specs.Deduction.{Party, may, opens, Derives, held as has, build as builds, part as takes, text as reads_text}
use Rattle.model.specs.Roles.{Act, make, split, count}
use Rattle.model.specs.Runs.{Memory, reads, Machine, ran}
use Rattle.model.specs.CountLaw.{Parts, Counted}
use Rattle.model.specs.Deducible.{Deducible, held, build, part, text}
use Rattle.model.proofs.Machine.{some_inj, ran_inj, All, all_set, all_puts, Below, reads_parts, Did, did}
use Rattle.model.proofs.Exec.{exec, ran_split}
use Rattle.model.proofs.Sheets.{Move, gives, hears, news, says, sames, makes, splits, unlocks, Plan, done, then, move_keeps, Rel}
use Rattle.model.proofs.Feeding.{Fed, fed_split, fed_rest}
use Rattle.model.proofs.After.{Any, move_after}
use Rattle.model.proofs.Agree.{reads_all}

-- as many values as registers
pub reads_count : (m : Memory) (rs : List ℕ) (vs : Trees) → reads m rs ≡ some vs → length rs ≡ count vs
reads_count m [] vs e = ap count (some_inj e)
reads_count m (r ∷ rs) vs e =
    let x = reads_parts m r rs vs e in
    let y = reads_count m rs x.1 x.3 in
    let z : count vs ≡ 1 + count x.1 = ap count x.4 in
    omega arith

-- `D` holds of all holdings, and of what is made, split or unlocked from what it holds of, where `Q` holds of the action
pub record Closed (P : Party) (H D : Tree → Type 0) (Q : Act → Type 0) : Type 0 where
  pub holds : (v : Tree) → H v → D v
  pub makes : (n : ℕ) (h : Head) (rs : List ℕ) (vs : Trees) → Q (make n h rs) → length rs ≡ count vs → T (may P h)
      → ((v : Tree) → v among vs → D v) → D (node h vs)
  pub splits : (f n : ℕ) (h : Head) (r : ℕ) (vs : Trees) → Q (split f n h r) → n ≡ count vs → T (opens P h)
      → D (node h vs) → (v : Tree) → v among vs → D v
  pub unlocks : (t k : Tree) → D (crypt t k) → D k → D t

pub closed_deducible : (A : ℕ → ℕ) (P : Party) (H : Tree → Type 0) → Closed P H (Deducible A P H) (Counted A)
closed_deducible A P H =
    record {
      holds = λ v h. held h;
      makes = λ n h rs vs q e p f. build p (subst (Parts A h) e q) f;
      splits = λ f n h r vs q e p d v i. part p (subst (Parts A h) e q) d i;
      unlocks = λ t k d e. text d e;
    }

-- whatever the action, and so its count of parts
abbrev pub AnyAction : Act → Type 0
AnyAction a = Unit {0}

pub any_actions : (xs : List Act) → Every AnyAction xs
any_actions [] = tt
any_actions (x ∷ xs) = (tt, any_actions xs)

pub closed_derives : (P : Party) (H : Tree → Type 0) → Closed P H (Derives P H) AnyAction
closed_derives P H =
    record {
      holds = λ v h. has h;
      makes = λ n h rs vs q e p f. builds p f;
      splits = λ f n h r vs q e p d v i. takes p d i;
      unlocks = λ t k d e. reads_text d e;
    }

module _ (P : Party) (H D : Tree → Type 0) (Q : Act → Type 0) (k : Closed P H D Q) where
  abbrev In : {A : Type 0} → A → Tree → Type 0
  In t v = H v

  abbrev Drawn : ℕ → ℕ → Type 0
  Drawn a k = H (leaf k)

  abbrev pub Derivable : Memory → Type 0
  Derivable m = All (λ r v. D v) m

  came : {A : Type 0} (t : A) (l rest : List Tree) (v : Tree) (vs : List Tree) → l ≡ v ∷ vs → Fed In (t ∷ []) l rest → H v
  came t l rest v vs e h = (subst (λ l. Fed In (t ∷ []) l rest) e h).0

  drew : (a : ℕ) (l rest : List ℕ) (k : ℕ) (ks : List ℕ) → l ≡ k ∷ ks → Fed Drawn (a ∷ []) l rest → H (leaf k)
  drew a l rest k ks e h = (subst (λ l. Fed Drawn (a ∷ []) l rest) e h).0

  move_values : {n n' : ℕ} {Γ Γ' : Memory} {a : Act} {is : List Tree} {ns : List ℕ} → Move P n Γ a n' Γ' is ns
      → Q a → (M M' : Machine) → Did a M M' → Fed In is M.inputs M'.inputs → Fed Drawn ns M.numbers M'.numbers
      → Derivable M.mem → Derivable M'.mem
  move_values (gives {n} t) z M M' d i j f =
      subst⁻¹ (λ X. Derivable X.mem) d.3 (all_set _ M.mem n d.0 f (k.holds d.0 (came t M.inputs M'.inputs d.0 d.1 d.2 i)))
  move_values (hears {n} t) z M M' d i j f =
      subst⁻¹ (λ X. Derivable X.mem) d.3 (all_set _ M.mem n d.0 f (k.holds d.0 (came t M.inputs M'.inputs d.0 d.1 d.2 i)))
  move_values (news {n} b) z M M' d i j f =
      subst⁻¹ (λ X. Derivable X.mem) d.4 (all_set _ M.mem n (leaf d.0) f (k.holds (leaf d.0) (drew b M.numbers M'.numbers d.0 d.1 d.3 j)))
  move_values (says e) z M M' d i j f = subst⁻¹ (λ X. Derivable X.mem) d.2 f
  move_values (sames e e') z M M' d i j f = subst⁻¹ (λ X. Derivable X.mem) d.3 f
  move_values (makes {n} {h = h} {rs = rs} e p s) z M M' d i j f =
      subst⁻¹ (λ X. Derivable X.mem) d.3
      (all_set _ M.mem n (node h d.0) f (k.makes n h rs d.0 z (reads_count M.mem rs d.0 d.2) p (reads_all D M.mem f rs d.0 d.2)))
  move_values (splits {n} {h = h} {ts = ts} {r = r} e p) z M M' d i j f =
      subst⁻¹ (λ X. Derivable X.mem) d.3
      (all_puts _ M.mem n d.0 f (λ q v l u i. k.splits n (count ts) h r d.0 z d.1 p (f r (node h d.0) d.2) v i))
  move_values (unlocks {n} {r = r} {q = q} e e') z M M' d i j f =
      subst⁻¹ (λ X. Derivable X.mem) d.4 (all_set _ M.mem n d.0 f (k.unlocks d.0 d.1 (f r _ d.2) (f q d.1 d.3)))

  pub plan_values : (c : Tree → ℕ) {n n' : ℕ} {Γ Γ' : Memory} {xs : List Act} {is : List Tree} {ns : List ℕ} → Plan P n Γ xs n' Γ' is ns
      → Every Q xs → (M M' : Machine) → exec c xs M ≡ ran M' → Below n Γ → Below n M.mem → Rel Any Γ M.mem
      → Fed In is M.inputs M'.inputs → Fed Drawn ns M.numbers M'.numbers → Derivable M.mem → Derivable M'.mem
  plan_values c done q M M' e g b f i j d = subst (λ X. Derivable X.mem) (ran_inj e) d
  plan_values c (then {a = a} {rest = rest} {is = is} {js = js} {ns = ns} {ks = ks} m p) q M M' e g b f i j d =
      let x = ran_split c a rest M M' e in
      let s = did c a M x.0 x.1 in
      let y = move_after P m M x.0 s g b f in
      let z = fed_split In is js M.inputs M'.inputs i in
      let w = fed_split Drawn ns ks M.numbers M'.numbers j in
      let zi = fed_rest In _ is M.inputs z.0 x.0.inputs z.1 y.fed in
      let wi = fed_rest Drawn _ ns M.numbers w.0 x.0.numbers w.1 y.numbered in
      plan_values c p q.1 x.0 M' x.2 (move_keeps P m g).1 y.below y.filled
      (subst (λ l. Fed In js l M'.inputs) zi z.2) (subst (λ l. Fed Drawn ks l M'.numbers) wi w.2)
      (move_values m q.0 M x.0 s (subst (λ l. Fed In is M.inputs l) zi z.1) (subst (λ l. Fed Drawn ns M.numbers l) wi w.1) d)
