-- A role's program reads only registers that are filled: it ends, or is refused for a mismatch or for want of space.
use Rattle.std.proofs.Common.{◌≡◌, ℕ, Bool, true, false, ◌&&◌, eqb, leb, List, [], ◌∷◌, refl, subst}
use mathlib.Core.Option.{some}
use mathlib.Core.Path.{subst⁻¹}
use Rattle.model.specs.Trees.{Head, tupled, crypted, applied, Tree, leaf, node, none, more, eq_head, eq_tree, crypt}
use Rattle.model.specs.Deduction.{Party}
use Rattle.model.specs.Roles.{Act, new, say, same, make, split, unlock, count}
use Rattle.model.specs.Runs.{Memory, Fault, mismatch, full, invalid, broken, Machine, Result, ran, refused, need, need_all, check, take_input, pay, take_number, open_up, open_crypt, step}
use Rattle.model.proofs.Machine.{Below, did}
use Rattle.model.proofs.Exec.{and_on, exec}
use Rattle.model.proofs.Sheets.{Move, gives, hears, news, says, sames, makes, splits, unlocks, Plan, done, then, move_keeps, Rel, rel_reads}
use Rattle.model.proofs.Feeding.{Fed, fed_split, fed_rest}
use Rattle.model.proofs.After.{Any, move_after}

abbrev pub Unbroken : Result → Type 0
Unbroken (ran M) = Unit {0}
Unbroken (refused mismatch) = Unit {0}
Unbroken (refused full) = Unit {0}
Unbroken (refused broken) = ⊥
Unbroken (refused invalid) = ⊥

unbroken_check : (b : Bool) (f : Fault) (M : Machine) → Unbroken (refused f) → Unbroken (check b f (ran M))
unbroken_check true f M h = tt
unbroken_check false f M h = h

unbroken_open : (f n : ℕ) (h : Head) (v : Tree) (M : Machine) → Unbroken (open_up f n h v M)
unbroken_open f n h (leaf a) M = tt
unbroken_open f n h (node g vs) M = unbroken_check (eq_head h g && eqb n (count vs)) mismatch _ tt

unbroken_crypt : (x : ℕ) (v w : Tree) (M : Machine) → Unbroken (open_crypt x v w M)
unbroken_crypt x (leaf a) w M = tt
unbroken_crypt x (node tupled vs) w M = tt
unbroken_crypt x (node (applied f) vs) w M = tt
unbroken_crypt x (node crypted none) w M = tt
unbroken_crypt x (node crypted (more v none)) w M = tt
unbroken_crypt x (node crypted (more v (more k none))) w M = unbroken_check (eq_tree k w) mismatch _ tt
unbroken_crypt x (node crypted (more v (more k (more u us)))) w M = tt

module _ (P : Party) (c : Tree → ℕ) where
  unbroken_input : (Q : Tree → Tree → Type 0) (n : ℕ) (t : Tree) (M : Machine) (l vs : List Tree) → Fed Q (t ∷ []) l vs → Unbroken (take_input n M l)
  unbroken_input Q n t M [] vs h = h
  unbroken_input Q n t M (v ∷ l) vs h = tt

  unbroken_number : (N : ℕ → ℕ → Type 0) (n a : ℕ) (M : Machine) (l ks : List ℕ) → Fed N (a ∷ []) l ks → Unbroken (take_number c n M l)
  unbroken_number N n a M [] ks h = h
  unbroken_number N n a M (k ∷ l) ks h = unbroken_check (leb (c (leaf k)) M.space) full _ tt

  unbroken_need : (Γ : Memory) (M : Machine) → Rel Any Γ M.mem → (r : ℕ) (t : Tree) → Γ r ≡ some t → (k : Tree → Result) → ((v : Tree) → Unbroken (k v))
      → Unbroken (need (M.mem r) k)
  unbroken_need Γ M f r t e k h = let x = f r t e in subst⁻¹ (λ o. Unbroken (need o k)) x.1 (h x.0)

  move_unbroken : (Q : Tree → Tree → Type 0) (N : ℕ → ℕ → Type 0) {n n' : ℕ} {Γ Γ' : Memory} {a : Act} {is : List Tree} {ns : List ℕ} → Move P n Γ a n' Γ' is ns
      → (M : Machine) (vs : List Tree) (ks : List ℕ) → Rel Any Γ M.mem → Fed Q is M.inputs vs → Fed N ns M.numbers ks → Unbroken (step c a M)
  move_unbroken Q N (gives {n} t) M vs ks f i j = unbroken_input Q n t M M.inputs vs i
  move_unbroken Q N (hears {n} t) M vs ks f i j = unbroken_input Q n t M M.inputs vs i
  move_unbroken Q N (news {n} b) M vs ks f i j = unbroken_number N n b M M.numbers ks j
  move_unbroken Q N (says {Γ = Γ} {r = r} {t = t} e) M vs ks f i j = unbroken_need Γ M f r t e (λ v. ran M) (λ v. tt)
  move_unbroken Q N (sames {Γ = Γ} {r = r} {q = q} {t = t} e e') M vs ks f i j =
      unbroken_need Γ M f r t e (λ v. need (M.mem q) (λ w. check (eq_tree v w) mismatch (ran M)))
      (λ v. unbroken_need Γ M f q t e' (λ w. check (eq_tree v w) mismatch (ran M)) (λ w. unbroken_check (eq_tree v w) mismatch M tt))
  move_unbroken Q N (makes {n} {Γ} {h} {ts} {rs} e p s) M vs ks f i j =
      let x = rel_reads Any Γ M.mem f rs ts e in
      subst⁻¹ (λ o. Unbroken (need_all o (λ us. pay c n (node h us) M))) x.1 (unbroken_check (leb (c (node h x.0)) M.space) full _ tt)
  move_unbroken Q N (splits {n} {Γ} {h} {ts} {r} e p) M vs ks f i j =
      unbroken_need Γ M f r (node h ts) e (λ v. open_up n (count ts) h v M) (λ v. unbroken_open n (count ts) h v M)
  move_unbroken Q N (unlocks {n} {Γ} {t} {k = y} {r} {q} e e') M vs ks f i j =
      unbroken_need Γ M f r (crypt t y) e (λ v. need (M.mem q) (λ w. open_crypt n v w M))
      (λ v. unbroken_need Γ M f q y e' (λ w. open_crypt n v w M) (λ w. unbroken_crypt n v w M))

  pub plan_unbroken : (Q : Tree → Tree → Type 0) (N : ℕ → ℕ → Type 0) {n n' : ℕ} {Γ Γ' : Memory} {xs : List Act} {is : List Tree} {ns : List ℕ} → Plan P n Γ xs n' Γ' is ns
      → (M : Machine) (vs : List Tree) (ks : List ℕ) → Below n Γ → Below n M.mem → Rel Any Γ M.mem
      → Fed Q is M.inputs vs → Fed N ns M.numbers ks → Unbroken (exec c xs M)
  plan_unbroken Q N done M vs ks g b f i j = tt
  plan_unbroken Q N (then {n' = n₁} {Γ' = Γ₁} {a = a} {rest = rest} {is = is} {js = js} {ns = ns} {ks = ls} m p) M vs ks g b f i j =
      let x = fed_split Q is js M.inputs vs i in
      let y = fed_split N ns ls M.numbers ks j in
      go (step c a M) refl (move_unbroken Q N m M x.0 y.0 f x.1 y.1)
      (λ M₁ e. let z = move_after P m M M₁ (did c a M M₁ e) g b f in
      plan_unbroken Q N p M₁ vs ks (move_keeps P m g).1 z.below z.filled
      (subst (λ l. Fed Q js l vs) (fed_rest Q _ is M.inputs x.0 M₁.inputs x.1 z.fed) x.2)
      (subst (λ l. Fed N ls l ks) (fed_rest N _ ns M.numbers y.0 M₁.numbers y.1 z.numbered) y.2))
    where
      go : (z : Result) → step c a M ≡ z → Unbroken z → ((M₁ : Machine) → step c a M ≡ ran M₁ → Unbroken (exec c rest M₁)) → Unbroken (and_on z (exec c rest))
      go (ran M₁) e h k = k M₁ e
      go (refused mismatch) e h k = tt
      go (refused full) e h k = tt
      go (refused broken) e h k = h
      go (refused invalid) e h k = h

-- with too few values to take in, it may also be refused for want of a valid one
abbrev pub Whole : Result → Type 0
Whole (ran M) = Unit {0}
Whole (refused mismatch) = Unit {0}
Whole (refused full) = Unit {0}
Whole (refused invalid) = Unit {0}
Whole (refused broken) = ⊥

whole_of : (x : Result) → Unbroken x → Whole x
whole_of (ran M) u = tt
whole_of (refused mismatch) u = tt
whole_of (refused full) u = tt
whole_of (refused invalid) u = tt
whole_of (refused broken) u = u

input_whole : (n : ℕ) (M : Machine) (l : List Tree) → Whole (take_input n M l)
input_whole n M [] = tt
input_whole n M (v ∷ l) = tt

module _ (P : Party) (c : Tree → ℕ) (N : ℕ → ℕ → Type 0) where
  move_whole : {n n' : ℕ} {Γ Γ' : Memory} {a : Act} {is : List Tree} {ns : List ℕ} → Move P n Γ a n' Γ' is ns
      → (M : Machine) (ks : List ℕ) → Rel Any Γ M.mem → Fed N ns M.numbers ks → Whole (step c a M)
  move_whole (gives {n} t) M ks f j = input_whole n M M.inputs
  move_whole (hears {n} t) M ks f j = input_whole n M M.inputs
  move_whole (news {n} b) M ks f j = whole_of (step c (new n) M) (move_unbroken P c Any N {n = n} (news b) M M.inputs ks f refl j)
  move_whole (says {n = n} {r = r} e) M ks f j = whole_of (step c (say r) M) (move_unbroken P c Any N {n = n} (says e) M M.inputs ks f refl j)
  move_whole (sames {n = n} {r = r} {q = q} e e') M ks f j = whole_of (step c (same r q) M) (move_unbroken P c Any N {n = n} (sames e e') M M.inputs ks f refl j)
  move_whole (makes {n = n} {h = h} {rs = rs} e p s) M ks f j = whole_of (step c (make n h rs) M) (move_unbroken P c Any N (makes e p s) M M.inputs ks f refl j)
  move_whole (splits {n = n} {h = h} {ts = ts} {r = r} e p) M ks f j = whole_of (step c (split n (count ts) h r) M) (move_unbroken P c Any N (splits e p) M M.inputs ks f refl j)
  move_whole (unlocks {n = n} {r = r} {q = q} e e') M ks f j = whole_of (step c (unlock n r q) M) (move_unbroken P c Any N (unlocks e e') M M.inputs ks f refl j)

  pub plan_whole : {n n' : ℕ} {Γ Γ' : Memory} {xs : List Act} {is : List Tree} {ns : List ℕ} → Plan P n Γ xs n' Γ' is ns
      → (M : Machine) (ks : List ℕ) → Below n Γ → Below n M.mem → Rel Any Γ M.mem → Fed N ns M.numbers ks → Whole (exec c xs M)
  plan_whole done M ks g b f j = tt
  plan_whole (then {n' = n₁} {Γ' = Γ₁} {a = a} {rest = rest} {is = is} {js = js} {ns = ns} {ks = ls} m p) M ks g b f j =
      let y = fed_split N ns ls M.numbers ks j in
      go (step c a M) refl (move_whole m M y.0 f y.1)
      (λ M₁ e. let z = move_after P m M M₁ (did c a M M₁ e) g b f in
      plan_whole p M₁ ks (move_keeps P m g).1 z.below z.filled
      (subst (λ l. Fed N ls l ks) (fed_rest N _ ns M.numbers y.0 M₁.numbers y.1 z.numbered) y.2))
    where
      go : (z : Result) → step c a M ≡ z → Whole z → ((M₁ : Machine) → step c a M ≡ ran M₁ → Whole (exec c rest M₁)) → Whole (and_on z (exec c rest))
      go (ran M₁) e h k = k M₁ e
      go (refused mismatch) e h k = tt
      go (refused full) e h k = tt
      go (refused invalid) e h k = tt
      go (refused broken) e h k = h
