-- A run whose inputs are read by one reading: it is never refused but for space, and each register holds the reading of its term.
use Rattle.std.proofs.Common.{◌≡◌, ℕ, ◌+◌, ◌-◌, ◌<◌, Bool, true, false, not, ◌&&◌, T, eqb, leb, List, [], ◌∷◌, sym, refl, ap, ◌∙◌, subst, inl, inr, arith, leb→le}
use mathlib.Core.Option.{some}
use mathlib.Core.Path.{subst⁻¹}
use lib.Dec.{eqb_refl, nleb→lt}
use Rattle.model.specs.Lists.{Every}
use Rattle.model.specs.Trees.{Head, tupled, crypted, applied, Tree, leaf, node, Trees, none, more, eq_tree, crypt, ◌among◌, map_trees, Shape}
use Rattle.model.specs.Deduction.{Party, may, Derives, held, build, part, text}
use Rattle.model.specs.Roles.{Act, same, make, split, unlock, count}
use Rattle.model.specs.Runs.{Memory, set, puts, reads, mismatch, full, invalid, broken, Machine, Result, ran, refused, need, need_all, check, with_memory, take_input, pay, take_number, open_up, open_crypt, step}
use Rattle.model.specs.Readings.{OpenTo, shows, unlocks as unlocks_it, rebuilds, Reading}
use Rattle.model.specs.Costs.{price, bill, bills}
use Rattle.model.proofs.Lists.{every_left, every_right}
use Rattle.model.proofs.Trees.{is_eq_tree, count_map}
use Rattle.model.proofs.Machine.{some_inj, eq_head_iff, set_same, All, all_set, all_puts, Below, ◌⊑◌, reads_parts, gets}
use Rattle.model.proofs.Exec.{and_on, exec}
use Rattle.model.proofs.Sheets.{Move, gives, hears, news, says, sames, makes, splits, unlocks, Plan, done, then, move_keeps, plan_keeps, Rel, Each, rel_set, rel_puts, rel_reads}
use Rattle.model.proofs.Feeding.{Fed, fed_split}

-- what several registers hold, one by one
pub reads_all : (Q : Tree → Type 0) (m : Memory) → All (λ r v. Q v) m → (rs : List ℕ) (vs : Trees) → reads m rs ≡ some vs
    → (v : Tree) → v among vs → Q v
reads_all Q m f [] vs e v i = elim (subst⁻¹ (λ l. v among l) (some_inj e) i) [ ]
reads_all Q m f (r ∷ rs) vs e v i =
    let x = reads_parts m r rs vs e in
    go x.0 x.1 (f r x.0 x.2) (reads_all Q m f rs x.1 x.3) (subst (λ l. v among l) x.4 i)
  where
    go : (u : Tree) (us : Trees) → Q u → ((w : Tree) → w among us → Q w) → v among (more u us) → Q v
    go u us p q (inl j) = subst⁻¹ Q j p
    go u us p q (inr j) = q v j

-- every register's term can be derived from the terms that came in and the names made
module _ (P : Party) (H : Tree → Type 0) where
  pub move_derives : {n n' : ℕ} {Γ Γ' : Memory} {a : Act} {is : List Tree} {ns : List ℕ} → Move P n Γ a n' Γ' is ns
      → Every H is → Every (λ b. H (leaf b)) ns → All (λ r t. Derives P H t) Γ → All (λ r t. Derives P H t) Γ'
  move_derives (gives {n} {Γ} t) i j f = all_set _ Γ n t f (held i.0)
  move_derives (hears {n} {Γ} t) i j f = all_set _ Γ n t f (held i.0)
  move_derives (news {n} {Γ} b) i j f = all_set _ Γ n (leaf b) f (held j.0)
  move_derives (says e) i j f = f
  move_derives (sames e e') i j f = f
  move_derives (makes {n} {Γ} {h} {ts} {rs} e p s) i j f =
      all_set _ Γ n (node h ts) f (build p (reads_all (Derives P H) Γ f rs ts e))
  move_derives (splits {n} {Γ} {h} {ts} {r} e p) i j f =
      all_puts _ Γ n ts f (λ q v l u k. part p (f r (node h ts) e) k)
  move_derives (unlocks {n} {Γ} {t} {k} {r} {q} e e') i j f =
      all_set _ Γ n t f (text (f r (crypt t k) e) (f q k e'))

  pub plan_derives : {n n' : ℕ} {Γ Γ' : Memory} {xs : List Act} {is : List Tree} {ns : List ℕ} → Plan P n Γ xs n' Γ' is ns
      → Every H is → Every (λ b. H (leaf b)) ns → All (λ r t. Derives P H t) Γ → All (λ r t. Derives P H t) Γ'
  plan_derives done i j f = f
  plan_derives (then {is = is} {js = js} {ns = ns} {ks = ks} m p) i j f =
      plan_derives p (every_right H is js i) (every_right _ ns ks j)
      (move_derives m (every_left H is js i) (every_left _ ns ks j) f)

  -- what is made from derivable parts is open
  pub made_open : (h : Head) (ts : Trees) → T (may P h) → Shape h ts → ((t : Tree) → t among ts → Derives P H t) → OpenTo P H (node h ts)
  made_open tupled ts p s f = shows tt
  made_open (applied g) ts p s f = rebuilds p f
  made_open crypted none p s f = elim s [ ]
  made_open crypted (more t none) p s f = elim s [ ]
  made_open crypted (more t (more k none)) p s f = unlocks_it (f k (inr (inl refl)))
  made_open crypted (more t (more k (more u us))) p s f = elim s [ ]

-- how a run comes out: registers as read, inputs used up, the space lowered by the bill; or else the space did not suffice
abbrev pub Agrees : (Tree → Tree) → Memory → ℕ → List Tree → List ℕ → ℕ → Result → Type 0
Agrees R Γ b is ns s (ran M) = Rel (λ t v. R t ≡ v) Γ M.mem × (M.inputs ≡ is) × (M.numbers ≡ ns) × (M.space + b ≡ s)
Agrees R Γ b is ns s (refused full) = s < b
Agrees R Γ b is ns s (refused mismatch) = ⊥
Agrees R Γ b is ns s (refused broken) = ⊥
Agrees R Γ b is ns s (refused invalid) = ⊥

T_true : (b : Bool) → T b → b ≡ true
T_true true h = refl
T_true false h = elim h [ ]

pub each_map : (R : Tree → Tree) (ts : Trees) → Each (λ t v. R t ≡ v) ts (map_trees R ts)
each_map R none = tt
each_map R (more t ts) = (refl, each_map R ts)

pub each_is : (R : Tree → Tree) (ts vs : Trees) → Each (λ t v. R t ≡ v) ts vs → map_trees R ts ≡ vs
each_is R none none h = refl
each_is R none (more v vs) h = elim h [ ]
each_is R (more t ts) none h = elim h [ ]
each_is R (more t ts) (more v vs) h = λ i. more (h.0 i) (each_is R ts vs h.1 i)

module _ (P : Party) (c : Tree → ℕ) (H : Tree → Type 0) (R : Tree → Tree) (reading : Reading P H R) where
  abbrev Is : Tree → Tree → Type 0
  Is t v = R t ≡ v

  abbrev Names : ℕ → ℕ → Type 0
  Names a k = R (leaf a) ≡ leaf k

  input_agrees : (Γ : Memory) (n : ℕ) (t : Tree) (M : Machine) (is : List Tree) (ns : List ℕ) (l : List Tree)
      → Rel Is Γ M.mem → Fed Is (t ∷ []) l is → M.numbers ≡ ns → Agrees R (set Γ n t) 0 is ns M.space (take_input n M l)
  input_agrees Γ n t M is ns [] f h k = elim h [ ]
  input_agrees Γ n t M is ns (v ∷ vs) f h k = (rel_set Is Γ M.mem n t v f h.0, h.1, k, omega arith)

  pay_agrees : (Γ : Memory) (n : ℕ) (t v : Tree) (M : Machine) (b : ℕ) → Rel Is Γ M.mem → R t ≡ v → b ≡ c (R t)
      → Agrees R (set Γ n t) b M.inputs M.numbers M.space (pay c n v M)
  pay_agrees Γ n t v M b f e p = go (leb (c v) M.space) refl
    where
      go : (y : Bool) → leb (c v) M.space ≡ y → Agrees R (set Γ n t) b M.inputs M.numbers M.space
          (check y full (ran (gets n v M M.inputs M.numbers (M.space - c v))))
      go true x =
          let l = leb→le (c v) M.space (subst⁻¹ T x tt) in
          let q : b ≡ c v = p ∙ ap c e in
          (rel_set Is Γ M.mem n t v f e, refl, refl, omega arith)
      go false x =
          let l = nleb→lt (c v) M.space (subst⁻¹ (λ z. T (not z)) x tt) in
          let q : b ≡ c v = p ∙ ap c e in
          omega arith

  number_agrees : (Γ : Memory) (n a : ℕ) (M : Machine) (is : List Tree) (ns : List ℕ) (l : List ℕ) (b : ℕ)
      → Rel Is Γ M.mem → M.inputs ≡ is → Fed Names (a ∷ []) l ns → b ≡ c (R (leaf a))
      → Agrees R (set Γ n (leaf a)) b is ns M.space (take_number c n M l)
  number_agrees Γ n a M is ns [] b f k h p = elim h [ ]
  number_agrees Γ n a M is ns (x ∷ xs) b f k h p =
      subst (λ z. Agrees R (set Γ n (leaf a)) b is z M.space (take_number c n M (x ∷ xs))) h.1
      (subst (λ z. Agrees R (set Γ n (leaf a)) b z xs M.space (take_number c n M (x ∷ xs))) k
      (pay_agrees Γ n (leaf a) (leaf x) (record { mem = M.mem; space = M.space; inputs = M.inputs; numbers = xs }) b f h.0 p))

  same_agrees : (Γ : Memory) (t v w : Tree) (M : Machine) → Rel Is Γ M.mem → R t ≡ v → R t ≡ w
      → Agrees R Γ 0 M.inputs M.numbers M.space (check (eq_tree v w) mismatch (ran M))
  same_agrees Γ t v w M f p q =
      subst⁻¹ (λ z. Agrees R Γ 0 M.inputs M.numbers M.space (check z mismatch (ran M)))
      (T_true _ (is_eq_tree v w (sym p ∙ q))) (f, refl, refl, omega arith)

  split_agrees : (Γ : Memory) (n : ℕ) (h : Head) (ts : Trees) (M : Machine) → Rel Is Γ M.mem
      → Agrees R (puts Γ n ts) 0 M.inputs M.numbers M.space (open_up n (count ts) h (node h (map_trees R ts)) M)
  split_agrees Γ n h ts M f =
      subst⁻¹ (λ z. Agrees R (puts Γ n ts) 0 M.inputs M.numbers M.space
      (check (z && eqb (count ts) (count (map_trees R ts))) mismatch (ran (with_memory (puts M.mem n (map_trees R ts)) M))))
      (T_true _ ((eq_head_iff h h).1 refl))
      (subst⁻¹ (λ z. Agrees R (puts Γ n ts) 0 M.inputs M.numbers M.space
      (check z mismatch (ran (with_memory (puts M.mem n (map_trees R ts)) M))))
      (T_true _ (subst⁻¹ (λ k. T (eqb (count ts) k)) (count_map R ts) (eqb_refl (count ts))))
      (rel_puts Is Γ M.mem n ts (map_trees R ts) f (each_map R ts), refl, refl, omega arith))

  unlock_agrees : (Γ : Memory) (n : ℕ) (t k : Tree) (M : Machine) → Rel Is Γ M.mem
      → Agrees R (set Γ n t) 0 M.inputs M.numbers M.space (open_crypt n (crypt (R t) (R k)) (R k) M)
  unlock_agrees Γ n t k M f =
      subst⁻¹ (λ z. Agrees R (set Γ n t) 0 M.inputs M.numbers M.space (check z mismatch (ran (with_memory (set M.mem n (R t)) M))))
      (T_true _ (is_eq_tree (R k) (R k) refl))
      (rel_set Is Γ M.mem n t (R t) f refl, refl, refl, omega arith)

  priced : (Γ Γ'' : Memory) (n : ℕ) (t : Tree) → set Γ n t ⊑ Γ'' → price c R (Γ'' n) ≡ c (R t)
  priced Γ Γ'' n t k = ap (price c R) (k n t (set_same Γ n t))

  with_lists : (Γ : Memory) (b : ℕ) (M : Machine) (js : List Tree) (ks : List ℕ) (x : Result) → M.inputs ≡ js → M.numbers ≡ ks
      → Agrees R Γ b M.inputs M.numbers M.space x → Agrees R Γ b js ks M.space x
  with_lists Γ b M js ks x i j h =
      subst (λ l. Agrees R Γ b js l M.space x) j (subst (λ l. Agrees R Γ b l M.numbers M.space x) i h)

  pub move_agrees : {n n' : ℕ} {Γ Γ' : Memory} {a : Act} {is : List Tree} {ns : List ℕ} → Move P n Γ a n' Γ' is ns
      → (Γ'' : Memory) → Γ' ⊑ Γ'' → All (λ r t. Derives P H t) Γ → (M : Machine) (js : List Tree) (ks : List ℕ) → Rel Is Γ M.mem
      → Fed Is is M.inputs js → Fed Names ns M.numbers ks → Agrees R Γ' (bill c R Γ'' a) js ks M.space (step c a M)
  move_agrees (gives {n} {Γ} t) Γ'' k d M js ks f i j = input_agrees Γ n t M js ks M.inputs f i j
  move_agrees (hears {n} {Γ} t) Γ'' k d M js ks f i j = input_agrees Γ n t M js ks M.inputs f i j
  move_agrees (news {n} {Γ} b) Γ'' k d M js ks f i j =
      number_agrees Γ n b M js ks M.numbers (price c R (Γ'' n)) f i j (priced Γ Γ'' n (leaf b) k)
  move_agrees (says {n} {Γ} {r} {t} e) Γ'' k d M js ks f i j =
      subst⁻¹ (λ o. Agrees R Γ 0 js ks M.space (need o (λ v. ran M))) (f r t e).1 (f, i, j, omega arith)
  move_agrees (sames {n} {Γ} {r} {q} {t} e e') Γ'' k d M js ks f i j =
      with_lists Γ 0 M js ks (step c (same r q) M) i j
      (subst⁻¹ (λ o. Agrees R Γ 0 M.inputs M.numbers M.space (need o (λ v. need (M.mem q) (λ w. check (eq_tree v w) mismatch (ran M))))) (f r t e).1
      (subst⁻¹ (λ o. Agrees R Γ 0 M.inputs M.numbers M.space (need o (λ w. check (eq_tree (f r t e).0 w) mismatch (ran M)))) (f q t e').1
      (same_agrees Γ t (f r t e).0 (f q t e').0 M f (f r t e).2 (f q t e').2)))
  move_agrees (makes {n} {Γ} {h} {ts} {rs} e p s) Γ'' k d M js ks f i j =
      let x = rel_reads Is Γ M.mem f rs ts e in
      let y : R (node h ts) ≡ node h x.0 =
      reading h ts (made_open P H h ts p s (reads_all (Derives P H) Γ d rs ts e)) ∙ ap (node h) (each_is R ts x.0 x.2) in
      with_lists (set Γ n (node h ts)) (price c R (Γ'' n)) M js ks (step c (make n h rs) M) i j
      (subst⁻¹ (λ o. Agrees R (set Γ n (node h ts)) (price c R (Γ'' n)) M.inputs M.numbers M.space (need_all o (λ vs. pay c n (node h vs) M))) x.1
      (pay_agrees Γ n (node h ts) (node h x.0) M (price c R (Γ'' n)) f y (priced Γ Γ'' n (node h ts) k)))
  move_agrees (splits {n} {Γ} {h} {ts} {r} e p) Γ'' k d M js ks f i j =
      let x = f r (node h ts) e in
      with_lists (puts Γ n ts) 0 M js ks (step c (split n (count ts) h r) M) i j
      (subst⁻¹ (λ o. Agrees R (puts Γ n ts) 0 M.inputs M.numbers M.space (need o (λ v. open_up n (count ts) h v M)))
      (x.1 ∙ ap some (sym x.2 ∙ reading h ts (shows p)))
      (split_agrees Γ n h ts M f))
  move_agrees (unlocks {n} {Γ} {t} {k = y} {r} {q} e e') Γ'' k d M js ks f i j =
      let x = f r (crypt t y) e in
      let z = f q y e' in
      with_lists (set Γ n t) 0 M js ks (step c (unlock n r q) M) i j
      (subst⁻¹ (λ o. Agrees R (set Γ n t) 0 M.inputs M.numbers M.space (need o (λ v. need (M.mem q) (λ w. open_crypt n v w M))))
      (x.1 ∙ ap some (sym x.2 ∙ reading crypted (more t (more y none)) (unlocks_it (d q y e'))))
      (subst⁻¹ (λ o. Agrees R (set Γ n t) 0 M.inputs M.numbers M.space (need o (λ w. open_crypt n (crypt (R t) (R y)) w M)))
      (z.1 ∙ ap some (sym z.2))
      (unlock_agrees Γ n t y M f)))

  -- the bills add up
  agrees_more : (Γ : Memory) (b b' s s' : ℕ) (js : List Tree) (ks : List ℕ) (x : Result)
      → s + b ≡ s' → Agrees R Γ b' js ks s x → Agrees R Γ (b + b') js ks s' x
  agrees_more Γ b b' s s' js ks (ran M) e h = let q = h.3 in (h.0, h.1, h.2, omega arith)
  agrees_more Γ b b' s s' js ks (refused full) e h = omega arith
  agrees_more Γ b b' s s' js ks (refused mismatch) e h = h
  agrees_more Γ b b' s s' js ks (refused broken) e h = h
  agrees_more Γ b b' s s' js ks (refused invalid) e h = h

  agrees_then : (Γ Γ' : Memory) (b b' s : ℕ) (is js : List Tree) (ns ks : List ℕ) (rest : List Act) (x : Result)
      → Agrees R Γ b is ns s x
      → ((N : Machine) → Rel Is Γ N.mem → N.inputs ≡ is → N.numbers ≡ ns → Agrees R Γ' b' js ks N.space (exec c rest N))
      → Agrees R Γ' (b + b') js ks s (and_on x (exec c rest))
  agrees_then Γ Γ' b b' s is js ns ks rest (ran N) h k =
      agrees_more Γ' b b' N.space s js ks (exec c rest N) h.3 (k N h.0 h.1 h.2)
  agrees_then Γ Γ' b b' s is js ns ks rest (refused full) h k = omega arith
  agrees_then Γ Γ' b b' s is js ns ks rest (refused mismatch) h k = elim h [ ]
  agrees_then Γ Γ' b b' s is js ns ks rest (refused broken) h k = elim h [ ]
  agrees_then Γ Γ' b b' s is js ns ks rest (refused invalid) h k = elim h [ ]

  pub plan_agrees : {n n' : ℕ} {Γ Γ' : Memory} {xs : List Act} {is : List Tree} {ns : List ℕ} → Plan P n Γ xs n' Γ' is ns
      → Below n Γ → (Γ'' : Memory) → Γ' ⊑ Γ'' → All (λ r t. Derives P H t) Γ → Every H is → Every (λ b. H (leaf b)) ns
      → (M : Machine) (js : List Tree) (ks : List ℕ) → Rel Is Γ M.mem
      → Fed Is is M.inputs js → Fed Names ns M.numbers ks → Agrees R Γ' (bills c R Γ'' xs) js ks M.space (exec c xs M)
  plan_agrees done b Γ'' k d hi hn M js ks f i j = (f, i, j, omega arith)
  plan_agrees (then {n' = n'} {Γ' = Γ₁} {Γ'' = Γ'} {a = a} {rest = rest} {is = is₁} {js = is₂} {ns = ns₁} {ks = ns₂} m p) b Γ'' k d hi hn M js ks f i j =
      let x = fed_split Is is₁ is₂ M.inputs js i in
      let y = fed_split Names ns₁ ns₂ M.numbers ks j in
      let g = (move_keeps P m b).1 in
      let d' = move_derives P H m (every_left H is₁ is₂ hi) (every_left _ ns₁ ns₂ hn) d in
      agrees_then Γ₁ Γ' (bill c R Γ'' a) (bills c R Γ'' rest) M.space x.0 js y.0 ks rest (step c a M)
      (move_agrees m Γ'' (λ r v e. k r v ((plan_keeps P p g).0 r v e)) d M x.0 y.0 f x.1 y.1)
      (λ N f' e e'. plan_agrees p g Γ'' k d' (every_right H is₁ is₂ hi) (every_right _ ns₁ ns₂ hn) N js ks f'
      (subst⁻¹ (λ l. Fed Is is₂ l js) e x.2) (subst⁻¹ (λ l. Fed Names ns₂ l ks) e' y.2))
