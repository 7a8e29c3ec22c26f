-- Laws of the machine: registers, lists of actions, and what an action that ran has done.
use Rattle.std.proofs.Common.{◌≡◌, ℕ, ◌+◌, ◌-◌, ◌<◌, ◌≤◌, Bool, true, false, cond, ◌&&◌, T, eqb, leb, ◌↔◌, List, [], ◌∷◌, sym, refl, ap, ◌∙◌, subst, inl, inr, arith, eqb→eq}
use mathlib.Core.Option.{Option, none as nothing, some}
use mathlib.Core.Path.{subst⁻¹}
use lib.Dec.{eqb_refl}
use Rattle.model.specs.Trees.{Head, tupled, crypted, applied, Tree, leaf, node, Trees, none, more, eq_head, eq_tree, crypt, ◌among◌}
use Rattle.model.specs.Roles.{Act, give, new, hear, say, same, make, split, unlock, count}
use Rattle.model.specs.Runs.{Memory, set, puts, and_more, reads, Fault, mismatch, full, Machine, Result, ran, refused, need, need_all, check, with_memory, take_input, take_number, open_up, open_crypt, step}
use Rattle.model.proofs.Tests.{and_both, and_left, and_right}
use Rattle.model.proofs.Trees.{eq_tree_is, is_eq_tree}

-- constructors apart
pub some_inj : {A : Type 0} {a b : A} → some a ≡ some b → a ≡ b
some_inj e = cc

pub no_some : {A : Type 0} {a : A} → nothing ≡ some a → ⊥
no_some e = let z : ◌≡◌ {A = ℕ} 0 1 = cc in omega arith

pub ran_inj : {M N : Machine} → ran M ≡ ran N → M ≡ N
ran_inj e = cc

pub never_ran : {f : Fault} {M : Machine} → refused f ≡ ran M → ⊥
never_ran e = let z : ◌≡◌ {A = ℕ} 0 1 = cc in omega arith

-- tests of equality
pub eqb_iff : (r q : ℕ) → T (eqb r q) ↔ (r ≡ q)
eqb_iff r q = (eqb→eq r q, λ p. subst (λ z. T (eqb r z)) p (eqb_refl r))

node_head : {g h : Head} → node g none ≡ node h none → g ≡ h
node_head e = cc

pub eq_head_iff : (g h : Head) → T (eq_head g h) ↔ (g ≡ h)
eq_head_iff g h = (
  (λ e. node_head (eq_tree_is (node g none) (node h none) (and_both (eq_head g h) true e tt))),
  λ p. and_left (eq_head g h) true (is_eq_tree (node g none) (node h none) (ap (λ x. node x none) p)),
)

-- registers
module _ (m : Memory) (r : ℕ) (v : Tree) where
  pub set_same : set m r v r ≡ some v
  set_same = go (eqb r r) (eqb_refl r)
    where
      go : (b : Bool) → T b → cond b (some v) (m r) ≡ some v
      go true h = refl
      go false h = elim h [ ]

  pub set_other : (q : ℕ) → ¬ (r ≡ q) → set m r v q ≡ m q
  set_other q n = go (eqb r q) (eqb_iff r q)
    where
      go : (b : Bool) → (T b ↔ (r ≡ q)) → cond b (some v) (m q) ≡ m q
      go true i = absurd (n (i.0 tt))
      go false i = refl

pub puts_below : (m : Memory) (r : ℕ) (vs : Trees) (q : ℕ) → q < r → puts m r vs q ≡ m q
puts_below m r none q h = refl
puts_below m r (more v vs) q h =
    puts_below (set m r v) (r + 1) vs q (omega arith) ∙ set_other m r v q (λ e. omega arith)

-- every filled register is so
abbrev pub All : (ℕ → Tree → Type 0) → Memory → Type 0
All Q m = (r : ℕ) (v : Tree) → m r ≡ some v → Q r v

pub all_set : (Q : ℕ → Tree → Type 0) (m : Memory) (r : ℕ) (v : Tree) → All Q m → Q r v → All Q (set m r v)
all_set Q m r v a h q w e = go (eqb r q) (eqb_iff r q) e
  where
    go : (b : Bool) → (T b ↔ (r ≡ q)) → cond b (some v) (m q) ≡ some w → Q q w
    go true i x = subst (λ z. Q z w) (i.0 tt) (subst (Q r) (some_inj x) h)
    go false i x = a q w x

pub all_puts : (Q : ℕ → Tree → Type 0) (m : Memory) (r : ℕ) (vs : Trees)
    → All Q m → ((q : ℕ) (v : Tree) → r ≤ q → q < r + count vs → v among vs → Q q v) → All Q (puts m r vs)
all_puts Q m r none a h = a
all_puts Q m r (more v vs) a h =
    all_puts Q (set m r v) (r + 1) vs
    (all_set Q m r v a (h r v (omega arith) (omega arith) (inl refl)))
    (λ q w l u i. h q w (omega arith) (omega arith) (inr i))

-- the registers filled are all below a number
abbrev pub Below : ℕ → Memory → Type 0
Below n m = All (λ r v. r < n) m

pub below_set : (m : Memory) (n : ℕ) (v : Tree) → Below n m → Below (n + 1) (set m n v)
below_set m n v b = all_set (λ r w. r < n + 1) m n v (λ r w e. let h = b r w e in omega arith) (omega arith)

pub below_puts : (m : Memory) (n : ℕ) (vs : Trees) → Below n m → Below (n + count vs) (puts m n vs)
below_puts m n vs b = all_puts (λ r w. r < n + count vs) m n vs (λ r w e. let h = b r w e in omega arith) (λ q v l u i. u)

-- a memory that keeps all that another holds
infix 40 ◌⊑◌
abbrev pub ◌⊑◌ : Memory → Memory → Type 0
m ⊑ m' = (r : ℕ) (v : Tree) → m r ≡ some v → m' r ≡ some v

pub ⊑-set : (m : Memory) (n : ℕ) (v : Tree) → Below n m → m ⊑ set m n v
⊑-set m n v b r w e = set_other m n v r (λ p. let h = b r w e in omega arith) ∙ e

pub ⊑-puts : (m : Memory) (n : ℕ) (vs : Trees) → Below n m → m ⊑ puts m n vs
⊑-puts m n vs b r w e = puts_below m n vs r (b r w e) ∙ e

-- reading several registers
and_more_parts : (o : Option Tree) (p : Option Trees) (vs : Trees) → and_more o p ≡ some vs
    → (v : Tree) × (ws : Trees) × (o ≡ some v) × (p ≡ some ws) × (vs ≡ more v ws)
and_more_parts nothing p vs e = absurd (no_some e)
and_more_parts (some v) nothing vs e = absurd (no_some e)
and_more_parts (some v) (some ws) vs e = (v, ws, refl, refl, sym (some_inj e))

pub reads_parts : (m : Memory) (r : ℕ) (rs : List ℕ) (vs : Trees) → reads m (r ∷ rs) ≡ some vs
    → (v : Tree) × (ws : Trees) × (m r ≡ some v) × (reads m rs ≡ some ws) × (vs ≡ more v ws)
reads_parts m r rs vs e = and_more_parts (m r) (reads m rs) vs e

pub reads_more : (m : Memory) (r : ℕ) (rs : List ℕ) (v : Tree) (vs : Trees)
    → m r ≡ some v → reads m rs ≡ some vs → reads m (r ∷ rs) ≡ some (more v vs)
reads_more m r rs v vs p q = λ i. and_more (p i) (q i)

pub ⊑-reads : (m m' : Memory) → m ⊑ m' → (rs : List ℕ) (vs : Trees) → reads m rs ≡ some vs → reads m' rs ≡ some vs
⊑-reads m m' k [] vs e = e
⊑-reads m m' k (r ∷ rs) vs e =
    let x = reads_parts m r rs vs e in
    reads_more m' r rs x.0 x.1 (k r x.0 x.2) (⊑-reads m m' k rs x.1 x.3) ∙ ap some (sym x.4)

-- as many consecutive registers as there are trees
abbrev pub regs : Trees → ℕ → List ℕ
regs none r = []
regs (more t ts) r = r ∷ regs ts (r + 1)

pub reads_puts : (m : Memory) (r : ℕ) (vs : Trees) → reads (puts m r vs) (regs vs r) ≡ some vs
reads_puts m r none = refl
reads_puts m r (more v vs) =
    reads_more (puts (set m r v) (r + 1) vs) r (regs vs (r + 1)) v vs
    (puts_below (set m r v) (r + 1) vs r (omega arith) ∙ set_same m r v)
    (reads_puts (set m r v) (r + 1) vs)

pub regs_count : (ts vs : Trees) (r : ℕ) → count ts ≡ count vs → regs ts r ≡ regs vs r
regs_count none none r e = refl
regs_count none (more v vs) r e = absurd (omega arith)
regs_count (more t ts) none r e = absurd (omega arith)
regs_count (more t ts) (more v vs) r e = ap (λ l. r ∷ l) (regs_count ts vs (r + 1) (omega arith))

-- what an action that ran has done
abbrev pub gets : ℕ → Tree → Machine → List Tree → List ℕ → ℕ → Machine
gets r v M vs ns s = record { mem = set M.mem r v; space = s; inputs = vs; numbers = ns }

abbrev pub Did : Act → Machine → Machine → Type 0
Did (give r) M M' = (v : Tree) × (vs : List Tree) × (M.inputs ≡ v ∷ vs) × (M' ≡ gets r v M vs M.numbers M.space)
Did (hear r) M M' = (v : Tree) × (vs : List Tree) × (M.inputs ≡ v ∷ vs) × (M' ≡ gets r v M vs M.numbers M.space)
Did (new r) M M' = (n : ℕ) × (ns : List ℕ) × (s : ℕ) × (M.numbers ≡ n ∷ ns) × (M' ≡ gets r (leaf n) M M.inputs ns s)
Did (say r) M M' = (v : Tree) × (M.mem r ≡ some v) × (M' ≡ M)
Did (same r q) M M' = (v : Tree) × (M.mem r ≡ some v) × (M.mem q ≡ some v) × (M' ≡ M)
Did (make r h rs) M M' = (vs : Trees) × (s : ℕ) × (reads M.mem rs ≡ some vs) × (M' ≡ gets r (node h vs) M M.inputs M.numbers s)
Did (split f n h r) M M' = (vs : Trees) × (n ≡ count vs) × (M.mem r ≡ some (node h vs)) × (M' ≡ with_memory (puts M.mem f vs) M)
Did (unlock x r k) M M' = (v : Tree) × (w : Tree) × (M.mem r ≡ some (crypt v w)) × (M.mem k ≡ some w) × (M' ≡ with_memory (set M.mem x v) M)

-- the ways through the tests
checked : (b : Bool) (f : Fault) (M M' : Machine) → check b f (ran M) ≡ ran M' → (b ≡ true) × (M' ≡ M)
checked true f M M' e = (refl, sym (ran_inj e))
checked false f M M' e = absurd (never_ran e)

needed : (o : Option Tree) (k : Tree → Result) (M' : Machine) → need o k ≡ ran M' → (v : Tree) × (o ≡ some v) × (k v ≡ ran M')
needed nothing k M' e = absurd (never_ran e)
needed (some v) k M' e = (v, refl, e)

needed_all : (o : Option Trees) (k : Trees → Result) (M' : Machine) → need_all o k ≡ ran M' → (vs : Trees) × (o ≡ some vs) × (k vs ≡ ran M')
needed_all nothing k M' e = absurd (never_ran e)
needed_all (some v) k M' e = (v, refl, e)

took_input : (r : ℕ) (M : Machine) (is : List Tree) (M' : Machine) → take_input r M is ≡ ran M'
    → (v : Tree) × (vs : List Tree) × (is ≡ v ∷ vs) × (M' ≡ gets r v M vs M.numbers M.space)
took_input r M [] M' e = absurd (never_ran e)
took_input r M (v ∷ vs) M' e = (v, vs, refl, sym (ran_inj e))

took_number : (c : Tree → ℕ) (r : ℕ) (M : Machine) (is : List ℕ) (M' : Machine) → take_number c r M is ≡ ran M'
    → (n : ℕ) × (ns : List ℕ) × (s : ℕ) × (is ≡ n ∷ ns) × (M' ≡ gets r (leaf n) M M.inputs ns s)
took_number c r M [] M' e = absurd (never_ran e)
took_number c r M (n ∷ ns) M' e = (n, ns, M.space - c (leaf n), refl, (checked (leb (c (leaf n)) M.space) full _ M' e).1)

is_true : (b : Bool) → b ≡ true → T b
is_true b e = subst⁻¹ T e tt

opened : (f n : ℕ) (h : Head) (v : Tree) (M M' : Machine) → open_up f n h v M ≡ ran M'
    → (vs : Trees) × (n ≡ count vs) × (v ≡ node h vs) × (M' ≡ with_memory (puts M.mem f vs) M)
opened f n h (leaf a) M M' e = absurd (never_ran e)
opened f n h (node g vs) M M' e =
    let x = checked (eq_head h g && eqb n (count vs)) mismatch _ M' e in
    let y = is_true (eq_head h g && eqb n (count vs)) x.0 in
    (vs, eqb→eq n (count vs) (and_right (eq_head h g) (eqb n (count vs)) y), ap (λ g. node g vs) (sym ((eq_head_iff h g).0 (and_left (eq_head h g) (eqb n (count vs)) y))), x.1)

opened_crypt : (x : ℕ) (v w : Tree) (M M' : Machine) → open_crypt x v w M ≡ ran M'
    → (u : Tree) × (v ≡ crypt u w) × (M' ≡ with_memory (set M.mem x u) M)
opened_crypt x (leaf a) w M M' e = absurd (never_ran e)
opened_crypt x (node tupled vs) w M M' e = absurd (never_ran e)
opened_crypt x (node (applied f) vs) w M M' e = absurd (never_ran e)
opened_crypt x (node crypted none) w M M' e = absurd (never_ran e)
opened_crypt x (node crypted (more v none)) w M M' e = absurd (never_ran e)
opened_crypt x (node crypted (more v (more k none))) w M M' e =
    let y = checked (eq_tree k w) mismatch _ M' e in
    (v, ap (crypt v) (eq_tree_is k w (is_true (eq_tree k w) y.0)), y.1)
opened_crypt x (node crypted (more v (more k (more u us)))) w M M' e = absurd (never_ran e)

pub did : (c : Tree → ℕ) (a : Act) (M M' : Machine) → step c a M ≡ ran M' → Did a M M'
did c (give r) M M' e = took_input r M M.inputs M' e
did c (hear r) M M' e = took_input r M M.inputs M' e
did c (new r) M M' e = took_number c r M M.numbers M' e
did c (say r) M M' e = let x = needed (M.mem r) _ M' e in (x.0, x.1, sym (ran_inj x.2))
did c (same r q) M M' e =
    let x = needed (M.mem r) _ M' e in
    let y = needed (M.mem q) _ M' x.2 in
    let z = checked (eq_tree x.0 y.0) mismatch _ M' y.2 in
    (x.0, x.1, y.1 ∙ ap some (sym (eq_tree_is x.0 y.0 (is_true (eq_tree x.0 y.0) z.0))), z.1)
did c (make r h rs) M M' e =
    let x = needed_all (reads M.mem rs) _ M' e in
    (x.0, M.space - c (node h x.0), x.1, (checked (leb (c (node h x.0)) M.space) full _ M' x.2).1)
did c (split f n h r) M M' e =
    let x = needed (M.mem r) _ M' e in
    let y = opened f n h x.0 M M' x.2 in
    (y.0, y.1, x.1 ∙ ap some y.2, y.3)
did c (unlock q r k) M M' e =
    let x = needed (M.mem r) _ M' e in
    let y = needed (M.mem k) _ M' x.2 in
    let z = opened_crypt q x.0 y.0 M M' y.2 in
    (z.0, y.0, x.1 ∙ ap some z.1, y.1, z.2)
