-- What a role's list keeps, as its actions grow: each register is for a term that is known, and each settled compound is explained by actions.
use Rattle.std.proofs.Common.{◌≡◌, ℕ, ◌+◌, ◌<◌, ◌≤◌, Bool, false, T, ◌⊎◌, List, [], ◌∷◌, ◌++◌, sym, refl, ap, ◌∙◌, subst, inl, inr, arith}
use mathlib.Core.Option.{Option, none as nothing, some}
use mathlib.Core.Path.{subst⁻¹}
use native.Mathlib.Decide.{dec_lt}
use Rattle.model.specs.Lists.{Every}
use Rattle.model.specs.Trees.{Tree, leaf, node, Trees, none, more, Formed}
use Rattle.model.specs.Roles.{Act, same, Entry, Role, find, act, enter, meet, meet_all, count}
use Rattle.model.specs.Entries.{Has, Held, Ascends, Once}
use Rattle.model.specs.Runs.{Memory, reads}
use Rattle.model.proofs.Lists.{every_map}
use Rattle.model.proofs.Entries.{entry, with_one, Found, found, held_new, every_one, ascends_one, once_one}
use Rattle.model.proofs.Machine.{some_inj, All, Below, ◌⊑◌, reads_parts, ⊑-reads, regs}
use Rattle.model.proofs.Sheets.{Facts, facts_left, facts_right}

-- a compound's value is built from the values of registers that are for its parts
abbrev pub Explained : Memory → List Act → ℕ → Tree → Type 0
Explained Γ xs r (leaf n) = Unit {0}
Explained Γ xs r (node h ts) =
    (rs : List ℕ) × (reads Γ rs ≡ some ts) × ((m : Memory) → Facts m xs → (vs : Trees) × (reads m rs ≡ some vs) × (m r ≡ some (node h vs)))

-- the registers below `k` were met; `X` tells which registers need no explanation
pub record Good (s : Role) (Γ : Memory) (k : ℕ) (X : ℕ → Type 0) : Type 0 where
  pub bound : Below s.next Γ
  pub upto : k ≤ s.next
  pub low : Every (λ e. e.at < k) s.known
  pub ascends : Ascends s.known
  pub once : Once s.known
  pub entries : Every (λ e. Γ e.at ≡ some e.term) s.known
  pub met : (r : ℕ) (t : Tree) → r < k → Γ r ≡ some t → (q : ℕ) × Held s.known t q × ((m : Memory) → Facts m s.acts → m r ≡ m q)
  pub explained : Every (λ e. T e.settled → X e.at ⊎ Explained Γ s.acts e.at e.term) s.known
  pub formed : All (λ r t. Formed t) Γ

pub explained_more : (Γ Γ' : Memory) (xs ys : List Act) → Γ ⊑ Γ' → (r : ℕ) (t : Tree) → Explained Γ xs r t → Explained Γ' (xs ++ ys) r t
explained_more Γ Γ' xs ys k r (leaf n) x = tt
explained_more Γ Γ' xs ys k r (node h ts) x = (x.0, ⊑-reads Γ Γ' k x.0 ts x.1, λ m f. x.2 m (facts_left m xs ys f))

pub held_every : (X : Tree → ℕ → Type 0) (es : List Entry) → Every (λ e. X e.term e.at) es → (t : Tree) (r : ℕ) → Held es t r → X t r
held_every X [] a t r h = elim h [ ]
held_every X (e ∷ es) a t r (inl p) = subst⁻¹ (λ u. X u r) p.0 (subst⁻¹ (X e.term) p.1 a.0)
held_every X (e ∷ es) a t r (inr h) = held_every X es a.1 t r h

pub held_old : (es : List Entry) (e : Entry) (t : Tree) (r : ℕ) → Held es t r → Held (with_one es e) t r
held_old [] e t r h = elim h [ ]
held_old (x ∷ es) e t r (inl p) = inl p
held_old (x ∷ es) e t r (inr h) = inr (held_old es e t r h)

-- one more action, and perhaps registers filled that are not met yet
pub good_act : (s : Role) (Γ : Memory) (k : ℕ) (X : ℕ → Type 0) → Good s Γ k X → (a : Act) (n' : ℕ) (Γ' : Memory)
    → s.next ≤ n' → Γ ⊑ Γ' → ((r : ℕ) → r < s.next → Γ' r ≡ Γ r) → Below n' Γ' → All (λ r t. Formed t) Γ'
    → Good (record { known = s.known; next = n'; acts = s.acts ++ (a ∷ []) }) Γ' k X
good_act s Γ k X g a n' Γ' l i o b f =
    let u = g.upto in
    record {
      bound = b;
      upto = omega arith;
      low = g.low;
      ascends = g.ascends;
      once = g.once;
      entries = every_map (λ e. Γ e.at ≡ some e.term) (λ e. Γ' e.at ≡ some e.term) (λ e p. i _ _ p) s.known g.entries;
      met = λ r t h p. let x = g.met r t h (sym (o r (omega arith)) ∙ p) in (x.0, x.1, λ m c. x.2 m (facts_left m s.acts (a ∷ []) c));
      explained = every_map (λ e. T e.settled → X e.at ⊎ Explained Γ s.acts e.at e.term)
          (λ e. T e.settled → X e.at ⊎ Explained Γ' (s.acts ++ (a ∷ [])) e.at e.term)
          (λ e h c. elim (h c) [ inl x ↦ inl x | inr y ↦ inr (explained_more Γ Γ' s.acts (a ∷ []) i e.at e.term y) ])
          s.known g.explained;
      formed = f;
    }

below_next : (k r : ℕ) → r < k + 1 → (r < k) ⊎ (r ≡ k)
below_next k r h = go (dec_lt r k)
  where
    go : Dec (r < k) → (r < k) ⊎ (r ≡ k)
    go (yes l) = inl l
    go (no n) = inr (omega arith)

-- the next register is met: it is compared with a register for the same term
pub good_same : (s : Role) (Γ : Memory) (k : ℕ) (X : ℕ → Type 0) → Good s Γ k X → k < s.next → (t : Tree) → Γ k ≡ some t
    → (q : ℕ) → q < k → Γ q ≡ some t → Good (act (same k q) s) Γ (k + 1) X
good_same s Γ k X g l t e q lq eq =
    let g' = good_act s Γ k X g (same k q) s.next Γ (omega arith) (λ r v x. x) (λ r h. refl) g.bound g.formed in
    record {
      bound = g.bound;
      upto = omega arith;
      low = every_map (λ e. e.at < k) (λ e. e.at < k + 1) (λ e h. omega arith) s.known g.low;
      ascends = g.ascends;
      once = g.once;
      entries = g.entries;
      met = λ r u h p. one r u p (below_next k r h) g'.met;
      explained = g'.explained;
      formed = g.formed;
    }
  where
    one : (r : ℕ) (u : Tree) → Γ r ≡ some u → (r < k) ⊎ (r ≡ k)
        → ((r : ℕ) (t : Tree) → r < k → Γ r ≡ some t → (p : ℕ) × Held s.known t p × ((m : Memory) → Facts m (s.acts ++ (same k q ∷ [])) → m r ≡ m p))
        → (p : ℕ) × Held s.known u p × ((m : Memory) → Facts m (s.acts ++ (same k q ∷ [])) → m r ≡ m p)
    one r u p (inl h) f = f r u h p
    one r u p (inr h) f =
        let x = f q t lq eq in
        let y : t ≡ u = some_inj (sym e ∙ ap Γ (sym h) ∙ p) in (
          x.0,
          subst (λ z. Held s.known z x.0) y x.1,
          λ m c. let z = (facts_right m s.acts (same k q ∷ []) c).0 in ap m h ∙ (z.1 ∙ sym z.2) ∙ x.2 m c,
        )

-- or its term joins the list
pub good_enter : (s : Role) (Γ : Memory) (k : ℕ) (X : ℕ → Type 0) → Good s Γ k X → k < s.next → (t : Tree) → Γ k ≡ some t → ¬ Has s.known t
    → (b : Bool) → (T b → Explained Γ s.acts k t) → Good (enter t k b s) Γ (k + 1) X
good_enter s Γ k X g l t e n b x =
    record {
      bound = g.bound;
      upto = omega arith;
      low = every_one (λ e. e.at < k + 1) s.known (entry t k b) (every_map (λ e. e.at < k) (λ e. e.at < k + 1) (λ e h. omega arith) s.known g.low) (omega arith);
      ascends = ascends_one s.known (entry t k b) g.ascends g.low;
      once = once_one s.known (entry t k b) g.once n;
      entries = every_one (λ e. Γ e.at ≡ some e.term) s.known (entry t k b) g.entries e;
      met = λ r u h p. one r u p (below_next k r h);
      explained = every_one (λ e. T e.settled → X e.at ⊎ Explained Γ s.acts e.at e.term) s.known (entry t k b) g.explained (λ c. inr (x c));
      formed = g.formed;
    }
  where
    one : (r : ℕ) (u : Tree) → Γ r ≡ some u → (r < k) ⊎ (r ≡ k)
        → (p : ℕ) × Held (with_one s.known (entry t k b)) u p × ((m : Memory) → Facts m s.acts → m r ≡ m p)
    one r u p (inl h) = let x = g.met r u h p in (x.0, held_old s.known (entry t k b) u x.0 x.1, x.2)
    one r u p (inr h) =
        let y : t ≡ u = some_inj (sym e ∙ ap Γ (sym h) ∙ p) in
        (k, subst (λ z. Held (with_one s.known (entry t k b)) z k) y (held_new s.known (entry t k b)), λ m c. ap m h)

pub good_meet : (s : Role) (Γ : Memory) (k : ℕ) (X : ℕ → Type 0) → Good s Γ k X → k < s.next → (t : Tree) → Γ k ≡ some t → Good (meet t k s) Γ (k + 1) X
good_meet s Γ k X g l t e = go (find t s.known) (found s.known t)
  where
    go : (o : Option ℕ) → Found s.known t o → Good (elim o [ some old ↦ act (same k old) s | nothing ↦ enter t k false s ]) Γ (k + 1) X
    go (some q) f =
        good_same s Γ k X g l t e q
        (held_every (λ u r. r < k) s.known g.low t q f)
        (held_every (λ u r. Γ r ≡ some u) s.known g.entries t q f)
    go nothing f = good_enter s Γ k X g l t e f false (λ c. elim c [ ])

-- a meeting leaves the next register as it was
pub meet_next : (t : Tree) (k : ℕ) (s : Role) → (meet t k s).next ≡ s.next
meet_next t k s = go (find t s.known)
  where
    go : (o : Option ℕ) → (let s' : Role = elim o [ some old ↦ act (same k old) s | nothing ↦ enter t k false s ] in s'.next) ≡ s.next
    go (some q) = refl
    go nothing = refl

pub good_meet_all : (ts : Trees) (s : Role) (Γ : Memory) (k : ℕ) (X : ℕ → Type 0) → Good s Γ k X → k + count ts ≤ s.next → reads Γ (regs ts k) ≡ some ts
    → Good (meet_all ts k s) Γ (k + count ts) X
good_meet_all none s Γ k X g l e = subst (λ j. Good s Γ j X) (omega arith) g
good_meet_all (more t ts) s Γ k X g l e =
    let x = reads_parts Γ k (regs ts (k + 1)) (more t ts) e in
    let t= : x.0 ≡ t = first x.4 in
    let ts= : x.1 ≡ ts = rest x.4 in
    let n = meet_next t k s in
    subst (λ j. Good (meet_all ts (k + 1) (meet t k s)) Γ j X) (omega arith)
    (good_meet_all ts (meet t k s) Γ (k + 1) X (good_meet s Γ k X g (omega arith) t (x.2 ∙ ap some t=)) (omega arith) (x.3 ∙ ap some ts=))
  where
    first : {a b : Tree} {us vs : Trees} → more a us ≡ more b vs → b ≡ a
    first p = cc

    rest : {a b : Tree} {us vs : Trees} → more a us ≡ more b vs → vs ≡ us
    rest p = cc
