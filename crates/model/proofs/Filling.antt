-- Composing on sheets: what a role composes, its actions put into the register that they say.
use Rattle.std.proofs.Common.{◌≡◌, ℕ, ◌+◌, ◌≤◌, Bool, true, false, cond, T, List, [], ◌∷◌, ◌++◌, sym, refl, ap, ◌∙◌, inl, inr, append_assoc, append-nil, arith}
use mathlib.Core.Option.{Option, none as nothing, some}
use mathlib.Core.Path.{subst⁻¹}
use Rattle.model.specs.Lists.{Every}
use Rattle.model.specs.Trees.{Head, Tree, leaf, node, Trees, none, more, ◌among◌, size, sizes, Formed, FormedAll}
use Rattle.model.specs.Deduction.{Party, may}
use Rattle.model.specs.Roles.{Act, new, same, make, Entry, Role, find, act, fill, enter, meet, Composed, got, lacks, ComposedAll, got_all, lacks_one, and_then, put_together, compose, compose_all, meet_all, count}
use Rattle.model.specs.Entries.{Has, Held}
use Rattle.model.specs.Runs.{Memory, set, puts, reads}
use Rattle.model.specs.Programs.{leaf_of, leaves}
use Rattle.model.proofs.Lists.{every_join}
use Rattle.model.proofs.Entries.{entry, with_one, Found, found}
use Rattle.model.proofs.Composing.{Small, small_one}
use Rattle.model.proofs.Machine.{set_same, set_other, puts_below, all_set, all_puts, Below, below_set, below_puts, ◌⊑◌, ⊑-set, ⊑-puts, reads_parts, reads_more, ⊑-reads, regs}
use Rattle.model.proofs.Sheets.{Move, news, sames, makes, Plan, done, then, plan_append, plan_keeps, facts_right}
use Rattle.model.proofs.Grounds.{Explained, Good, held_every, good_act, good_enter, good_meet, meet_next}

pub formed_among : (ts : Trees) → FormedAll ts → (t : Tree) → t among ts → Formed t
formed_among none f t i = elim i [ ]
formed_among (more u us) f t (inl p) = subst⁻¹ Formed p f.0
formed_among (more u us) f t (inr i) = formed_among us f.1 t i

-- the actions that one state has more than another
pub record Grew (P : Party) (s : Role) (Γ : Memory) (s' : Role) (Γ' : Memory) (is : List Tree) (ns : List ℕ) : Type 0 where
  pub line : List Act
  pub adds : s'.acts ≡ s.acts ++ line
  pub plan : Plan P s.next Γ line s'.next Γ' is ns

module _ (P : Party) where
  pub grew_none : (s : Role) (Γ : Memory) → Grew P s Γ s Γ [] []
  grew_none s Γ = record { line = []; adds = sym (append-nil s.acts); plan = done }

  pub grew_then : {s s₁ s₂ : Role} {Γ Γ₁ Γ₂ : Memory} {is js : List Tree} {ns ks : List ℕ}
      → Grew P s Γ s₁ Γ₁ is ns → Grew P s₁ Γ₁ s₂ Γ₂ js ks → Grew P s Γ s₂ Γ₂ (is ++ js) (ns ++ ks)
  grew_then {s = s} a b =
      record {
        line = a.line ++ b.line;
        adds = b.adds ∙ ap (λ l. l ++ b.line) a.adds ∙ append_assoc s.acts a.line b.line;
        plan = plan_append P a.plan b.plan;
      }

  pub grew_one : (s s' : Role) (Γ Γ' : Memory) (a : Act) (is : List Tree) (ns : List ℕ) → s'.acts ≡ s.acts ++ (a ∷ [])
      → Move P s.next Γ a s'.next Γ' is ns → Grew P s Γ s' Γ' (is ++ []) (ns ++ [])
  grew_one s s' Γ Γ' a is ns e m = record { line = a ∷ []; adds = e; plan = then m done }

  pub grew_keeps : {s s' : Role} {Γ Γ' : Memory} {is : List Tree} {ns : List ℕ} → Grew P s Γ s' Γ' is ns → Below s.next Γ → Γ ⊑ Γ'
  grew_keeps g b = (plan_keeps P g.plan b).0

  -- meeting
  pub grew_meet : (s : Role) (Γ : Memory) (k : ℕ) (X : ℕ → Type 0) → Good s Γ k X → (t : Tree) → Γ k ≡ some t → Grew P s Γ (meet t k s) Γ [] []
  grew_meet s Γ k X g t e = go (find t s.known) (found s.known t)
    where
      go : (o : Option ℕ) → Found s.known t o → Grew P s Γ (elim o [ some old ↦ act (same k old) s | nothing ↦ enter t k false s ]) Γ [] []
      go (some q) f = grew_one s (act (same k q) s) Γ Γ (same k q) [] [] refl (sames e (held_every (λ u r. Γ r ≡ some u) s.known g.entries t q f))
      go nothing f = record { line = []; adds = sym (append-nil s.acts); plan = done }

  pub grew_meet_all : (ts : Trees) (s : Role) (Γ : Memory) (k : ℕ) (X : ℕ → Type 0) → Good s Γ k X → k + count ts ≤ s.next → reads Γ (regs ts k) ≡ some ts
      → Grew P s Γ (meet_all ts k s) Γ [] []
  grew_meet_all none s Γ k X g l e = grew_none s Γ
  grew_meet_all (more t ts) s Γ k X g l e =
      let x = reads_parts Γ k (regs ts (k + 1)) (more t ts) e in
      let t= : x.0 ≡ t = first x.4 in
      let ts= : x.1 ≡ ts = rest x.4 in
      let n = meet_next t k s in
      let y : Γ k ≡ some t = x.2 ∙ ap some t= in
      grew_then (grew_meet s Γ k X g t y)
      (grew_meet_all ts (meet t k s) Γ (k + 1) X (good_meet s Γ k X g (omega arith) t y) (omega arith) (x.3 ∙ ap some ts=))
    where
      first : {a b : Tree} {us vs : Trees} → more a us ≡ more b vs → b ≡ a
      first p = cc

      rest : {a b : Tree} {us vs : Trees} → more a us ≡ more b vs → vs ≡ us
      rest p = cc

-- the next register is filled for a term, and not met yet
pub good_set : (s : Role) (Γ : Memory) (k : ℕ) (X : ℕ → Type 0) → Good s Γ k X → (a : Act) (t : Tree) → Formed t
    → Good (record { known = s.known; next = s.next + 1; acts = s.acts ++ (a ∷ []) }) (set Γ s.next t) k X
good_set s Γ k X g a t f =
    good_act s Γ k X g a (s.next + 1) (set Γ s.next t) (omega arith) (⊑-set Γ s.next t g.bound)
    (λ r h. set_other Γ s.next t r (λ p. omega arith)) (below_set Γ s.next t g.bound)
    (all_set (λ r u. Formed u) Γ s.next t g.formed f)

pub good_puts : (s : Role) (Γ : Memory) (k : ℕ) (X : ℕ → Type 0) → Good s Γ k X → (a : Act) (ts : Trees) → FormedAll ts
    → Good (record { known = s.known; next = s.next + count ts; acts = s.acts ++ (a ∷ []) }) (puts Γ s.next ts) k X
good_puts s Γ k X g a ts f =
    good_act s Γ k X g a (s.next + count ts) (puts Γ s.next ts) (omega arith) (⊑-puts Γ s.next ts g.bound)
    (λ r h. puts_below Γ s.next ts r h) (below_puts Γ s.next ts g.bound)
    (all_puts (λ r u. Formed u) Γ s.next ts g.formed (λ q v l u i. formed_among ts f v i))

-- the next register is filled for a term that joins
pub good_fresh : (s : Role) (Γ : Memory) (X : ℕ → Type 0) → Good s Γ s.next X → (a : Act) (t : Tree) → Formed t → ¬ Has s.known t
    → (b : Bool) → (T b → Explained (set Γ s.next t) (s.acts ++ (a ∷ [])) s.next t)
    → Good (record { known = with_one s.known (entry t s.next b); next = s.next + 1; acts = s.acts ++ (a ∷ []) }) (set Γ s.next t) (s.next + 1) X
good_fresh s Γ X g a t f n b x =
    good_enter (record { known = s.known; next = s.next + 1; acts = s.acts ++ (a ∷ []) }) (set Γ s.next t) s.next X
    (good_set s Γ s.next X g a t f) (omega arith) t (set_same Γ s.next t) n b x

-- a state that is at rest again, but for `X`
pub record Went (P : Party) (s : Role) (Γ : Memory) (s' : Role) (X : ℕ → Type 0) (is : List Tree) (ns : List ℕ) : Type 0 where
  pub sheet : Memory
  pub good : Good s' sheet s'.next X
  pub grew : Grew P s Γ s' sheet is ns

leaves_one : (es : List Entry) (e : Entry) → leaves (with_one es e) ≡ leaves es ++ leaf_of e.term
leaves_one [] e = append-nil (leaf_of e.term)
leaves_one (x ∷ es) e = ap (λ l. leaf_of x.term ++ l) (leaves_one es e) ∙ sym (append_assoc (leaf_of x.term) (leaves es) (leaf_of e.term))

module _ (P : Party) (may_make : ℕ → Bool) (X : ℕ → Type 0) where
  abbrev pub Made : Role → Memory → Tree → Composed → Type 0
  Made s Γ t (got s' r) =
      (ns : List ℕ) × (w : Went P s Γ s' X [] ns) × (w.sheet r ≡ some t) × Small s.known s'.known (size t) × Every (λ n. T (may_make n)) ns
      × (leaves s'.known ≡ leaves s.known ++ ns)
  Made s Γ t (lacks u) = Unit {0}

  abbrev pub MadeAll : Role → Memory → Trees → ComposedAll → Type 0
  MadeAll s Γ ts (got_all s' rs) =
      (ns : List ℕ) × (w : Went P s Γ s' X [] ns) × (reads w.sheet rs ≡ some ts) × Small s.known s'.known (sizes ts) × Every (λ n. T (may_make n)) ns
      × (leaves s'.known ≡ leaves s.known ++ ns)
  MadeAll s Γ ts (lacks_one u) = Unit {0}

  -- a term that is known
  made_known : (s : Role) (Γ : Memory) (t : Tree) (r : ℕ) → Good s Γ s.next X → Held s.known t r → Made s Γ t (got s r)
  made_known s Γ t r g h =
      ([], record { sheet = Γ; good = g; grew = grew_none P s Γ }, held_every (λ u q. Γ q ≡ some u) s.known g.entries t r h, (λ u k. inl k), tt, sym (append-nil (leaves s.known)))

  -- a name that is made
  made_name : (s : Role) (Γ : Memory) (n : ℕ) → Good s Γ s.next X → ¬ Has s.known (leaf n) → (b : Bool) → (T b → T (may_make n))
      → Made s Γ (leaf n) (cond b (got (enter (leaf n) s.next true (fill new s)) s.next) (lacks (leaf n)))
  made_name s Γ n g h true f = (
    n ∷ [],
    record {
      sheet = set Γ s.next (leaf n);
      good = good_fresh s Γ X g (new s.next) (leaf n) tt h true (λ c. tt);
      grew = grew_one P s (enter (leaf n) s.next true (fill new s)) Γ (set Γ s.next (leaf n)) (new s.next) [] (n ∷ []) refl (news n);
    },
    set_same Γ s.next (leaf n),
    small_one s.known s.known (entry (leaf n) s.next true) (size (leaf n)) (omega arith) (λ u k. inl k),
    (f tt, tt),
    leaves_one s.known (entry (leaf n) s.next true),
  )
  made_name s Γ n g h false f = tt

  made_leaf : (s : Role) (Γ : Memory) (n : ℕ) → Good s Γ s.next X → Made s Γ (leaf n) (compose P may_make (leaf n) s)
  unfolding compose
  made_leaf s Γ n g = go (find (leaf n) s.known) (found s.known (leaf n))
    where
      go : (o : Option ℕ) → Found s.known (leaf n) o → Made s Γ (leaf n) (elim o [ some r ↦ got s r | nothing ↦ cond (may_make n) (got (enter (leaf n) s.next true (fill new s)) s.next) (lacks (leaf n)) ])
      go (some r) f = made_known s Γ (leaf n) r g f
      go nothing f = made_name s Γ n g f (may_make n) (λ x. x)

  -- a compound that is built
  made_put : (s : Role) (Γ : Memory) (h : Head) (ts : Trees) → Formed (node h ts) → T (may P h) → ¬ Has s.known (node h ts)
      → (c : ComposedAll) → MadeAll s Γ ts c → Made s Γ (node h ts) (put_together h ts c)
  unfolding size
  made_put s Γ h ts f p n (got_all s' rs) (ns, w, e, sm, ev, lv) = (
    ns ++ [],
    record {
      sheet = Γ'';
      good = good_fresh s' w.sheet X w.good (make s'.next h rs) (node h ts) f lacking true (λ c. why);
      grew = grew_then P w.grew (grew_one P s' (enter (node h ts) s'.next true (fill (λ r. make r h rs) s')) w.sheet Γ'' (make s'.next h rs) [] [] refl (makes e p f.0));
    },
    set_same w.sheet s'.next (node h ts),
    small_one s.known s'.known (entry (node h ts) s'.next true) (size (node h ts)) (omega arith) wider,
    every_join _ ns [] ev tt,
    leaves_one s'.known (entry (node h ts) s'.next true) ∙ ap (λ l. l ++ []) lv ∙ append_assoc (leaves s.known) ns [],
  )
    where
      Γ'' : Memory
      Γ'' = set w.sheet s'.next (node h ts)

      lacking : ¬ Has s'.known (node h ts)
      lacking k = elim (sm (node h ts) k) [ inl b ↦ n b | inr l ↦ omega arith ]

      wider : Small s.known s'.known (size (node h ts))
      wider u k = elim (sm u k) [ inl b ↦ inl b | inr l ↦ inr (omega arith) ]

      why : Explained Γ'' (s'.acts ++ (make s'.next h rs ∷ [])) s'.next (node h ts)
      why = (
        rs,
        ⊑-reads w.sheet Γ'' (⊑-set w.sheet s'.next (node h ts) w.good.bound) rs ts e,
        λ m c. (facts_right m s'.acts (make s'.next h rs ∷ []) c).0,
      )
  made_put s Γ h ts f p n (lacks_one u) x = tt

  made_right : (s : Role) (Γ : Memory) (h : Head) (ts : Trees) → Formed (node h ts) → ¬ Has s.known (node h ts)
      → (c : ComposedAll) → MadeAll s Γ ts c → (b : Bool) → (T b → T (may P h)) → Made s Γ (node h ts) (cond b (put_together h ts c) (lacks (node h ts)))
  made_right s Γ h ts f n c m true p = made_put s Γ h ts f (p tt) n c m
  made_right s Γ h ts f n c m false p = tt

  made_node : (s : Role) (Γ : Memory) (h : Head) (ts : Trees) → Good s Γ s.next X → Formed (node h ts)
      → MadeAll s Γ ts (compose_all P may_make ts s) → Made s Γ (node h ts) (compose P may_make (node h ts) s)
  unfolding compose
  made_node s Γ h ts g f m = go (find (node h ts) s.known) (found s.known (node h ts))
    where
      go : (o : Option ℕ) → Found s.known (node h ts) o → Made s Γ (node h ts) (elim o [ some r ↦ got s r | nothing ↦ cond (may P h) (put_together h ts (compose_all P may_make ts s)) (lacks (node h ts)) ])
      go (some r) i = made_known s Γ (node h ts) r g i
      go nothing n = made_right s Γ h ts f n (compose_all P may_make ts s) m (may P h) (λ x. x)

  -- the parts in order
  made_then : (s s' : Role) (Γ : Memory) (t : Tree) (r : ℕ) (ts : Trees) (ns : List ℕ) (w : Went P s Γ s' X [] ns) → w.sheet r ≡ some t
      → Small s.known s'.known (size t) → Every (λ n. T (may_make n)) ns → leaves s'.known ≡ leaves s.known ++ ns
      → (c : ComposedAll) → MadeAll s' w.sheet ts c → MadeAll s Γ (more t ts) (and_then r c)
  unfolding size
  made_then s s' Γ t r ts ns w e sm ev lv (got_all s'' rs) (ks, x, i, tm, fv, kv) = (
    ns ++ ks,
    record { sheet = x.sheet; good = x.good; grew = grew_then P w.grew x.grew },
    reads_more x.sheet r rs t ts (grew_keeps P x.grew w.good.bound r t e) i,
    small,
    every_join _ ns ks ev fv,
    kv ∙ ap (λ l. l ++ ks) lv ∙ append_assoc (leaves s.known) ns ks,
  )
    where
      small : Small s.known s''.known (sizes (more t ts))
      small u h =
          elim (tm u h) [
            | inl a ↦ elim (sm u a) [ inl b ↦ inl b | inr l ↦ inr (omega arith) ]
            | inr l ↦ inr (omega arith)
          ]
  made_then s s' Γ t r ts ns w e sm ev lv (lacks_one u) m = tt

  made_more : (s : Role) (Γ : Memory) (t : Tree) (ts : Trees) → (c : Composed) → Made s Γ t c
      → ((s' : Role) (Γ' : Memory) → Good s' Γ' s'.next X → MadeAll s' Γ' ts (compose_all P may_make ts s'))
      → MadeAll s Γ (more t ts) (elim c [ got s' r ↦ and_then r (compose_all P may_make ts s') | lacks u ↦ lacks_one u ])
  made_more s Γ t ts (got s' r) (ns, w, e, sm, ev, lv) f = made_then s s' Γ t r ts ns w e sm ev lv (compose_all P may_make ts s') (f s' w.sheet w.good)
  made_more s Γ t ts (lacks u) m f = tt

  mutual
    unfolding compose

    pub made : (t : Tree) (s : Role) (Γ : Memory) → Good s Γ s.next X → Formed t → Made s Γ t (compose P may_make t s)
    made (leaf n) s Γ g f = made_leaf s Γ n g
    made (node h ts) s Γ g f = made_node s Γ h ts g f (made_all ts s Γ g f.1)

    pub made_all : (ts : Trees) (s : Role) (Γ : Memory) → Good s Γ s.next X → FormedAll ts → MadeAll s Γ ts (compose_all P may_make ts s)
    made_all none s Γ g f = ([], record { sheet = Γ; good = g; grew = grew_none P s Γ }, refl, (λ u k. inl k), tt, sym (append-nil (leaves s.known)))
    made_all (more t ts) s Γ g f = made_more s Γ t ts (compose P may_make t s) (made t s Γ g f.0) (λ s' Γ' g'. made_all ts s' Γ' g' f.1)
