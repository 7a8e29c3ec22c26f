-- A call of one run, a value made and a question, beside plain runs.
use Rattle.std.proofs.Common.{◌≡◌, ℕ, ◌-◌, ◌<◌, Bool, true, false, cond, leb, ltb, ◌⊎◌, inl, inr, List, length, get_or, set, Ok, Err, Result, sym, refl, ap, ◌∙◌, subst, arith, eq-eqb, ne_eqb}
use Rattle.std.proofs.lemmas.Bool.{cases_eq, le-leb, lt-leb, lt-ltb}
use Rattle.std.proofs.lemmas.List.{get_or-set_same, get_or-set_other, length-set}
use mathlib.Core.Option as model
use mathlib.Core.Path.{subst⁻¹}
use Rattle.model.specs.Trees.{Tree}
use Rattle.model.specs.Runs.{Memory}
use Rattle.model.specs.Sessions.{Event, build, other, Answer, taken, declined, outside}
use Rattle.store.specs.declared.fault.StoreFault.{StoreFault}
use Rattle.store.specs.Makers.{Makes}
use Rattle.store.specs.Semantics.{Semantics}
use Rattle.run.specs.declared.run.Run.{Run}
use Rattle.run.specs.Plain.{Plain, Call, After, call}
use Rattle.run.specs.declared.fault.RunFault.{RunFault}
use Rattle.run.specs.declared.fault.RunFault.TheVariants.{OutOfTurn, Counts, Mismatch, Store}
use Rattle.run.specs.Faults.{fault_of, IsLate}
use Rattle.run.specs.Called.{Shows, Took, Called, bare, early}
use Rattle.run.specs.Shown.{Meaning, Kept}
use Rattle.run.proofs.Holding.{holds_still}
use Rattle.sessions.specs.declared.reply.Reply.{Reply}
use Rattle.sessions.specs.declared.reply.Reply.TheVariants as replies
use Rattle.sessions.specs.Plays.{Playing, put, turned, play}
use Rattle.sessions.specs.Replies.{Made, reply_by, reply_of}
use Rattle.sessions.proofs.Events.{Untouched}
use Rattle.sessions.proofs.Events.{of_role, of_maker}
use Rattle.sessions.proofs.Standing.{role_of, Stands, Moves}

-- a store that keeps its handles shows the same
pub shows_still : (m m' : Meaning) → Kept m m' → (run : Run) (w : Plain) → Shows m run w → Shows m' run w
shows_still m m' k run w s = record { begun = s.begun; done = s.done; ahead = s.ahead; numbers = s.numbers; memory = holds_still m m' k run.registers w.memory s.memory }

pub stands_still : (m m' : Meaning) (free : ℕ) → Kept m m' → (runs : List Run) (p : Playing) → (space : ℕ) → space ≡ free → ((k : ℕ) (run : Run) → k < length runs → Shows m (get_or runs k run) (p.runs k))
    → Stands m' free runs (record { space = space; runs = p.runs })
stands_still m m' free k runs p space e each = record { space = e; each = λ i run l. shows_still m m' k (get_or runs i run) (p.runs i) (each i run l) }

module _ {S : Type 0} (M : Semantics S) where
  module _ (old new : S) where
    -- a fault that is none of those before anything is done
    is_late : (g : RunFault) → IsLate (model.some g) → Untouched old new (replies.Run g)
    is_late (OutOfTurn p) l = absurd l
    is_late (Counts p) l = absurd l
    is_late (Mismatch p) l = tt
    is_late (Store f p) l = tt

    still : (g : RunFault) → new ≡ old → Untouched old new (replies.Run g)
    still (OutOfTurn p) e = e
    still (Counts p) e = e
    still (Mismatch p) e = tt
    still (Store f p) e = tt

  -- nothing is done
  pub unmoved : (s : S) (runs : List Run) (Replied : (ℕ → Memory) → Answer → Type 0) → ((memories : ℕ → Memory) → Replied memories outside) → Moves M s s runs runs other Replied
  unmoved s runs Replied f = record { kept = λ h v e. e; priced = refl; many = refl; others = λ k run h. refl; stands = λ p st. st; replied = λ p st. f (λ r. (p.runs r).memory) }

  -- a question of the runs' registers
  pub looked : (s : S) (runs : List Run) (Replied : (ℕ → Memory) → Answer → Type 0)
      → ((p : Playing) → Stands (M.means s) (M.space s) runs p → Replied (λ r. (p.runs r).memory) outside) → Moves M s s runs runs other Replied
  looked s runs Replied f = record { kept = λ h v e. e; priced = refl; many = refl; others = λ k run h. refl; stands = λ p st. st; replied = f }

  -- one of the runs is called
  module _ (old new : S) (runs : List Run) (r : ℕ) (l : r < length runs) (d run' : Run) (e : Call) (fault : model.Option RunFault) (answers : Answer → Type 0)
      (c : Called M old new (get_or runs r d) run' e fault answers) where
    went : (p : Playing) → Stands (M.means old) (M.space old) runs p → Took M new run' answers (call (M.cost old) (p.runs r) p.space e)
    went p st = subst⁻¹ (λ n. Took M new run' answers (call (M.cost old) (p.runs r) n e)) st.space (c.done (p.runs r) (st.each r d l))

    called_stands : (p : Playing) → Stands (M.means old) (M.space old) runs p → Stands (M.means new) (M.space new) (set runs r run') (turned p r (call (M.cost old) (p.runs r) p.space e)).0
    called_stands p st = record { space = sym (went p st).paid; each = λ k d h. at k d (subst (λ n. k < n) (length-set runs r run') h) (cases_eq r k) }
      where
        a : After
        a = call (M.cost old) (p.runs r) p.space e

        at : (k : ℕ) (d : Run) → k < length runs → (r ≡ k) ⊎ (r ≡ k → ⊥) → Shows (M.means new) (get_or (set runs r run') k d) (put p.runs r a.run k)
        at k d h (inl q) =
            subst⁻¹ (λ b. Shows (M.means new) (get_or (set runs r run') k d) (cond b a.run (p.runs k))) (eq-eqb r k q)
            (subst⁻¹ (λ x. Shows (M.means new) x a.run) (ap (λ z. get_or (set runs r run') z d) (sym q) ∙ get_or-set_same runs r run' d l) (went p st).shows)
        at k d h (inr q) =
            subst⁻¹ (λ b. Shows (M.means new) (get_or (set runs r run') k d) (cond b a.run (p.runs k))) (ne_eqb r k q)
            (subst⁻¹ (λ x. Shows (M.means new) x (p.runs k)) (get_or-set_other runs r k run' d (λ z. q (sym z)))
            (shows_still (M.means old) (M.means new) c.kept (get_or runs k d) (p.runs k) (st.each k d h)))

    -- an event that is this call
    called_moves : (v : Event) → role_of v ≡ model.some r → ((p : Playing) → play (M.cost old) p v ≡ turned p r (call (M.cost old) (p.runs r) p.space e)) → (Replied : (ℕ → Memory) → Answer → Type 0)
        → ((memories : ℕ → Memory) (a : Answer) → answers a → Replied memories a) → Moves M old new runs (set runs r run') v Replied
    called_moves v own is Replied f = record {
      kept = c.kept;
      priced = c.priced;
      many = length-set runs r run';
      others = λ k run h. get_or-set_other runs r k run' run (λ z. h (own ∙ ap model.some (sym z)));
      stands = λ p st. subst⁻¹ (λ x. Stands (M.means new) (M.space new) (set runs r run') x.0) (is p) (called_stands p st);
      replied = λ p st. subst⁻¹ (λ x. Replied (λ q. (p.runs q).memory) x.1) (is p) (f (λ q. (p.runs q).memory) (call (M.cost old) (p.runs r) p.space e).reply (went p st).replied);
    }

    -- before anything is done, nothing is altered
    pub untouched : {A : Type 0} (f : A → Reply) → ((x : A) → Untouched old new (f x)) → (x : Result A RunFault) → fault ≡ fault_of x → Untouched old new (reply_of f x)
    untouched f k (Ok x) q = k x
    untouched f k (Err g) q = go (early (bare (get_or runs r d)) e) refl
      where
        go : (o : model.Option RunFault) → early (bare (get_or runs r d)) e ≡ o → Untouched old new (replies.Run g)
        go model.none i = is_late old new g (subst IsLate q (c.late i))
        go (model.some h) i = still old new g (c.refused h i).0

    -- a role that is there
    pub role_moves : (v : Event) → role_of v ≡ model.some r → ((p : Playing) → play (M.cost old) p v ≡ turned p r (call (M.cost old) (p.runs r) p.space e)) → (Replied : Answer → Type 0) (Nobody : Type 0)
        → ((a : Answer) → answers a → Replied a)
        → Moves M old new runs (set runs r run') (of_role (length runs) r v) (λ memories a. cond (ltb r (length runs)) (Replied a) Nobody)
    role_moves v own is Replied Nobody f =
        subst⁻¹ (λ b. Moves M old new runs (set runs r run') (cond b v other) (λ memories a. cond b (Replied a) Nobody)) (lt-ltb r (length runs) l)
        (called_moves v own is (λ memories a. Replied a) (λ memories a. f a))

  -- a value is made, or refused
  pub made_moves : (old new : S) (runs : List Run) (w : Result Tree StoreFault) (x : Result ℕ StoreFault) → Makes M old new w x
      → Moves M old new runs runs (of_maker w) (λ memories answer. Made M old new w (reply_by replies.Handle x))
  made_moves old new runs (Ok v) (Ok h) m = record {
    kept = m.kept;
    priced = m.priced;
    many = refl;
    others = λ k run h. refl;
    stands = λ p st. enough p st (leb ((M.cost old) v) p.space) (le-leb ((M.cost old) v) p.space (omega (arith, st.space, m.paid)));
    replied = λ p st. (Ok h, m, refl);
  }
    where
      enough : (p : Playing) → Stands (M.means old) (M.space old) runs p → (b : Bool) → b ≡ true
          → Stands (M.means new) (M.space new) runs (cond {A = Playing × Answer} b (record { space = p.space - (M.cost old) v; runs = p.runs }, taken model.none) (p, declined 15 0)).0
      enough p st b e = subst⁻¹ (λ b. Stands (M.means new) (M.space new) runs (cond {A = Playing × Answer} b (record { space = p.space - (M.cost old) v; runs = p.runs }, taken model.none) (p, declined 15 0)).0) e
          (stands_still (M.means old) (M.means new) (M.space new) m.kept runs p (p.space - (M.cost old) v) (omega (arith, st.space, m.paid)) st.each)
  made_moves old new runs (Ok v) (Err e) m = record {
    kept = λ h w i. ap (λ s. M.means s h) m.1 ∙ i;
    priced = ap M.cost m.1;
    many = refl;
    others = λ k run h. refl;
    stands = λ p st. subst⁻¹ (λ s. Stands (M.means s) (M.space s) runs (play (M.cost old) p (build v)).0) m.1 (short p st (leb ((M.cost old) v) p.space) (lt-leb ((M.cost old) v) p.space (omega (arith, st.space, m.2))));
    replied = λ p st. (Err e, m, refl);
  }
    where
      short : (p : Playing) → Stands (M.means old) (M.space old) runs p → (b : Bool) → b ≡ false
          → Stands (M.means old) (M.space old) runs (cond {A = Playing × Answer} b (record { space = p.space - (M.cost old) v; runs = p.runs }, taken model.none) (p, declined 15 0)).0
      short p st b e = subst⁻¹ (λ b. Stands (M.means old) (M.space old) runs (cond {A = Playing × Answer} b (record { space = p.space - (M.cost old) v; runs = p.runs }, taken model.none) (p, declined 15 0)).0) e st
  made_moves old new runs (Err f) (Ok h) m = absurd m
  made_moves old new runs (Err f) (Err e) m = record {
    kept = λ h w i. ap (λ s. M.means s h) m.1 ∙ i;
    priced = ap M.cost m.1;
    many = refl;
    others = λ k run h. refl;
    stands = λ p st. subst⁻¹ (λ s. Stands (M.means s) (M.space s) runs p) m.1 st;
    replied = λ p st. (Err e, m, refl);
  }
