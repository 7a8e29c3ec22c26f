-- How a step ends that calls a run and is refused, by the fault itself.
use Rattle.std.proofs.Common.{◌≡◌, ℕ, ◌<◌, Bool, true, false, cond, T, ltb, ◌⊎◌, List, length, get_or, set, Ok, Err, Result, sym, refl, ap, ◌∙◌, subst, inl, inr, arith, vec_items}
use Rattle.std.proofs.lemmas.Bool.{cases_eq, ltb-true}
use Rattle.std.proofs.lemmas.List.{get_or-set_same, get_or-set_other, set-get_or, get_or_default}
use mathlib.Core.Path.{subst⁻¹}
use Rattle.store.specs.declared.fault.StoreFault.TheVariants as stores
use Rattle.store.specs.Semantics.{Semantics}
use Rattle.run.specs.declared.fault.RunFault.{RunFault}
use Rattle.run.specs.declared.fault.RunFault.TheVariants.{OutOfTurn, Counts, Mismatch, Store}
use Rattle.run.specs.declared.run.Run.{Run}
use Rattle.run.specs.Calls.{Begins, Says, Hears}
use Rattle.run.specs.Faults.{run_fault_number}
use Rattle.sessions.specs.declared.reply.Reply.{Reply}
use Rattle.sessions.specs.declared.reply.Reply.TheVariants as replies
use Rattle.sessions.specs.declared.request.Request.{Request}
use Rattle.sessions.specs.declared.request.Request.TheVariants.{Begin, Say, Hear, Register, Atom, Tuple, Crypt, Apply, Shape, Part, Unlock, Same, Space}
use Rattle.sessions.specs.Observed.{Step, calls, taken}
use Rattle.sessions.specs.Refusals.{OutOfTurnFault, CountsFault, InvalidFault, FullFault, MismatchFault}
use Rattle.sessions.specs.Replies.{reply_of, Does}
use Rattle.sessions.specs.Requests.{handle_of, handles_of}
use Rattle.run.proofs.LineFaults.{Early, Possibly, Refuses, refuses, say_early, hear_early, begin_early}
use Rattle.sessions.proofs.Numbers.{Refused}

-- a refusal by its number is one by its fault
by_fault : (n : ℕ) (Z : Reply → Type 0) → ((f : RunFault) → run_fault_number f ≡ n → Z (replies.Run f)) → (r : Reply) → Refused n r → Z r
by_fault n Z k replies.Done e = absurd e
by_fault n Z k (replies.Handle h) e = absurd e
by_fault n Z k replies.Empty e = absurd e
by_fault n Z k (replies.Shape s) e = absurd e
by_fault n Z k (replies.Same b) e = absurd e
by_fault n Z k (replies.Space m) e = absurd e
by_fault n Z k (replies.Run f) e = k f e
by_fault n Z k (replies.Store f) e = absurd e
by_fault n Z k replies.NoRole e = absurd e

pub turn_named : (r : Reply) → Refused 11 r → OutOfTurnFault r
turn_named r e = by_fault 11 OutOfTurnFault go r e
  where
    go : (f : RunFault) → run_fault_number f ≡ 11 → OutOfTurnFault (replies.Run f)
    go (OutOfTurn p) q = (p, refl)
    go (Counts p) q = absurd (omega arith)
    go (Mismatch p) q = absurd (omega arith)
    go (Store stores.Invalid p) q = absurd (omega arith)
    go (Store stores.NoPart p) q = absurd (omega arith)
    go (Store stores.Mismatch p) q = absurd (omega arith)
    go (Store stores.Full p) q = absurd (omega arith)

pub invalid_named : (r : Reply) → Refused 12 r → InvalidFault r
invalid_named r e = by_fault 12 InvalidFault go r e
  where
    go : (f : RunFault) → run_fault_number f ≡ 12 → InvalidFault (replies.Run f)
    go (OutOfTurn p) q = absurd (omega arith)
    go (Counts p) q = absurd (omega arith)
    go (Mismatch p) q = absurd (omega arith)
    go (Store stores.Invalid p) q = (p, refl)
    go (Store stores.NoPart p) q = absurd (omega arith)
    go (Store stores.Mismatch p) q = absurd (omega arith)
    go (Store stores.Full p) q = absurd (omega arith)

pub mismatch_named : (r : Reply) → Refused 14 r → MismatchFault r
mismatch_named r e = by_fault 14 MismatchFault go r e
  where
    go : (f : RunFault) → run_fault_number f ≡ 14 → MismatchFault (replies.Run f)
    go (OutOfTurn p) q = absurd (omega arith)
    go (Counts p) q = absurd (omega arith)
    go (Mismatch p) q = inl (p, refl)
    go (Store stores.Invalid p) q = absurd (omega arith)
    go (Store stores.NoPart p) q = absurd (omega arith)
    go (Store stores.Mismatch p) q = inr (p, refl)
    go (Store stores.Full p) q = absurd (omega arith)

pub full_named : (r : Reply) → Refused 15 r → FullFault r
full_named r e = by_fault 15 FullFault go r e
  where
    go : (f : RunFault) → run_fault_number f ≡ 15 → FullFault (replies.Run f)
    go (OutOfTurn p) q = absurd (omega arith)
    go (Counts p) q = absurd (omega arith)
    go (Mismatch p) q = absurd (omega arith)
    go (Store stores.Invalid p) q = absurd (omega arith)
    go (Store stores.NoPart p) q = absurd (omega arith)
    go (Store stores.Mismatch p) q = absurd (omega arith)
    go (Store stores.Full p) q = (p, refl)

pub counts_named : (r : Reply) → ((f : RunFault) → r ≡ replies.Run f → Possibly f) → Refused 13 r → CountsFault r
counts_named r k e = by_fault 13 (λ z. r ≡ z → CountsFault z) (λ f q i. go f (k f i) q) r e refl
  where
    go : (f : RunFault) → Possibly f → run_fault_number f ≡ 13 → CountsFault (replies.Run f)
    go (OutOfTurn p) h q = absurd (omega arith)
    go (Counts p) h q = (p, refl)
    go (Mismatch p) h q = absurd (omega arith)
    go (Store stores.Invalid p) h q = absurd (omega arith)
    go (Store stores.NoPart p) h q = absurd h
    go (Store stores.Mismatch p) h q = absurd (omega arith)
    go (Store stores.Full p) h q = absurd (omega arith)

run_same : {f g : RunFault} → replies.Run f ≡ replies.Run g → f ≡ g
run_same e = cc

module _ {S : Type 0} (M : Semantics S) (e : Step S) where
  pub record Ended : Type 0 where
    pub possible : (f : RunFault) → e.reply ≡ replies.Run f → Possibly f
    pub unaltered : (f : RunFault) → e.reply ≡ replies.Run f → Early f → (e.after ≡ e.before) × (e.runs_after ≡ e.runs_before)
    pub emptied : ¬ T (taken e.reply) → (q : ℕ) (run : Run) → q < length e.runs_before → (get_or e.runs_after q run).registers ≡ (get_or e.runs_before q run).registers

  -- a call of a run that is there
  ends : {A : Type 0} (f : A → Reply) → ((a : A) → T (taken (f a))) → ((a : A) (g : RunFault) → f a ≡ replies.Run g → ⊥) → (p : ℕ) (run run' : Run) → p < length e.runs_before
      → e.runs_after ≡ set e.runs_before p run' → (x : Result A RunFault) → Refuses M e.before e.after (get_or e.runs_before p run) run' x → e.reply ≡ reply_of f x → Ended
  ends f t n p run run' l is (Ok a) r q = record {
    possible = λ g i. absurd (n a g (sym q ∙ i));
    unaltered = λ g i h. absurd (n a g (sym q ∙ i));
    emptied = λ u. absurd (u (subst⁻¹ (λ z. T (taken z)) q (t a)));
  }
  ends f t n p run run' l is (Err g) r q = record {
    possible = λ h i. subst Possibly (run_same (sym q ∙ i)) (r.kinds g refl).1;
    unaltered = λ h i k.
        let z = (r.kinds g refl).0 (subst⁻¹ Early (run_same (sym q ∙ i)) k) in
        (z.0, is ∙ ap (set e.runs_before p) z.1 ∙ set-get_or e.runs_before p run);
    emptied = λ u k d h. at k d h (cases_eq p k);
  }
    where
      at : (k : ℕ) (d : Run) → k < length e.runs_before → (p ≡ k) ⊎ (p ≡ k → ⊥) → (get_or e.runs_after k d).registers ≡ (get_or e.runs_before k d).registers
      at k d h (inl i) =
          ap (λ (l : List Run). (get_or l k d).registers) is ∙ ap (λ (j : ℕ). (get_or (set e.runs_before p run') j d).registers) (sym i)
          ∙ ap (λ (z : Run). z.registers) (get_or-set_same e.runs_before p run' d l) ∙ r.registers g refl ∙ ap (λ (z : Run). z.registers) (get_or_default e.runs_before p run d l)
          ∙ ap (λ (j : ℕ). (get_or e.runs_before j d).registers) i
      at k d h (inr i) = ap (λ (l : List Run). (get_or l k d).registers) is ∙ ap (λ (z : Run). z.registers) (get_or-set_other e.runs_before p k run' d (λ z. i (sym z)))

  nobody : e.after ≡ e.before → e.runs_after ≡ e.runs_before → e.reply ≡ replies.NoRole → Ended
  nobody s r q = record {
    possible = λ g i. absurd (never (sym q ∙ i));
    unaltered = λ g i h. (s, r);
    emptied = λ u k d h. ap (λ (l : List Run). (get_or l k d).registers) r;
  }
    where
      never : {g : RunFault} → replies.NoRole ≡ replies.Run g → ⊥
      never e = absurd (cc)

  done_run : (u : Unit {0}) (g : RunFault) → replies.Done ≡ replies.Run g → ⊥
  done_run u g e = absurd (cc)

  handle_run : (h : ℕ) (g : RunFault) → replies.Handle h ≡ replies.Run g → ⊥
  handle_run h g e = absurd (cc)

  pub ended : (r : ℕ) (q : Request) → T (calls r q) → Does M e.before e.after e.runs_before e.runs_after e.earlier q e.reply → Ended
  ended r (Begin p given numbers) t y = go (ltb p (length e.runs_before)) refl y
    where
      go : (b : Bool) → ltb p (length e.runs_before) ≡ b
          → cond b ((run run' : Run) × (e.runs_after ≡ set e.runs_before p run') × ((x : Result (Unit {0}) RunFault)
          × Begins M e.before e.after (get_or e.runs_before p run) run' (handles_of e.earlier (vec_items given)) (vec_items numbers) x × (e.reply ≡ reply_of (λ u. replies.Done) x)))
          ((e.after ≡ e.before) × (e.runs_after ≡ e.runs_before) × (e.reply ≡ replies.NoRole)) → Ended
      go true i z = ends (λ u. replies.Done) (λ u. tt) done_run p z.0 z.1 (ltb-true p (length e.runs_before) i) z.2 z.3.0
          (refuses M _ _ _ _ e.before e.after (get_or e.runs_before p z.0) z.1 z.3.0 (begin_early (get_or e.runs_before p z.0) (handles_of e.earlier (vec_items given)) (vec_items numbers)) z.3.1) z.3.2
      go false i z = nobody z.0 z.1 z.2
  ended r (Say p) t y = go (ltb p (length e.runs_before)) refl y
    where
      go : (b : Bool) → ltb p (length e.runs_before) ≡ b
          → cond b ((run run' : Run) × (e.runs_after ≡ set e.runs_before p run') × ((x : Result ℕ RunFault)
          × Says M e.before e.after (get_or e.runs_before p run) run' x × (e.reply ≡ reply_of replies.Handle x)))
          ((e.after ≡ e.before) × (e.runs_after ≡ e.runs_before) × (e.reply ≡ replies.NoRole)) → Ended
      go true i z = ends replies.Handle (λ u. tt) handle_run p z.0 z.1 (ltb-true p (length e.runs_before) i) z.2 z.3.0
          (refuses M _ _ _ _ e.before e.after (get_or e.runs_before p z.0) z.1 z.3.0 (say_early (get_or e.runs_before p z.0)) z.3.1) z.3.2
      go false i z = nobody z.0 z.1 z.2
  ended r (Hear p h) t y = go (ltb p (length e.runs_before)) refl y
    where
      go : (b : Bool) → ltb p (length e.runs_before) ≡ b
          → cond b ((run run' : Run) × (e.runs_after ≡ set e.runs_before p run') × ((x : Result (Unit {0}) RunFault)
          × Hears M e.before e.after (get_or e.runs_before p run) run' (handle_of e.earlier h) x × (e.reply ≡ reply_of (λ u. replies.Done) x)))
          ((e.after ≡ e.before) × (e.runs_after ≡ e.runs_before) × (e.reply ≡ replies.NoRole)) → Ended
      go true i z = ends (λ u. replies.Done) (λ u. tt) done_run p z.0 z.1 (ltb-true p (length e.runs_before) i) z.2 z.3.0
          (refuses M _ _ _ _ e.before e.after (get_or e.runs_before p z.0) z.1 z.3.0 (hear_early (get_or e.runs_before p z.0)) z.3.1) z.3.2
      go false i z = nobody z.0 z.1 z.2
  ended r (Register p n) t y = elim t [ ]
  ended r (Atom n) t y = elim t [ ]
  ended r (Tuple parts) t y = elim t [ ]
  ended r (Crypt text key) t y = elim t [ ]
  ended r (Apply f parts) t y = elim t [ ]
  ended r (Shape h) t y = elim t [ ]
  ended r (Part h i) t y = elim t [ ]
  ended r (Unlock h k) t y = elim t [ ]
  ended r (Same h k) t y = elim t [ ]
  ended r Space t y = elim t [ ]
