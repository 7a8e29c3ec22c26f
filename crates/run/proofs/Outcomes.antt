-- How actions on stores end: as those of the machine of values do.
use Rattle.std.proofs.Common.{◌⊎◌, inl, inr, ◌≡◌, ◌≢◌, ℕ, ◌-◌, ◌<◌, Bool, true, false, ◌&&◌, eqb, Some, None, Ok, Err, Option, Result, ok_or, option_map, if◌then◌else◌, List, [], ◌∷◌, length, set, sym, refl, ap, drop, ◌∙◌, subst, arith, eq-eqb, ne_eqb, le-leb}
use Rattle.std.proofs.lemmas.Bool.{cases_eq, lt-leb}
use mathlib.Core.Path.{subst⁻¹}
use Rattle.model.specs.Trees.{Head, tupled, crypted, applied, Tree, leaf, node, Trees, none, more, eq_tree}
use Rattle.model.specs.Roles.{count}
use Rattle.model.specs.Runs as runs
use Rattle.model.specs.Runs.{Machine, Memory, mismatch, full, invalid, broken, pay, need, need_all, take_input, take_number, check, open_up, open_crypt, with_memory, puts}
use Rattle.program.specs.Held.{has, from}
use Rattle.store.specs.Refusals.{fault_number as store_number}
use Rattle.store.specs.declared.fault.StoreFault.{StoreFault}
use Rattle.store.specs.declared.fault.StoreFault.TheVariants.{Invalid, Mismatch}
use Rattle.store.specs.declared.shape.Shape.{Shape}
use Rattle.store.specs.declared.shape.Shape.TheVariants.{Tuple, Apply}
use Rattle.store.specs.Semantics.{Semantics}
use Rattle.store.specs.Makers.{Makes, wanted}
use Rattle.store.specs.Questions.{Answers, unlocked_value, text_of, shape_of}
use Rattle.run.specs.declared.fault.StepFault.{StepFault}
use Rattle.run.specs.declared.fault.StepFault.TheVariants.{Store, Differs}
use Rattle.run.specs.Plain.{fault_number}
use Rattle.run.specs.Shown.{Meaning, as_option, StandFor, Holds, Kept}
use Rattle.run.specs.Supplies.{first_of}
use Rattle.run.specs.Actions.{State, Keeps, Opens, OpensValue, parts_within}
use Rattle.run.proofs.Holding.{holds_still, stand_still, holds_set, filled_holds}

-- the machine with other numbers to come, or values
abbrev pub with_numbers : List ℕ → Machine → Machine
with_numbers ns N = record { mem = N.mem; space = N.space; inputs = N.inputs; numbers = ns }

abbrev pub step_fault_number : StepFault → ℕ
step_fault_number Differs = 14
step_fault_number (Store f) = store_number f

-- the registers, the space and what is left to be taken in show a machine
pub record Shown (m : Meaning) (free : ℕ) (cells : List ℕ) (rest : State) (N : Machine) : Type 0 where
  pub memory : Holds m cells N.mem
  pub space : N.space ≡ free
  pub inputs : StandFor m rest.inputs N.inputs
  pub numbers : N.numbers ≡ rest.numbers

-- an action ends as the machine's does
abbrev pub Ends : {S : Type 0} → Semantics S → S → S → List ℕ → State → runs.Result → Result (Unit {0}) StepFault → Type 0
Ends M old new cells rest (runs.ran N) (Ok x) = Shown (M.means new) (M.space new) cells rest N
Ends M old new cells rest (runs.ran N) (Err e) = ⊥
Ends M old new cells rest (runs.refused f) (Ok x) = ⊥
Ends M old new cells rest (runs.refused f) (Err e) = (step_fault_number e ≡ fault_number f) × (M.space new ≡ M.space old)

module _ {S : Type 0} (M : Semantics S) where
  pub makes_kept : (old new : S) (w : Result Tree StoreFault) (r : Result ℕ StoreFault) → Makes M old new w r → Kept (M.means old) (M.means new)
  makes_kept old new (Ok v) (Ok h) d = d.kept
  makes_kept old new (Ok v) (Err e) d = subst⁻¹ (λ s. Kept (M.means old) (M.means s)) d.1 (λ h v p. p)
  makes_kept old new (Err f) (Ok h) d = absurd d
  makes_kept old new (Err f) (Err e) d = subst⁻¹ (λ s. Kept (M.means old) (M.means s)) d.1 (λ h v p. p)

  pub makes_priced : (old new : S) (w : Result Tree StoreFault) (r : Result ℕ StoreFault) → Makes M old new w r → M.cost new ≡ M.cost old
  makes_priced old new (Ok v) (Ok h) d = d.priced
  makes_priced old new (Ok v) (Err e) d = ap M.cost d.1
  makes_priced old new (Err f) (Ok h) d = absurd d
  makes_priced old new (Err f) (Err e) d = ap M.cost d.1

  module _ (old new : S) (cells cells' : List ℕ) (rest : State) (N : Machine) (shown : Shown (M.means old) (M.space old) cells rest N) (t : ℕ) (room : t < length cells) (result : Result (Unit {0}) StepFault) where
    -- a value is built
    pub made_ends : (v : Tree) (r : Result ℕ StoreFault) → Makes M old new (Ok v) r → Keeps cells cells' t r result
        → Ends M old new cells' rest (pay (M.cost old) t v N) result
    made_ends v (Ok h) d k =
        subst⁻¹ (λ x. Ends M old new cells' rest (pay (M.cost old) t v N) x) k.1
        (subst⁻¹ (λ c. Ends M old new c rest (pay (M.cost old) t v N) (Ok tt)) k.0
        (subst⁻¹ (λ b. Ends M old new (set cells t h) rest (check b full (runs.ran (record { mem = runs.set N.mem t v; space = N.space - M.cost old v; inputs = N.inputs; numbers = N.numbers }))) (Ok tt))
        (le-leb (M.cost old v) N.space (omega (arith, d.paid, shown.space)))
        (record {
          memory = holds_set (M.means new) cells N.mem t h v room d.named (holds_still (M.means old) (M.means new) d.kept cells N.mem shown.memory);
          space = omega (arith, d.paid, shown.space);
          inputs = stand_still (M.means old) (M.means new) d.kept rest.inputs N.inputs shown.inputs;
          numbers = shown.numbers;
        })))
    made_ends v (Err e) d k =
        subst⁻¹ (λ x. Ends M old new cells' rest (pay (M.cost old) t v N) x) k.1
        (subst⁻¹ (λ b. Ends M old new cells' rest (check b full (runs.ran (record { mem = runs.set N.mem t v; space = N.space - M.cost old v; inputs = N.inputs; numbers = N.numbers }))) (Err (Store e)))
        (lt-leb (M.cost old v) N.space (omega (arith, d.2, shown.space)))
        (ap store_number d.0, ap M.space d.1))

    -- a compound is built
    pub built_ends : (h : Head) (o : Option Trees) (r : Result ℕ StoreFault) → Makes M old new (ok_or (option_map (node h) o) Invalid) r → Keeps cells cells' t r result
        → Ends M old new cells' rest (need_all (as_option o) (λ vs. pay (M.cost old) t (node h vs) N)) result
    built_ends h None (Ok k) d e = absurd d
    built_ends h None (Err f) d e =
        subst⁻¹ (λ x. Ends M old new cells' rest (runs.refused broken) x) e.1 (ap store_number d.0, ap M.space d.1)
    built_ends h (Some vs) r d e = made_ends (node h vs) r d e

  module _ (store : S) (cells cells' : List ℕ) (rest : State) (N : Machine) (t : ℕ) (room : t < length cells) (result : Result (Unit {0}) StepFault) where
    refuses : (r : Result ℕ StoreFault) → Keeps cells cells' t r result → (e : StoreFault) → r ≡ Err e → (f : runs.Fault) → store_number e ≡ fault_number f
        → Ends M store store cells' rest (runs.refused f) result
    refuses (Ok h) k e p f n = absurd (cc)
    refuses (Err x) k e p f n =
        let q : x ≡ e = cc in
        subst⁻¹ (λ r. Ends M store store cells' rest (runs.refused f) r) k.1 (ap store_number q ∙ n, refl)

    sets : (N : Machine) → Shown (M.means store) (M.space store) cells rest N → (v : Tree) (h : ℕ) → M.means store h ≡ Some v → Keeps cells cells' t (Ok h) result
        → Ends M store store cells' rest (runs.ran (with_memory (runs.set N.mem t v) N)) result
    sets N shown v h e k =
        subst⁻¹ (λ x. Ends M store store cells' rest (runs.ran (with_memory (runs.set N.mem t v) N)) x) k.1
        (subst⁻¹ (λ c. Shown (M.means store) (M.space store) c rest (with_memory (runs.set N.mem t v) N)) k.0
        (record { memory = holds_set (M.means store) cells N.mem t h v room e shown.memory; space = shown.space; inputs = shown.inputs; numbers = shown.numbers }))

    -- the next handle is taken in
    pub takes_ends : Holds (M.means store) cells N.mem → N.space ≡ M.space store → (inputs : List ℕ) (vs : List Tree) → StandFor (M.means store) inputs vs → rest.inputs ≡ drop 1 inputs → N.numbers ≡ rest.numbers
        → Keeps cells cells' t (first_of inputs) result → Ends M store store cells' rest (take_input t N vs) result
    takes_ends holds space [] [] s e n k = refuses (Err Invalid) k Invalid refl invalid refl
    takes_ends holds space [] (v ∷ vs) s e n k = absurd s
    takes_ends holds space (h ∷ hs) [] s e n k = absurd s
    takes_ends holds space (h ∷ hs) (v ∷ vs) s e n k =
        sets (record { mem = N.mem; space = N.space; inputs = vs; numbers = N.numbers })
        (record { memory = holds; space = space; inputs = subst⁻¹ (λ l. StandFor (M.means store) l vs) e s.1; numbers = n })
        v h s.0 k

    -- a ciphertext is opened
    pub unlocks_ends : Shown (M.means store) (M.space store) cells rest N → (o p : Option Tree) (r : Result ℕ StoreFault) → Answers (M.means store) (unlocked_value o p) r → Keeps cells cells' t r result
        → Ends M store store cells' rest (need (as_option o) (λ v. need (as_option p) (λ w. open_crypt t v w N))) result
    unlocks_ends shown None p (Ok h) a k = absurd a
    unlocks_ends shown None p (Err e) a k = refuses (Err e) k e refl broken (ap store_number a)
    unlocks_ends shown (Some v) None (Ok h) a k = absurd a
    unlocks_ends shown (Some v) None (Err e) a k = refuses (Err e) k e refl broken (ap store_number a)
    unlocks_ends shown (Some v) (Some w) r a k = value v r a k
      where
        wrong : (r : Result ℕ StoreFault) → Answers (M.means store) (Err Mismatch) r → Keeps cells cells' t r result → Ends M store store cells' rest (runs.refused mismatch) result
        wrong (Ok h) a k = absurd a
        wrong (Err e) a k = refuses (Err e) k e refl mismatch (ap store_number a)

        text : (u : Tree) (b : Bool) (r : Result ℕ StoreFault) → Answers (M.means store) (ok_or (if b then Some u else None) Mismatch) r → Keeps cells cells' t r result
            → Ends M store store cells' rest (check b mismatch (runs.ran (with_memory (runs.set N.mem t u) N))) result
        text u true (Ok h) a k = sets N shown u h a k
        text u true (Err e) a k = absurd a
        text u false r a k = wrong r a k

        value : (v : Tree) (r : Result ℕ StoreFault) → Answers (M.means store) (ok_or (text_of v w) Mismatch) r → Keeps cells cells' t r result
            → Ends M store store cells' rest (open_crypt t v w N) result
        value (leaf n) r a k = wrong r a k
        value (node tupled vs) r a k = wrong r a k
        value (node (applied f) vs) r a k = wrong r a k
        value (node crypted none) r a k = wrong r a k
        value (node crypted (more u none)) r a k = wrong r a k
        value (node crypted (more u (more x none))) r a k = text u (eq_tree x w) r a k
        value (node crypted (more u (more x (more y ys)))) r a k = wrong r a k

  module _ (store : S) (cells cells' : List ℕ) (rest : State) (N : Machine) (shown : Shown (M.means store) (M.space store) cells rest N) (f n : ℕ) (room : (q : ℕ) → has q (from f n) ≡ true → q < length cells) where
    differs : (v : Tree) (wanted : Shape) → shape_of v ≢ wanted → (r : Result (Unit {0}) StepFault) → OpensValue (M.means store) cells cells' f v wanted r → Ends M store store cells' rest (runs.refused mismatch) r
    differs v wanted ne (Ok x) d = absurd (ne d.0)
    differs v wanted ne (Err e) d = (ap step_fault_number d.0, refl)

    parts : (v : Tree) (wanted : Shape) → shape_of v ≡ wanted → n ≡ count (parts_within v) → (r : Result (Unit {0}) StepFault) → OpensValue (M.means store) cells cells' f v wanted r
        → Ends M store store cells' rest (runs.ran (with_memory (puts N.mem f (parts_within v)) N)) r
    parts v wanted e p (Err x) d = absurd (d.1 e)
    parts v wanted e p (Ok x) d = record {
      memory = filled_holds (M.means store) cells cells' N.mem f (parts_within v) (subst (λ k. (q : ℕ) → has q (from f k) ≡ true → q < length cells) p room) d.1 shown.memory;
      space = shown.space;
      inputs = shown.inputs;
      numbers = shown.numbers;
    }

    tuple : (v : Tree) (r : Result (Unit {0}) StepFault) → OpensValue (M.means store) cells cells' f v (Tuple n) r → Ends M store store cells' rest (open_up f n tupled v N) r
    tuple (leaf a) r d = differs (leaf a) (Tuple n) (λ e. cc) r d
    tuple (node crypted vs) r d = differs (node crypted vs) (Tuple n) (λ e. cc) r d
    tuple (node (applied g) vs) r d = differs (node (applied g) vs) (Tuple n) (λ e. cc) r d
    tuple (node tupled vs) r d = go (cases_eq n (count vs))
      where
        go : (n ≡ count vs) ⊎ (n ≡ count vs → ⊥) → Ends M store store cells' rest (open_up f n tupled (node tupled vs) N) r
        go (inl p) =
            subst⁻¹ (λ b. Ends M store store cells' rest (check b mismatch (runs.ran (with_memory (puts N.mem f vs) N))) r) (eq-eqb n (count vs) p)
            (parts (node tupled vs) (Tuple n) (ap Tuple (sym p)) p r d)
        go (inr ne) =
            subst⁻¹ (λ b. Ends M store store cells' rest (check b mismatch (runs.ran (with_memory (puts N.mem f vs) N))) r) (ne_eqb n (count vs) ne)
            (differs (node tupled vs) (Tuple n) (λ e. ne (let p : count vs ≡ n = cc in sym p)) r d)

    application : (k : ℕ) (v : Tree) (r : Result (Unit {0}) StepFault) → OpensValue (M.means store) cells cells' f v (Apply k n) r → Ends M store store cells' rest (open_up f n (applied k) v N) r
    application k (leaf a) r d = differs (leaf a) (Apply k n) (λ e. cc) r d
    application k (node crypted vs) r d = differs (node crypted vs) (Apply k n) (λ e. cc) r d
    application k (node tupled vs) r d = differs (node tupled vs) (Apply k n) (λ e. cc) r d
    application k (node (applied g) vs) r d = go (cases_eq k g) (cases_eq n (count vs))
      where
        go : (k ≡ g) ⊎ (k ≡ g → ⊥) → (n ≡ count vs) ⊎ (n ≡ count vs → ⊥) → Ends M store store cells' rest (open_up f n (applied k) (node (applied g) vs) N) r
        go (inr ne) o =
            subst⁻¹ (λ a. Ends M store store cells' rest (check (a && eqb n (count vs)) mismatch (runs.ran (with_memory (puts N.mem f vs) N))) r) (ne_eqb k g ne)
            (differs (node (applied g) vs) (Apply k n) (λ e. ne (let p : g ≡ k = cc in sym p)) r d)
        go (inl q) (inl p) =
            subst⁻¹ (λ a. Ends M store store cells' rest (check (a && eqb n (count vs)) mismatch (runs.ran (with_memory (puts N.mem f vs) N))) r) (eq-eqb k g q)
            (subst⁻¹ (λ b. Ends M store store cells' rest (check b mismatch (runs.ran (with_memory (puts N.mem f vs) N))) r) (eq-eqb n (count vs) p)
            (parts (node (applied g) vs) (Apply k n) (let a : Apply g (count vs) ≡ Apply k n = cc in a) p r d))
        go (inl q) (inr ne) =
            subst⁻¹ (λ a. Ends M store store cells' rest (check (a && eqb n (count vs)) mismatch (runs.ran (with_memory (puts N.mem f vs) N))) r) (eq-eqb k g q)
            (subst⁻¹ (λ b. Ends M store store cells' rest (check b mismatch (runs.ran (with_memory (puts N.mem f vs) N))) r) (ne_eqb n (count vs) ne)
            (differs (node (applied g) vs) (Apply k n) (λ e. ne (let p : count vs ≡ n = cc in sym p)) r d))

    -- a handle of no value is opened, or of one
    nothing_there : (r : Result (Unit {0}) StepFault) → r ≡ Err (Store Invalid) → Ends M store store cells' rest (runs.refused broken) r
    nothing_there r e = subst⁻¹ (λ x. Ends M store store cells' rest (runs.refused broken) x) e (refl, refl)

    pub tuple_ends : (o : Option Tree) (r : Result (Unit {0}) StepFault) → Opens (M.means store) cells cells' f o (Tuple n) r
        → Ends M store store cells' rest (need (as_option o) (λ v. open_up f n tupled v N)) r
    tuple_ends None r d = nothing_there r d.0
    tuple_ends (Some v) r d = tuple v r d

    pub apply_ends : (k : ℕ) (o : Option Tree) (r : Result (Unit {0}) StepFault) → Opens (M.means store) cells cells' f o (Apply k n) r
        → Ends M store store cells' rest (need (as_option o) (λ v. open_up f n (applied k) v N)) r
    apply_ends k None r d = nothing_there r d.0
    apply_ends k (Some v) r d = application k v r d
