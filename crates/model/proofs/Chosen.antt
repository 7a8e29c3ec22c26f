-- One choice for the names: every line runs where there is space, and each register holds the reading of its term.
use Rattle.std.proofs.Common.{◌≡◌, ℕ, ◌+◌, ◌≤◌, List, [], ◌∷◌, sym, refl, ap, ◌∙◌, subst, arith}
use mathlib.Core.Option.{Option, none as nothing, some}
use mathlib.Core.Path.{subst⁻¹}
use Rattle.model.specs.Lists.{Every, firsts}
use Rattle.model.specs.Trees.{Head, Tree, leaf, node, Trees, none, more, map_trees}
use Rattle.model.specs.Deduction.{Party}
use Rattle.model.specs.Roles.{Act, give, new, hear, say, same, make, split, unlock, Role}
use Rattle.model.specs.Runs.{Memory, empty, mismatch, full, invalid, broken, Machine, Result, ran, refused, Outcome, ended, stopped, attempt}
use Rattle.model.specs.Readings.{reading_of, readings_of}
use Rattle.model.specs.Holdings.{Stock, add, ReadsAs}
use Rattle.model.specs.Programs.{line}
use Rattle.model.specs.Costs.{price, bill, bills, memory_of, free, sheet_of}
use Rattle.model.proofs.Lists.{every_map}
use Rattle.model.proofs.Machine.{no_some, ◌⊑◌}
use Rattle.model.proofs.Exec.{exec, result_of, attempt_exec}
use Rattle.model.proofs.Sheets.{Plan, Rel}
use Rattle.model.proofs.Feeding.{Fed}
use Rattle.model.proofs.Agree.{Agrees, plan_agrees}
use Rattle.model.proofs.Filling.{Went}
use Rattle.model.proofs.Marked.{None}
use Rattle.model.proofs.Standing.{Stands, line_plan, stands_line, line_runs}
use Rattle.model.proofs.Adding.{line_is}

-- a reading that builds every compound from its parts
abbrev pub Total : (Tree → Tree) → Type 0
Total R = (h : Head) (ts : Trees) → R (node h ts) ≡ node h (map_trees R ts)

-- such is the reading of a choice for the names
module _ (ρ : ℕ → Tree) where
  readings_map : (ts : Trees) → readings_of ρ ts ≡ map_trees (reading_of ρ) ts
  unfolding reading_of
  readings_map none = refl
  readings_map (more t ts) = ap (more (reading_of ρ t)) (readings_map ts)

  pub reading_total : Total (reading_of ρ)
  unfolding reading_of
  reading_total h ts = ap (node h) (readings_map ts)

map_same : (ts : Trees) → ts ≡ map_trees (λ t. t) ts
map_same none = refl
map_same (more t ts) = ap (more t) (map_same ts)

free_price : (R : Tree → Tree) (o : Option Tree) → price free R o ≡ 0
free_price R nothing = refl
free_price R (some t) = refl

free_bill : (R : Tree → Tree) (Γ : Memory) (a : Act) → bill free R Γ a ≡ 0
free_bill R Γ (give r) = refl
free_bill R Γ (new r) = free_price R (Γ r)
free_bill R Γ (hear r) = refl
free_bill R Γ (say r) = refl
free_bill R Γ (same r q) = refl
free_bill R Γ (make r h rs) = free_price R (Γ r)
free_bill R Γ (split f n h r) = refl
free_bill R Γ (unlock x r k) = refl

free_bills : (R : Tree → Tree) (Γ : Memory) (xs : List Act) → bills free R Γ xs ≡ 0
free_bills R Γ [] = refl
free_bills R Γ (a ∷ xs) = let p = free_bill R Γ a in let q = free_bills R Γ xs in omega arith

fed_self : {A : Type 0} (Q : A → A → Type 0) → ((x : A) → Q x x) → (xs : List A) → Fed Q xs xs []
fed_self Q f [] = refl
fed_self Q f (x ∷ xs) = (f x, fed_self Q f xs)

all_of : {A : Type 0} (xs : List A) → Every (λ x. Unit {0}) xs
all_of [] = tt
all_of (x ∷ xs) = (tt, all_of xs)

-- the memory that a result leaves
abbrev memory_left : Result → Memory
memory_left (ran M) = M.mem
memory_left (refused f) = empty

memory_same : (o : Outcome) → memory_of o ≡ memory_left (result_of o)
memory_same (ended M) = refl
memory_same (stopped f k n) = refl

pub sheet_covers : (P : Party) (xs : List Act) (n : ℕ) (Γ : Memory) (is : List Tree) (ns : List ℕ) → Plan P 0 empty xs n Γ is ns → Γ ⊑ sheet_of xs is ns
unfolding sheet_of
sheet_covers P xs n Γ is ns p =
    subst⁻¹ (λ m. Γ ⊑ m) (memory_same (attempt free xs 0 start) ∙ ap memory_left (attempt_exec free xs 0 start))
    (go (exec free xs start)
    (plan_agrees P free (λ t. Unit {0}) (λ t. t) (λ h ts o. ap (node h) (map_same ts)) p (λ r t e. absurd (no_some e)) Γ (λ r v e. e)
    (λ r t e. absurd (no_some e)) (all_of is) (all_of ns) start [] []
    (λ r t e. absurd (no_some e)) (fed_self (λ t v. t ≡ v) (λ t. refl) is) (fed_self (λ a k. leaf a ≡ leaf k) (λ a. refl) ns)))
  where
    start : Machine
    start = record { mem = empty; space = 0; inputs = is; numbers = ns }

    go : (x : Result) → Agrees (λ t. t) Γ (bills free (λ t. t) Γ xs) [] [] 0 x → Γ ⊑ memory_left x
    go (ran M) a r t e = let y = a.0 r t e in y.1 ∙ ap some (sym y.2)
    go (refused full) a r t e = let q = free_bills (λ t. t) Γ xs in absurd (omega arith)
    go (refused mismatch) a r t e = elim a [ ]
    go (refused broken) a r t e = elim a [ ]
    go (refused invalid) a r t e = elim a [ ]

-- what a line's builds cost; the lists are all the terms that the role took, and the names that it made, with this line's
abbrev pub line_cost : (Tree → ℕ) → (Tree → Tree) → Role → Role → List Tree → List ℕ → ℕ
line_cost c R s s' is ns = bills c R (sheet_of s'.acts is ns) (line s s')

-- a line that ran, every register with the reading of its term
pub record RunsAs (c : Tree → ℕ) (R : Tree → Tree) (s s' : Role) (h : Stock) (vs : List Tree) (ks : List ℕ) (M M' : Machine) : Type 0 where
  pub runs : exec c (line s s') M ≡ ran M'
  pub reads : ReadsAs R h
  pub holds : Every (λ e. M'.mem e.at ≡ some (R e.term)) s'.known
  pub inputs_left : M'.inputs ≡ vs
  pub numbers_left : M'.numbers ≡ ks
  pub pays : M'.space + line_cost c R s s' (firsts h.taken) (firsts h.made) ≡ M.space

module _ (P : Party) (c : Tree → ℕ) (R : Tree → Tree) (total : Total R) where
  pub line_chosen : (s s' : Role) (Γ : Memory) (is : List Tree) (ns : List ℕ) (w : Went P s Γ s' None is ns) (M : Machine) (h : Stock)
      → Stands P s Γ M.mem h → ReadsAs R h → (vs : List Tree) (ks : List ℕ)
      → Fed (λ t v. R t ≡ v) is M.inputs vs → Fed (λ a k. R (leaf a) ≡ leaf k) ns M.numbers ks
      → (let h' = add h is M.inputs ns M.numbers in line_cost c R s s' (firsts h'.taken) (firsts h'.made) ≤ M.space)
      → (M' : Machine) × RunsAs c R s s' (add h is M.inputs ns M.numbers) vs ks M M'
      × ((r : ℕ) (t : Tree) → w.sheet r ≡ some t → M'.mem r ≡ some (R t))
      × Stands P s' w.sheet M'.mem (add h is M.inputs ns M.numbers)
  line_chosen s s' Γ is ns w M h st ra vs ks fi fn room = (
    z.0,
    record {
      runs = subst⁻¹ (λ l. exec c l M ≡ ran z.0) q z.1;
      reads = z.3;
      holds = every_map (λ e. w.sheet e.at ≡ some e.term) (λ e. z.0.mem e.at ≡ some (R e.term)) (λ e p. registers e.at e.term p) s'.known w.good.entries;
      inputs_left = z.4;
      numbers_left = z.5;
      pays = subst⁻¹ (λ l. z.0.space + bills c R S l ≡ M.space) q z.6;
    },
    registers,
    stands_line P c s s' Γ is ns w M h st z.0 z.1,
  )
    where
      h' : Stock
      h' = add h is M.inputs ns M.numbers

      S : Memory
      S = sheet_of s'.acts (firsts h'.taken) (firsts h'.made)

      q : line s s' ≡ w.grew.line
      q = line_is P w.grew

      z : (M' : Machine) × (exec c w.grew.line M ≡ ran M') × Rel (λ t v. R t ≡ v) w.sheet M'.mem × ReadsAs R h'
          × (M'.inputs ≡ vs) × (M'.numbers ≡ ks) × (M'.space + bills c R S w.grew.line ≡ M.space)
      z = line_runs P c s s' Γ is ns w M h st h' R (λ g ts o. total g ts) (λ t i. i) ra vs ks fi fn S
          (sheet_covers P s'.acts s'.next w.sheet (firsts h'.taken) (firsts h'.made) (line_plan P c s s' Γ is ns w M h st _ _ vs ks fi fn))
          (subst (λ l. bills c R S l ≤ M.space) q room)

      registers : (r : ℕ) (t : Tree) → w.sheet r ≡ some t → z.0.mem r ≡ some (R t)
      registers r t e = let x = z.2 r t e in x.1 ∙ ap some (sym x.2)
