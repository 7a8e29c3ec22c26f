-- One role with one choice for the names: a call in turn is taken.
use Rattle.std.proofs.Common.{◌≡◌, ℕ, ◌+◌, ◌≤◌, List, [], ◌∷◌, ◌++◌, refl, ap, ◌∙◌, subst, arith}
use mathlib.Core.Option.{Option, none as nothing, some}
use mathlib.Core.Path.{subst⁻¹}
use Rattle.model.specs.Lists.{Every, zip, firsts}
use Rattle.model.specs.Trees.{Tree, leaf}
use Rattle.model.specs.Deduction.{Party}
use Rattle.model.specs.Roles.{Role}
use Rattle.model.specs.Runs.{Memory, Machine, ran, answer}
use Rattle.model.specs.Holdings.{Stock, add, ReadsAs}
use Rattle.model.specs.Specifications.{Duty, begin, speak, listen}
use Rattle.model.specs.Programs.{next_role, line, takes, names}
use Rattle.model.proofs.Lists.{firsts_append}
use Rattle.model.proofs.Exec.{exec}
use Rattle.model.proofs.Feeding.{Fed, fed_firsts}
use Rattle.model.proofs.Filling.{Went}
use Rattle.model.proofs.Marked.{None}
use Rattle.model.proofs.Standing.{Stands}
use Rattle.model.proofs.Chosen.{Total, line_cost, RunsAs, line_chosen}
use Rattle.model.proofs.Fitting.{answer_last, Fit, Told, went_duty}

-- a role in the world
pub record Actor : Type 0 where
  pub party : Party
  pub role : Role
  pub memory : Memory
  pub holdings : Stock
  pub numbers : List ℕ
  pub duties : List Duty

module _ (term : ℕ → Tree) where
  -- what a say adds to the log
  abbrev pub told : Duty → Option Tree → List (ℕ × Tree)
  told (begin ts) o = []
  told (speak l mk) nothing = []
  told (speak l mk) (some v) = (l, v) ∷ []
  told (listen l) o = []

  module _ (c : Tree → ℕ) (R : Tree → Tree) where
    -- the duties can be programmed, and the numbers for `new` are those of the choice
    abbrev pub Ready : Party → Role → List Duty → List ℕ → Type 0
    Ready P s [] ks = Unit {0}
    Ready P s (d ∷ ds) ks =
        Fit term d s × elim (next_role term P d s) [
          | some s' ↦ (ks' : List ℕ) × Fed (λ a k. R (leaf a) ≡ leaf k) (names d s s') ks ks' × Ready P s' ds ks'
          | nothing ↦ ⊥
        ]

    -- what the duties' builds cost, for a role that took the terms and made the names
    abbrev pub cost : Party → Role → List Tree → List ℕ → List Duty → ℕ
    cost P s is ns [] = 0
    cost P s is ns (d ∷ ds) =
        elim (next_role term P d s) [
          | some s' ↦ line_cost c R s s' (is ++ takes term P d) (ns ++ names d s s') + cost P s' (is ++ takes term P d) (ns ++ names d s s') ds
          | nothing ↦ 0
        ]

    abbrev pub remaining : Actor → ℕ
    remaining a = cost a.party a.role (firsts a.holdings.taken) (firsts a.holdings.made) a.duties

    abbrev pub TrueLog : List (ℕ × Tree) → Type 0
    TrueLog log = Every (λ p. R (term p.0) ≡ p.1) log

    -- the machine that a call runs on
    abbrev pub machine : Actor → ℕ → List Tree → Machine
    machine a space vs = record { mem = a.memory; space = space; inputs = vs; numbers = a.numbers }

    -- the role after a call that was taken
    abbrev pub after_call : Actor → Duty → List Duty → List Tree → Role → Machine → Actor
    after_call a d ds vs s' M' =
        record {
          party = a.party;
          role = s';
          memory = M'.mem;
          holdings = add a.holdings (takes term a.party d) vs (names d a.role s') a.numbers;
          numbers = M'.numbers;
          duties = ds;
        }

    pub record Well (a : Actor) : Type 0 where
      pub sheet : Memory
      pub stands : Stands a.party a.role sheet a.memory a.holdings
      pub reads : ReadsAs R a.holdings
      pub ready : Ready a.party a.role a.duties a.numbers

    -- a call in turn, and what becomes of it
    pub record Taken (a : Actor) (space : ℕ) (vs : List Tree) (d : Duty) (ds : List Duty) : Type 0 where
      pub role' : Role
      pub machine' : Machine
      pub programmed : next_role term a.party d a.role ≡ some role'
      pub runs : exec c (line a.role role') (machine a space vs) ≡ ran machine'
      pub holds : Every (λ e. machine'.mem e.at ≡ some (R e.term)) role'.known
      pub well : Well (after_call a d ds vs role' machine')
      pub pays : machine'.space + remaining a ≡ space + remaining (after_call a d ds vs role' machine')
      pub says : TrueLog (told d (answer (line a.role role') machine'.mem))

    told_true : (P : Party) (d : Duty) (s s' : Role) (Γ m : Memory) → Told term d s s' Γ → ((r : ℕ) (t : Tree) → Γ r ≡ some t → m r ≡ some (R t))
        → TrueLog (told d (answer (line s s') m))
    told_true P (begin ts) s s' Γ m x f = tt
    told_true P (listen l) s s' Γ m x f = tt
    told_true P (speak l mk) s s' Γ m x f =
        subst⁻¹ (λ o. TrueLog (told (speak l mk) o)) (ap (λ xs. answer xs m) x.2 ∙ answer_last x.1 x.0 m (R (term l)) (f x.0 (term l) x.3)) (refl, tt)

    sum_up : (m l l' k k' r n : ℕ) → m + l' ≡ n → l' ≡ l → k' ≡ k → r ≡ l + k → m + r ≡ n + k'
    sum_up m l l' k k' r n p q v u = omega arith

    less : (l l' k n : ℕ) → l + k ≤ n → l' ≡ l → l' ≤ n
    less l l' k n p q = omega arith

    module _ (all_read : Total R) where
      call_runs : (a : Actor) (space : ℕ) (vs : List Tree) (d : Duty) (ds : List Duty) (w : Well a) → Fit term d a.role
          → Fed (λ t v. R t ≡ v) (takes term a.party d) vs [] → (s' : Role) → next_role term a.party d a.role ≡ some s'
          → (ks : List ℕ) → Fed (λ a k. R (leaf a) ≡ leaf k) (names d a.role s') a.numbers ks → Ready a.party s' ds ks
          → (let is = firsts a.holdings.taken ++ takes term a.party d in let ns = firsts a.holdings.made ++ names d a.role s' in
          (line_cost c R a.role s' is ns + cost a.party s' is ns ds ≤ space)
          → remaining a ≡ line_cost c R a.role s' is ns + cost a.party s' is ns ds → Taken a space vs d ds)
      call_runs a space vs d ds w fit fi s' e ks fn rd room k =
          record {
            role' = s';
            machine' = z.0;
            programmed = e;
            runs = z.1.runs;
            holds = z.1.holds;
            well = record { sheet = u.0.sheet; stands = z.3; reads = z.1.reads; ready = subst⁻¹ (Ready P s' ds) z.1.numbers_left rd };
            pays = sum_up z.0.space (line_cost c R s s' is' ns') (line_cost c R s s' (firsts h'.taken) (firsts h'.made))
                (cost P s' is' ns' ds) (cost P s' (firsts h'.taken) (firsts h'.made) ds) (remaining a) space z.1.pays lc= co= k;
            says = told_true P d s s' u.0.sheet z.0.mem u.1 z.2;
          }
        where
          P : Party
          P = a.party

          s : Role
          s = a.role

          h : Stock
          h = a.holdings

          h' : Stock
          h' = add h (takes term P d) vs (names d s s') a.numbers

          is' : List Tree
          is' = firsts h.taken ++ takes term P d

          ns' : List ℕ
          ns' = firsts h.made ++ names d s s'

          is= : firsts h'.taken ≡ is'
          is= = firsts_append h.taken (zip (takes term P d) vs) ∙ ap (λ l. firsts h.taken ++ l) (fed_firsts _ (takes term P d) vs [] fi)

          ns= : firsts h'.made ≡ ns'
          ns= = firsts_append h.made (zip (names d s s') a.numbers) ∙ ap (λ l. firsts h.made ++ l) (fed_firsts _ (names d s s') a.numbers ks fn)

          lc= : line_cost c R s s' (firsts h'.taken) (firsts h'.made) ≡ line_cost c R s s' is' ns'
          lc= = λ i. line_cost c R s s' (is= i) (ns= i)

          co= : cost P s' (firsts h'.taken) (firsts h'.made) ds ≡ cost P s' is' ns' ds
          co= = λ i. cost P s' (is= i) (ns= i) ds

          u : (w' : Went P s w.sheet s' None (takes term P d) (names d s s')) × Told term d s s' w'.sheet
          u = went_duty term P d s s' w.sheet w.stands.good fit e

          z : (M' : Machine) × RunsAs c R s s' h' [] ks (machine a space vs) M'
              × ((r : ℕ) (t : Tree) → u.0.sheet r ≡ some t → M'.mem r ≡ some (R t)) × Stands P s' u.0.sheet M'.mem h'
          z = line_chosen P c R all_read s s' w.sheet (takes term P d) (names d s s') u.0 (machine a space vs) h w.stands w.reads [] ks fi fn
              (less (line_cost c R s s' is' ns') (line_cost c R s s' (firsts h'.taken) (firsts h'.made)) (cost P s' is' ns' ds) space room lc=)

      pub take_call : (a : Actor) (space : ℕ) (vs : List Tree) (d : Duty) (ds : List Duty) → a.duties ≡ d ∷ ds → Well a
          → Fed (λ t v. R t ≡ v) (takes term a.party d) vs [] → remaining a ≤ space → Taken a space vs d ds
      take_call a space vs d ds q w fi room = go (next_role term P d s) refl ready.1 (subst (λ z. z ≤ space) cost= room) cost=
        where
          P : Party
          P = a.party

          s : Role
          s = a.role

          is : List Tree
          is = firsts a.holdings.taken

          ns : List ℕ
          ns = firsts a.holdings.made

          ready : Ready P s (d ∷ ds) a.numbers
          ready = subst (λ l. Ready P s l a.numbers) q w.ready

          cost= : remaining a ≡ cost P s is ns (d ∷ ds)
          cost= = ap (cost P s is ns) q

          go : (o : Option Role) → next_role term P d s ≡ o
              → elim o as (λ x. Type 0) [ some s' ↦ (ks' : List ℕ) × Fed (λ a k. R (leaf a) ≡ leaf k) (names d s s') a.numbers ks' × Ready P s' ds ks' | nothing ↦ ⊥ ]
              → elim o as (λ x. ℕ) [ some s' ↦ line_cost c R s s' (is ++ takes term P d) (ns ++ names d s s') + cost P s' (is ++ takes term P d) (ns ++ names d s s') ds | nothing ↦ 0 ] ≤ space
              → remaining a ≡ elim o as (λ x. ℕ) [ some s' ↦ line_cost c R s s' (is ++ takes term P d) (ns ++ names d s s') + cost P s' (is ++ takes term P d) (ns ++ names d s s') ds | nothing ↦ 0 ]
              → Taken a space vs d ds
          go nothing e x r k = elim x [ ]
          go (some s') e x r k = call_runs a space vs d ds w ready.0 fi s' e x.0 x.1 x.2 r k
