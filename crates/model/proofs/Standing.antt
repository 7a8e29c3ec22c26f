-- How a role stands after lines that were taken: its list, its memory and its holdings with their values.
use Rattle.std.proofs.Common.{◌≡◌, ℕ, ◌+◌, ◌≤◌, ◌↔◌, List, ◌++◌, refl, ap, ◌∙◌, subst, inl, inr, arith}
use mathlib.Core.Option.{some}
use mathlib.Core.Path.{subst⁻¹}
use Rattle.model.specs.Lists.{Every, zip, firsts}
use Rattle.model.specs.Trees.{Tree, leaf}
use Rattle.model.specs.Deduction.{Party, Derives}
use Rattle.model.specs.Roles.{Role}
use Rattle.model.specs.Entries.{Has, AtRest}
use Rattle.model.specs.Runs.{Memory, empty, mismatch, full, invalid, broken, Machine, Result, ran, refused}
use Rattle.model.specs.Readings.{Reading}
use Rattle.model.specs.Holdings.{Stock, nothing_held, add, TermOf, ValueOf, ReadsAs, Readable}
use Rattle.model.specs.Programs.{nobody_yet}
use Rattle.model.specs.Costs.{bills}
use Rattle.model.specs.CountLaw.{Counted}
use Rattle.model.specs.Deducible.{Deducible}
use Rattle.model.proofs.Lists.{every_left, every_right, every_join, every_map, every_some, firsts_append}
use Rattle.model.proofs.Deduction.{derives_map}
use Rattle.model.proofs.Deducible.{deducible_map}
use Rattle.model.proofs.Machine.{no_some, All, Below, ◌⊑◌}
use Rattle.model.proofs.Exec.{exec}
use Rattle.model.proofs.Sheets.{Plan, done, plan_append, plan_keeps, Facts, facts_join, facts_keep, Rel}
use Rattle.model.proofs.Feeding.{Fed, fed_firsts, fed_pairs, pairs_fed}
use Rattle.model.proofs.After.{Holds, Any, After, plan_after}
use Rattle.model.proofs.Agree.{plan_derives, Agrees, plan_agrees}
use Rattle.model.proofs.Values.{closed_deducible, AnyAction, any_actions, closed_derives, plan_values}
use Rattle.model.proofs.Unbroken.{Unbroken, plan_unbroken, Whole, plan_whole}
use Rattle.model.proofs.Grounds.{Good}
use Rattle.model.proofs.Filling.{Went}
use Rattle.model.proofs.Marked.{None}
use Rattle.model.proofs.Lines.{sheet_has, good_nobody}
use Rattle.model.proofs.Sound.{R, read_register, sound}
use Rattle.model.proofs.Holdings.{term_more, value_more, terms_in, names_in, values_in, numbers_in}

-- how a role stands, with the sheet `Γ` of its registers, the memory `m` and its holdings
pub record Stands (P : Party) (s : Role) (Γ m : Memory) (h : Stock) : Type 0 where
  pub good : Good s Γ s.next None
  pub plan : Plan P 0 empty s.acts s.next Γ (firsts h.taken) (firsts h.made)
  pub below : Below s.next m
  pub filled : Rel Any Γ m
  pub facts : Facts m s.acts
  pub derives : All (λ r t. Derives P (TermOf h) t) Γ
  pub values : (A : ℕ → ℕ) → Every (Counted A) s.acts → All (λ r v. Deducible A P (ValueOf h) v) m
  pub values_derive : All (λ r v. Derives P (ValueOf h) v) m
  pub holds : Every (λ p. Holds Γ m p.0 p.1) h.taken
  pub names : Every (λ p. Holds Γ m (leaf p.0) (leaf p.1)) h.made
  pub agrees : (k : Stock) (R : Tree → Tree) → Reading P (TermOf k) R → ((t : Tree) → TermOf h t → TermOf k t) → ReadsAs R h → Rel (λ t v. R t ≡ v) Γ m

module _ (P : Party) where
  pub stands_nobody : Stands P nobody_yet empty empty nothing_held
  stands_nobody =
      record {
        good = good_nobody;
        plan = done;
        below = λ r v e. absurd (no_some e);
        filled = λ r t e. absurd (no_some e);
        facts = tt;
        derives = λ r t e. absurd (no_some e);
        values = λ A q r v e. absurd (no_some e);
        values_derive = λ r v e. absurd (no_some e);
        holds = tt;
        names = tt;
        agrees = λ H R q f a r t e. absurd (no_some e);
      }

  -- each holding's term is known
  pub term_known : (s : Role) (Γ m : Memory) (h : Stock) → Stands P s Γ m h → (t : Tree) → TermOf h t → Has s.known t
  term_known s Γ m h st t (inl i) =
      every_some _ _ (Has s.known t) (λ p a e. subst⁻¹ (Has s.known) e (sheet_has s Γ st.good a.0 p.0 a.1)) h.taken st.holds i
  term_known s Γ m h st t (inr i) =
      every_some _ _ (Has s.known t) (λ p a e. subst⁻¹ (Has s.known) e (sheet_has s Γ st.good a.0 (leaf p.0) a.1)) h.made st.names i

  -- at rest there is a reading that gives each holding its value
  pub stands_reading : (s : Role) (Γ m : Memory) (h : Stock) → Stands P s Γ m h → AtRest P s
      → Readable P h
  stands_reading s Γ m h st rest = (
    Q,
    sound P s Γ (TermOf h) st.good rest all m st.facts,
    (
      every_map _ (λ p. Q p.0 ≡ p.1) (λ p a. register a.0 p.0 p.1 a.1 a.2) h.taken st.holds,
      every_map _ (λ p. Q (leaf p.0) ≡ leaf p.1) (λ p a. register a.0 (leaf p.0) (leaf p.1) a.1 a.2) h.made st.names,
    ),
  )
    where
      all : (t : Tree) → TermOf h t → Has s.known t
      all = term_known s Γ m h st

      Q : Tree → Tree
      Q = R P s Γ (TermOf h) st.good rest all m st.facts

      register : (r : ℕ) (t v : Tree) → Γ r ≡ some t → m r ≡ some v → Q t ≡ v
      register = read_register P s Γ (TermOf h) st.good rest all m st.facts

  module _ (c : Tree → ℕ) (s s' : Role) (Γ : Memory) (is : List Tree) (ns : List ℕ) (w : Went P s Γ s' None is ns) (M : Machine) (h : Stock) (st : Stands P s Γ M.mem h) where
    abbrev pub more_held : Stock
    more_held = add h is M.inputs ns M.numbers

    -- the whole program, with the line
    pub line_plan : (Q : Tree → Tree → Type 0) (N : ℕ → ℕ → Type 0) (vs : List Tree) (ks : List ℕ)
        → Fed Q is M.inputs vs → Fed N ns M.numbers ks
        → Plan P 0 empty s'.acts s'.next w.sheet (firsts more_held.taken) (firsts more_held.made)
    line_plan Q N vs ks fi fn =
        subst⁻¹ (λ l. Plan P 0 empty l s'.next w.sheet (firsts more_held.taken) (firsts more_held.made)) w.grew.adds
        (subst⁻¹ (λ l. Plan P 0 empty (s.acts ++ w.grew.line) s'.next w.sheet l (firsts more_held.made))
        (firsts_append h.taken (zip is M.inputs) ∙ ap (λ l. firsts h.taken ++ l) (fed_firsts Q is M.inputs vs fi))
        (subst⁻¹ (λ l. Plan P 0 empty (s.acts ++ w.grew.line) s'.next w.sheet (firsts h.taken ++ is) l)
        (firsts_append h.made (zip ns M.numbers) ∙ ap (λ l. firsts h.made ++ l) (fed_firsts N ns M.numbers ks fn))
        (plan_append P st.plan w.grew.plan)))

    -- a reading of the holdings, those of the line too, lets the line run, but for space
    pub line_agrees : (Q : Tree → Tree → Type 0) (N : ℕ → ℕ → Type 0) (vs : List Tree) (ks : List ℕ)
        → Fed Q is M.inputs vs → Fed N ns M.numbers ks
        → (l : Stock) (R : Tree → Tree) → Reading P (TermOf l) R → ((t : Tree) → TermOf more_held t → TermOf l t) → ReadsAs R more_held
        → (Γ'' : Memory) → w.sheet ⊑ Γ''
        → Agrees R w.sheet (bills c R Γ'' w.grew.line) vs ks M.space (exec c w.grew.line M)
    line_agrees Q N vs ks fi fn l R reading sub ra Γ'' k =
        plan_agrees P c (TermOf l) R reading w.grew.plan st.good.bound Γ'' k
        (λ r t e. derives_map P (TermOf h) (TermOf l) old (st.derives r t e))
        (every_map _ (TermOf l) sub is (terms_in h is M.inputs ns M.numbers vs ks Q N fi fn))
        (every_map _ (λ a. TermOf l (leaf a)) (λ a. sub (leaf a)) ns (names_in h is M.inputs ns M.numbers vs ks Q N fi fn))
        M vs ks
        (st.agrees l R reading old (every_left _ h.taken (zip is M.inputs) ra.0, every_left _ h.made (zip ns M.numbers) ra.1))
        (pairs_fed Q (λ t v. R t ≡ v) is M.inputs vs fi (every_right _ h.taken (zip is M.inputs) ra.0))
        (pairs_fed N (λ a b. R (leaf a) ≡ leaf b) ns M.numbers ks fn (every_right _ h.made (zip ns M.numbers) ra.1))
      where
        old : (t : Tree) → TermOf h t → TermOf l t
        old t i = sub t (term_more h is M.inputs ns M.numbers t i)

    pub line_after : (M' : Machine) → exec c w.grew.line M ≡ ran M' → After s'.next w.sheet w.grew.line is ns M M'
    line_after M' e = plan_after P c w.grew.plan M M' e st.good.bound st.below st.filled

    -- a line that ran: the role stands again
    pub stands_line : (M' : Machine) → exec c w.grew.line M ≡ ran M' → Stands P s' w.sheet M'.mem more_held
    stands_line M' e =
        record {
          good = w.good;
          plan = line_plan _ _ M'.inputs M'.numbers after.fed after.numbered;
          below = after.below;
          filled = after.filled;
          facts = subst⁻¹ (Facts M'.mem) w.grew.adds (facts_join M'.mem s.acts w.grew.line (facts_keep M.mem M'.mem after.keeps s.acts st.facts) after.facts);
          derives = plan_derives P (TermOf more_held) w.grew.plan
              (terms_in h is M.inputs ns M.numbers M'.inputs M'.numbers _ _ after.fed after.numbered)
              (names_in h is M.inputs ns M.numbers M'.inputs M'.numbers _ _ after.fed after.numbered)
              (λ r t x. derives_map P (TermOf h) (TermOf more_held) (term_more h is M.inputs ns M.numbers) (st.derives r t x));
          values = λ A q.
              let z = subst (Every (Counted A)) w.grew.adds q in
              plan_values P (ValueOf more_held) (Deducible A P (ValueOf more_held)) (Counted A) (closed_deducible A P (ValueOf more_held)) c w.grew.plan (every_right (Counted A) s.acts w.grew.line z) M M' e st.good.bound st.below st.filled
              (values_in h is M.inputs ns M.numbers M'.inputs M'.numbers _ _ after.fed after.numbered)
              (numbers_in h is M.inputs ns M.numbers M'.inputs M'.numbers _ _ after.fed after.numbered)
              (λ r t x. deducible_map A P (ValueOf h) (ValueOf more_held) (value_more h is M.inputs ns M.numbers) (st.values A (every_left (Counted A) s.acts w.grew.line z) r t x));
          values_derive = plan_values P (ValueOf more_held) (Derives P (ValueOf more_held)) AnyAction (closed_derives P (ValueOf more_held)) c w.grew.plan (any_actions w.grew.line) M M' e st.good.bound st.below st.filled
              (values_in h is M.inputs ns M.numbers M'.inputs M'.numbers _ _ after.fed after.numbered)
              (numbers_in h is M.inputs ns M.numbers M'.inputs M'.numbers _ _ after.fed after.numbered)
              (λ r t x. derives_map P (ValueOf h) (ValueOf more_held) (value_more h is M.inputs ns M.numbers) (st.values_derive r t x));
          holds = every_join _ h.taken (zip is M.inputs)
              (every_map _ (λ p. Holds w.sheet M'.mem p.0 p.1) (λ p a. (a.0, keep a.0 p.0 a.1, after.keeps a.0 p.1 a.2)) h.taken st.holds)
              (fed_pairs _ is M.inputs M'.inputs after.fed);
          names = every_join _ h.made (zip ns M.numbers)
              (every_map _ (λ p. Holds w.sheet M'.mem (leaf p.0) (leaf p.1)) (λ p a. (a.0, keep a.0 (leaf p.0) a.1, after.keeps a.0 (leaf p.1) a.2)) h.made st.names)
              (fed_pairs _ ns M.numbers M'.numbers after.numbered);
          agrees = λ l R reading sub ra.
              (subst (Agrees R w.sheet (bills c R w.sheet w.grew.line) M'.inputs M'.numbers M.space) e
              (line_agrees _ _ M'.inputs M'.numbers after.fed after.numbered l R reading sub ra w.sheet (λ r v x. x))).0;
        }
      where
        after : After s'.next w.sheet w.grew.line is ns M M'
        after = line_after M' e

        keep : Γ ⊑ w.sheet
        keep = (plan_keeps P w.grew.plan st.good.bound).0

    -- not refused as full, a line is taken exactly if some reading gives all holdings their values
    pub line_taken : (Q : Tree → Tree → Type 0) (N : ℕ → ℕ → Type 0) (vs : List Tree) (ks : List ℕ)
        → Fed Q is M.inputs vs → Fed N ns M.numbers ks → AtRest P s' → ¬ (exec c w.grew.line M ≡ refused full)
        → ((M' : Machine) × (exec c w.grew.line M ≡ ran M')) ↔ Readable P more_held
    line_taken Q N vs ks fi fn rest n = (
      (λ x. stands_reading s' w.sheet x.0.mem more_held (stands_line x.0 x.1) rest),
      λ x. go x.0 (exec c w.grew.line M) n
          (line_agrees Q N vs ks fi fn more_held x.0 x.1 (λ t i. i) x.2 w.sheet (λ r v e. e)),
    )
      where
        go : (R : Tree → Tree) (y : Result) → ¬ (y ≡ refused full) → Agrees R w.sheet (bills c R w.sheet w.grew.line) vs ks M.space y
            → (M' : Machine) × (y ≡ ran M')
        go R (ran M') n a = (M', refl)
        go R (refused full) n a = absurd (n refl)
        go R (refused mismatch) n a = elim a [ ]
        go R (refused broken) n a = elim a [ ]
        go R (refused invalid) n a = elim a [ ]

    -- what can become of a line: it runs, or is refused as a mismatch or as full
    pub line_unbroken : (Q : Tree → Tree → Type 0) (N : ℕ → ℕ → Type 0) (vs : List Tree) (ks : List ℕ)
        → Fed Q is M.inputs vs → Fed N ns M.numbers ks → Unbroken (exec c w.grew.line M)
    line_unbroken Q N vs ks fi fn = plan_unbroken P c Q N w.grew.plan M vs ks st.good.bound st.below st.filled fi fn

    -- whatever comes in, it reads only registers that are filled
    pub line_whole : (N : ℕ → ℕ → Type 0) (ks : List ℕ) → Fed N ns M.numbers ks → Whole (exec c w.grew.line M)
    line_whole N ks fn = plan_whole P c N w.grew.plan M ks st.good.bound st.below st.filled fn

    -- with a reading of the holdings and of what comes in, and space for what is built, the line is taken
    pub line_runs : (l : Stock) (R : Tree → Tree) → Reading P (TermOf l) R → ((t : Tree) → TermOf more_held t → TermOf l t)
        → ReadsAs R h → (vs : List Tree) (ks : List ℕ) → Fed (λ t v. R t ≡ v) is M.inputs vs → Fed (λ a k. R (leaf a) ≡ leaf k) ns M.numbers ks
        → (Γ'' : Memory) → w.sheet ⊑ Γ'' → bills c R Γ'' w.grew.line ≤ M.space
        → (M' : Machine) × (exec c w.grew.line M ≡ ran M') × Rel (λ t v. R t ≡ v) w.sheet M'.mem × ReadsAs R more_held
        × (M'.inputs ≡ vs) × (M'.numbers ≡ ks) × (M'.space + bills c R Γ'' w.grew.line ≡ M.space)
    line_runs l R reading sub ra vs ks fi fn Γ'' k room =
        go (exec c w.grew.line M) refl (line_agrees _ _ vs ks fi fn l R reading sub ra' Γ'' k)
      where
        ra' : ReadsAs R more_held
        ra' = (
          every_join _ h.taken (zip is M.inputs) ra.0 (fed_pairs _ is M.inputs vs fi),
          every_join _ h.made (zip ns M.numbers) ra.1 (fed_pairs _ ns M.numbers ks fn),
        )

        go : (y : Result) → exec c w.grew.line M ≡ y → Agrees R w.sheet (bills c R Γ'' w.grew.line) vs ks M.space y
            → (M' : Machine) × (exec c w.grew.line M ≡ ran M') × Rel (λ t v. R t ≡ v) w.sheet M'.mem × ReadsAs R more_held
            × (M'.inputs ≡ vs) × (M'.numbers ≡ ks) × (M'.space + bills c R Γ'' w.grew.line ≡ M.space)
        go (ran M') e a = (M', e, a.0, ra', a.1, a.2, a.3)
        go (refused full) e a = absurd (omega arith)
        go (refused mismatch) e a = elim a [ ]
        go (refused broken) e a = elim a [ ]
        go (refused invalid) e a = elim a [ ]
