-- Counts: a program takes in a value for each `give` and `hear`, and makes a name for each `new`; a start hears nothing.
use Rattle.std.proofs.Common.{◌≡◌, ℕ, suc, ◌+◌, Bool, true, false, cond, List, [], ◌∷◌, ◌++◌, length, sym, refl, ap, ◌∙◌, append_assoc, arith, length-append}
use mathlib.Core.Option.{Option, none as nothing, some}
use mathlib.Core.Path.{subst⁻¹}
use Rattle.model.specs.Lists.{Every, rest_of}
use Rattle.model.specs.Trees.{Tree, Formed}
use Rattle.model.specs.Deduction.{Party}
use Rattle.model.specs.Roles.{Act, give, new, hear, say, same, make, split, unlock, Role, fill, enter, meet, knows, settled, give_all, start, heard}
use Rattle.model.specs.Runs.{Memory, empty, set}
use Rattle.model.specs.Specifications.{Duty}
use Rattle.model.specs.Programs.{nobody_yet, next_role, given, line, takes, names, Stage, stage, stages_from, all_actions, all_makes}
use Rattle.model.specs.Sessions.{gives as count_Gives, news as count_news}
use Rattle.model.proofs.Lists.{every_join, rest_append}
use Rattle.model.proofs.Machine.{set_same}
use Rattle.model.proofs.Sheets.{Move, gives, hears, news, says, sames, makes, splits, unlocks, Plan, done, then}
use Rattle.model.proofs.Grounds.{Good, good_meet, meet_next}
use Rattle.model.proofs.Filling.{Grew, grew_meet, good_set, Went}
use Rattle.model.proofs.Marked.{None}
use Rattle.model.proofs.Turning.{went_settled}
use Rattle.model.proofs.Lines.{good_nobody, gave, went_start}
use Rattle.model.proofs.Adding.{line_is}
use Rattle.model.proofs.Fitting.{went_duty, Fitting}

abbrev count_hears : List Act → ℕ
count_hears [] = 0
count_hears (give r ∷ xs) = count_hears xs
count_hears (new r ∷ xs) = count_hears xs
count_hears (hear r ∷ xs) = suc (count_hears xs)
count_hears (say r ∷ xs) = count_hears xs
count_hears (same r q ∷ xs) = count_hears xs
count_hears (make r h rs ∷ xs) = count_hears xs
count_hears (split f n h r ∷ xs) = count_hears xs
count_hears (unlock x r k ∷ xs) = count_hears xs

hears_append : (xs ys : List Act) → count_hears (xs ++ ys) ≡ count_hears xs + count_hears ys
hears_append [] ys = omega arith
hears_append (give r ∷ xs) ys = hears_append xs ys
hears_append (new r ∷ xs) ys = hears_append xs ys
hears_append (hear r ∷ xs) ys = let p = hears_append xs ys in omega arith
hears_append (say r ∷ xs) ys = hears_append xs ys
hears_append (same r q ∷ xs) ys = hears_append xs ys
hears_append (make r h rs ∷ xs) ys = hears_append xs ys
hears_append (split f n h r ∷ xs) ys = hears_append xs ys
hears_append (unlock x r k ∷ xs) ys = hears_append xs ys

pub news_append : (xs ys : List Act) → count_news (xs ++ ys) ≡ count_news xs + count_news ys
news_append [] ys = omega arith
news_append (give r ∷ xs) ys = news_append xs ys
news_append (new r ∷ xs) ys = let p = news_append xs ys in omega arith
news_append (hear r ∷ xs) ys = news_append xs ys
news_append (say r ∷ xs) ys = news_append xs ys
news_append (same r q ∷ xs) ys = news_append xs ys
news_append (make r h rs ∷ xs) ys = news_append xs ys
news_append (split f n h r ∷ xs) ys = news_append xs ys
news_append (unlock x r k ∷ xs) ys = news_append xs ys

abbrev Counted : List Act → List Tree → List ℕ → Type 0
Counted xs is ns = (count_Gives xs + count_hears xs ≡ length is) × (count_news xs ≡ length ns)

abbrev pub Gives : Act → Type 0
Gives (give r) = Unit {0}
Gives (new r) = ⊥
Gives (hear r) = ⊥
Gives (say r) = ⊥
Gives (same r q) = ⊥
Gives (make r h rs) = ⊥
Gives (split f n h r) = ⊥
Gives (unlock x r k) = ⊥

module _ (P : Party) where
  move_counts : (rest : List Act) (js : List Tree) (ks : List ℕ) {n n' : ℕ} {Γ Γ' : Memory} {a : Act} {is : List Tree} {ns : List ℕ} → Move P n Γ a n' Γ' is ns
      → Counted rest js ks → Counted (a ∷ rest) (is ++ js) (ns ++ ks)
  move_counts rest js ks (gives t) h = (omega arith, h.1)
  move_counts rest js ks (hears t) h = (omega arith, h.1)
  move_counts rest js ks (news b) h = (h.0, omega arith)
  move_counts rest js ks (says e) h = h
  move_counts rest js ks (sames e e') h = h
  move_counts rest js ks (makes e p s) h = h
  move_counts rest js ks (splits e p) h = h
  move_counts rest js ks (unlocks e e') h = h

  plan_counts : {n n' : ℕ} {Γ Γ' : Memory} {xs : List Act} {is : List Tree} {ns : List ℕ} → Plan P n Γ xs n' Γ' is ns → Counted xs is ns
  plan_counts done = (omega arith, refl)
  plan_counts (then {rest = rest} {js = js} {ks = ks} m p) = move_counts rest js ks m (plan_counts p)

  pub line_news : (s s' : Role) (Γ : Memory) (is : List Tree) (ns : List ℕ) → Went P s Γ s' None is ns → count_news (line s s') ≡ length ns
  line_news s s' Γ is ns w = ap count_news (line_is P w.grew) ∙ (plan_counts w.grew.plan).1

  -- giving hears nothing
  give_hears : (ts : List Tree) (s : Role) → count_hears (give_all P ts s).acts ≡ count_hears s.acts
  unfolding give_all
  give_hears [] s = refl
  give_hears (t ∷ ts) s = give_hears ts (cond (knows s.known t) s s') ∙ one (knows s.known t)
    where
      s' : Role
      s' = enter t s.next false (fill give s)

      one : (b : Bool) → count_hears (cond b s s').acts ≡ count_hears s.acts
      one true = refl
      one false = let p = hears_append s.acts (give s.next ∷ []) in omega arith

  start_hears : (ts : List Tree) → Every Formed ts → count_hears (start P ts).acts ≡ 0
  unfolding start
  start_hears ts f =
      let a = gave P ts nobody_yet empty good_nobody f in
      let w = went_settled P (give_all P ts nobody_yet) a.2.sheet a.2.good in
      let p : count_hears (settled P (give_all P ts nobody_yet)).acts ≡ count_hears (give_all P ts nobody_yet).acts + count_hears w.grew.line =
      ap count_hears w.grew.adds ∙ hears_append (give_all P ts nobody_yet).acts w.grew.line in
      let q = give_hears ts nobody_yet in
      let z = (plan_counts w.grew.plan).0 in
      omega arith

  -- a start gives each of its terms once
  pub start_gives : (ts : List Tree) → Every Formed ts → count_Gives (line nobody_yet (start P ts)) ≡ length (given P ts)
  start_gives ts f =
      let w = (went_start P ts f).0 in
      let p = (plan_counts w.grew.plan).0 in
      let q : (start P ts).acts ≡ w.grew.line = w.grew.adds in
      let z = start_hears ts f in
      let z' : count_hears w.grew.line ≡ 0 = ap count_hears (sym q) ∙ z in
      let g : count_Gives (start P ts).acts ≡ count_Gives w.grew.line = ap count_Gives q in
      omega arith

  -- a start first gives, and what follows gives nothing
  all_give : (ts : List Tree) (s : Role) → Every Gives s.acts → Every Gives (give_all P ts s).acts
  unfolding give_all
  all_give [] s h = h
  all_give (t ∷ ts) s h = all_give ts (cond (knows s.known t) s s') (one (knows s.known t))
    where
      s' : Role
      s' = enter t s.next false (fill give s)

      one : (b : Bool) → Every Gives (cond b s s').acts
      one true = h
      one false = every_join Gives s.acts (give s.next ∷ []) h (tt, tt)

  gives_all : (xs ys : List Act) → Every Gives xs → count_Gives (xs ++ ys) ≡ length xs + count_Gives ys
  gives_all [] ys h = omega arith
  gives_all (give r ∷ xs) ys h = let p = gives_all xs ys h.1 in omega arith
  gives_all (new r ∷ xs) ys h = absurd h.0
  gives_all (hear r ∷ xs) ys h = absurd h.0
  gives_all (say r ∷ xs) ys h = absurd h.0
  gives_all (same r q ∷ xs) ys h = absurd h.0
  gives_all (make r k rs ∷ xs) ys h = absurd h.0
  gives_all (split f n k r ∷ xs) ys h = absurd h.0
  gives_all (unlock x r k ∷ xs) ys h = absurd h.0

  pub start_first : (ts : List Tree) → Every Formed ts
      → (xs : List Act) × (ys : List Act) × (line nobody_yet (start P ts) ≡ xs ++ ys) × Every Gives xs × (count_Gives (line nobody_yet (start P ts)) ≡ length xs)
  unfolding start
  start_first ts f =
      let a = gave P ts nobody_yet empty good_nobody f in
      let w = went_settled P (give_all P ts nobody_yet) a.2.sheet a.2.good in
      let xs = (give_all P ts nobody_yet).acts in
      let g = all_give ts nobody_yet tt in
      let p = gives_all xs w.grew.line g in
      let q = (plan_counts w.grew.plan).0 in
      let e : count_Gives (settled P (give_all P ts nobody_yet)).acts ≡ count_Gives (xs ++ w.grew.line) = ap count_Gives w.grew.adds in
      (xs, w.grew.line, w.grew.adds, g, omega arith)

  -- a line heard first hears
  pub hear_first : (t : Tree) (s : Role) (Γ : Memory) → Good s Γ s.next None → Formed t → (xs : List Act) × (line s (heard P t s) ≡ hear s.next ∷ xs)
  unfolding heard
  hear_first t s Γ g f = (m.line ++ w.grew.line, ap (rest_of s.acts) together ∙ rest_append s.acts (hear s.next ∷ (m.line ++ w.grew.line)))
    where
      s₁ : Role
      s₁ = fill hear s

      Γ₁ : Memory
      Γ₁ = set Γ s.next t

      here : Γ₁ s.next ≡ some t
      here = set_same Γ s.next t

      g₁ : Good s₁ Γ₁ s.next None
      g₁ = good_set s Γ s.next None g (hear s.next) t f

      s₂ : Role
      s₂ = meet t s.next s₁

      g₂ : Good s₂ Γ₁ s₂.next None
      g₂ = subst⁻¹ (λ k. Good s₂ Γ₁ k None) (meet_next t s.next s₁) (good_meet s₁ Γ₁ s.next None g₁ (omega arith) t here)

      m : Grew P s₁ Γ₁ s₂ Γ₁ [] []
      m = grew_meet P s₁ Γ₁ s.next None g₁ t here

      w : Went P s₂ Γ₁ (settled P s₂) None [] []
      w = went_settled P s₂ Γ₁ g₂

      together : (settled P s₂).acts ≡ s.acts ++ (hear s.next ∷ (m.line ++ w.grew.line))
      together =
          w.grew.adds ∙ ap (λ l. l ++ w.grew.line) (m.adds ∙ append_assoc s.acts (hear s.next ∷ []) m.line)
          ∙ append_assoc s.acts (hear s.next ∷ m.line) w.grew.line

  -- a program's `new` actions are as many as its names
  pub stages_news : (term : ℕ → Tree) (ds : List Duty) (s : Role) (Γ : Memory) → Good s Γ s.next None → Fitting term P s ds
      → count_news (all_actions (stages_from term P s ds)) ≡ length (all_makes (stages_from term P s ds))
  stages_news term [] s Γ g f = refl
  stages_news term (d ∷ ds) s Γ g f = go (next_role term P d s) refl f.1 (λ s' Δ. stages_news term ds s' Δ)
    where
      go : (o : Option Role) → next_role term P d s ≡ o → elim o as (λ x. Type 0) [ some s' ↦ Fitting term P s' ds | nothing ↦ ⊥ ]
          → ((s' : Role) (Δ : Memory) → Good s' Δ s'.next None → Fitting term P s' ds
          → count_news (all_actions (stages_from term P s' ds)) ≡ length (all_makes (stages_from term P s' ds)))
          → (let xs = elim o as (λ x. List Stage) [ some s' ↦ stage term P d s s' ∷ stages_from term P s' ds | nothing ↦ [] ] in
          count_news (all_actions xs) ≡ length (all_makes xs))
      go nothing e x k = elim x [ ]
      go (some s') e x k =
          let w = (went_duty term P d s s' Γ g f.0 e).0 in
          let a = line_news s s' Γ (takes term P d) (names d s s') w in
          let b = k s' w.sheet w.good x in
          let p = news_append (line s s') (all_actions (stages_from term P s' ds)) in
          let q = length-append (names d s s') (all_makes (stages_from term P s' ds)) in
          omega arith
