-- The law of programs, proved.
use Rattle.std.proofs.Common.{◌≡◌, ℕ, suc, ◌+◌, ◌<◌, ◌≤◌, Bool, true, false, cond, eqb, ltb, List, [], ◌∷◌, ◌++◌, map, length, sym, refl, ap, ◌∙◌, subst, arith}
use mathlib.Core.Option.{Option, none as nothing, some}
use mathlib.Core.Path.{subst⁻¹}
use Rattle.model.specs.Lists.{Every}
use Rattle.model.specs.Trees.{Tree, node, Trees}
use Rattle.model.specs.Deduction.{Party}
use Rattle.model.specs.Roles.{Act, Role, count}
use Rattle.model.specs.Runs.{Memory, empty, reads}
use Rattle.model.specs.Specifications.{Line, Specification, message, makes, Duty, begin, speak, listen, own_from, own, duties}
use Rattle.model.specs.Programs.{nobody_yet, next_role, line, Stage, turn_of, stage, stages_from, stages, all_actions, line_of, rows_of, program}
use Rattle.model.specs.ProgramLaw.{from, targets, sources, filled, Distinct, NeverFalls, ProgramLaw}
use Rattle.model.proofs.Machine.{Below, reads_parts}
use Rattle.model.proofs.Sheets.{Move, gives, hears, news, says, sames, makes as makes_it, splits, unlocks, Plan, done, then, move_keeps}
use Rattle.model.proofs.Grounds.{Good}
use Rattle.model.proofs.Marked.{None}
use Rattle.model.proofs.Lines.{good_nobody}
use Rattle.model.proofs.Adding.{line_is}
use Rattle.model.proofs.Fitting.{went_duty, Fitting, all_fitting}
use Rattle.model.proofs.Filled.{length_from, distinct_from, InOrder, actions_of, filled_numbered, reads_earlier}

reads_below : (n : ℕ) (Γ : Memory) → Below n Γ → (rs : List ℕ) (ts : Trees) → reads Γ rs ≡ some ts → Every (λ q. q < n) rs
reads_below n Γ b [] ts e = tt
reads_below n Γ b (r ∷ rs) ts e =
    let x = reads_parts Γ r rs ts e in
    (b r x.0 x.2, reads_below n Γ b rs x.1 x.3)

module _ (P : Party) where
  -- one action fills the next registers, and reads earlier ones
  move_ordered : {n n' : ℕ} {Γ Γ' : Memory} {a : Act} {is : List Tree} {ns : List ℕ} → Move P n Γ a n' Γ' is ns → Below n Γ
      → (targets a ≡ from n (length (targets a))) × Every (λ q. q < n) (sources a) × (n' ≡ n + length (targets a))
  move_ordered (gives t) b = (refl, tt, refl)
  move_ordered (hears t) b = (refl, tt, refl)
  move_ordered (news a) b = (refl, tt, refl)
  move_ordered (says {r = r} {t = t} e) b = (refl, (b r t e, tt), omega arith)
  move_ordered (sames {r = r} {q = q} {t = t} e e') b = (refl, (b r t e, (b q t e', tt)), omega arith)
  move_ordered (makes_it {n} {Γ} {h} {ts} {rs} e p s) b = (refl, reads_below n Γ b rs ts e, refl)
  move_ordered (splits {n = n} {h = h} {ts = ts} {r = r} e p) b =
      let l = length_from n (count ts) in (ap (from n) (sym l), (b r (node h ts) e, tt), omega arith)
  move_ordered (unlocks {k = k} {r = r} {q = q} e e') b = (refl, (b r _ e, (b q k e', tt)), refl)

  plan_ordered : (ys : List Act) {n n' : ℕ} {Γ Γ' : Memory} {xs : List Act} {is : List Tree} {ns : List ℕ} → Plan P n Γ xs n' Γ' is ns → Below n Γ
      → InOrder n' ys → InOrder n (xs ++ ys)
  plan_ordered ys done b o = o
  plan_ordered ys (then {a = a} {rest = rest} m p) b o =
      let z = move_ordered m b in (z.0, z.1, subst (λ k. InOrder k (rest ++ ys)) z.2 (plan_ordered ys p (move_keeps P m b).1 o))

  stages_ordered : (term : ℕ → Tree) (ds : List Duty) (s : Role) (Γ : Memory) → Good s Γ s.next None → Fitting term P s ds
      → InOrder s.next (all_actions (stages_from term P s ds))
  stages_ordered term [] s Γ g f = tt
  stages_ordered term (d ∷ ds) s Γ g f = go (next_role term P d s) refl f.1 (λ s' Δ. stages_ordered term ds s' Δ)
    where
      go : (o : Option Role) → next_role term P d s ≡ o → elim o as (λ x. Type 0) [ some s' ↦ Fitting term P s' ds | nothing ↦ ⊥ ]
          → ((s' : Role) (Δ : Memory) → Good s' Δ s'.next None → Fitting term P s' ds → InOrder s'.next (all_actions (stages_from term P s' ds)))
          → InOrder s.next (all_actions (elim o as (λ x. List Stage) [ some s' ↦ stage term P d s s' ∷ stages_from term P s' ds | nothing ↦ [] ]))
      go nothing e x k = elim x [ ]
      go (some s') e x k =
          let w = (went_duty term P d s s' Γ g f.0 e).0 in
          let ys = all_actions (stages_from term P s' ds) in
          subst⁻¹ (λ l. InOrder s.next (l ++ ys)) (line_is P w.grew) (plan_ordered ys w.grew.plan g.bound (k s' w.sheet w.good x))

-- the actions of the rows are those of the stages
actions_append : (l : ℕ) (xs : List Act) (ys : List (ℕ × Act)) → actions_of (map (λ a. (l, a)) xs ++ ys) ≡ xs ++ actions_of ys
actions_append l [] ys = refl
actions_append l (a ∷ xs) ys = ap (λ z. a ∷ z) (actions_append l xs ys)

rows_actions : (xs : List Stage) → actions_of (rows_of xs) ≡ all_actions xs
rows_actions [] = refl
rows_actions (st ∷ xs) = actions_append (line_of st.turn) st.actions (rows_of xs) ∙ ap (λ l. st.actions ++ l) (rows_actions xs)

-- lines, duty by duty
abbrev Rising : ℕ → List Duty → Type 0
Rising l [] = Unit {0}
Rising l (d ∷ ds) = (l ≤ line_of (turn_of d)) × Rising (line_of (turn_of d)) ds

rising_less : (k l : ℕ) (ds : List Duty) → k ≤ l → Rising l ds → Rising k ds
rising_less k l [] h r = tt
rising_less k l (d ∷ ds) h r = let q = r.0 in (omega arith, r.1)

own_rising : (S : Specification) (r l : ℕ) (xs : List Line) → Rising l (own_from S r l xs)
own_rising S r l [] = tt
own_rising S r l (x ∷ xs) = go (eqb r x.sender) (eqb r x.receiver) (rising_less l (suc l) rest (omega arith) (own_rising S r (suc l) xs))
  where
    rest : List Duty
    rest = own_from S r (suc l) xs

    go : (a b : Bool) → Rising l rest → Rising l (cond a (speak l (makes S l) ∷ rest) (cond b (listen l ∷ rest) rest))
    go true b h = (omega arith, h)
    go false true h = (omega arith, h)
    go false false h = h

-- no row of a line stands below one before it
abbrev FromLine : ℕ → List (ℕ × Act) → Type 0
FromLine l xs = Every (λ y. l ≤ y) (map (λ x. x.0) xs) × NeverFalls (map (λ x. x.0) xs)

from_less : (k l : ℕ) (xs : List (ℕ × Act)) → k ≤ l → FromLine l xs → FromLine k xs
from_less k l [] h z = (tt, tt)
from_less k l (x ∷ xs) h z =
    let p = z.0.0 in
    let q = from_less k x.0 xs (omega arith) (z.1.0, z.1.1) in
    ((omega arith, q.0), z.1)

line_append : (l : ℕ) (xs : List Act) (ys : List (ℕ × Act)) → FromLine l ys → FromLine l (map (λ a. (l, a)) xs ++ ys)
line_append l [] ys z = z
line_append l (a ∷ xs) ys z = let q = line_append l xs ys z in ((omega arith, q.0), q)

stages_rise : (term : ℕ → Tree) (P : Party) (ds : List Duty) (s : Role) (l : ℕ) → Rising l ds → FromLine l (rows_of (stages_from term P s ds))
stages_rise term P [] s l r = (tt, tt)
stages_rise term P (d ∷ ds) s l r = go (next_role term P d s) (λ s'. stages_rise term P ds s' (line_of (turn_of d)) r.1)
  where
    go : (o : Option Role) → ((s' : Role) → FromLine (line_of (turn_of d)) (rows_of (stages_from term P s' ds)))
        → FromLine l (rows_of (elim o as (λ x. List Stage) [ some s' ↦ stage term P d s s' ∷ stages_from term P s' ds | nothing ↦ [] ]))
    go nothing f = (tt, tt)
    go (some s') f =
        from_less l (line_of (turn_of d)) _ r.0 (line_append (line_of (turn_of d)) (line s s') (rows_of (stages_from term P s' ds)) (f s'))

program_rises : (S : Specification) (r : ℕ) → NeverFalls (map (λ x. x.0) (program S r))
program_rises S r = go (ltb r S.roles)
  where
    rising : Rising 0 (own S r)
    rising = rising_less 0 1 (own S r) (omega arith) (own_rising S r 1 S.lines)

    go : (b : Bool) → NeverFalls (map (λ x. x.0) (rows_of (stages_from (message S) (S.party r) nobody_yet (cond b (begin (S.knows r) ∷ own S r) []))))
    go true = (stages_rise (message S) (S.party r) (begin (S.knows r) ∷ own S r) nobody_yet 0 (omega arith, rising)).1
    go false = tt

pub program_law : ProgramLaw
program_law S acc r =
    record {
      reads_filled = λ before after x e. reads_earlier before after x (subst (λ l. InOrder 0 (actions_of l)) e ordered);
      fills_once = subst⁻¹ Distinct numbered (distinct_from 0 (length (filled (program S r))));
      numbered = numbered;
      lines_rise = program_rises S r;
    }
  where
    ordered : InOrder 0 (actions_of (program S r))
    ordered = subst⁻¹ (InOrder 0) (rows_actions (stages S r)) (stages_ordered (S.party r) (message S) (duties S r) nobody_yet empty good_nobody (all_fitting S acc r))

    numbered : filled (program S r) ≡ from 0 (length (filled (program S r)))
    numbered = filled_numbered (program S r) ordered
