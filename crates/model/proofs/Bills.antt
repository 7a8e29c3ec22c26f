-- What all of a role's lines cost is what the actions of its whole program build.
use Rattle.std.proofs.Common.{◌≡◌, ℕ, ◌+◌, List, [], ◌∷◌, ◌++◌, sym, refl, ap, ◌∙◌, subst, arith}
use mathlib.Core.Option.{Option, none as nothing, some}
use mathlib.Core.Path.{subst⁻¹}
use Rattle.model.specs.Trees.{Tree, leaf, node}
use Rattle.model.specs.Deduction.{Party}
use Rattle.model.specs.Roles.{Act, Role}
use Rattle.model.specs.Runs.{Memory, empty, set}
use Rattle.model.specs.Specifications.{Duty}
use Rattle.model.specs.Programs.{nobody_yet, next_role, line, takes, names}
use Rattle.model.specs.Costs.{price, bill, bills, sheet_of}
use Rattle.model.proofs.Machine.{no_some, set_same, Below, ◌⊑◌}
use Rattle.model.proofs.Sheets.{Move, gives, hears, news, says, sames, makes, splits, unlocks, Plan, done, then, move_keeps, plan_keeps}
use Rattle.model.proofs.Filling.{grew_none, Went}
use Rattle.model.proofs.Marked.{None}
use Rattle.model.proofs.Lines.{good_nobody}
use Rattle.model.proofs.Adding.{line_is}
use Rattle.model.proofs.Chosen.{sheet_covers, line_cost}
use Rattle.model.proofs.Scripts.{went_then}
use Rattle.model.proofs.Fitting.{went_duty, Fitting}
use Rattle.model.proofs.Actors.{cost}

module _ (c : Tree → ℕ) (R : Tree → Tree) where
  pub bills_append : (S : Memory) (xs ys : List Act) → bills c R S (xs ++ ys) ≡ bills c R S xs + bills c R S ys
  bills_append S [] ys = omega arith
  bills_append S (a ∷ xs) ys = let p = bills_append S xs ys in omega arith

  module _ (P : Party) where
    -- sheets that agree on the registers filled give the same bill
    price_same : (Γ A B : Memory) (n : ℕ) (t : Tree) → set Γ n t ⊑ A → set Γ n t ⊑ B → price c R (A n) ≡ price c R (B n)
    price_same Γ A B n t a b = ap (price c R) (a n t (set_same Γ n t) ∙ sym (b n t (set_same Γ n t)))

    bill_same : {n n' : ℕ} {Γ Γ' : Memory} {a : Act} {is : List Tree} {ns : List ℕ} → Move P n Γ a n' Γ' is ns
        → (A B : Memory) → Γ' ⊑ A → Γ' ⊑ B → bill c R A a ≡ bill c R B a
    bill_same (gives t) A B f g = refl
    bill_same (hears t) A B f g = refl
    bill_same (news {n} {Γ} b) A B f g = price_same Γ A B n (leaf b) f g
    bill_same (says e) A B f g = refl
    bill_same (sames e e') A B f g = refl
    bill_same (makes {n} {Γ} {h} {ts} e p s) A B f g = price_same Γ A B n (node h ts) f g
    bill_same (splits e p) A B f g = refl
    bill_same (unlocks e e') A B f g = refl

    bills_same : {n n' : ℕ} {Γ Γ' : Memory} {xs : List Act} {is : List Tree} {ns : List ℕ} → Plan P n Γ xs n' Γ' is ns → Below n Γ
        → (A B : Memory) → Γ' ⊑ A → Γ' ⊑ B → bills c R A xs ≡ bills c R B xs
    bills_same done b A B f g = refl
    bills_same (then m p) b A B f g =
        let b' = (move_keeps P m b).1 in
        let k = (plan_keeps P p b').0 in
        λ i. bill_same m A B (λ r v e. f r v (k r v e)) (λ r v e. g r v (k r v e)) i + bills_same p b' A B f g i

    nothing_below : Below 0 empty
    nothing_below r t e = absurd (no_some e)

    covers : (s : Role) (is : List Tree) (ns : List ℕ) (w : Went P nobody_yet empty s None is ns) → w.sheet ⊑ sheet_of s.acts is ns
    covers s is ns w =
        subst⁻¹ (λ xs. w.sheet ⊑ sheet_of xs is ns) w.grew.adds (sheet_covers P w.grew.line s.next w.sheet is ns w.grew.plan)

    -- one line more
    line_bill : (s s' : Role) (is js : List Tree) (ns ks : List ℕ) (w : Went P nobody_yet empty s None is ns) → Went P s w.sheet s' None js ks
        → line_cost c R s s' (is ++ js) (ns ++ ks) + bills c R (sheet_of s.acts is ns) s.acts ≡ bills c R (sheet_of s'.acts (is ++ js) (ns ++ ks)) s'.acts
    line_bill s s' is js ns ks w v =
        let a : bills c R S' s.acts ≡ bills c R S s.acts =
        subst⁻¹ (λ xs. bills c R S' xs ≡ bills c R S xs) w.grew.adds
        (bills_same w.grew.plan nothing_below S' S (λ r t e. covers s' (is ++ js) (ns ++ ks) both r t ((plan_keeps P v.grew.plan w.good.bound).0 r t e)) (covers s is ns w)) in
        let b : bills c R S' s'.acts ≡ bills c R S' s.acts + bills c R S' v.grew.line =
        ap (bills c R S') v.grew.adds ∙ bills_append S' s.acts v.grew.line in
        let d : bills c R S' (line s s') ≡ bills c R S' v.grew.line = ap (bills c R S') (line_is P v.grew) in
        sum (bills c R S' (line s s')) (bills c R S s.acts) (bills c R S' s'.acts) (bills c R S' s.acts) (bills c R S' v.grew.line) a b d
      where
        S : Memory
        S = sheet_of s.acts is ns

        S' : Memory
        S' = sheet_of s'.acts (is ++ js) (ns ++ ks)

        both : Went P nobody_yet empty s' None (is ++ js) (ns ++ ks)
        both = went_then P w v

        sum : (l o w' o' l' : ℕ) → o' ≡ o → w' ≡ o' + l' → l ≡ l' → l + o ≡ w'
        sum l o w' o' l' a b d = omega arith

  module _ (term : ℕ → Tree) (P : Party) where
    -- the program after all duties, with the terms that it takes and the names that it makes
    abbrev pub finish : Role → List Tree → List ℕ → List Duty → Option (Role × List Tree × List ℕ)
    finish s is ns [] = some (s, is, ns)
    finish s is ns (d ∷ ds) =
        elim (next_role term P d s) [
          | some s' ↦ finish s' (is ++ takes term P d) (ns ++ names d s s') ds
          | nothing ↦ nothing
        ]

    abbrev WholeBill : Role → List Tree → List ℕ → List Duty → ℕ → Option (Role × List Tree × List ℕ) → Type 0
    WholeBill s is ns ds k nothing = ⊥
    WholeBill s is ns ds k (some z) = k + bills c R (sheet_of s.acts is ns) s.acts ≡ bills c R (sheet_of z.0.acts z.1 z.2) z.0.acts

    bill_on : (ds₀ ds : List Duty) (s s' : Role) (is is' : List Tree) (ns ns' : List ℕ) (l k : ℕ)
        → l + bills c R (sheet_of s.acts is ns) s.acts ≡ bills c R (sheet_of s'.acts is' ns') s'.acts
        → (o : Option (Role × List Tree × List ℕ)) → WholeBill s' is' ns' ds k o → WholeBill s is ns ds₀ (l + k) o
    bill_on ds₀ ds s s' is is' ns ns' l k e nothing h = h
    bill_on ds₀ ds s s' is is' ns ns' l k e (some z) h = omega arith

    pub whole_bill : (ds : List Duty) (s : Role) (is : List Tree) (ns : List ℕ) → Went P nobody_yet empty s None is ns → Fitting term P s ds
        → WholeBill s is ns ds (cost term c R P s is ns ds) (finish s is ns ds)
    whole_bill [] s is ns w rd = omega arith
    whole_bill (d ∷ ds) s is ns w rd =
        go (next_role term P d s) refl rd.1 (λ s' v r. whole_bill ds s' (is ++ takes term P d) (ns ++ names d s s') v r)
      where
        go : (o : Option Role) → next_role term P d s ≡ o
            → elim o as (λ x. Type 0) [ some s' ↦ Fitting term P s' ds | nothing ↦ ⊥ ]
            → ((s' : Role) → Went P nobody_yet empty s' None (is ++ takes term P d) (ns ++ names d s s') → Fitting term P s' ds
            → WholeBill s' (is ++ takes term P d) (ns ++ names d s s') ds (cost term c R P s' (is ++ takes term P d) (ns ++ names d s s') ds)
            (finish s' (is ++ takes term P d) (ns ++ names d s s') ds))
            → WholeBill s is ns (d ∷ ds)
            (elim o as (λ x. ℕ) [
              | some s' ↦ line_cost c R s s' (is ++ takes term P d) (ns ++ names d s s') + cost term c R P s' (is ++ takes term P d) (ns ++ names d s s') ds
              | nothing ↦ 0
            ])
            (elim o as (λ x. Option (Role × List Tree × List ℕ)) [ some s' ↦ finish s' (is ++ takes term P d) (ns ++ names d s s') ds | nothing ↦ nothing ])
        go nothing e x f = elim x [ ]
        go (some s') e x f =
            let v = (went_duty term P d s s' w.sheet w.good rd.0 e).0 in
            bill_on (d ∷ ds) ds s s' is (is ++ takes term P d) ns (ns ++ names d s s')
            (line_cost c R s s' (is ++ takes term P d) (ns ++ names d s s')) (cost term c R P s' (is ++ takes term P d) (ns ++ names d s s') ds)
            (line_bill P s s' is (takes term P d) ns (names d s s') w v)
            (finish s' (is ++ takes term P d) (ns ++ names d s s') ds)
            (f s' (went_then P w v) x)

    went_nowhere : Went P nobody_yet empty nobody_yet None [] []
    went_nowhere = record { sheet = empty; good = good_nobody; grew = grew_none P nobody_yet empty }

    -- a role's whole cost, from before its begin, is what its finished program builds
    pub program_bill : (ds : List Duty) → Fitting term P nobody_yet ds
        → (z : Role × List Tree × List ℕ) → finish nobody_yet [] [] ds ≡ some z
        → cost term c R P nobody_yet [] [] ds ≡ bills c R (sheet_of z.0.acts z.1 z.2) z.0.acts
    program_bill ds rd z e =
        let h = subst (WholeBill nobody_yet [] [] ds (cost term c R P nobody_yet [] [] ds)) e (whole_bill ds nobody_yet [] [] went_nowhere rd) in
        omega arith
