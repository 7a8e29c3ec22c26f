-- The next stage of a role's program, by how many of its duties were done.
use Rattle.std.proofs.Common.{◌≡◌, ℕ, suc, List, [], ◌∷◌, ◌++◌, length, take, drop, sym, refl, ap, ◌∙◌, arith}
use mathlib.Core.Option.{Option, none as nothing, some}
use mathlib.Core.Path.{subst⁻¹}
use Rattle.model.specs.Lists.{Every, zip}
use Rattle.model.specs.Trees.{Tree}
use Rattle.model.specs.Deduction.{Party}
use Rattle.model.specs.Roles.{Role}
use Rattle.model.specs.Lives.{Life, starts, after_hear, after_say, run}
use Rattle.model.specs.Specifications.{Specification, message, Duty, begin, speak, listen, life_on}
use Rattle.model.specs.Programs.{next_role, Stage, turn_of, Turn, stage, stages_from}
use Rattle.model.specs.Sessions.{turn_now}
use Rattle.model.proofs.Fitting.{Fit, Fitting}
use Rattle.model.proofs.Duties.{IsLine}
use Rattle.sessions.specs.Observed.{first_of}
use Rattle.sessions.specs.RunLaw.{role_after}

no_list : {A : Type 0} {x : A} {xs : List A} → [] ≡ x ∷ xs → ⊥
no_list e = let z : ◌≡◌ {A = ℕ} 0 1 = cc in omega arith

cons_head : {A : Type 0} {x y : A} {xs ys : List A} → x ∷ xs ≡ y ∷ ys → x ≡ y
cons_head e = cc

same_suc : {n m : ℕ} → suc n ≡ suc m → m ≡ n
same_suc e = omega arith

cons_tail : {A : Type 0} {x y : A} {xs ys : List A} → x ∷ xs ≡ y ∷ ys → xs ≡ ys
cons_tail e = cc

-- lists side by side, where the shorter gets one more
module _ {A B : Type 0} where
  pub zip_more : (xs : List A) (ys : List B) (x : A) (rest : List A) (y : B) → drop (length ys) xs ≡ x ∷ rest → zip xs (ys ++ (y ∷ [])) ≡ zip xs ys ++ ((x, y) ∷ [])
  zip_more [] [] x rest y e = absurd (no_list e)
  zip_more [] (b ∷ ys) x rest y e = absurd (no_list e)
  zip_more (a ∷ []) [] x rest y e = ap (λ (z : A). (z, y) ∷ []) (cons_head e)
  zip_more (a ∷ (b ∷ xs)) [] x rest y e = ap (λ (z : A). (z, y) ∷ []) (cons_head e)
  zip_more (a ∷ xs) (b ∷ ys) x rest y e = ap (λ l. (a, b) ∷ l) (zip_more xs ys x rest y e)

  pub drop_more : (xs : List A) (ys : List B) (x : A) (rest : List A) (y : B) → drop (length ys) xs ≡ x ∷ rest → drop (length (ys ++ (y ∷ []))) xs ≡ rest
  drop_more [] [] x rest y e = absurd (no_list e)
  drop_more [] (b ∷ ys) x rest y e = absurd (no_list e)
  drop_more (a ∷ xs) [] x rest y e = cons_tail e
  drop_more (a ∷ xs) (b ∷ ys) x rest y e = drop_more xs ys x rest y e

  pub take_more : (xs : List A) (ys : List B) (x : A) (rest : List A) (y : B) → drop (length ys) xs ≡ x ∷ rest → take (length (ys ++ (y ∷ []))) xs ≡ take (length ys) xs ++ (x ∷ [])
  take_more [] [] x rest y e = absurd (no_list e)
  take_more [] (b ∷ ys) x rest y e = absurd (no_list e)
  take_more (a ∷ xs) [] x rest y e = ap (λ z. z ∷ []) (cons_head e)
  take_more (a ∷ xs) (b ∷ ys) x rest y e = ap (λ l. a ∷ l) (take_more xs ys x rest y e)

-- whose turn it is, by the duties
abbrev pub turn_for : Option Duty → Option Turn
turn_for nothing = nothing
turn_for (some d) = some (turn_of d)

module _ (X : Specification) (P : Party) where
  -- a stage that is next after so many duties
  pub record Place (s : Role) (ds : List Duty) (n : ℕ) (st : Stage) : Type 0 where
    pub duty : Duty
    pub later : List Duty
    pub role : Role
    pub role' : Role
    pub here : drop n ds ≡ duty ∷ later
    pub fit : Fit (message X) duty role
    pub next : next_role (message X) P duty role ≡ some role'
    pub is : st ≡ stage (message X) P duty role role'
    pub goes : role_after X P s (take n ds ++ (duty ∷ [])) ≡ role'
    pub lived : (l : Life) → run P l ≡ some s → Every IsLine ds → run P (life_on X l (take n ds)) ≡ some role
    pub begun : (ts : List Tree) (own : List Duty) (m : ℕ) → ds ≡ begin ts ∷ own → n ≡ suc m → Every IsLine own → run P (life_on X (starts ts) (take m own)) ≡ some role

  -- a line more
  line_lived : (d : Duty) (l : Life) (s s' : Role) → IsLine d → run P l ≡ some s → next_role (message X) P d s ≡ some s' → run P (life_on X l (d ∷ [])) ≡ some s'
  unfolding run
  line_lived (begin ts) l s s' i q e = elim i [ ]
  line_lived (speak k mk) l s s' i q e = ap (after_say P mk (message X k)) q ∙ e
  line_lived (listen k) l s s' i q e = ap (after_hear P (message X k)) q ∙ e

  start_lived : (ts : List Tree) (s s' : Role) → next_role (message X) P (begin ts) s ≡ some s' → run P (starts ts) ≡ some s'
  unfolding run
  start_lived ts s s' e = e

  life_first : (d : Duty) (ds : List Duty) (l : Life) → IsLine d → life_on X l (d ∷ ds) ≡ life_on X (life_on X l (d ∷ [])) ds
  life_first (begin ts) ds l i = elim i [ ]
  life_first (speak k mk) ds l i = refl
  life_first (listen k) ds l i = refl

  pub place : {C : Type 0} (cs : List C) (ds : List Duty) (s : Role) → Fitting (message X) P s ds → (st : Stage) (rest : List Stage)
      → drop (length cs) (stages_from (message X) P s ds) ≡ st ∷ rest → Place s ds (length cs) st
  place [] [] s f st rest e = absurd (no_list e)
  place (c ∷ cs) [] s f st rest e = absurd (no_list e)
  place [] (d ∷ ds) s f st rest e = go (next_role (message X) P d s) refl f.1 e
    where
      go : (o : Option Role) → next_role (message X) P d s ≡ o → elim o as (λ x. Type 0) [ some s' ↦ Fitting (message X) P s' ds | nothing ↦ ⊥ ]
          → elim o as (λ x. List Stage) [ some s' ↦ stage (message X) P d s s' ∷ stages_from (message X) P s' ds | nothing ↦ [] ] ≡ st ∷ rest → Place s (d ∷ ds) 0 st
      go nothing q g i = elim g [ ]
      go (some s') q g i = record {
        duty = d;
        later = ds;
        role = s;
        role' = s';
        here = refl;
        fit = f.0;
        next = q;
        is = sym (cons_head i);
        goes = ap (λ (o : Option Role). elim o as (λ x. Role) [ some z ↦ z | nothing ↦ s ]) q;
        lived = λ l r i. r;
        begun = λ ts own m i j k. absurd (omega arith);
      }
  place (c ∷ cs) (d ∷ ds) s f st rest e = go (next_role (message X) P d s) refl f.1 (λ s'. place cs ds s') e
    where
      go : (o : Option Role) → next_role (message X) P d s ≡ o → elim o as (λ x. Type 0) [ some s' ↦ Fitting (message X) P s' ds | nothing ↦ ⊥ ]
          → ((s' : Role) → Fitting (message X) P s' ds → (st : Stage) (rest : List Stage)
          → drop (length cs) (stages_from (message X) P s' ds) ≡ st ∷ rest → Place s' ds (length cs) st)
          → drop (length (c ∷ cs)) (elim o as (λ x. List Stage) [ some s' ↦ stage (message X) P d s s' ∷ stages_from (message X) P s' ds | nothing ↦ [] ]) ≡ st ∷ rest
          → Place s (d ∷ ds) (length (c ∷ cs)) st
      go nothing q g k i = elim g [ ]
      go (some s') q g k i = let p = k s' g st rest i in record {
        duty = p.duty;
        later = p.later;
        role = p.role;
        role' = p.role';
        here = p.here;
        fit = p.fit;
        next = p.next;
        is = p.is;
        goes = ap (λ (o : Option Role). elim o as (λ x. Role) [ some z ↦ role_after X P z (take (length cs) ds ++ (p.duty ∷ [])) | nothing ↦ s ]) q ∙ p.goes;
        lived = λ l r i. ap (run P) (life_first d (take (length cs) ds) l i.0)
            ∙ p.lived (life_on X l (d ∷ [])) (line_lived d l s s' i.0 r q) i.1;
        begun = λ ts own m i j k.
            ap (λ l. run P (life_on X (starts ts) l)) (ap (λ k. take k own) (same_suc j) ∙ ap (take (length cs)) (sym (cons_tail i)))
            ∙ p.lived (starts ts) (start_lived ts s s' (ap (λ x. next_role (message X) P x s) (sym (cons_head i)) ∙ q)) (subst⁻¹ (Every IsLine) (cons_tail i) k);
      }

  pub turn_same : {C : Type 0} (cs : List C) (ds : List Duty) (s : Role) → Fitting (message X) P s ds → turn_now (drop (length cs) (stages_from (message X) P s ds)) ≡ turn_for (first_of (drop (length cs) ds))
  turn_same [] [] s f = refl
  turn_same (c ∷ cs) [] s f = refl
  turn_same [] (d ∷ ds) s f = go (next_role (message X) P d s) f.1
    where
      go : (o : Option Role) → elim o as (λ x. Type 0) [ some s' ↦ Fitting (message X) P s' ds | nothing ↦ ⊥ ]
          → turn_now (elim o as (λ x. List Stage) [ some s' ↦ stage (message X) P d s s' ∷ stages_from (message X) P s' ds | nothing ↦ [] ]) ≡ some (turn_of d)
      go nothing g = elim g [ ]
      go (some s') g = refl
  turn_same (c ∷ cs) (d ∷ ds) s f = go (next_role (message X) P d s) f.1 (λ s'. turn_same cs ds s')
    where
      go : (o : Option Role) → elim o as (λ x. Type 0) [ some s' ↦ Fitting (message X) P s' ds | nothing ↦ ⊥ ]
          → ((s' : Role) → Fitting (message X) P s' ds → turn_now (drop (length cs) (stages_from (message X) P s' ds)) ≡ turn_for (first_of (drop (length cs) ds)))
          → turn_now (drop (length (c ∷ cs)) (elim o as (λ x. List Stage) [ some s' ↦ stage (message X) P d s s' ∷ stages_from (message X) P s' ds | nothing ↦ [] ])) ≡ turn_for (first_of (drop (length cs) ds))
      go nothing g k = elim g [ ]
      go (some s') g k = k s' g
