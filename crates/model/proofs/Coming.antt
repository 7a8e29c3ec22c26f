-- The stage that comes next in a run.
use Rattle.std.proofs.Common.{◌≡◌, ℕ, Bool, true, false, cond, T, ltb, List, [], ◌∷◌, sym, refl, ap, ◌∙◌, subst, inl, inr, arith}
use mathlib.Core.Option.{Option, none as nothing, some}
use mathlib.Core.Path.{subst⁻¹}
use Rattle.model.specs.Lists.{Every}
use Rattle.model.specs.Deduction.{Party}
use Rattle.model.specs.Roles.{Role}
use Rattle.model.specs.Holdings.{nothing_held}
use Rattle.model.specs.Specifications.{Specification, message, Duty, begin as to_start, speak, listen, own}
use Rattle.model.specs.Programs.{next_role, given, takes, Turn, begins, says_line, hears_line, Stage, turn_of, stage, stages_from, stages}
use Rattle.model.specs.Sessions.{View, only, rest_of_stages, to_begin, to_say, to_hear, turn_now}
use Rattle.model.proofs.Machine.{some_inj, no_some}
use Rattle.model.proofs.Fitting.{Fit, Fitting}
use Rattle.model.proofs.Duties.{IsLine}
use Rattle.model.proofs.Living.{Living}
use Rattle.model.proofs.Attends.{Attends}

-- the stage that comes next
pub record Comes (S : Specification) (r : ℕ) (v : View) (a : Attends S r v) (st : Stage) : Type 0 where
  pub duty : Duty
  pub later : List Duty
  pub role' : Role
  pub first : a.left ≡ duty ∷ later
  pub programmed : next_role (message S) (S.party r) duty a.role ≡ some role'
  pub fit : Fit (message S) duty a.role
  pub fits' : Fitting (message S) (S.party r) role' later
  pub is : st ≡ stage (message S) (S.party r) duty a.role role'
  pub whole : v.ahead ≡ st ∷ rest_of_stages v.ahead
  pub then : rest_of_stages v.ahead ≡ stages_from (message S) (S.party r) role' later

stage_same : {a b : Stage} {xs ys : List Stage} → a ∷ xs ≡ b ∷ ys → a ≡ b
stage_same e = cc

no_stage : {a : Stage} {xs : List Stage} → [] ≡ a ∷ xs → ⊥
no_stage e = let z : ◌≡◌ {A = ℕ} 0 1 = cc in omega arith

pub only_first : (p : Turn → Bool) (xs : List Stage) (st : Stage) → only p xs ≡ some st → (rest : List Stage) × (xs ≡ st ∷ rest) × T (p st.turn)
only_first p [] st e = absurd (no_some e)
only_first p (x ∷ xs) st e = go (p x.turn) refl e
  where
    go : (b : Bool) → p x.turn ≡ b → cond b (some x) nothing ≡ some st → (rest : List Stage) × (x ∷ xs ≡ st ∷ rest) × T (p st.turn)
    go true q i = (xs, ap (λ z. z ∷ xs) (some_inj i), subst (λ z. T (p z.turn)) (some_inj i) (subst⁻¹ T q tt))
    go false q i = absurd (no_some i)

pub comes_next : (S : Specification) (r : ℕ) (v : View) (a : Attends S r v) (p : Turn → Bool) (st : Stage) → only p v.ahead ≡ some st
    → Comes S r v a st × T (p st.turn)
comes_next S r v a p st e =
    let x = only_first p v.ahead st e in
    (go a.left refl a.fits a.comes x.0 x.1, x.2)
  where
    P : Party
    P = S.party r

    go : (ds : List Duty) → a.left ≡ ds → Fitting (message S) P a.role ds → v.ahead ≡ stages_from (message S) P a.role ds
        → (rest : List Stage) → v.ahead ≡ st ∷ rest → Comes S r v a st
    go [] l f q rest i = absurd (no_stage (sym q ∙ i))
    go (d ∷ ds) l f q rest i = one (next_role (message S) P d a.role) refl f.1 q
      where
        one : (o : Option Role) → next_role (message S) P d a.role ≡ o → elim o as (λ x. Type 0) [ some s' ↦ Fitting (message S) P s' ds | nothing ↦ ⊥ ]
            → v.ahead ≡ elim o as (λ x. List Stage) [ some s' ↦ stage (message S) P d a.role s' ∷ stages_from (message S) P s' ds | nothing ↦ [] ]
            → Comes S r v a st
        one nothing z g j = elim g [ ]
        one (some s') z g j =
            record {
              duty = d;
              later = ds;
              role' = s';
              first = l;
              programmed = z;
              fit = f.0;
              fits' = g;
              is = stage_same (sym i ∙ j);
              whole = i ∙ ap (λ l. st ∷ l) (sym (ap rest_of_stages i));
              then = ap rest_of_stages j;
            }

-- whose turn it is tells the stage
pub turn_only : (p : Turn → Bool) (xs : List Stage) (t : Turn) → turn_now xs ≡ some t → T (p t) → (st : Stage) × (only p xs ≡ some st) × (st.turn ≡ t)
turn_only p [] t e h = absurd (no_some e)
turn_only p (st ∷ rest) t e h = (st, go (p st.turn) (subst⁻¹ (λ u. T (p u)) (some_inj e) h), some_inj e)
  where
    go : (b : Bool) → T b → cond b (some st) nothing ≡ some st
    go true i = refl
    go false i = elim i [ ]

pub only_turn : (p : Turn → Bool) (xs : List Stage) (st : Stage) → only p xs ≡ some st → turn_now xs ≡ some st.turn
only_turn p xs st e = let x = only_first p xs st e in ap turn_now x.1

is_begin : (t : Turn) → T (to_begin t) → t ≡ begins
is_begin begins h = refl
is_begin (says_line l) h = elim h [ ]
is_begin (hears_line l) h = elim h [ ]

pub only_begin : (xs : List Stage) (st : Stage) → only to_begin xs ≡ some st → turn_now xs ≡ some begins
only_begin xs st e = only_turn to_begin xs st e ∙ ap some (is_begin st.turn (only_first to_begin xs st e).2)

-- a stage that hears a line takes in its message
pub listens : (d : Duty) (l : ℕ) → turn_of d ≡ hears_line l → d ≡ listen l
listens (to_start ts) l e = absurd (differ e)
  where
    differ : begins ≡ hears_line l → ⊥
    differ e = let z : ◌≡◌ {A = ℕ} 0 1 = cc in omega arith
listens (speak k mk) l e = absurd (differ e)
  where
    differ : says_line k ≡ hears_line l → ⊥
    differ e = let z : ◌≡◌ {A = ℕ} 0 1 = cc in omega arith
listens (listen k) l e = ap listen (same_line e)
  where
    same_line : hears_line k ≡ hears_line l → k ≡ l
    same_line e = cc

pub hears_message : (S : Specification) (r : ℕ) (v : View) (a : Attends S r v) (st : Stage) → Comes S r v a st → (l : ℕ) → st.turn ≡ hears_line l → st.takes ≡ message S l ∷ []
hears_message S r v a st k l e =
    ap (λ z. z.takes) k.is ∙ ap (takes (message S) (S.party r)) (listens k.duty l (sym (ap (λ z. z.turn) k.is) ∙ e))

-- a stage that begins is the program's first, and takes in the start's terms
pub record Begins (S : Specification) (r : ℕ) (v : View) (st : Stage) : Type 0 where
  pub new_run : v.ahead ≡ stages S r
  pub empty_handed : v.holdings ≡ nothing_held
  pub given_terms : st.takes ≡ given (S.party r) (S.knows r)

pub begins_first : (S : Specification) (r : ℕ) (v : View) (a : Attends S r v) (st : Stage) → Comes S r v a st → T (to_begin st.turn) → Begins S r v st
begins_first S r v a st k h = go a.living
  where
    P : Party
    P = S.party r

    no_line : (d : Duty) → T (to_begin (turn_of d)) → IsLine d → ⊥
    no_line (to_start ts) i j = j
    no_line (speak l mk) i j = i
    no_line (listen l) i j = i

    first_duty : {d : Duty} {ds : List Duty} {e : Duty} {es : List Duty} → d ∷ ds ≡ e ∷ es → e ≡ d
    first_duty e = cc

    none_first : {d : Duty} {ds : List Duty} → [] ≡ d ∷ ds → ⊥
    none_first e = let z : ◌≡◌ {A = ℕ} 0 1 = cc in omega arith

    start_duty : (b : Bool) → cond b (to_start (S.knows r) ∷ own S r) [] ≡ k.duty ∷ k.later → k.duty ≡ to_start (S.knows r)
    start_duty true e = first_duty e
    start_duty false e = absurd (none_first e)

    go : Living S r a.role a.left v.holdings → Begins S r v st
    go (inl x) =
        record {
          new_run = a.comes ∙ λ i. stages_from (message S) P (x.0 i) (x.2 i);
          empty_handed = x.1;
          given_terms = ap (λ z. z.takes) k.is ∙ ap (takes (message S) P) (start_duty (ltb r S.roles) (sym x.2 ∙ k.first));
        }
    go (inr x) =
        absurd (no_line k.duty (subst (λ z. T (to_begin z.turn)) k.is h) (subst (Every IsLine) k.first x.2).0)

pub not_say : (t : Turn) → T (to_begin t) → T (to_say t) → ⊥
not_say begins a b = b
not_say (says_line l) a b = a
not_say (hears_line l) a b = a

pub not_hear : (t : Turn) → T (to_begin t) → T (to_hear t) → ⊥
not_hear begins a b = b
not_hear (says_line l) a b = a
not_hear (hears_line l) a b = a
