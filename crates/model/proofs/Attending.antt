-- Each run stands, whatever calls were made.
use Rattle.std.proofs.Common.{◌≡◌, ℕ, ◌+◌, ◌-◌, ◌<◌, Bool, true, false, cond, T, eqb, leb, ◌⊎◌, ◌↔◌, List, [], ◌∷◌, map, length, sym, refl, ap, ◌∙◌, subst, inl, inr, arith, eqb→eq, length-append}
use mathlib.Core.Option.{Option, none as nothing, some}
use mathlib.Core.Path.{subst⁻¹}
use Rattle.model.specs.Lists.{Every}
use Rattle.model.specs.Trees.{Tree}
use Rattle.model.specs.Deduction.{Party}
use Rattle.model.specs.Roles.{Role}
use Rattle.model.specs.Lives.{Life, Holdings}
use Rattle.model.specs.Runs.{Machine, ran, Outcome, ended, stopped, attempt}
use Rattle.model.specs.Holdings.{nothing_held, TermOf, ValueOf}
use Rattle.model.specs.Specifications.{Specification, message, Duty, duties, life_on, life}
use Rattle.model.specs.Programs.{nobody_yet, next_role, line, takes, names, Turn, Stage, turn_of, stage, stages_from, all_actions, all_makes}
use Rattle.model.specs.Sessions.{View, State, Event, begin, say, hear, build, other, Answer, taken, declined, only, rest_of_stages, to_begin, to_say, to_hear, begins_next, in_turn, valid, gives, news, first_actions, went_on, put, concluded, machine_for, tried, counts_right, handled, call, after}
use Rattle.model.specs.CountLaw.{CountsKept}
use Rattle.model.specs.SessionLaw.{HoldsLife}
use Rattle.model.proofs.Tests.{and_right}
use Rattle.model.proofs.Lists.{every_join, every_map}
use Rattle.model.proofs.Deduction.{derives_map}
use Rattle.model.proofs.Deducible.{deducible_map}
use Rattle.model.proofs.Machine.{eqb_iff}
use Rattle.model.proofs.Exec.{exec, result_of, attempt_exec}
use Rattle.model.proofs.Feeding.{fed_length}
use Rattle.model.proofs.Holdings.{value_more}
use Rattle.model.proofs.Fitting.{Fitting}
use Rattle.model.proofs.Living.{Living, living_on, living_holds}
use Rattle.model.proofs.Counts.{stages_news}
use Rattle.model.proofs.Counting.{Counts}
use Rattle.model.proofs.CountLaw.{DutyCounted, next_counts}
use Rattle.model.proofs.Doing.{duty_done}
use Rattle.model.proofs.Attends.{Attends, AllAttend}
use Rattle.model.proofs.Coming.{Comes, only_first, comes_next, not_say, not_hear}

-- a stage that was taken
module _ (S : Specification) (c : Tree → ℕ) where
  no_duty : {d : Duty} {ds : List Duty} → [] ≡ d ∷ ds → ⊥
  no_duty e = let z : ◌≡◌ {A = ℕ} 0 1 = cc in omega arith

  -- there is such a role, if it has something left to do
  pub is_role : (r : ℕ) (v : View) (a : Attends S r v) (st : Stage) → Comes S r v a st → r < S.roles
  is_role r v a st k = elim a.there [ inl h ↦ h | inr q ↦ absurd (no_duty (sym q ∙ k.first)) ]

  -- the names still to be made are those of the stage, then the rest
  pub makes_first : (r : ℕ) (v : View) (a : Attends S r v) (st : Stage) (k : Comes S r v a st)
      → length (all_makes v.ahead) ≡ length (names k.duty a.role k.role') + length (all_makes (rest_of_stages v.ahead))
  makes_first r v a st k =
      ap (λ l. length (all_makes l)) k.whole ∙ length-append st.makes (all_makes (rest_of_stages v.ahead))
      ∙ ap (λ z. length z.makes + length (all_makes (rest_of_stages v.ahead))) k.is

  pub numbers_left : (a b l m n : ℕ) → a ≡ b → b ≡ l + n → a ≡ l + m → m ≡ n
  numbers_left a b l m n p q w = omega arith

  abbrev pub attends_stage : (r : ℕ) (v : View) (a : Attends S r v) (st : Stage) (k : Comes S r v a st) (space : ℕ) (vs : List Tree) (ns : List ℕ) → length ns ≡ length (all_makes v.ahead) → (M' : Machine)
      → exec c (line a.role k.role') (record { mem = v.memory; space = space; inputs = vs; numbers = ns }) ≡ ran M'
      → Attends S r (went_on v (stage (message S) (S.party r) k.duty a.role k.role') vs ns M')
  attends_stage r v a st k space vs ns many M' y =
      let P = S.party r in
      let z = duty_done (message S) P c k.duty a.role k.role' a.sheet v.holdings (record { mem = v.memory; space = space; inputs = vs; numbers = ns }) a.stands k.fit k.programmed M' y in
      let counted : (A : ℕ → ℕ) → CountsKept A S → Counts A k.role' × Every (DutyCounted A P (message S)) k.later =
      λ A kept.
      let x = a.counts A kept in
      let w = subst (Every (DutyCounted A P (message S))) k.first x.1 in
      (next_counts A P (message S) k.duty a.role k.role' w.0 k.programmed x.0, w.1)
      in
      record {
        role = k.role';
        left = k.later;
        comes = k.then;
        fits = k.fits';
        sheet = z.0;
        stands = z.1;
        counts = counted;
        says = λ A kept. every_join _ v.said _
            (every_map _ _ (λ p d. deducible_map A P (ValueOf v.holdings) _ (value_more v.holdings (takes (message S) P k.duty) vs (names k.duty a.role k.role') ns) d) v.said (a.says A kept))
            (z.2 A (counted A kept).0.acts);
        says_derive = every_join _ v.said _
            (every_map _ _ (λ p d. derives_map P (ValueOf v.holdings) _ (value_more v.holdings (takes (message S) P k.duty) vs (names k.duty a.role k.role') ns) d) v.said a.says_derive)
            z.5;
        knows = refl;
        there = inl (is_role r v a st k);
        living = living_on S r a.role k.role' vs ns M'.inputs M'.numbers v.holdings k.duty k.later
            (subst (λ l. Living S r a.role l v.holdings) k.first a.living) k.fit k.programmed z.3 z.4;
        numbered = inr (numbers_left (length ns) (length (all_makes v.ahead)) _ _ _ many (makes_first r v a st k) (fed_length (λ a k. Unit {0}) (names k.duty a.role k.role') ns M'.numbers z.4));
      }

  pub attends_on : (r : ℕ) (v : View) (a : Attends S r v) (st : Stage) → Comes S r v a st → (space : ℕ) (vs : List Tree) (ns : List ℕ) → length ns ≡ length (all_makes v.ahead) → (M' : Machine)
      → exec c st.actions (record { mem = v.memory; space = space; inputs = vs; numbers = ns }) ≡ ran M' → Attends S r (went_on v st vs ns M')
  attends_on r v a st k space vs ns many M' =
      subst⁻¹ (λ z. exec c z.actions (record { mem = v.memory; space = space; inputs = vs; numbers = ns }) ≡ ran M' → Attends S r (went_on v z vs ns M')) k.is
      (attends_stage r v a st k space vs ns many M')

  put_attends : (s : State) (n : ℕ) (r : ℕ) (v : View) → AllAttend S s → Attends S r v → AllAttend S (record { space = n; views = put s.views r v })
  put_attends s n r v all a q = go (eqb r q) (eqb_iff r q)
    where
      go : (b : Bool) → (T b ↔ (r ≡ q)) → Attends S q (cond b v (s.views q))
      go true e = subst (λ z. Attends S z v) (e.0 tt) a
      go false e = all q

  tried_attends : (s : State) → AllAttend S s → (r : ℕ) (st : Stage) (p : Turn → Bool) → only p (s.views r).ahead ≡ some st → (vs : List Tree) (ns : List ℕ)
      → length ns ≡ length (all_makes (s.views r).ahead) → AllAttend S (tried c r st vs ns s).0
  tried_attends s all r st p e vs ns many =
      go (attempt c st.actions (s.views r).done (machine_for r vs ns s)) (attempt_exec c st.actions (s.views r).done (machine_for r vs ns s))
    where
      go : (x : Outcome) → result_of x ≡ exec c st.actions (machine_for r vs ns s) → AllAttend S (concluded r st vs ns s x).0
      go (ended M) q =
          put_attends s M.space r (went_on (s.views r) st vs ns M) all
          (attends_on r (s.views r) (all r) st (comes_next S r (s.views r) (all r) p st e).0 s.space vs ns many M (sym q))
      go (stopped f k n) q = all

  -- a run that has begun has its numbers, and a begin with right counts brings them
  pub has_numbers : (r : ℕ) (v : View) (a : Attends S r v) (p : Turn → Bool) → ((t : Turn) → T (to_begin t) → T (p t) → ⊥) → (st : Stage) → only p v.ahead ≡ some st
      → length v.numbers ≡ length (all_makes v.ahead)
  has_numbers r v a p no_both st e =
      let x = only_first p v.ahead st e in
      elim a.numbered [ inl h ↦ absurd (no_both st.turn (subst (λ l. T (begins_next l)) x.1 h) x.2) | inr h ↦ h ]

  pub brings_numbers : (r : ℕ) (v : View) (a : Attends S r v) (hs : List (Option Tree)) (ns : List ℕ) → T (counts_right v.ahead hs ns)
      → length ns ≡ length (all_makes v.ahead)
  brings_numbers r v a hs ns t =
      eqb→eq (length ns) (news (all_actions v.ahead)) (and_right (eqb (length hs) (gives (first_actions v.ahead))) (eqb (length ns) (news (all_actions v.ahead))) t)
      ∙ subst⁻¹ (λ l. news (all_actions l) ≡ length (all_makes l)) a.comes (stages_news (S.party r) (message S) a.left a.role a.sheet a.stands.good a.fits)

  -- whatever is called
  pub call_attends : (s : State) (e : Event) → AllAttend S s → AllAttend S (call c s e).0
  call_attends s (begin r hs ns) all = go (in_turn s (begin r hs ns)) refl
    where
      one : (st : Stage) → in_turn s (begin r hs ns) ≡ some st → (b : Bool) → (T b → T (counts_right (s.views r).ahead hs ns))
          → AllAttend S (cond b (tried c r st (valid hs) ns s) (s, declined 13 (s.views r).done)).0
      one st q true t = tried_attends s all r st to_begin q (valid hs) ns (brings_numbers r (s.views r) (all r) hs ns (t tt))
      one st q false t = all

      go : (o : Option Stage) → in_turn s (begin r hs ns) ≡ o → AllAttend S (handled c s (begin r hs ns) o).0
      go nothing q = all
      go (some st) q = one st q (counts_right (s.views r).ahead hs ns) (λ h. h)
  call_attends s (say r) all = go (in_turn s (say r)) refl
    where
      go : (o : Option Stage) → in_turn s (say r) ≡ o → AllAttend S (handled c s (say r) o).0
      go nothing q = all
      go (some st) q = tried_attends s all r st to_say q [] (s.views r).numbers (has_numbers r (s.views r) (all r) to_say not_say st q)
  call_attends s (hear r h) all = go (in_turn s (hear r h)) refl
    where
      go : (o : Option Stage) → in_turn s (hear r h) ≡ o → AllAttend S (handled c s (hear r h) o).0
      go nothing q = all
      go (some st) q = tried_attends s all r st to_hear q (valid (h ∷ [])) (s.views r).numbers (has_numbers r (s.views r) (all r) to_hear not_hear st q)
  call_attends s (build v) all = go (leb (c v) s.space)
    where
      go : (b : Bool) → AllAttend S (cond {A = State × Answer} b (record { space = s.space - c v; views = s.views }, taken nothing) (s, declined 15 0)).0
      go true = all
      go false = all
  call_attends s other all = all

  pub after_attends : (es : List Event) (s : State) → AllAttend S s → AllAttend S (after c s es)
  after_attends [] s all = all
  after_attends (e ∷ es) s all = after_attends es (call c s e).0 (call_attends s e all)

-- the turns still to come are those of the duties left
pub turns_left : (S : Specification) (P : Party) (ds : List Duty) (s : Role) → Fitting (message S) P s ds
    → map turn_of ds ≡ map (λ st. st.turn) (stages_from (message S) P s ds)
turns_left S P [] s f = refl
turns_left S P (d ∷ ds) s f = go (next_role (message S) P d s) f.1 (λ s'. turns_left S P ds s')
  where
    go : (o : Option Role) → elim o as (λ x. Type 0) [ some s' ↦ Fitting (message S) P s' ds | nothing ↦ ⊥ ]
        → ((s' : Role) → Fitting (message S) P s' ds → map turn_of ds ≡ map (λ st. st.turn) (stages_from (message S) P s' ds))
        → map turn_of (d ∷ ds) ≡ map (λ st. st.turn) (elim o as (λ x. List Stage) [ some s' ↦ stage (message S) P d s s' ∷ stages_from (message S) P s' ds | nothing ↦ [] ])
    go nothing x k = elim x [ ]
    go (some s') x k = ap (λ l. turn_of d ∷ l) (k s' x)

pub attends_life : (S : Specification) (r : ℕ) (v : View) → Attends S r v → HoldsLife S r v
attends_life S r v a = go (living_holds S r a.role a.left v.holdings a.living)
  where
    go : ((a.role ≡ nobody_yet) × (v.holdings ≡ nothing_held) × (a.left ≡ duties S r))
        ⊎ ((l : Life) × (life_on S l a.left ≡ life S r) × ((u : Tree) → TermOf v.holdings u ↔ Holdings l u)) → HoldsLife S r v
    go (inl x) = inl (a.comes ∙ (λ i. stages_from (message S) (S.party r) (x.0 i) (x.2 i)), x.1)
    go (inr x) =
        inr (x.0, a.left, turns_left S (S.party r) a.left a.role a.fits ∙ ap (map (λ st. st.turn)) (sym a.comes), x.1, x.2)
