-- What a call is answered, in the words of the law.
use Rattle.std.proofs.Common.{◌≡◌, ℕ, ◌+◌, ◌-◌, ◌<◌, Bool, true, false, cond, T, eqb, leb, ◌⊎◌, ◌↔◌, List, [], ◌∷◌, ◌++◌, map, length, sym, refl, ap, ◌∙◌, subst, inl, inr, lit≤, eqb→eq}
use mathlib.Core.Option.{Option, none as nothing, some}
use mathlib.Core.Path.{subst⁻¹}
use Rattle.model.specs.Lists.{Every}
use Rattle.model.specs.Trees.{Tree}
use Rattle.model.specs.Roles.{Act, hear as hear_it}
use Rattle.model.specs.Runs.{Fault, mismatch, full, invalid, broken, Machine, refused, Outcome, ended, stopped, attempt}
use Rattle.model.specs.Holdings.{add, Readable}
use Rattle.model.specs.Specifications.{Specification, message}
use Rattle.model.specs.Programs.{given, line, takes, begins, says_line, hears_line, Stage, turn_of, stage, all_actions, all_makes}
use Rattle.model.specs.Sessions.{State, Event, begin, say, hear, build, other, Answer, taken, declined, number_of, rest_of_stages, to_begin, to_say, to_hear, in_turn, valid, gives, news, first_actions, concluded, machine_for, tried, counts_right, handled, call}
use Rattle.model.specs.SessionLaw.{Taken, Refused, Numbered, answered, Decided}
use Rattle.model.proofs.Tests.{and_left}
use Rattle.model.proofs.Exec.{exec, result_of, attempt_exec}
use Rattle.model.proofs.Unbroken.{Whole}
use Rattle.model.proofs.Counts.{Gives}
use Rattle.model.proofs.Doing.{duty_whole}
use Rattle.model.proofs.Attends.{Attends, AllAttend}
use Rattle.model.proofs.Coming.{Comes, comes_next, turn_only, hears_message, begins_first, not_say, not_hear}
use Rattle.model.proofs.Attending.{makes_first, has_numbers, brings_numbers}
use Rattle.model.proofs.Tried.{TakenOr1415, valid_each, valid_until, longer, length_each, fed_counted, begins_in, hears_in, hear_fed, say_fed, begin_gives, gives_invalid, begin_acts, hear_acts, tried_taken, tried_answer}

module _ (S : Specification) (c : Tree → ℕ) (s : State) (all : AllAttend S s) where
  heard_answered : (r : ℕ) (v : Tree) (st : Stage) → in_turn s (hear r (some v)) ≡ some st → TakenOr1415 (call c s (hear r (some v))).1
  heard_answered r v st e =
      let k = comes_next S r (s.views r) (all r) to_hear st e in
      let h : T (to_hear (turn_of k.0.duty)) = subst (λ z. T (to_hear z.turn)) k.0.is k.1 in
      subst⁻¹ (λ o. TakenOr1415 (handled c s (hear r (some v)) o).1) e
      (tried_answer S c s all r st k.0 (v ∷ []) (s.views r).numbers (hear_fed (message S) (S.party r) k.0.duty v h)
      (has_numbers S c r (s.views r) (all r) to_hear not_hear st e)).0

  said_answered : (r : ℕ) (st : Stage) → in_turn s (say r) ≡ some st → Taken (call c s (say r)).1 ⊎ Refused 15 (call c s (say r)).1
  said_answered r st e =
      let k = comes_next S r (s.views r) (all r) to_say st e in
      let h : T (to_say (turn_of k.0.duty)) = subst (λ z. T (to_say z.turn)) k.0.is k.1 in
      subst⁻¹ (λ o. Taken (handled c s (say r) o).1 ⊎ Refused 15 (handled c s (say r) o).1) e
      ((tried_answer S c s all r st k.0 [] (s.views r).numbers (say_fed (message S) (S.party r) k.0.duty h)
      (has_numbers S c r (s.views r) (all r) to_say not_say st e)).1 k.1)

  heard_if_readable : (r : ℕ) (v : Tree) (st : Stage) → in_turn s (hear r (some v)) ≡ some st → ¬ Refused 15 (call c s (hear r (some v))).1
      → Taken (call c s (hear r (some v))).1 ↔ Readable (S.party r) (add (s.views r).holdings st.takes (v ∷ []) [] [])
  heard_if_readable r v st e =
      let k = comes_next S r (s.views r) (all r) to_hear st e in
      let h : T (to_hear (turn_of k.0.duty)) = subst (λ z. T (to_hear z.turn)) k.0.is k.1 in
      subst⁻¹ (λ o. ¬ Refused 15 (handled c s (hear r (some v)) o).1 → Taken (handled c s (hear r (some v)) o).1 ↔ Readable (S.party r) (add (s.views r).holdings st.takes (v ∷ []) [] [])) e
      (tried_taken S c s all r st k.0 (v ∷ []) (s.views r).numbers (hears_in (message S) (S.party r) c k.0.duty h) (hear_fed (message S) (S.party r) k.0.duty v h))

  module _ (r : ℕ) (vs : List Tree) (ns : List ℕ) (st : Stage) (e : in_turn s (begin r (map some vs) ns) ≡ some st)
      (t : T (counts_right (s.views r).ahead (map some vs) ns)) where
    first_stage : Comes S r (s.views r) (all r) st × T (to_begin st.turn)
    first_stage = comes_next S r (s.views r) (all r) to_begin st e

    to_begin_it : T (to_begin (turn_of first_stage.0.duty))
    to_begin_it = subst (λ z. T (to_begin z.turn)) first_stage.0.is first_stage.1

    right : length vs ≡ length (takes (message S) (S.party r) first_stage.0.duty)
    right =
        let k = first_stage.0 in
        let p = eqb→eq (length (map some vs)) (gives (first_actions (s.views r).ahead))
        (and_left (eqb (length (map some vs)) (gives (first_actions (s.views r).ahead))) (eqb (length ns) (news (all_actions (s.views r).ahead))) t) in
        let q = length_each {B = Option Tree} some vs in
        let g = ap (λ l. gives (first_actions l)) k.whole ∙ ap (λ z. gives z.actions) k.is ∙ begin_gives (message S) (S.party r) k.duty (all r).role k.role' to_begin_it k.fit k.programmed in
        sym q ∙ p ∙ g

    -- with right counts the stage is tried
    is_tried : tried c r st vs ns s ≡ call c s (begin r (map some vs) ns)
    is_tried =
        ap (λ ws. tried c r st ws ns s) (sym (valid_each vs)) ∙ counted (counts_right (s.views r).ahead (map some vs) ns) t
        ∙ ap (handled c s (begin r (map some vs) ns)) (sym e)
      where
        counted : (b : Bool) → T b → tried c r st (valid (map some vs)) ns s ≡ cond b (tried c r st (valid (map some vs)) ns s) (s, declined 13 (s.views r).done)
        counted true i = refl
        counted false i = elim i [ ]

    begun_if_readable : ¬ Refused 15 (call c s (begin r (map some vs) ns)).1
        → Taken (call c s (begin r (map some vs) ns)).1 ↔ Readable (S.party r) (add (s.views r).holdings st.takes vs [] [])
    begun_if_readable =
        subst (λ x. ¬ Refused 15 x.1 → Taken x.1 ↔ Readable (S.party r) (add (s.views r).holdings st.takes vs [] [])) is_tried
        (tried_taken S c s all r st first_stage.0 vs ns (begins_in (message S) (S.party r) c first_stage.0.duty to_begin_it) (fed_counted _ vs right))

    begun_answered : TakenOr1415 (call c s (begin r (map some vs) ns)).1
    begun_answered =
        subst (λ x. TakenOr1415 x.1) is_tried
        (tried_answer S c s all r st first_stage.0 vs ns (fed_counted _ vs right) (brings_numbers S c r (s.views r) (all r) (map some vs) ns t)).0

  -- every refusal has its number
  fault_numbered : (f : Fault) (j : ℕ) → Whole (refused f) → Numbered (declined (number_of f) j)
  fault_numbered mismatch j w = (lit≤ tt, lit≤ tt)
  fault_numbered full j w = (lit≤ tt, lit≤ tt)
  fault_numbered invalid j w = (lit≤ tt, lit≤ tt)
  fault_numbered broken j w = elim w [ ]

  tried_numbered : (r : ℕ) (st : Stage) → Comes S r (s.views r) (all r) st → (vs : List Tree) (ns : List ℕ) → length ns ≡ length (all_makes (s.views r).ahead)
      → Numbered (tried c r st vs ns s).1
  tried_numbered r st k vs ns many =
      subst⁻¹ (λ z. Numbered (tried c r z vs ns s).1) k.is
      (go (attempt c (line a.role k.role') (s.views r).done M) (attempt_exec c (line a.role k.role') (s.views r).done M))
    where
      a : Attends S r (s.views r)
      a = all r

      M : Machine
      M = machine_for r vs ns s

      go : (x : Outcome) → result_of x ≡ exec c (line a.role k.role') M
          → Numbered (concluded r (stage (message S) (S.party r) k.duty a.role k.role') vs ns s x).1
      go (ended M') q = tt
      go (stopped f j m) q =
          fault_numbered f j (subst⁻¹ Whole q
          (duty_whole (message S) (S.party r) c k.duty a.role k.role' a.sheet (s.views r).holdings M a.stands k.fit k.programmed
          (length (all_makes (rest_of_stages (s.views r).ahead))) (many ∙ makes_first S c r (s.views r) a st k)))

  all_numbered : (e : Event) → Numbered (answered c s e)
  all_numbered (begin r hs ns) = go (in_turn s (begin r hs ns)) refl
    where
      one : (st : Stage) → in_turn s (begin r hs ns) ≡ some st → (b : Bool) → (T b → T (counts_right (s.views r).ahead hs ns))
          → Numbered (cond b (tried c r st (valid hs) ns s) (s, declined 13 (s.views r).done)).1
      one st q true t =
          tried_numbered r st (comes_next S r (s.views r) (all r) to_begin st q).0 (valid hs) ns (brings_numbers S c r (s.views r) (all r) hs ns (t tt))
      one st q false t = (lit≤ tt, lit≤ tt)

      go : (o : Option Stage) → in_turn s (begin r hs ns) ≡ o → Numbered (handled c s (begin r hs ns) o).1
      go nothing q = (lit≤ tt, lit≤ tt)
      go (some st) q = one st q (counts_right (s.views r).ahead hs ns) (λ i. i)
  all_numbered (say r) = go (in_turn s (say r)) refl
    where
      go : (o : Option Stage) → in_turn s (say r) ≡ o → Numbered (handled c s (say r) o).1
      go nothing q = (lit≤ tt, lit≤ tt)
      go (some st) q =
          tried_numbered r st (comes_next S r (s.views r) (all r) to_say st q).0 [] (s.views r).numbers (has_numbers S c r (s.views r) (all r) to_say not_say st q)
  all_numbered (hear r h) = go (in_turn s (hear r h)) refl
    where
      go : (o : Option Stage) → in_turn s (hear r h) ≡ o → Numbered (handled c s (hear r h) o).1
      go nothing q = (lit≤ tt, lit≤ tt)
      go (some st) q =
          tried_numbered r st (comes_next S r (s.views r) (all r) to_hear st q).0 (valid (h ∷ [])) (s.views r).numbers
          (has_numbers S c r (s.views r) (all r) to_hear not_hear st q)
  all_numbered (build v) = go (leb (c v) s.space)
    where
      go : (b : Bool) → Numbered (cond {A = State × Answer} b (record { space = s.space - c v; views = s.views }, taken nothing) (s, declined 15 0)).1
      go true = tt
      go false = (lit≤ tt, lit≤ tt)
  all_numbered other = tt

  -- an invalid handle
  heard_invalid : (r : ℕ) (st : Stage) → in_turn s (hear r nothing) ≡ some st → answered c s (hear r nothing) ≡ declined 12 (s.views r).done
  heard_invalid r st e =
      let a = all r in
      let k = comes_next S r (s.views r) a to_hear st e in
      let x = hear_acts (message S) (S.party r) k.0.duty a.role k.0.role' a.sheet a.stands.good
      (subst (λ z. T (to_hear z.turn)) k.0.is k.1) k.0.fit k.0.programmed in
      let q : st.actions ≡ hear_it x.0 ∷ x.1 = ap (λ z. z.actions) k.0.is ∙ x.2 in
      ap (λ o. (handled c s (hear r nothing) o).1) e
      ∙ ap (λ xs. (concluded r st [] (s.views r).numbers s (attempt c xs (s.views r).done (machine_for r [] (s.views r).numbers s))).1) q

  begun_invalid : (r : ℕ) (hs : List (Option Tree)) (ns : List ℕ) (st : Stage) → in_turn s (begin r hs ns) ≡ some st → T (counts_right (s.views r).ahead hs ns)
      → length (valid hs) < length hs → answered c s (begin r hs ns) ≡ declined 12 ((s.views r).done + length (valid hs))
  begun_invalid r hs ns st e t h =
      ap (λ o. (handled c s (begin r hs ns) o).1) e ∙ counted (counts_right (s.views r).ahead hs ns) t
      ∙ ap (λ o. (concluded r st (valid hs) ns s o).1) (ap (λ xs. attempt c xs (s.views r).done (machine_for r (valid hs) ns s)) q
      ∙ gives_invalid c x.0 x.1 x.3 (s.views r).done (s.views r).memory s.space (valid hs) ns (subst (λ n. length (valid hs) < n) many h))
    where
      a : Attends S r (s.views r)
      a = all r

      k : Comes S r (s.views r) a st × T (to_begin st.turn)
      k = comes_next S r (s.views r) a to_begin st e

      x : (xs : List Act) × (ys : List Act) × (line a.role k.0.role' ≡ xs ++ ys) × Every Gives xs × (gives (line a.role k.0.role') ≡ length xs)
      x = begin_acts (message S) (S.party r) k.0.duty a.role k.0.role' (subst (λ z. T (to_begin z.turn)) k.0.is k.1) k.0.fit k.0.programmed

      q : st.actions ≡ x.0 ++ x.1
      q = ap (λ z. z.actions) k.0.is ∙ x.2

      many : length hs ≡ length x.0
      many =
          eqb→eq (length hs) (gives (first_actions (s.views r).ahead))
          (and_left (eqb (length hs) (gives (first_actions (s.views r).ahead))) (eqb (length ns) (news (all_actions (s.views r).ahead))) t)
          ∙ ap (λ l. gives (first_actions l)) k.0.whole ∙ ap (λ z. gives z.actions) k.0.is ∙ x.4

      counted : (b : Bool) → T b → (cond b (tried c r st (valid hs) ns s) (s, declined 13 (s.views r).done)).1 ≡ (tried c r st (valid hs) ns s).1
      counted true i = refl
      counted false i = elim i [ ]

  unless : (a : Answer) → TakenOr1415 a → ¬ Taken a → Refused 14 a ⊎ Refused 15 a
  unless a (inl t) n = absurd (n t)
  unless a (inr x) n = x

  unless_full : (a : Answer) → Taken a ⊎ Refused 15 a → ¬ Taken a → Refused 15 a
  unless_full a (inl t) n = absurd (n t)
  unless_full a (inr x) n = x

  -- in the words of a specification
  pub decides : Decided S c s
  decides =
      record {
        hear_taken = λ r l v e n.
            let x = turn_only to_hear (s.views r).ahead (hears_line l) e tt in
            let k = (comes_next S r (s.views r) (all r) to_hear x.0 x.1).0 in
            subst (λ ts. Taken (answered c s (hear r (some v))) ↔ Readable (S.party r) (add (s.views r).holdings ts (v ∷ []) [] []))
            (hears_message S r (s.views r) (all r) x.0 k l x.2) (heard_if_readable r v x.0 x.1 n);
        hear_refused = λ r l v e.
            let x = turn_only to_hear (s.views r).ahead (hears_line l) e tt in unless (answered c s (hear r (some v))) (heard_answered r v x.0 x.1);
        begin_taken = λ r vs ns e t n.
            let x = turn_only to_begin (s.views r).ahead begins e tt in
            let k = comes_next S r (s.views r) (all r) to_begin x.0 x.1 in
            let b = begins_first S r (s.views r) (all r) x.0 k.0 k.1 in
            subst (λ h. Taken (answered c s (begin r (map some vs) ns)) ↔ Readable (S.party r) (add h (given (S.party r) (S.knows r)) vs [] [])) b.empty_handed
            (subst (λ ts. Taken (answered c s (begin r (map some vs) ns)) ↔ Readable (S.party r) (add (s.views r).holdings ts vs [] [])) b.given_terms
            (begun_if_readable r vs ns x.0 x.1 t n));
        begin_refused = λ r vs ns e t.
            let x = turn_only to_begin (s.views r).ahead begins e tt in
            unless (answered c s (begin r (map some vs) ns)) (begun_answered r vs ns x.0 x.1 t);
        hear_invalid = λ r l e. let x = turn_only to_hear (s.views r).ahead (hears_line l) e tt in heard_invalid r x.0 x.1;
        begin_invalid = λ r vs hs ns e t.
            let x = turn_only to_begin (s.views r).ahead begins e tt in
            let q = ap length (valid_until vs hs) in
            begun_invalid r (map some vs ++ (nothing ∷ hs)) ns x.0 x.1 t (subst⁻¹ (λ n. n < length (map some vs ++ (nothing ∷ hs))) q (longer vs hs))
            ∙ ap (λ n. declined 12 ((s.views r).done + n)) q;
        say_refused = λ r l e.
            let x = turn_only to_say (s.views r).ahead (says_line l) e tt in unless_full (answered c s (say r)) (said_answered r x.0 x.1);
        numbered = all_numbered;
      }
