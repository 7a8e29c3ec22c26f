-- One choice for the names: each call in turn is taken, and every run keeps to the choice.
use Rattle.std.proofs.Common.{◌≡◌, ℕ, ◌-◌, ◌≤◌, Bool, true, false, cond, T, eqb, leb, List, [], ◌∷◌, map, length, sym, refl, ap, ◌∙◌, subst, arith, leb→le}
use mathlib.Core.Option.{Option, none as nothing, some}
use mathlib.Core.Path.{subst⁻¹}
use Rattle.model.specs.Lists.{Every, SomeOf}
use Rattle.model.specs.Trees.{Tree, leaf}
use Rattle.model.specs.Deduction.{Party}
use Rattle.model.specs.Specifications.{Specification, message, Duty, begin as to_start, speak, listen}
use Rattle.model.specs.Programs.{takes, begins, says_line, hears_line, Stage, turn_of, stages_from, all_actions, all_makes}
use Rattle.model.specs.Sessions.{State, Event, begin, say, hear, build, other, Answer, taken, declined, to_begin, to_say, to_hear, in_turn, valid, gives, news, first_actions, tried, counts_right, handled, call, after}
use Rattle.model.specs.SessionLaw.{Taken, Along, StartsFrom, AsSaid, Unbuilt, NotRefused, AllRead}
use Rattle.model.proofs.Tests.{and_both}
use Rattle.model.proofs.Lists.{every_map, every_some}
use Rattle.model.proofs.Machine.{no_some, eqb_iff}
use Rattle.model.proofs.Feeding.{Fed}
use Rattle.model.proofs.Chosen.{reading_total}
use Rattle.model.proofs.Counts.{stages_news}
use Rattle.model.proofs.Attends.{Attends}
use Rattle.model.proofs.Coming.{Comes, comes_next, turn_only, only_turn, only_begin, Begins, begins_first, not_say, not_hear}
use Rattle.model.proofs.Attending.{has_numbers, brings_numbers}
use Rattle.model.proofs.Tried.{length_each, begin_gives}
use Rattle.model.proofs.Following.{R, Names, fed_each, valid_readings, fed_numbers, ready_of, Fine, fine_tried, has_begun}

module _ (S : Specification) (c : Tree → ℕ) (ρ : ℕ → Tree) where
  say_fed : (P : Party) (d : Duty) → T (to_say (turn_of d)) → Fed (λ t v. (R S c ρ) t ≡ v) (takes (message S) P d) [] []
  say_fed P (to_start ts) h = elim h [ ]
  say_fed P (speak l mk) h = refl
  say_fed P (listen l) h = elim h [ ]

  which_line : (d : Duty) → T (to_hear (turn_of d)) → (l : ℕ) × (d ≡ listen l)
  which_line (to_start ts) h = elim h [ ]
  which_line (speak l mk) h = elim h [ ]
  which_line (listen l) h = (l, refl)

  abbrev StageTaken : State → Event → Type 0
  StageTaken s e = (st : Stage) → in_turn s e ≡ some st → Taken (call c s e).1

  pub not_refused : (s : State) (e : Event) → StageTaken s e → NotRefused c s e
  not_refused s (begin r hs ns) f = λ e. let x = turn_only to_begin (s.views r).ahead begins e tt in f x.0 x.1
  not_refused s (say r) f = λ l e. let x = turn_only to_say (s.views r).ahead (says_line l) e tt in f x.0 x.1
  not_refused s (hear r h) f = λ l e. let x = turn_only to_hear (s.views r).ahead (hears_line l) e tt in f x.0 x.1
  not_refused s (build v) f = tt
  not_refused s other f = tt

  abbrev WentWell : State → Event → Type 0
  WentWell s e = NotRefused c s e × Fine S c ρ (call c s e).0

  -- what holds for the stage in turn, and otherwise nothing changes
  by_turn : (s : State) (e : Event) → ((handled c s e nothing).0 ≡ s) → Fine S c ρ s
      → ((st : Stage) → in_turn s e ≡ some st → Taken (handled c s e (some st)).1 × Fine S c ρ (handled c s e (some st)).0) → WentWell s e
  by_turn s e same f k = let x = go (in_turn s e) refl in (not_refused s e x.0, x.1)
    where
      go : (o : Option Stage) → in_turn s e ≡ o → ((st : Stage) → o ≡ some st → Taken (handled c s e o).1) × Fine S c ρ (handled c s e o).0
      go nothing q = ((λ st i. absurd (no_some i)), subst⁻¹ (Fine S c ρ) same f)
      go (some st) q = let x = k st q in ((λ st' i. x.0), x.1)

  fine_begin : (s : State) → Fine S c ρ s → (r : ℕ) (hs : List (Option Tree)) (ns : List ℕ) → StartsFrom S ρ s (begin r hs ns) → WentWell s (begin r hs ns)
  fine_begin s f r hs ns from = by_turn s (begin r hs ns) refl f one
    where
      one : (st : Stage) → in_turn s (begin r hs ns) ≡ some st
          → Taken (handled c s (begin r hs ns) (some st)).1 × Fine S c ρ (handled c s (begin r hs ns) (some st)).0
      one st e = counted (counts_right (s.views r).ahead hs ns) right
        where
          P : Party
          P = S.party r

          a : Attends S r (s.views r)
          a = (f.follows r).attends

          k : Comes S r (s.views r) a st × T (to_begin st.turn)
          k = comes_next S r (s.views r) a to_begin st e

          d : Duty
          d = k.0.duty

          h : T (to_begin (turn_of d))
          h = subst (λ z. T (to_begin z.turn)) k.0.is k.1

          b : Begins S r (s.views r) st
          b = begins_first S r (s.views r) a st k.0 k.1

          from_it : (hs ≡ map (λ t. some (R S c ρ t)) (takes (message S) P d)) × (map leaf ns ≡ map ρ (all_makes (s.views r).ahead))
          from_it =
              let x = from (only_begin (s.views r).ahead st e) in (
                x.0 ∙ ap (map (λ t. some (R S c ρ t))) (sym b.given_terms ∙ ap (λ z. z.takes) k.0.is),
                x.1 ∙ ap (λ l. map ρ (all_makes l)) (sym b.new_run),
              )

          numbers : Fed (Names S c ρ) (all_makes (stages_from (message S) P a.role a.left)) ns []
          numbers = subst (λ l. Fed (Names S c ρ) (all_makes l) ns []) a.comes (fed_numbers S c ρ (all_makes (s.views r).ahead) ns from_it.1)

          many_values : length hs ≡ gives (first_actions (s.views r).ahead)
          many_values =
              ap length from_it.0 ∙ length_each {B = Option Tree} (λ t. some (R S c ρ t)) (takes (message S) P d)
              ∙ sym (ap (λ l. gives (first_actions l)) k.0.whole ∙ ap (λ z. gives z.actions) k.0.is ∙ begin_gives (message S) P d a.role k.0.role' h k.0.fit k.0.programmed)

          many_numbers : length ns ≡ news (all_actions (s.views r).ahead)
          many_numbers =
              sym (length_each {B = Tree} leaf ns) ∙ ap length from_it.1 ∙ length_each {B = Tree} ρ (all_makes (s.views r).ahead)
              ∙ sym (subst⁻¹ (λ l. news (all_actions l) ≡ length (all_makes l)) a.comes (stages_news P (message S) a.left a.role a.sheet a.stands.good a.fits))

          right : T (counts_right (s.views r).ahead hs ns)
          right =
              and_both (eqb (length hs) (gives (first_actions (s.views r).ahead))) (eqb (length ns) (news (all_actions (s.views r).ahead)))
              ((eqb_iff (length hs) (gives (first_actions (s.views r).ahead))).1 many_values) ((eqb_iff (length ns) (news (all_actions (s.views r).ahead))).1 many_numbers)

          brought : Fed (λ t v. (R S c ρ) t ≡ v) (takes (message S) P d) (valid hs) []
          brought =
              subst⁻¹ (λ l. Fed (λ t v. (R S c ρ) t ≡ v) (takes (message S) P d) l []) (ap valid from_it.0 ∙ (valid_readings S c ρ) (takes (message S) P d))
              (fed_each S c ρ (takes (message S) P d))

          counted : (b : Bool) → T b
              → (let x = cond b (tried c r st (valid hs) ns s) (s, declined 13 (s.views r).done) in Taken x.1 × Fine S c ρ x.0)
          counted true i = fine_tried S c ρ s f r st k.0 (valid hs) ns brought (ready_of S c ρ P a.left a.role ns a.fits numbers) (brings_numbers S c r (s.views r) a hs ns right)
          counted false i = elim i [ ]

  fine_say : (s : State) → Fine S c ρ s → (r : ℕ) → WentWell s (say r)
  fine_say s f r = by_turn s (say r) refl f one
    where
      one : (st : Stage) → in_turn s (say r) ≡ some st → Taken (handled c s (say r) (some st)).1 × Fine S c ρ (handled c s (say r) (some st)).0
      one st e =
          let g = f.follows r in
          let k = comes_next S r (s.views r) g.attends to_say st e in
          let h : T (to_say (turn_of k.0.duty)) = subst (λ z. T (to_say z.turn)) k.0.is k.1 in
          fine_tried S c ρ s f r st k.0 [] (s.views r).numbers (say_fed (S.party r) k.0.duty h)
          (has_begun S c ρ r (s.views r) (f.owed r) g to_say not_say st e) (has_numbers S c r (s.views r) g.attends to_say not_say st e)

  fine_hear : (s : State) → Fine S c ρ s → (r : ℕ) (h : Option Tree) → AsSaid s (hear r h) → WentWell s (hear r h)
  fine_hear s f r h arrives = by_turn s (hear r h) refl f one
    where
      one : (st : Stage) → in_turn s (hear r h) ≡ some st → Taken (handled c s (hear r h) (some st)).1 × Fine S c ρ (handled c s (hear r h) (some st)).0
      one st e = fine_tried S c ρ s f r st k.0 (valid (h ∷ [])) (s.views r).numbers brought (has_begun S c ρ r (s.views r) (f.owed r) (f.follows r) to_hear not_hear st e) (has_numbers S c r (s.views r) (f.follows r).attends to_hear not_hear st e)
        where
          P : Party
          P = S.party r

          k : Comes S r (s.views r) (f.follows r).attends st × T (to_hear st.turn)
          k = comes_next S r (s.views r) (f.follows r).attends to_hear st e

          l : (l : ℕ) × (k.0.duty ≡ listen l)
          l = which_line k.0.duty (subst (λ z. T (to_hear z.turn)) k.0.is k.1)

          x : (v : Tree) × (h ≡ some v) × (q : ℕ) × SomeOf (λ p. (p.0 ≡ l.0) × (p.1 ≡ v)) (s.views q).said
          x = arrives l.0 (only_turn to_hear (s.views r).ahead st e ∙ ap some (ap (λ z. z.turn) k.0.is ∙ ap turn_of l.1))

          reads_so : (R S c ρ) (message S l.0) ≡ x.0
          reads_so =
              every_some _ _ (R S c ρ (message S l.0) ≡ x.0) (λ p a i. ap (λ z. (R S c ρ) (message S z)) (sym i.0) ∙ a ∙ i.1) (s.views x.2).said (f.follows x.2).log x.3

          brought : Fed (λ t v. (R S c ρ) t ≡ v) (takes (message S) P k.0.duty) (valid (h ∷ [])) []
          brought =
              subst⁻¹ (λ z. Fed (λ t v. (R S c ρ) t ≡ v) (takes (message S) P z) (valid (h ∷ [])) []) l.1
              (subst⁻¹ (λ z. Fed (λ t v. (R S c ρ) t ≡ v) (message S l.0 ∷ []) (valid (z ∷ [])) []) x.1 (reads_so, refl))

  fine_build : (s : State) → Fine S c ρ s → (v : Tree) → Unbuilt c s (build v) → WentWell s (build v)
  fine_build s f v u = (tt, go (leb (c v) s.space) (leb→le (c v) s.space))
    where
      go : (b : Bool) → (T b → c v ≤ s.space)
          → Fine S c ρ (cond {A = State × Answer} b (record { space = s.space - c v; views = s.views }, taken nothing) (s, declined 15 0)).0
      go true g = let w = g tt in absurd (omega arith)
      go false g = f

  fine_call : (s : State) → Fine S c ρ s → (e : Event) → StartsFrom S ρ s e → AsSaid s e → Unbuilt c s e → WentWell s e
  fine_call s f (begin r hs ns) a b u = fine_begin s f r hs ns a
  fine_call s f (say r) a b u = fine_say s f r
  fine_call s f (hear r h) a b u = fine_hear s f r h b
  fine_call s f (build v) a b u = fine_build s f v u
  fine_call s f other a b u = (tt, f)

  pub fine_along : (es : List Event) (s : State) → Fine S c ρ s → Along c (StartsFrom S ρ) s es → Along c AsSaid s es → Along c (Unbuilt c) s es
      → Along c (NotRefused c) s es × Fine S c ρ (after c s es)
  fine_along [] s f a b u = (tt, f)
  fine_along (e ∷ es) s f a b u =
      let x = fine_call s f e a.0 b.0 u.0 in
      let y = fine_along es (call c s e).0 x.1 a.1 b.1 u.1 in
      ((x.0, y.0), y.1)

  -- each term that a role holds has its reading as value
  pub fine_reads : (s : State) → Fine S c ρ s → AllRead (R S c ρ) s
  fine_reads s f r =
      let g = f.follows r in
      let a = g.attends in
      let h = a.stands.agrees (s.views r).holdings (R S c ρ) (λ k ts o. reading_total ρ k ts) (λ t i. i) g.reads in
      subst⁻¹ (Every (λ e. (s.views r).memory e.at ≡ some (R S c ρ e.term))) a.knows
      (every_map (λ e. a.sheet e.at ≡ some e.term) (λ e. (s.views r).memory e.at ≡ some (R S c ρ e.term))
      (λ e p. let x = h e.at e.term p in x.1 ∙ ap some (sym x.2)) a.role.known a.stands.good.entries)
