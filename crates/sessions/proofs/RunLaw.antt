-- The law of runs, from the law of the model's sessions.
use Rattle.std.proofs.Common.{◌≡◌, ℕ, ◌<◌, ◌≤◌, Bool, true, false, cond, ◌&&◌, T, eqb, ltb, List, [], ◌∷◌, ◌++◌, map, length, get_or, Some, Ok, Err, Result, Vec, sym, refl, ap, ◌∙◌, subst, inl, inr, ◌⊎◌, arith, vec_items, append-nil, append_assoc}
use Rattle.std.proofs.Common as std
use lib.Dec.{eqb_refl}
use Rattle.std.specs.declared.alloc.Global.{Global}
use Rattle.std.proofs.lemmas.Bool.{ltb-true}
use mathlib.Core.Option.{Option, none as nothing, some}
use mathlib.Core.Path.{subst⁻¹}
use Rattle.model.specs.Lists.{Every, SomeOf, zip}
use Rattle.model.specs.Trees.{tupled, crypted, applied, Tree, leaf}
use Rattle.model.specs.Storable.{Storable}
use Rattle.model.specs.CountLaw.{Declared, CountsKept}
use Rattle.model.specs.Deducible.{Deducible}
use Rattle.model.specs.Roles.{Entry}
use Rattle.model.specs.Entries.{Has, Held}
use Rattle.model.specs.Readings.{reading_of}
use Rattle.model.specs.Holdings.{Stock, nothing_held, add, TermOf, ValueOf}
use Rattle.model.specs.Specifications.{Specification, message, Duty, begin as to_do, speak, listen}
use Rattle.model.specs.Programs.{Accepted}
use Rattle.model.specs.Sessions as sessions
use Rattle.model.specs.Sessions.{State, Event, begin, say, hear, build, other, call, begins_next, next_turn}
use Rattle.model.specs.SessionLaw as model
use Rattle.model.proofs.Lists.{every_some, every_map, every_join}
use Rattle.model.proofs.After.{Holds}
use Rattle.model.proofs.Counting.{TermCounted}
use Rattle.model.proofs.CountLaw.{any_message}
use Rattle.model.proofs.Deducible.{as_specified}
use Rattle.model.proofs.Lines.{sheet_has}
use Rattle.model.proofs.SessionLaw.{session_law}
use Rattle.model.proofs.Standing.{term_known}
use Rattle.model.proofs.Grounds.{held_every}
use Rattle.store.specs.declared.fault.StoreFault.{StoreFault}
use Rattle.store.specs.Makers.{wanted, Makes}
use Rattle.store.specs.Semantics.{Semantics}
use Rattle.run.specs.declared.run.Run.{Run}
use Rattle.run.specs.Shown.{Meaning, Small, as_option, register, StandsFor}
use Rattle.sessions.specs.declared.reply.Reply.TheVariants as replies
use Rattle.sessions.specs.declared.request.Handle.{Handle}
use Rattle.sessions.specs.declared.request.Request.{Request}
use Rattle.sessions.specs.declared.request.Request.TheVariants.{Begin, Say, Hear, Register, Atom, Tuple, Crypt, Apply, Shape, Part, Unlock, Same, Space}
use Rattle.sessions.specs.Starting.{Begins}
use Rattle.sessions.specs.Happening.{store_at, runs_at, Did, Happened}
use Rattle.sessions.specs.Observed.{Step, calls, taken as is_taken, taken_by, values_at, values_in, is_one_of, each_once, stock, next_duty}
use Rattle.sessions.specs.Replies.{Made, reply_by}
use Rattle.sessions.proofs.Events.{Replies}
use Rattle.run.specs.declared.fault.RunFault.TheVariants.{OutOfTurn, Counts}
use Rattle.sessions.specs.Refusals.{FullFault, MismatchFault}
use Rattle.sessions.specs.Requests.{handle_of, handles_of}
use Rattle.sessions.proofs.Numbers.{Refused, DecidedBy}
use Rattle.sessions.proofs.Refusals.{turn_named, invalid_named, mismatch_named, full_named, counts_named, Ended, ended}
use Rattle.sessions.proofs.Events.{of_maker, event_of}
use Rattle.sessions.specs.RunLaw.{Along, Derived, Holding, Decided, StartsFrom, AsSaid, Unbuilt, to_build, to_start, Suffices, NotRefused, InTurn, AllRead, AllShare, Lawful}
use Rattle.sessions.proofs.Naming.{given_once}
use Rattle.sessions.proofs.Observing.{At, event, replied, at_start, at_next}
use Rattle.sessions.proofs.Obeying.{begins_same, all_names, stock_same, turn_of_duty, begin_of_turn, hear_of_turn, begin_is, say_is, hear_is, decided, is_role}

-- one of some runs
one_of : (runs : List Run) (r : ℕ) → r < length runs → Run
one_of [] r l = absurd (omega arith)
one_of (run ∷ runs) r l = run

every_zip : {A B : Type 0} (Q : A → Type 0) (W : B → Type 0) (xs : List A) (ys : List B) → Every Q xs → Every W ys → Every (λ p. Q p.0 × W p.1) (zip xs ys)
every_zip Q W [] ys h k = tt
every_zip Q W (x ∷ xs) [] h k = tt
every_zip Q W (x ∷ xs) (y ∷ ys) h k = ((h.0, k.0), every_zip Q W xs ys h.1 k.1)

each_once_every : (Q : Tree → Type 0) (before ts : List Tree) → Every Q before → Every Q ts → Every Q (each_once before ts)
each_once_every Q before [] h k = h
each_once_every Q before (t ∷ ts) h k = go (is_one_of t before) (λ us g. each_once_every Q us ts g k.1)
  where
    go : (b : Bool) → ((us : List Tree) → Every Q us → Every Q (each_once us ts)) → Every Q (each_once (cond b before (before ++ (t ∷ []))) ts)
    go true f = f before h
    go false f = f (before ++ (t ∷ [])) (every_join Q before (t ∷ []) h (k.0, tt))

-- the values behind valid handles
valued : (m : Meaning) → ((h : ℕ) (v : Tree) → m h ≡ Some v → Storable v) → (hs : List ℕ) (vs : List Tree) → map (λ h. as_option (m h)) hs ≡ map some vs → Every Storable vs
valued m f hs [] e = tt
valued m f [] (v ∷ vs) e = absurd (cc)
valued m f (h ∷ hs) (v ∷ vs) e = (f h v (behind (m h) v (head_same e)), valued m f hs vs (tail_same e))
  where
    head_same : {A : Type 0} {x y : A} {xs ys : List A} → x ∷ xs ≡ y ∷ ys → x ≡ y
    head_same e = cc

    tail_same : {A : Type 0} {x y : A} {xs ys : List A} → x ∷ xs ≡ y ∷ ys → xs ≡ ys
    tail_same e = cc

    behind : (o : std.Option Tree) (v : Tree) → as_option o ≡ some v → o ≡ Some v
    behind std.None v e = absurd (cc)
    behind (Some w) v e = ap Some (inj e)
      where
        inj : {w v : Tree} → some w ≡ some v → w ≡ v
        inj e = cc

module _ {S : Type 0} (M : Semantics S) (cost : Tree → ℕ) (small : (s : S) → Small (M.means s)) (X : Specification) (acc : Accepted X) where
  abbrev Now : List (Step S) → S → List Run → State → Type 0
  Now H s runs st = At M cost small X acc H s runs st

  abbrev events : List (Step S) → List Event
  events H = map (event M cost small X acc) H

  -- where all steps lead
  at_end : (es H : List (Step S)) (s : S) (runs : List Run) (st : State) (s' : S) (runs' : List Run) → Now H s runs st → Happened M s runs es s' runs'
      → Now (H ++ es) s' runs' (sessions.after cost st (events es))
  at_end [] H s runs st s' runs' a h =
      subst⁻¹ (λ l. Now l s' runs' st) (append-nil H) (subst⁻¹ (λ z. Now H z runs' st) h.0 (subst⁻¹ (λ z. Now H s z st) h.1 a))
  at_end (e ∷ es) H s runs st s' runs' a h =
      subst (λ l. Now l s' runs' (sessions.after cost (call cost st (event M cost small X acc e)).0 (events es))) (append_assoc H (e ∷ []) es)
      (at_end es (H ++ (e ∷ [])) e.after e.runs_after (call cost st (event M cost small X acc e)).0 s' runs' (at_next M cost small X acc H s runs st a e h.0) h.1)

  -- something of each step that follows from where it is made
  module _ (Q : List (Step S) → Step S → Type 0) where
    along : ((H : List (Step S)) (s : S) (runs : List Run) (st : State) → Now H s runs st → (e : Step S) → Did M s runs e → Q H e)
        → (es H : List (Step S)) (s : S) (runs : List Run) (st : State) (s' : S) (runs' : List Run) → Now H s runs st → Happened M s runs es s' runs'
        → Along M X Q H es
    along f [] H s runs st s' runs' a h = tt
    along f (e ∷ es) H s runs st s' runs' a h = (
      f H s runs st a e h.0,
      along f es (H ++ (e ∷ [])) e.after e.runs_after (call cost st (event M cost small X acc e)).0 s' runs' (at_next M cost small X acc H s runs st a e h.0) h.1,
    )

    module _ (Z : State → Event → Type 0) where
      -- from what was observed to the model
      along_to : ((H : List (Step S)) (s : S) (runs : List Run) (st : State) → Now H s runs st → (e : Step S) → Did M s runs e → Q H e → Z st (event M cost small X acc e))
          → (es H : List (Step S)) (s : S) (runs : List Run) (st : State) (s' : S) (runs' : List Run) → Now H s runs st → Happened M s runs es s' runs'
          → Along M X Q H es → model.Along cost Z st (events es)
      along_to f [] H s runs st s' runs' a h w = tt
      along_to f (e ∷ es) H s runs st s' runs' a h w = (
        f H s runs st a e h.0 w.0,
        along_to f es (H ++ (e ∷ [])) e.after e.runs_after (call cost st (event M cost small X acc e)).0 s' runs' (at_next M cost small X acc H s runs st a e h.0) h.1 w.1,
      )

      -- and back
      along_from : ((H : List (Step S)) (s : S) (runs : List Run) (st : State) → Now H s runs st → (e : Step S) → Did M s runs e → Z st (event M cost small X acc e) → Q H e)
          → (es H : List (Step S)) (s : S) (runs : List Run) (st : State) (s' : S) (runs' : List Run) → Now H s runs st → Happened M s runs es s' runs'
          → model.Along cost Z st (events es) → Along M X Q H es
      along_from f [] H s runs st s' runs' a h w = tt
      along_from f (e ∷ es) H s runs st s' runs' a h w = (
        f H s runs st a e h.0 w.0,
        along_from f es (H ++ (e ∷ [])) e.after e.runs_after (call cost st (event M cost small X acc e)).0 s' runs' (at_next M cost small X acc H s runs st a e h.0) h.1 w.1,
      )

  -- what a register's handle names is the value in the memory
  value_in : (m : Meaning) → Small m → (h : ℕ) (o : Option Tree) → StandsFor m h o → (v : Tree) → m h ≡ Some v → o ≡ some v
  value_in m small h nothing z v e = let b = small h v e in absurd (omega arith)
  value_in m small h (some w) z v e = ap as_option (sym z ∙ e)

  handle_of_value : (m : Meaning) (h : ℕ) (o : Option Tree) → StandsFor m h o → (v : Tree) → o ≡ some v → m h ≡ Some v
  handle_of_value m h nothing z v e = absurd (cc)
  handle_of_value m h (some w) z v e = z ∙ ap Some (inj e)
    where
      inj : {w v : Tree} → some w ≡ some v → w ≡ v
      inj e = cc

  module _ (H : List (Step S)) (s : S) (runs : List Run) (st : State) (a : Now H s runs st) where
    pub derived : Derived M X H s runs
    derived = record {
      in_registers = λ A kept r q run v l e.
          subst (λ z. Deducible A (X.party r) (ValueOf z) v) (stock_same M cost small X acc H s runs st a r)
          ((a.attend r).stands.values A ((a.attend r).counts A kept).0.acts q v (value_in (M.means s) (small s) (register (get_or runs r run).registers q) ((st.views r).memory q) ((a.stands.each r run l).memory q) v e));
      in_says = λ A kept r.
          subst (λ z. Every (λ p. Deducible A (X.party r) (ValueOf (stock M.means X r H)) p.1) z) (a.tells r).said
          (subst (λ z. Every (λ p. Deducible A (X.party r) (ValueOf z) p.1) (st.views r).said) (stock_same M cost small X acc H s runs st a r) ((a.attend r).says A kept));
    }

    in_register : (r i : ℕ) (run : Run) (v : Tree) → r < length runs → (st.views r).memory i ≡ some v → M.means s (register (get_or runs r run).registers i) ≡ Some v
    in_register r i run v l = handle_of_value (M.means s) (register (get_or runs r run).registers i) ((st.views r).memory i) ((a.stands.each r run l).memory i) v

    pub holding : Holding M X H s runs
    holding = record {
      known = λ r t h.
          let v = a.attend r in
          subst (λ l. Has l t) (sym v.knows ∙ (a.tells r).known)
          (term_known (X.party r) v.role v.sheet (st.views r).memory (st.views r).holdings v.stands t (subst⁻¹ (λ z. TermOf z t) (stock_same M cost small X acc H s runs st a r) h));
      filled = λ r i run t l h.
          let v = a.attend r in
          let e = held_every (λ u k. v.sheet k ≡ some u) v.role.known v.stands.good.entries t i (subst⁻¹ (λ k. Held k t i) (sym v.knows ∙ (a.tells r).known) h) in
          let w = v.stands.filled i t e in
          (w.0, in_register r i run w.0 l w.1);
    }

    -- what a role holds is of declared terms, with values that a store can hold
    module _ (holds : (s : S) (h : ℕ) (v : Tree) → M.means s h ≡ Some v → Storable v) where
      abbrev Fits : (ℕ → ℕ) → Tree × Tree → Type 0
      Fits A p = Declared A p.0 × Storable p.1

      fits : (A : ℕ → ℕ) → CountsKept A X → (r : ℕ) → r < length runs → (t v : Tree) → Holds (a.attend r).sheet (st.views r).memory t v → Declared A t × Storable v
      fits A kept r l t v h = (
        every_some (TermCounted A) (λ (e : Entry). t ≡ e.term) (Declared A t) (λ e c q. subst⁻¹ (Declared A) q c) (a.attend r).role.known ((a.attend r).counts A kept).0.terms
            (sheet_has (a.attend r).role (a.attend r).sheet (a.attend r).stands.good h.0 t h.1),
        holds s (register (get_or runs r (one_of runs r l)).registers h.0) v (in_register r h.0 (one_of runs r l) v l h.2),
      )

      stock_fits : (A : ℕ → ℕ) → CountsKept A X → (r : ℕ) → r < length runs → Every (Fits A) (stock M.means X r H).taken × Every (λ p. p.1 < 4294967296) (stock M.means X r H).made
      stock_fits A kept r l =
          subst (λ (z : Stock). Every (Fits A) z.taken × Every (λ p. p.1 < 4294967296) z.made) (stock_same M cost small X acc H s runs st a r) (
            every_map (λ p. Holds (a.attend r).sheet (st.views r).memory p.0 p.1) (Fits A) (λ p h. fits A kept r l p.0 p.1 h) (st.views r).holdings.taken (a.attend r).stands.holds,
            every_map (λ p. Holds (a.attend r).sheet (st.views r).memory (leaf p.0) (leaf p.1)) (λ p. p.1 < 4294967296) (λ p h. (fits A kept r l (leaf p.0) (leaf p.1) h).1) (st.views r).holdings.made (a.attend r).stands.names,
          )

      -- what was decided, by the faults themselves and by values that a store can hold
      module _ (e : Step S) (d : Did M s runs e) (b : DecidedBy M X H e) where
        role_there : (r : ℕ) (w : Duty) → next_duty X r H ≡ some w → r < length runs
        role_there r w q = subst⁻¹ (λ n. r < n) a.many (is_role X r (taken_by r H) w q)

        ending : (r : ℕ) → T (calls r e.asked) → Ended M e
        ending r t = ended M e r e.asked t d.does

        fault_of_two : Refused 14 e.reply ⊎ Refused 15 e.reply → MismatchFault e.reply ⊎ FullFault e.reply
        fault_of_two (inl x) = inl (mismatch_named e.reply x)
        fault_of_two (inr x) = inr (full_named e.reply x)

        hear_fits : (A : ℕ → ℕ) → CountsKept A X → (r l : ℕ) (h : Handle) (v : Tree) → next_duty X r H ≡ some (listen l) → M.means e.before (handle_of e.earlier h) ≡ Some v
            → Every (Fits A) (add (stock M.means X r H) (message X l ∷ []) (v ∷ []) [] []).taken
        hear_fits A kept r l h v q m =
            every_join (Fits A) (stock M.means X r H).taken ((message X l, v) ∷ []) (stock_fits A kept r (role_there r (listen l) q)).0
            ((any_message A X kept l, holds e.before (handle_of e.earlier h) v m), tt)

        begin_fits : (A : ℕ → ℕ) → CountsKept A X → (r : ℕ) (given : Vec Handle Global) (numbers : Vec ℕ Global) (vs : List Tree) → e.asked ≡ Begin r given numbers
            → next_duty X r H ≡ some (to_do (X.knows r)) → values_in M.means e ≡ map some vs → Every (Fits A) (zip (each_once [] (X.knows r)) vs)
        begin_fits A kept r given numbers vs k q m =
            every_zip (Declared A) Storable (each_once [] (X.knows r)) vs
            (each_once_every (Declared A) [] (X.knows r) tt (kept.starts r (is_role X r (taken_by r H) (to_do (X.knows r)) q)))
            (valued (M.means e.before) (holds e.before) (handles_of e.earlier (vec_items given)) vs (sym (ap (values_at (M.means e.before) e.earlier) k) ∙ m))

        named : Decided M X H e
        named = record {
          hear_taken = λ A kept r l h v k q m f.
              let i = b.hear_taken r l h v k q m (λ x. f (full_named e.reply x)) in
              let w = as_specified A (X.party r) (add (stock M.means X r H) (message X l ∷ []) (v ∷ []) [] []) (hear_fits A kept r l h v q m)
              (every_join (λ p. p.1 < 4294967296) (stock M.means X r H).made [] (stock_fits A kept r (role_there r (listen l) q)).1 tt) in
              ((λ t. w.0 (i.0 t)), λ y. i.1 (w.1 y));
          hear_refused = λ r l h v k q m f. fault_of_two (b.hear_refused r l h v k q m f);
          begin_taken = λ A kept r given numbers vs k q m c f.
              let i = b.begin_taken r given numbers vs k q m c (λ x. f (full_named e.reply x)) in
              let w = as_specified A (X.party r) (add nothing_held (each_once [] (X.knows r)) vs [] []) (begin_fits A kept r given numbers vs k q m) tt in
              ((λ t. w.0 (i.0 t)), λ y. i.1 (w.1 y));
          begin_refused = λ r given numbers vs k q m c f. fault_of_two (b.begin_refused r given numbers vs k q m c f);
          say_refused = λ r l mk k q f. full_named e.reply (b.say_refused r l mk k q f);
          say_answers = b.say_answers;
          out_of_turn = λ r t l. let i = b.out_of_turn r t l in ((λ x. i.0 (subst⁻¹ (Refused 11) x.1 refl)), λ n. turn_named e.reply (i.1 n));
          wrong_counts = λ r given numbers k q.
              let i = b.wrong_counts r given numbers k q in (
                (λ x. i.0 (subst⁻¹ (Refused 13) x.1 refl)),
                λ n. counts_named e.reply (ending r (subst⁻¹ (λ z. T (calls r z)) k (eqb_refl r))).possible (i.1 n),
              );
          hear_invalid = λ r l h k q m. invalid_named e.reply (b.hear_invalid r l h k q m);
          begin_invalid = λ r given numbers vs hs k q m c. invalid_named e.reply (b.begin_invalid r given numbers vs hs k q m c);
          unaltered = λ r t x. elim x [ inl y ↦ (ending r t).unaltered (OutOfTurn y.0) y.1 tt | inr y ↦ (ending r t).unaltered (Counts y.0) y.1 tt ];
          emptied = λ r t n q run l. (ending r t).emptied n q run l;
        }

    all_read : (R : Tree → Tree) → model.AllRead R st → AllRead M X R H s runs
    all_read R f r i run t l h =
        in_register r i run (R t) l
        (every_some (λ (e : Entry). (st.views r).memory e.at ≡ some (R e.term)) (λ (e : Entry). (t ≡ e.term) × (i ≡ e.at)) ((st.views r).memory i ≡ some (R t))
        (λ e x y. ap (st.views r).memory y.1 ∙ x ∙ ap (λ u. some (R u)) (sym y.0)) (st.views r).known (f r)
        (subst⁻¹ (λ k. Held k t i) (a.tells r).known h))

    all_share : model.AllShare st → AllShare M X H s runs
    all_share f r q i j run t l k h g =
        let z = f r q t i j (subst⁻¹ (λ k. Held k t i) (a.tells r).known h) (subst⁻¹ (λ k. Held k t j) (a.tells q).known g) in
        (z.0, in_register r i run z.0 l z.1, in_register q j run z.0 k z.2)

  -- one step as an event, by its kind
  module _ (H : List (Step S)) (s : S) (runs : List Run) (st : State) (a : Now H s runs st) (e : Step S) (d : Did M s runs e) where
    abbrev ev : Event
    ev = event M cost small X acc e

    abbrev Answers : Request → Type 0
    Answers q = Replies M X.roles (λ k. (st.views k).memory) (call cost st ev).1 e.earlier e.before e.after q e.reply

    module _ (Z : Event → Type 0) (outside : Z other)
        (built : (v : Tree) → T (to_build e.asked) → Made M e.before e.after (Ok v) e.reply → Z (build v))
        (begun : (p : ℕ) (hs : Vec Handle Global) (ns : Vec ℕ Global) → e.asked ≡ Begin p hs ns → p < X.roles → Z (begin p (values_in M.means e) (vec_items ns)))
        (said : (p : ℕ) → e.asked ≡ Say p → p < X.roles → Z (say p))
        (heard : (p : ℕ) (h : Handle) → e.asked ≡ Hear p h → p < X.roles → Z (hear p (as_option (M.means e.before (handle_of e.earlier h))))) where
      made : (q : Request) → e.asked ≡ q → T (to_build q) → (w : Result Tree StoreFault) → Made M e.before e.after w e.reply → Z (of_maker w)
      made q k t (Ok v) m = built v (subst⁻¹ (λ x. T (to_build x)) k t) m
      made q k t (Err f) m = outside

      by_kind : (q : Request) → e.asked ≡ q → Answers q → Z (event_of X.roles (M.means e.before) e.earlier q)
      by_kind (Begin p hs ns) k y = go (ltb p X.roles) refl
        where
          go : (b : Bool) → ltb p X.roles ≡ b → Z (cond b (begin p (values_at (M.means e.before) e.earlier (Begin p hs ns)) (vec_items ns)) other)
          go true i = subst (λ q. Z (begin p (values_at (M.means e.before) e.earlier q) (vec_items ns))) k (begun p hs ns k (ltb-true p X.roles i))
          go false i = outside
      by_kind (Say p) k y = go (ltb p X.roles) refl
        where
          go : (b : Bool) → ltb p X.roles ≡ b → Z (cond b (say p) other)
          go true i = said p k (ltb-true p X.roles i)
          go false i = outside
      by_kind (Hear p h) k y = go (ltb p X.roles) refl
        where
          go : (b : Bool) → ltb p X.roles ≡ b → Z (cond b (hear p (as_option (M.means e.before (handle_of e.earlier h)))) other)
          go true i = heard p h k (ltb-true p X.roles i)
          go false i = outside
      by_kind (Register r n) k y = outside
      by_kind (Atom n) k y = built (leaf n) (subst⁻¹ (λ x. T (to_build x)) k tt) y
      by_kind (Tuple parts) k y = made (Tuple parts) k tt (wanted (M.means e.before) tupled (handles_of e.earlier (vec_items parts))) y
      by_kind (Crypt text key) k y = made (Crypt text key) k tt (wanted (M.means e.before) crypted (handle_of e.earlier text ∷ handle_of e.earlier key ∷ [])) y
      by_kind (Apply f parts) k y = made (Apply f parts) k tt (wanted (M.means e.before) (applied f) (handles_of e.earlier (vec_items parts))) y
      by_kind (Shape h) k y = outside
      by_kind (Part h i) k y = outside
      by_kind (Unlock h i) k y = outside
      by_kind (Same h i) k y = outside
      by_kind Space k y = outside

      pub by_event : Z ev
      by_event = by_kind e.asked refl (replied M cost small X acc H s runs st a e d)

    start_to : (ρ : ℕ → Tree) → StartsFrom M X ρ H e → model.StartsFrom X ρ st ev
    start_to ρ w = by_event (model.StartsFrom X ρ st) tt (λ v t m. tt) begun (λ p k l. tt) (λ p h k l. tt)
      where
        begun : (p : ℕ) (hs : Vec Handle Global) (ns : Vec ℕ Global) → e.asked ≡ Begin p hs ns → p < X.roles → model.StartsFrom X ρ st (begin p (values_in M.means e) (vec_items ns))
        begun p hs ns k l t =
            let z = w p hs ns k (begin_of_turn M cost small X acc H s runs st a p t) in
            (z.0 ∙ ap (map (λ t. some (reading_of ρ t))) (sym (given_once (X.party p) (X.knows p))), z.1 ∙ ap (map ρ) (sym (all_names X acc p)))

    arrive_to : AsSaid M X H e → model.AsSaid st ev
    arrive_to w = by_event (model.AsSaid st) tt (λ v t m. tt) (λ p hs ns k l. tt) (λ p k l. tt) heard
      where
        heard : (p : ℕ) (h : Handle) → e.asked ≡ Hear p h → p < X.roles → model.AsSaid st (hear p (as_option (M.means e.before (handle_of e.earlier h))))
        heard p h k i l t =
            let z = w p l h k (hear_of_turn M cost small X acc H s runs st a p l t) in
            (z.0, ap as_option z.1, z.2, subst⁻¹ (SomeOf (λ p. (p.0 ≡ l) × (p.1 ≡ z.0))) (a.tells z.2).said z.3)

    free_is : st.space ≡ M.space e.before
    free_is = a.stands.space ∙ ap M.space (sym d.before)

    priced_is : M.cost e.before ≡ cost
    priced_is = ap M.cost d.before ∙ a.priced

    unbuilt_to : Unbuilt M X e → model.Unbuilt cost st ev
    unbuilt_to u = by_event (model.Unbuilt cost st) tt (λ v t m. go v t m.0 m.1 m.2) (λ p hs ns k l. tt) (λ p k l. tt) (λ p h k l. tt)
      where
        go : (v : Tree) → T (to_build e.asked) → (x : Result ℕ StoreFault) → Makes M e.before e.after (Ok v) x → e.reply ≡ reply_by replies.Handle x → st.space < cost v
        go v t (Ok h) m y = absurd (u h t y)
        go v t (Err f) m y = let b = m.2 in let q = free_is in let c = ap (λ p. p v) priced_is in omega arith

    -- a begin in turn
    abbrev starts : Event → Bool
    starts (begin r hs ns) = begins_next (st.views r).ahead
    starts (say r) = false
    starts (hear r h) = false
    starts (build v) = false
    starts other = false

    maker_starts : (w : Result Tree StoreFault) → starts (of_maker w) ≡ false
    maker_starts (Ok v) = refl
    maker_starts (Err f) = refl

    starts_kind : (q : Request) → starts (event_of X.roles (M.means e.before) e.earlier q) ≡ to_start M X H q
    starts_kind (Begin p hs ns) = go (ltb p X.roles) refl
      where
        go : (b : Bool) → ltb p X.roles ≡ b → starts (cond b (begin p (values_at (M.means e.before) e.earlier (Begin p hs ns)) (vec_items ns)) other) ≡ (b && eqb (length (taken_by p H)) 0)
        go true i = ap begins_next (a.tells p).ahead ∙ begins_same X acc p (taken_by p H) ∙ ap (λ b. b && eqb (length (taken_by p H)) 0) i
        go false i = refl
    starts_kind (Say p) = go (ltb p X.roles)
      where
        go : (b : Bool) → starts (cond b (say p) other) ≡ false
        go true = refl
        go false = refl
    starts_kind (Hear p h) = go (ltb p X.roles)
      where
        go : (b : Bool) → starts (cond b (hear p (as_option (M.means e.before (handle_of e.earlier h)))) other) ≡ false
        go true = refl
        go false = refl
    starts_kind (Register r n) = refl
    starts_kind (Atom n) = refl
    starts_kind (Tuple parts) = maker_starts (wanted (M.means e.before) tupled (handles_of e.earlier (vec_items parts)))
    starts_kind (Crypt text key) = maker_starts (wanted (M.means e.before) crypted (handle_of e.earlier text ∷ handle_of e.earlier key ∷ []))
    starts_kind (Apply f parts) = maker_starts (wanted (M.means e.before) (applied f) (handles_of e.earlier (vec_items parts)))
    starts_kind (Shape h) = refl
    starts_kind (Part h i) = refl
    starts_kind (Unlock h i) = refl
    starts_kind (Same h i) = refl
    starts_kind Space = refl

    suffices_first : (R : Tree → Tree) (x : Event) (xs : List Event)
        → cond (starts x) ((model.costs X cost R X.roles ≤ st.space) × model.Along cost (model.Unbuilt cost) (call cost st x).0 xs) (model.Suffices X cost R (call cost st x).0 xs)
        → model.Suffices X cost R st (x ∷ xs)
    suffices_first R (begin r hs ns) xs h = h
    suffices_first R (say r) xs h = h
    suffices_first R (hear r o) xs h = h
    suffices_first R (build v) xs h = h
    suffices_first R other xs h = h

    -- a call in turn that the model takes is taken
    not_refused_from : model.NotRefused cost st ev → NotRefused M X H e
    not_refused_from w = go e.asked refl
      where
        go : (q : Request) → e.asked ≡ q → InTurn M X H q → T (is_taken e.reply)
        go (Begin p hs ns) k i =
            let z = begin_is M cost small X acc H s runs st a e d p hs ns k (is_role X p (taken_by p H) (to_do (X.knows p)) i) in
            z.1.takes.0 (subst⁻¹ (λ x. model.Taken (call cost st x).1) z.0 (subst (model.NotRefused cost st) z.0 w (turn_of_duty M cost small X acc H s runs st a p (to_do (X.knows p)) i)))
        go (Say p) k (l, mk, i) =
            let z = say_is M cost small X acc H s runs st a e d p k (is_role X p (taken_by p H) (speak l mk) i) in
            z.1.takes.0 (subst⁻¹ (λ x. model.Taken (call cost st x).1) z.0 (subst (model.NotRefused cost st) z.0 w l (turn_of_duty M cost small X acc H s runs st a p (speak l mk) i)))
        go (Hear p h) k (l, i) =
            let z = hear_is M cost small X acc H s runs st a e d p h k (is_role X p (taken_by p H) (listen l) i) in
            z.1.takes.0 (subst⁻¹ (λ x. model.Taken (call cost st x).1) z.0 (subst (model.NotRefused cost st) z.0 w l (turn_of_duty M cost small X acc H s runs st a p (listen l) i)))
        go (Register r n) k i = absurd i
        go (Atom n) k i = absurd i
        go (Tuple parts) k i = absurd i
        go (Crypt text key) k i = absurd i
        go (Apply f parts) k i = absurd i
        go (Shape h) k i = absurd i
        go (Part h j) k i = absurd i
        go (Unlock h j) k i = absurd i
        go (Same h j) k i = absurd i
        go Space k i = absurd i

  unbuilt_along : (es H : List (Step S)) → Every (Unbuilt M X) es → Along M X (λ B e. Unbuilt M X e) H es
  unbuilt_along [] H u = tt
  unbuilt_along (e ∷ es) H u = (u.0, unbuilt_along es (H ++ (e ∷ [])) u.1)

  suffices_to : (R : Tree → Tree) (es H : List (Step S)) (s : S) (runs : List Run) (st : State) (s' : S) (runs' : List Run) → Now H s runs st → Happened M s runs es s' runs'
      → Suffices M X R H es → model.Suffices X cost R st (events es)
  suffices_to R [] H s runs st s' runs' a h w = tt
  suffices_to R (e ∷ es) H s runs st s' runs' a h w =
      suffices_first H s runs st a e h.0 R ev' (events es)
      (subst⁻¹ (λ b. cond b ((model.costs X cost R X.roles ≤ st.space) × model.Along cost (model.Unbuilt cost) (call cost st (event M cost small X acc e)).0 (events es))
      (model.Suffices X cost R (call cost st (event M cost small X acc e)).0 (events es))) (starts_kind H s runs st a e h.0 e.asked)
      (go (to_start M X H e.asked) w
      (λ u. suffices_to R es (H ++ (e ∷ [])) e.after e.runs_after (call cost st (event M cost small X acc e)).0 s' runs' (at_next M cost small X acc H s runs st a e h.0) h.1 u)))
    where
      ev' : Event
      ev' = event M cost small X acc e

      then : Now (H ++ (e ∷ [])) e.after e.runs_after (call cost st (event M cost small X acc e)).0
      then = at_next M cost small X acc H s runs st a e h.0

      rest : Happened M e.after e.runs_after es s' runs'
      rest = h.1

      go : (b : Bool) → cond b ((model.costs X (M.cost e.before) R X.roles ≤ M.space e.before) × Every (Unbuilt M X) es) (Suffices M X R (H ++ (e ∷ [])) es)
          → (Suffices M X R (H ++ (e ∷ [])) es → model.Suffices X cost R (call cost st (event M cost small X acc e)).0 (events es))
          → cond b ((model.costs X cost R X.roles ≤ st.space) × model.Along cost (model.Unbuilt cost) (call cost st (event M cost small X acc e)).0 (events es))
          (model.Suffices X cost R (call cost st (event M cost small X acc e)).0 (events es))
      go true w k = (
        subst⁻¹ (λ n. model.costs X cost R X.roles ≤ n) (free_is H s runs st a e h.0) (subst (λ c. model.costs X c R X.roles ≤ M.space e.before) (priced_is H s runs st a e h.0) w.0),
        along_to (λ B e. Unbuilt M X e) (model.Unbuilt cost) (λ H s runs st a e d u. unbuilt_to H s runs st a e d u) es (H ++ (e ∷ [])) e.after e.runs_after (call cost st (event M cost small X acc e)).0 s' runs' then rest
            (unbuilt_along es (H ++ (e ∷ [])) w.1),
      )
      go false w k = k w

  -- the law, where steps from new runs have led
  module _ (holds : (s : S) (h : ℕ) (v : Tree) → M.means s h ≡ Some v → Storable v) (first : S) (new : List Run) (p : M.cost first ≡ cost) (b : Begins X new) where
    begun : Now [] first new (sessions.new_runs X (M.space first))
    begun = at_start M cost small X acc first new p b

    pub lawful_end : (H : List (Step S)) (s : S) (runs : List Run) → Happened M first new H s runs → Lawful M X H s runs
    lawful_end H s runs h = record {
      derived = derived H s runs st end;
      holding = holding H s runs st end;
      decided = along (Decided M X) (λ H s runs st a e d. named H s runs st a holds e d (decided M cost small X acc H s runs st a e d)) H [] first new (sessions.new_runs X (M.space first)) s runs begun h;
      chosen = λ ρ f.
          let fair : model.Fair X cost ρ (sessions.new_runs X (M.space first)) (events H) = record {
            start = along_to (StartsFrom M X ρ) (model.StartsFrom X ρ) (λ H s runs st a e d w. start_to H s runs st a e d ρ w) H [] first new (sessions.new_runs X (M.space first)) s runs begun h f.start;
            arrive = along_to (AsSaid M X) model.AsSaid (λ H s runs st a e d w. arrive_to H s runs st a e d w) H [] first new (sessions.new_runs X (M.space first)) s runs begun h f.arrive;
            suffice = suffices_to (reading_of ρ) H [] first new (sessions.new_runs X (M.space first)) s runs begun h f.suffice;
          } in
          let z = (session_law X acc cost (M.space first) (events H)).chosen ρ fair in (
            along_from (NotRefused M X) (model.NotRefused cost) (λ H s runs st a e d w. not_refused_from H s runs st a e d w) H [] first new (sessions.new_runs X (M.space first)) s runs begun h z.0,
            all_read H s runs st end (reading_of ρ) z.1,
            all_share H s runs st end z.2,
          );
    }
      where
        st : State
        st = sessions.after cost (sessions.new_runs X (M.space first)) (events H)

        end : Now H s runs (sessions.after cost (sessions.new_runs X (M.space first)) (events H))
        end = at_end H [] first new (sessions.new_runs X (M.space first)) s runs begun h

  -- steps up to a point, and steps after others
  pub happened_part : (es rest : List (Step S)) (s : S) (runs : List Run) (s' : S) (runs' : List Run) → Happened M s runs (es ++ rest) s' runs'
      → Happened M s runs es (store_at s es) (runs_at runs es)
  happened_part [] rest s runs s' runs' h = (refl, refl)
  happened_part (e ∷ es) rest s runs s' runs' h = (h.0, happened_part es rest e.after e.runs_after s' runs' h.1)

  pub happened_join : (es rest : List (Step S)) (s : S) (runs : List Run) (t : S) (ts : List Run) (s' : S) (runs' : List Run) → Happened M s runs es t ts
      → Happened M t ts rest s' runs' → Happened M s runs (es ++ rest) s' runs'
  happened_join [] rest s runs t ts s' runs' h k = subst (λ z. Happened M z runs rest s' runs') h.0 (subst (λ z. Happened M t z rest s' runs') h.1 k)
  happened_join (e ∷ es) rest s runs t ts s' runs' h k = (h.0, happened_join es rest e.after e.runs_after t ts s' runs' h.1 k)

  -- at every point of steps that went on from others
  pub lawful_points : (holds : (s : S) (h : ℕ) (v : Tree) → M.means s h ≡ Some v → Storable v) (first : S) (new : List Run) → M.cost first ≡ cost → Begins X new → (past : List (Step S)) (old : S) (runs : List Run)
      → Happened M first new past old runs → (H : List (Step S)) (s : S) (runs' : List Run) → Happened M old runs H s runs'
      → (es rest : List (Step S)) → H ≡ es ++ rest → Lawful M X (past ++ es) (store_at old es) (runs_at runs es)
  lawful_points holds first new p b past old runs k H s runs' h es rest e =
      lawful_end holds first new p b (past ++ es) (store_at old es) (runs_at runs es)
      (happened_join past es first new old runs (store_at old es) (runs_at runs es) k
      (happened_part es rest old runs s runs' (subst (λ l. Happened M old runs l s runs') e h)))
