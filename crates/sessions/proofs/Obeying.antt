-- What the model's law says of a step is so of what was observed.
use Rattle.std.proofs.Common.{◌≡◌, ℕ, zero, suc, ◌<◌, ◌≤◌, Bool, true, false, cond, ◌&&◌, T, eqb, ltb, ◌⊎◌, ◌↔◌, List, [], ◌∷◌, ◌++◌, map, length, drop, Some, None, Ok, Err, Result, Vec, sym, refl, ap, ap₂, ◌∙◌, subst, inl, inr, arith, vec_items, lt→ltb, eq-eqb, ne_eqb, eqb→eq}
use Rattle.std.specs.declared.alloc.Global.{Global}
use Rattle.std.proofs.Common as std
use Rattle.std.proofs.lemmas.Bool.{lt-ltb, ltb-true}
use mathlib.Core.Option.{Option, none as nothing, some}
use mathlib.Core.Path.{subst⁻¹}
use Rattle.model.specs.Trees.{Tree}
use Rattle.model.specs.Runs.{empty}
use Rattle.model.specs.Holdings.{nothing_held, add, Readable}
use Rattle.model.specs.Specifications.{Specification, message, Duty, begin as to_do, speak, listen, own, duties}
use Rattle.model.specs.Programs.{nobody_yet, given, Turn, begins, says_line, hears_line, turn_of, Stage, stages_from, stages, all_actions, all_makes, Accepted}
use Rattle.model.specs.Sessions.{State, Event, begin, say, hear, other, Answer, declined, to_begin, turn_now, begins_next, next_turn, first_actions, counts_right, call}
use Rattle.model.specs.Sessions as sessions
use Rattle.model.specs.SessionLaw as model
use Rattle.model.specs.RefusalLaw.{InTurn as InTurn_of, WrongCounts, Refusals}
use Rattle.model.proofs.RefusalLaw.{refusal_law}
use Rattle.model.proofs.Machine.{some_inj, no_some}
use Rattle.model.proofs.Tests.{and_both, and_left, and_right}
use Rattle.model.proofs.Fitting.{all_fitting, role_or_nothing}
use Rattle.model.proofs.Duties.{IsLine, own_lines}
use Rattle.model.proofs.Counts.{start_gives, stages_news}
use Rattle.model.proofs.Lines.{good_nobody}
use Rattle.model.proofs.Answering.{decides}
use Rattle.store.specs.Semantics.{Semantics}
use Rattle.run.specs.declared.run.Run.{Run}
use Rattle.run.specs.declared.fault.RunFault.{RunFault}
use Rattle.run.specs.Called.{said}
use Rattle.run.specs.Shown.{Meaning, Small, as_option}
use Rattle.sessions.specs.declared.reply.Reply.TheVariants as replies
use Rattle.sessions.specs.declared.request.Handle.{Handle}
use Rattle.sessions.specs.declared.request.Request.{Request}
use Rattle.sessions.specs.declared.request.Request.TheVariants.{Begin, Say, Hear, Register, Atom, Tuple, Crypt, Apply, Shape, Part, Unlock, Same, Space}
use Rattle.sessions.specs.Happening.{Did}
use Rattle.sessions.specs.Observed.{Step, calls, taken as is_taken, taken_by, values_at, values_in, each_once, names_of_all, stock, first_of, next_duty}
use Rattle.sessions.specs.Replies.{reply_of}
use Rattle.sessions.proofs.Events.{Replies, Took, Told as SaidSo, Untouched}
use Rattle.sessions.specs.Requests.{handle_of}
use Rattle.sessions.proofs.Events.{event_of}
use Rattle.sessions.specs.RunLaw.{InTurn, RightCounts}
use Rattle.sessions.proofs.Numbers.{Refused, DecidedBy}
use Rattle.sessions.proofs.Naming.{given_once, makes_are}
use Rattle.sessions.proofs.Places.{Place, place, drop_more, turn_for, turn_same}
use Rattle.sessions.proofs.Replying.{Tells, took_tells, told_tells}
use Rattle.sessions.proofs.Saying.{say_valued}
use Rattle.sessions.proofs.Observing.{At, event, replied, begins_first, drop_lines, no_duty}

-- nothing is next where there is nothing
first_none : {C : Type 0} (cs : List C) (d : Duty) → first_of (drop (length cs) []) ≡ some d → ⊥
first_none [] d e = no_some e
first_none (c ∷ cs) d e = no_some e

head_of : (ds : List Duty) (d : Duty) → first_of ds ≡ some d → (later : List Duty) × (ds ≡ d ∷ later)
head_of [] d e = absurd (no_some e)
head_of (x ∷ ds) d e = (ds, ap (λ y. y ∷ ds) (some_inj e))

module _ (X : Specification) where
  pub is_role : (r : ℕ) {C : Type 0} (cs : List C) (d : Duty) → first_of (drop (length cs) (duties X r)) ≡ some d → r < X.roles
  is_role r cs d e = elim (role_or_nothing X r) [ inl h ↦ h | inr q ↦ absurd (first_none cs d (sym (ap (λ l. first_of (drop (length cs) l)) q) ∙ e)) ]

  -- the begin is with what the role starts from
  begin_duty : (r : ℕ) {C : Type 0} (cs : List C) (d : Duty) (later : List Duty) → drop (length cs) (duties X r) ≡ d ∷ later → T (to_begin (turn_of d)) → d ≡ to_do (X.knows r)
  begin_duty r [] d later e t = go (ltb r X.roles) e
    where
      go : (b : Bool) → cond b (to_do (X.knows r) ∷ own X r) [] ≡ d ∷ later → d ≡ to_do (X.knows r)
      go true q = cc
      go false q = absurd (no_duty q)
  begin_duty r (c ∷ cs) d later e t = absurd (no_calls (begins_first X r (c ∷ cs) d later e t))
    where
      no_calls : {C : Type 0} {c : C} {cs : List C} → c ∷ cs ≡ [] → ⊥
      no_calls e = let z : ◌≡◌ {A = ℕ} 0 1 = cc in omega arith

  -- is it the begin's turn?
  abbrev opening : Option Turn → Bool
  opening nothing = false
  opening (some t) = to_begin t

  opens : (xs : List Stage) → begins_next xs ≡ opening (turn_now xs)
  opens [] = refl
  opens (st ∷ rest) = refl

  pub begins_same : Accepted X → (r : ℕ) {C : Type 0} (cs : List C) → begins_next (drop (length cs) (stages X r)) ≡ (ltb r X.roles && eqb (length cs) 0)
  begins_same acc r cs =
      opens (drop (length cs) (stages X r)) ∙ ap opening (turn_same X (X.party r) cs (duties X r) nobody_yet (all_fitting X acc r)) ∙ go cs (ltb r X.roles)
    where
      line_later : (ds : List Duty) → ((d : Duty) (later : List Duty) → ds ≡ d ∷ later → IsLine d) → opening (turn_for (first_of ds)) ≡ false
      line_later [] f = refl
      line_later (to_do ts ∷ ds) f = absurd (f (to_do ts) ds refl)
      line_later (speak l mk ∷ ds) f = refl
      line_later (listen l ∷ ds) f = refl

      go : {C : Type 0} (cs : List C) (b : Bool) → opening (turn_for (first_of (drop (length cs) (cond b (to_do (X.knows r) ∷ own X r) [])))) ≡ (b && eqb (length cs) 0)
      go [] true = refl
      go [] false = refl
      go (c ∷ cs) true = line_later (drop (length cs) (own X r)) (λ d later e. drop_lines cs (own X r) (own_lines X r 1 X.lines) d later e) ∙ sym (ne_eqb (length (c ∷ cs)) 0 (λ e. omega arith))
      go (c ∷ cs) false = refl

  -- all names that a program makes
  module _ (acc : Accepted X) (r : ℕ) where
    names_from : (xs : List Stage) (cs : List ℕ) → drop (length cs) (stages X r) ≡ xs → all_makes xs ≡ names_of_all X (drop (length cs) (duties X r))
    names_from [] cs e = sym (none (drop (length cs) (duties X r)) (sym (sym (ap turn_now e) ∙ turn_same X (X.party r) cs (duties X r) nobody_yet (all_fitting X acc r))))
      where
        none : (ds : List Duty) → turn_for (first_of ds) ≡ nothing → names_of_all X ds ≡ []
        none [] q = refl
        none (d ∷ ds) q = absurd (no_some (sym q))
    names_from (st ∷ rest) cs e =
        ap₂ (λ (a b : List ℕ). a ++ b) (ap (λ (w : Stage). w.makes) p.is ∙ makes_are X acc r cs st p)
        (names_from rest (cs ++ (0 ∷ [])) (drop_more (stages X r) cs st rest 0 e) ∙ ap (names_of_all X) (drop_more (duties X r) cs p.duty p.later 0 p.here))
        ∙ ap (names_of_all X) (sym p.here)
      where
        p : Place X (X.party r) nobody_yet (duties X r) (length cs) st
        p = place X (X.party r) cs (duties X r) nobody_yet (all_fitting X acc r) st rest e

    pub all_names : all_makes (stages X r) ≡ names_of_all X (duties X r)
    all_names = names_from (stages X r) [] refl

    module _ (l : r < X.roles) where
      gives_all : sessions.gives (first_actions (stages X r)) ≡ length (each_once [] (X.knows r))
      gives_all = go (ltb r X.roles) (lt-ltb r X.roles l) ∙ ap length (given_once (X.party r) (X.knows r))
        where
          go : (b : Bool) → b ≡ true → sessions.gives (first_actions (stages_from (message X) (X.party r) nobody_yet (cond b (to_do (X.knows r) ∷ own X r) []))) ≡ length (given (X.party r) (X.knows r))
          go true e = start_gives (X.party r) (X.knows r) (acc.formed_starts r l)
          go false e = absurd (cc)

      news_all : sessions.news (all_actions (stages X r)) ≡ length (names_of_all X (duties X r))
      news_all = stages_news (X.party r) (message X) (duties X r) nobody_yet empty good_nobody (all_fitting X acc r) ∙ ap length all_names

      is : (m n : ℕ) → m ≡ n → T (eqb m n)
      is m n e = subst⁻¹ T (eq-eqb m n e) tt

      pub counts_fit : (hs : List (Option Tree)) (ns : List ℕ) → RightCounts X r hs ns → T (counts_right (stages X r) hs ns)
      counts_fit hs ns c =
          and_both (eqb (length hs) (sessions.gives (first_actions (stages X r)))) (eqb (length ns) (sessions.news (all_actions (stages X r))))
          (is (length hs) (sessions.gives (first_actions (stages X r))) (c.0 ∙ sym gives_all)) (is (length ns) (sessions.news (all_actions (stages X r))) (c.1 ∙ sym news_all))

      pub fit_counts : (hs : List (Option Tree)) (ns : List ℕ) → T (counts_right (stages X r) hs ns) → RightCounts X r hs ns
      fit_counts hs ns t = (
        eqb→eq (length hs) (sessions.gives (first_actions (stages X r)))
            (and_left (eqb (length hs) (sessions.gives (first_actions (stages X r)))) (eqb (length ns) (sessions.news (all_actions (stages X r)))) t) ∙ gives_all,
        eqb→eq (length ns) (sessions.news (all_actions (stages X r)))
            (and_right (eqb (length hs) (sessions.gives (first_actions (stages X r)))) (eqb (length ns) (sessions.news (all_actions (stages X r)))) t) ∙ news_all,
      )

module _ {S : Type 0} (M : Semantics S) (cost : Tree → ℕ) (small : (s : S) → Small (M.means s)) (X : Specification) (acc : Accepted X) where
  module _ (H : List (Step S)) (s : S) (runs : List Run) (st : State) (a : At M cost small X acc H s runs st) where
    -- what a role holds
    pub stock_same : (r : ℕ) → (st.views r).holdings ≡ stock M.means X r H
    stock_same r = ap₂ (λ (x : List (Tree × Tree)) (y : List (ℕ × ℕ)). record { taken = x; made = y }) (a.tells r).taken (a.tells r).made

    -- whose turn it is
    turn_is : (r : ℕ) → next_turn st r ≡ turn_for (next_duty X r H)
    turn_is r = ap turn_now (a.tells r).ahead ∙ turn_same X (X.party r) (taken_by r H) (duties X r) nobody_yet (all_fitting X acc r)

    pub turn_of_duty : (r : ℕ) (d : Duty) → next_duty X r H ≡ some d → next_turn st r ≡ some (turn_of d)
    turn_of_duty r d e = turn_is r ∙ ap turn_for e

    duty_of_turn : (r : ℕ) (t : Turn) → next_turn st r ≡ some t → (d : Duty) × (next_duty X r H ≡ some d) × (turn_of d ≡ t)
    duty_of_turn r t e = go (next_duty X r H) refl (sym (turn_is r) ∙ e)
      where
        go : (o : Option Duty) → next_duty X r H ≡ o → turn_for o ≡ some t → (d : Duty) × (next_duty X r H ≡ some d) × (turn_of d ≡ t)
        go nothing q i = absurd (no_some i)
        go (some d) q i = (d, q, some_inj i)

    pub begin_of_turn : (r : ℕ) → next_turn st r ≡ some begins → next_duty X r H ≡ some (to_do (X.knows r))
    begin_of_turn r e =
        let z = duty_of_turn r begins e in
        let h = head_of (drop (length (taken_by r H)) (duties X r)) z.0 z.1 in
        z.1 ∙ ap some (begin_duty X r (taken_by r H) z.0 h.0 h.1 (subst⁻¹ (λ t. T (to_begin t)) z.2 tt))

    pub hear_of_turn : (r l : ℕ) → next_turn st r ≡ some (hears_line l) → next_duty X r H ≡ some (listen l)
    hear_of_turn r l e = let z = duty_of_turn r (hears_line l) e in go z.0 z.1 z.2
      where
        same : {k l : ℕ} → hears_line k ≡ hears_line l → k ≡ l
        same e = cc

        go : (d : Duty) → next_duty X r H ≡ some d → turn_of d ≡ hears_line l → next_duty X r H ≡ some (listen l)
        go (to_do ts) q i = absurd (cc)
        go (speak k mk) q i = absurd (cc)
        go (listen k) q i = q ∙ ap (λ n. some (listen n)) (same i)

    -- before its begin all of a program is to come
    pub ahead_begin : (r : ℕ) → next_duty X r H ≡ some (to_do (X.knows r)) → (st.views r).ahead ≡ stages X r
    ahead_begin r e =
        let h = head_of (drop (length (taken_by r H)) (duties X r)) (to_do (X.knows r)) e in
        (a.tells r).ahead ∙ ap (λ (l : List (Step S)). drop (length l) (stages X r)) (begins_first X r (taken_by r H) (to_do (X.knows r)) h.0 h.1 tt)

    module _ (e : Step S) (d : Did M s runs e) where
      abbrev ev : Event
      ev = event M cost small X acc e

      abbrev answered : Answer
      answered = (call cost st ev).1

      -- what a call of a role that is there was to the model, and that its reply tells the answer
      abbrev Answers : Request → Type 0
      Answers q = Replies M X.roles (λ k. (st.views k).memory) answered e.earlier e.before e.after q e.reply

      answers : (q : Request) → e.asked ≡ q → Answers q
      answers q k = subst Answers k (replied M cost small X acc H s runs st a e d)

      there : (b : Bool) → b ≡ true → (Y : Type 0) → cond b (Y × Untouched e.before e.after e.reply) ((e.after ≡ e.before) × (e.reply ≡ replies.NoRole)) → Y
      there true q Y y = y.0
      there false q Y y = absurd (cc)

      pub begin_is : (p : ℕ) (hs : Vec Handle Global) (numbers : Vec ℕ Global) → e.asked ≡ Begin p hs numbers → p < X.roles
          → (ev ≡ begin p (values_in M.means e) (vec_items numbers)) × Tells answered e.reply
      begin_is p hs numbers k l = (
        ap (event_of X.roles (M.means e.before) e.earlier) k ∙ ap (λ b. cond b (begin p (values_at (M.means e.before) e.earlier (Begin p hs numbers)) (vec_items numbers)) other) (lt-ltb p X.roles l)
            ∙ ap (λ q. begin p (values_at (M.means e.before) e.earlier q) (vec_items numbers)) (sym k),
        took_tells answered e.reply (there (ltb p X.roles) (lt-ltb p X.roles l) (Took answered e.reply) (answers (Begin p hs numbers) k)),
      )

      pub say_is : (p : ℕ) → e.asked ≡ Say p → p < X.roles → (ev ≡ say p) × Tells answered e.reply
      say_is p k l = (
        ap (event_of X.roles (M.means e.before) e.earlier) k ∙ ap (λ b. cond b (say p) other) (lt-ltb p X.roles l),
        told_tells (M.means e.after) answered e.reply (there (ltb p X.roles) (lt-ltb p X.roles l) (SaidSo (M.means e.after) answered e.reply) (answers (Say p) k)),
      )

      pub hear_is : (p : ℕ) (h : Handle) → e.asked ≡ Hear p h → p < X.roles → (ev ≡ hear p (as_option (M.means e.before (handle_of e.earlier h)))) × Tells answered e.reply
      hear_is p h k l = (
        ap (event_of X.roles (M.means e.before) e.earlier) k ∙ ap (λ b. cond b (hear p (as_option (M.means e.before (handle_of e.earlier h)))) other) (lt-ltb p X.roles l),
        took_tells answered e.reply (there (ltb p X.roles) (lt-ltb p X.roles l) (Took answered e.reply) (answers (Hear p h) k)),
      )

      old : model.Decided X cost st
      old = decides X cost st a.attend

      duty_role : (r : ℕ) (d : Duty) → next_duty X r H ≡ some d → r < X.roles
      duty_role r d q = is_role X r (taken_by r H) d q

      -- each answer as the law says
      either : (n m : ℕ) → Tells answered e.reply → model.Refused n answered ⊎ model.Refused m answered → Refused n e.reply ⊎ Refused m e.reply
      either n m t (inl x) = inl ((t.refuses n).0 x)
      either n m t (inr x) = inr ((t.refuses m).0 x)

      hear_at : (r l : ℕ) (h : Handle) (v : Tree) → e.asked ≡ Hear r h → next_duty X r H ≡ some (listen l) → M.means e.before (handle_of e.earlier h) ≡ Some v
          → (ev ≡ hear r (some v)) × Tells answered e.reply
      hear_at r l h v k q m = let z = hear_is r h k (duty_role r (listen l) q) in (z.0 ∙ ap (λ o. hear r (as_option o)) m, z.1)

      begin_at : (r : ℕ) (hs : Vec Handle Global) (numbers : Vec ℕ Global) (vs : List Tree) → e.asked ≡ Begin r hs numbers → next_duty X r H ≡ some (to_do (X.knows r))
          → values_in M.means e ≡ map some vs → (ev ≡ begin r (map some vs) (vec_items numbers)) × Tells answered e.reply
      begin_at r hs numbers vs k q m = let z = begin_is r hs numbers k (duty_role r (to_do (X.knows r)) q) in (z.0 ∙ ap (λ o. begin r o (vec_items numbers)) m, z.1)

      fits : (r : ℕ) (hs : List (Option Tree)) (ns : List ℕ) → next_duty X r H ≡ some (to_do (X.knows r)) → RightCounts X r hs ns → T (counts_right (st.views r).ahead hs ns)
      fits r hs ns q c = subst⁻¹ (λ l. T (counts_right l hs ns)) (ahead_begin r q) (counts_fit X acc r (duty_role r (to_do (X.knows r)) q) hs ns c)

      fitting : (r : ℕ) (hs : List (Option Tree)) (ns : List ℕ) → next_duty X r H ≡ some (to_do (X.knows r)) → T (counts_right (st.views r).ahead hs ns) → RightCounts X r hs ns
      fitting r hs ns q t = fit_counts X acc r (duty_role r (to_do (X.knows r)) q) hs ns (subst (λ l. T (counts_right l hs ns)) (ahead_begin r q) t)

      fits_at : (r : ℕ) (hs : List (Option Tree)) (ns : List ℕ) → next_duty X r H ≡ some (to_do (X.knows r)) → values_in M.means e ≡ hs → RightCounts X r (values_in M.means e) ns
          → T (counts_right (st.views r).ahead hs ns)
      fits_at r hs ns q m c = fits r hs ns q (subst (λ l. RightCounts X r l ns) m c)

      refusals : Refusals cost st ev
      refusals = refusal_law cost st ev

      say_of_turn : (r l : ℕ) → next_turn st r ≡ some (says_line l) → (mk : ℕ → Bool) × (next_duty X r H ≡ some (speak l mk))
      say_of_turn r l e = let z = duty_of_turn r (says_line l) e in go z.0 z.1 z.2
        where
          line_same : {k l : ℕ} → says_line k ≡ says_line l → k ≡ l
          line_same e = cc

          go : (d : Duty) → next_duty X r H ≡ some d → turn_of d ≡ says_line l → (mk : ℕ → Bool) × (next_duty X r H ≡ some (speak l mk))
          go (to_do ts) q i = absurd (cc)
          go (speak k mk) q i = (mk, q ∙ ap (λ n. some (speak n mk)) (line_same i))
          go (listen k) q i = absurd (cc)

      -- out of turn
      iff_not : {A B C D : Type 0} → (A ↔ C) → (A ↔ (¬ B)) → (B → D) → (D → B) → C ↔ (¬ D)
      iff_not i j f g = ((λ c d. (j.0 (i.1 c)) (g d)), λ n. i.0 (j.1 (λ b. n (f b))))

      late : (q : Request) → e.asked ≡ q → (r : ℕ) → T (calls r q) → r < X.roles → Refused 11 e.reply ↔ (¬ InTurn M X H q)
      late (Begin p hs ns) k r t l =
          let i : r ≡ p = eqb→eq r p t in
          let z = begin_is p hs ns k (subst (λ n. n < X.roles) i l) in
          iff_not (z.1.refuses 11) refusals.eleven (λ b. begin_of_turn p (subst (InTurn_of st) z.0 b)) (λ q. subst⁻¹ (InTurn_of st) z.0 (turn_of_duty p (to_do (X.knows p)) q))
      late (Say p) k r t l =
          let i : r ≡ p = eqb→eq r p t in
          let z = say_is p k (subst (λ n. n < X.roles) i l) in
          iff_not (z.1.refuses 11) refusals.eleven
          (λ b. let x : InTurn_of st (say p) = subst (InTurn_of st) z.0 b in let y = say_of_turn p x.0 x.1 in (x.0, y.0, y.1))
          (λ q. subst⁻¹ (InTurn_of st) z.0 (q.0, turn_of_duty p (speak q.0 q.1) q.2))
      late (Hear p h) k r t l =
          let i : r ≡ p = eqb→eq r p t in
          let z = hear_is p h k (subst (λ n. n < X.roles) i l) in
          iff_not (z.1.refuses 11) refusals.eleven
          (λ b. let x : InTurn_of st (hear p (as_option (M.means e.before (handle_of e.earlier h)))) = subst (InTurn_of st) z.0 b in (x.0, hear_of_turn p x.0 x.1))
          (λ q. subst⁻¹ (InTurn_of st) z.0 (q.0, turn_of_duty p (listen q.0) q.1))
      late (Register p n) k r t l = elim t [ ]
      late (Atom n) k r t l = elim t [ ]
      late (Tuple parts) k r t l = elim t [ ]
      late (Crypt text key) k r t l = elim t [ ]
      late (Apply f parts) k r t l = elim t [ ]
      late (Shape h) k r t l = elim t [ ]
      late (Part h i) k r t l = elim t [ ]
      late (Unlock h i) k r t l = elim t [ ]
      late (Same h i) k r t l = elim t [ ]
      late Space k r t l = elim t [ ]

      -- a say answers a handle
      say_answer : (m : Meaning) (r : ℕ) → ev ≡ say r → (x : Result ℕ RunFault) → answered ≡ said m x → e.reply ≡ reply_of replies.Handle x → T (is_taken e.reply)
          → (h : ℕ) × (v : Tree) × (e.reply ≡ replies.Handle h) × (m h ≡ Some v)
      say_answer m r q (Ok h) i y t =
          let z = say_valued cost st r a.shaped (as_option (m h)) (ap (λ w. (call cost st w).1) (sym q) ∙ i) in
          (h, z.0, y, of_some (m h) z.0 z.1)
        where
          of_some : (o : std.Option Tree) (v : Tree) → as_option o ≡ some v → o ≡ Some v
          of_some None v e = absurd (cc)
          of_some (Some w) v e = ap Some (some_inj e)
      say_answer m r q (Err f) i y t = elim (subst (λ w. T (is_taken w)) y t) [ ]

      say_there : (r : ℕ) → e.asked ≡ Say r → T (is_taken e.reply) → r < X.roles
      say_there r k t = go (ltb r X.roles) refl (answers (Say r) k)
        where
          go : (b : Bool) → ltb r X.roles ≡ b → cond b (SaidSo (M.means e.after) answered e.reply × Untouched e.before e.after e.reply) ((e.after ≡ e.before) × (e.reply ≡ replies.NoRole)) → r < X.roles
          go true i y = ltb-true r X.roles i
          go false i y = elim (subst (λ w. T (is_taken w)) y.1 t) [ ]

      pub decided : DecidedBy M X H e
      decided = record {
        hear_taken = λ r l h v k q m f.
            let z = hear_at r l h v k q m in
            let b : ¬ model.Refused 15 (call cost st (hear r (some v))).1 = λ x. f ((z.1.refuses 15).0 (subst⁻¹ (λ w. model.Refused 15 (call cost st w).1) z.0 x)) in
            let o = old.hear_taken r l v (turn_of_duty r (listen l) q) b in
            let i : model.Taken answered ↔ Readable (X.party r) (add (st.views r).holdings (message X l ∷ []) (v ∷ []) [] []) =
            subst⁻¹ (λ w. model.Taken (call cost st w).1 ↔ Readable (X.party r) (add (st.views r).holdings (message X l ∷ []) (v ∷ []) [] [])) z.0 o in
            let j = subst (λ w. model.Taken answered ↔ Readable (X.party r) (add w (message X l ∷ []) (v ∷ []) [] [])) (stock_same r) i in
            ((λ t. j.0 (z.1.takes.1 t)), λ t. z.1.takes.0 (j.1 t));
        hear_refused = λ r l h v k q m f.
            let z = hear_at r l h v k q m in
            either 14 15 z.1 (subst⁻¹ (λ w. model.Refused 14 (call cost st w).1 ⊎ model.Refused 15 (call cost st w).1) z.0
            (old.hear_refused r l v (turn_of_duty r (listen l) q) (λ t. f (z.1.takes.0 (subst⁻¹ (λ w. model.Taken (call cost st w).1) z.0 t)))));
        begin_taken = λ r hs numbers vs k q m c f.
            let z = begin_at r hs numbers vs k q m in
            let b : ¬ model.Refused 15 (call cost st (begin r (map some vs) (vec_items numbers))).1 = λ x. f ((z.1.refuses 15).0 (subst⁻¹ (λ w. model.Refused 15 (call cost st w).1) z.0 x)) in
            let o = old.begin_taken r vs (vec_items numbers) (turn_of_duty r (to_do (X.knows r)) q) (fits_at r (map some vs) (vec_items numbers) q m c) b in
            let i : model.Taken answered ↔ Readable (X.party r) (add nothing_held (given (X.party r) (X.knows r)) vs [] []) =
            subst⁻¹ (λ w. model.Taken (call cost st w).1 ↔ Readable (X.party r) (add nothing_held (given (X.party r) (X.knows r)) vs [] [])) z.0 o in
            let j = subst (λ w. model.Taken answered ↔ Readable (X.party r) (add nothing_held w vs [] [])) (given_once (X.party r) (X.knows r)) i in
            ((λ t. j.0 (z.1.takes.1 t)), λ t. z.1.takes.0 (j.1 t));
        begin_refused = λ r hs numbers vs k q m c f.
            let z = begin_at r hs numbers vs k q m in
            either 14 15 z.1 (subst⁻¹ (λ w. model.Refused 14 (call cost st w).1 ⊎ model.Refused 15 (call cost st w).1) z.0
            (old.begin_refused r vs (vec_items numbers) (turn_of_duty r (to_do (X.knows r)) q) (fits_at r (map some vs) (vec_items numbers) q m c)
            (λ t. f (z.1.takes.0 (subst⁻¹ (λ w. model.Taken (call cost st w).1) z.0 t)))));
        say_refused = λ r l mk k q f.
            let z = say_is r k (duty_role r (speak l mk) q) in
            (z.1.refuses 15).0 (subst⁻¹ (λ w. model.Refused 15 (call cost st w).1) z.0
            (old.say_refused r l (turn_of_duty r (speak l mk) q) (λ t. f (z.1.takes.0 (subst⁻¹ (λ w. model.Taken (call cost st w).1) z.0 t)))));
        say_answers = λ r k t.
            let l = say_there r k t in
            let z = say_is r k l in
            let y = there (ltb r X.roles) (lt-ltb r X.roles l) (SaidSo (M.means e.after) answered e.reply) (answers (Say r) k) in
            say_answer (M.means e.after) r z.0 y.0 y.1 y.2 t;
        out_of_turn = λ r t l. late e.asked refl r t l;
        wrong_counts = λ r hs numbers k q.
            let z = begin_is r hs numbers k (duty_role r (to_do (X.knows r)) q) in (
              (λ x c.
                  let w : WrongCounts st (begin r (values_in M.means e) (vec_items numbers)) = subst (WrongCounts st) z.0 (refusals.thirteen.0 ((z.1.refuses 13).1 x)) in
                  w.1 (fits r (values_in M.means e) (vec_items numbers) q c)),
              λ n. (z.1.refuses 13).0 (refusals.thirteen.1 (subst⁻¹ (WrongCounts st) z.0
                  (turn_of_duty r (to_do (X.knows r)) q, λ t. n (fitting r (values_in M.means e) (vec_items numbers) q t)))),
            );
        hear_invalid = λ r l h k q m.
            let z = hear_is r h k (duty_role r (listen l) q) in
            let i : (call cost st (hear r nothing)).1 ≡ declined 12 (st.views r).done = old.hear_invalid r l (turn_of_duty r (listen l) q) in
            (z.1.refuses 12).0 (subst⁻¹ (model.Refused 12) (ap (λ w. (call cost st w).1) (z.0 ∙ ap (λ o. hear r (as_option o)) m) ∙ i) refl);
        begin_invalid = λ r hs numbers vs rest k q m c.
            let z = begin_is r hs numbers k (duty_role r (to_do (X.knows r)) q) in
            let i = old.begin_invalid r vs rest (vec_items numbers) (turn_of_duty r (to_do (X.knows r)) q) (fits_at r (map some vs ++ (nothing ∷ rest)) (vec_items numbers) q m c) in
            (z.1.refuses 12).0 (subst⁻¹ (model.Refused 12) (ap (λ w. (call cost st w).1) (z.0 ∙ ap (λ o. begin r o (vec_items numbers)) m) ∙ i) refl);
      }
