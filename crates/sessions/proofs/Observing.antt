-- What was observed of runs tells how the model's session stands, step by step.
use Rattle.std.proofs.Common.{◌≡◌, ℕ, Bool, true, false, cond, ◌&&◌, T, eqb, ltb, leb, ◌-◌, ◌⊎◌, ◌↔◌, List, [], ◌∷◌, ◌++◌, length, drop, Ok, Err, Result, sym, refl, ap, ◌∙◌, subst, inl, inr, arith, vec_items, get_or, ◌<◌}
use Rattle.std.proofs.lemmas.Bool.{lt-ltb}
use mathlib.Core.Option.{Option, none as nothing, some}
use mathlib.Core.Path.{subst⁻¹}
use Rattle.model.specs.Lists.{Every}
use Rattle.model.specs.Trees.{tupled, crypted, applied, Tree, leaf}
use Rattle.model.specs.Runs.{answer}
use Rattle.model.specs.Specifications.{Specification, Duty, begin as to_do, speak, listen, own, duties}
use Rattle.model.specs.Programs.{nobody_yet, Turn, begins, says_line, hears_line, Stage, turn_of, Accepted, program}
use Rattle.model.specs.Sessions as model
use Rattle.model.specs.Sessions.{State, Event, begin, say, hear, build, other, Answer, taken, declined, outside, only, to_begin, to_say, to_hear, valid, told, call}
use Rattle.model.specs.SessionLaw.{Taken}
use Rattle.model.proofs.Machine.{eqb_iff}
use Rattle.model.proofs.Duties.{IsLine, own_lines}
use Rattle.model.proofs.Attends.{AllAttend, new_attend}
use Rattle.model.proofs.Attending.{call_attends}
use Rattle.model.proofs.Coming.{only_first}
use Rattle.model.proofs.Answering.{decides}
use Rattle.store.specs.declared.fault.StoreFault.{StoreFault}
use Rattle.store.specs.Makers.{wanted}
use Rattle.store.specs.Semantics.{Semantics}
use Rattle.run.specs.declared.run.Run.{Run}
use Rattle.run.specs.Called.{said, Shows}
use Rattle.run.specs.Plain.{new_plain}
use Rattle.run.specs.Shown.{Meaning, Small, as_option}
use Rattle.run.specs.declared.fault.RunFault.{RunFault}
use Rattle.sessions.specs.declared.reply.Reply.{Reply}
use Rattle.sessions.specs.declared.reply.Reply.TheVariants as replies
use Rattle.sessions.specs.declared.request.Request.{Request}
use Rattle.sessions.specs.declared.request.Request.TheVariants.{Begin, Say, Hear, Register, Atom, Tuple, Crypt, Apply, Shape, Part, Unlock, Same, Space}
use Rattle.sessions.specs.Starting.{Begins}
use Rattle.sessions.specs.Happening.{Did}
use Rattle.sessions.specs.Observed.{Step, calls, taken as is_taken, taken_by, numbers_in, values_at, values_in, value_said, line_said, said_in}
use Rattle.sessions.specs.Plays.{Playing, plays_of, play, no_run}
use Rattle.sessions.specs.Replies.{reply_of, Does}
use Rattle.sessions.proofs.Events.{Replies, Took, Told as SaidSo, Untouched}
use Rattle.sessions.specs.Requests.{handle_in, handle_of, handles_of}
use Rattle.sessions.proofs.Events.{of_maker, event_of}
use Rattle.sessions.proofs.Standing.{Stands, Moves}
use Rattle.sessions.proofs.Doing.{does_moves}
use Rattle.sessions.proofs.Advancing.{Advances, Stays, begin_turns, say_turns, hear_turns}
use Rattle.sessions.proofs.Places.{Place}
use Rattle.sessions.proofs.PlainLaw.{plain_law}
use Rattle.sessions.proofs.Playing.{AllShaped, play_same, call_shaped}
use Rattle.sessions.proofs.Shaped.{program_shaped}
use Rattle.sessions.proofs.Replying.{Tells, took_tells, told_tells}
use Rattle.sessions.proofs.Telling.{Told, told_new, told_on, here}

-- a taken call more
module _ {S : Type 0} where
  pub taken_more : (r : ℕ) (H : List (Step S)) (e : Step S) → taken_by r (H ++ (e ∷ [])) ≡ cond (calls r e.asked && is_taken e.reply) (taken_by r H ++ (e ∷ [])) (taken_by r H)
  taken_more r [] e = go (calls r e.asked && is_taken e.reply)
    where
      go : (b : Bool) → cond b (e ∷ []) [] ≡ cond b ([] ++ (e ∷ [])) []
      go true = refl
      go false = refl
  taken_more r (x ∷ H) e =
      ap (λ l. cond (calls r x.asked && is_taken x.reply) (x ∷ l) l) (taken_more r H e)
      ∙ go (calls r x.asked && is_taken x.reply) (calls r e.asked && is_taken e.reply)
    where
      L : List (Step S)
      L = taken_by r H

      go : (a b : Bool) → cond a (x ∷ cond b (taken_by r H ++ (e ∷ [])) (taken_by r H)) (cond b (taken_by r H ++ (e ∷ [])) (taken_by r H))
          ≡ cond b (cond a (x ∷ taken_by r H) (taken_by r H) ++ (e ∷ [])) (cond a (x ∷ taken_by r H) (taken_by r H))
      go true true = refl
      go true false = refl
      go false true = refl
      go false false = refl

begin_not_say : (t : Turn) → T (to_begin t) → T (to_say t) → ⊥
begin_not_say begins b s = elim s [ ]
begin_not_say (says_line l) b s = elim b [ ]
begin_not_say (hears_line l) b s = elim b [ ]

hear_not_say : (t : Turn) → T (to_hear t) → T (to_say t) → ⊥
hear_not_say begins b s = elim b [ ]
hear_not_say (says_line l) b s = elim b [ ]
hear_not_say (hears_line l) b s = elim s [ ]

-- what was said in a line
told_line : (l : ℕ) (o : Option Tree) → told (says_line l) o ≡ line_said l o
told_line l nothing = refl
told_line l (some v) = refl

module _ {S : Type 0} (means : S → Meaning) (X : Specification) where
  said_at : (d : Duty) (o : Option Tree) (e : Step S) → (T (to_say (turn_of d)) → o ≡ value_said means e) → told (turn_of d) o ≡ said_in means X d e
  said_at (to_do ts) o e h = refl
  said_at (speak l mk) o e h = told_line l o ∙ ap (line_said l) (h tt)
  said_at (listen l) o e h = refl

-- only the first duty is to begin
pub no_duty : {d : Duty} {ds : List Duty} → [] ≡ d ∷ ds → ⊥
no_duty e = let z : ◌≡◌ {A = ℕ} 0 1 = cc in omega arith

first_duty : {x d : Duty} {ds later : List Duty} → x ∷ ds ≡ d ∷ later → x ≡ d
first_duty e = cc

pub drop_lines : {C : Type 0} (n : List C) (ds : List Duty) → Every IsLine ds → (d : Duty) (later : List Duty) → drop (length n) ds ≡ d ∷ later → IsLine d
drop_lines [] [] i d later e = absurd (no_duty e)
drop_lines [] (x ∷ ds) i d later e = subst IsLine (first_duty e) i.0
drop_lines (k ∷ n) [] i d later e = absurd (no_duty e)
drop_lines (k ∷ n) (x ∷ ds) i d later e = drop_lines n ds i.1 d later e

line_waits : (d : Duty) → IsLine d → T (to_begin (turn_of d)) → ⊥
line_waits (to_do ts) i t = elim i [ ]
line_waits (speak l mk) i t = elim t [ ]
line_waits (listen l) i t = elim t [ ]

pub begins_first : (X : Specification) (r : ℕ) {C : Type 0} (cs : List C) (d : Duty) (later : List Duty) → drop (length cs) (duties X r) ≡ d ∷ later → T (to_begin (turn_of d)) → cs ≡ []
begins_first X r [] d later e t = refl
begins_first X r (c ∷ cs) d later e t = absurd (go (ltb r X.roles) e)
  where
    go : (b : Bool) → drop (length (c ∷ cs)) (cond b (to_do (X.knows r) ∷ own X r) []) ≡ d ∷ later → ⊥
    go true q = line_waits d (drop_lines cs (own X r) (own_lines X r 1 X.lines) d later q) t
    go false q = no_duty q

t_true : (b : Bool) → T b → b ≡ true
t_true true t = refl
t_true false t = elim t [ ]

t_false : (b : Bool) → (T b → ⊥) → b ≡ false
t_false true t = absurd (t tt)
t_false false t = refl

taken_same : {o p : Option Tree} → taken o ≡ taken p → o ≡ p
taken_same e = cc

-- a say that was taken answered the value that it said
say_value : (m : Meaning) (o : Option Tree) (x : Result ℕ RunFault) (r : Reply) → taken o ≡ said m x → r ≡ reply_of replies.Handle x → o ≡ as_option (m (handle_in r))
say_value m o (Ok h) r e q = taken_same e ∙ ap (λ z. as_option (m (handle_in z))) (sym q)
say_value m o (Err f) r e q = absurd (cc)

module _ {S : Type 0} (M : Semantics S) (cost : Tree → ℕ) (small : (s : S) → Small (M.means s)) (X : Specification) (acc : Accepted X) where
  -- the event that a step was to the model
  abbrev pub event : Step S → Event
  event e = event_of X.roles (M.means e.before) e.earlier e.asked

  -- the runs stand as the model's, and what was observed tells how
  pub record At (H : List (Step S)) (s : S) (runs : List Run) (st : State) : Type 0 where
    pub many : length runs ≡ X.roles
    pub priced : M.cost s ≡ cost
    pub stands : Stands (M.means s) (M.space s) runs (plays_of st)
    pub attend : AllAttend X st
    pub shaped : AllShaped st
    pub tells : (r : ℕ) → Told M.means X r (taken_by r H) (st.views r)

  -- new runs stand as the model's
  new_stand : (s : S) (runs : List Run) → Begins X runs → (k : ℕ) (run : Run) → k < length runs → Shows (M.means s) (get_or runs k run) ((plays_of (model.new_runs X (M.space s))).runs k)
  new_stand s runs b k run l =
      subst (λ (p : Playing). Shows (M.means s) (get_or runs k run) (p.runs k)) (plain_law X acc (λ t. 1) (M.space s) []).state
      (subst⁻¹ (λ b. Shows (M.means s) (get_or runs k run) (cond b (new_plain (program X k)) no_run)) (lt-ltb k X.roles (subst (λ n. k < n) b.many l)) (b.fresh (M.means s) k run l))

  pub at_start : (s : S) (runs : List Run) → M.cost s ≡ cost → Begins X runs → At [] s runs (model.new_runs X (M.space s))
  at_start s runs e b = record {
    many = b.many;
    priced = e;
    stands = record { space = refl; each = new_stand s runs b };
    attend = new_attend X acc (M.space s);
    shaped = λ r. (0, program_shaped X acc r);
    tells = λ r. told_new M.means X r;
  }

  module _ (H : List (Step S)) (s : S) (runs : List Run) (st : State) (a : At H s runs st) (e : Step S) (d : Did M s runs e) where
    stands_here : Stands (M.means e.before) (M.space e.before) runs (plays_of st)
    stands_here = subst⁻¹ (λ z. Stands (M.means z) (M.space z) runs (plays_of st)) d.before a.stands

    moves : Moves M e.before e.after runs e.runs_after (event_of (length runs) (M.means e.before) e.earlier e.asked)
        (λ memories answer. Replies M (length runs) memories answer e.earlier e.before e.after e.asked e.reply)
    moves = does_moves M small e.before e.after runs e.runs_after e.earlier e.reply e.asked (subst (λ l. Does M e.before e.after l e.runs_after e.earlier e.asked e.reply) d.runs_before d.does)

    priced_here : M.cost e.before ≡ cost
    priced_here = ap M.cost d.before ∙ a.priced

    abbrev after : State × Answer
    after = call cost st (event e)

    pub same : play cost (plays_of st) (event e) ≡ (plays_of after.0, after.1)
    same = play_same cost st a.shaped (event e) ((decides X cost st a.attend).numbered (event e))

    stands_then : Stands (M.means e.after) (M.space e.after) e.runs_after (plays_of after.0)
    stands_then = subst (λ (x : Playing × Answer). Stands (M.means e.after) (M.space e.after) e.runs_after x.0) same
        (subst (λ n. Stands (M.means e.after) (M.space e.after) e.runs_after (play cost (plays_of st) (event_of n (M.means e.before) e.earlier e.asked)).0) a.many
        (subst (λ c. Stands (M.means e.after) (M.space e.after) e.runs_after (play c (plays_of st) (event_of (length runs) (M.means e.before) e.earlier e.asked)).0) priced_here (moves.stands (plays_of st) stands_here)))

    -- what was replied
    abbrev Answers : Request → Type 0
    Answers q = Replies M X.roles (λ k. (st.views k).memory) after.1 e.earlier e.before e.after q e.reply

    pub replied : Answers e.asked
    replied =
        subst (λ (x : Playing × Answer). Replies M X.roles (λ k. (st.views k).memory) x.1 e.earlier e.before e.after e.asked e.reply) same
        (subst (λ n. Replies M n (λ k. (st.views k).memory) (play cost (plays_of st) (event_of n (M.means e.before) e.earlier e.asked)).1 e.earlier e.before e.after e.asked e.reply) a.many
        (subst (λ c. Replies M (length runs) (λ k. (st.views k).memory) (play c (plays_of st) (event_of (length runs) (M.means e.before) e.earlier e.asked)).1 e.earlier e.before e.after e.asked e.reply) priced_here
        (moves.replied (plays_of st) stands_here)))

    -- a call of one role was taken, or no run moved
    record Moved (p : ℕ) : Type 0 where
      turn : Turn → Bool
      vs : List Tree
      ns : List ℕ
      advances : Advances cost st p turn vs ns after
      values : valid (values_in M.means e) ≡ vs
      numbers : ((ns ≡ (st.views p).numbers) × (numbers_in e.asked ≡ [])) ⊎ ((taken_by p H ≡ []) × (ns ≡ numbers_in e.asked))
      says : (d : Duty) → turn_of d ≡ advances.stage.turn → told advances.stage.turn (answer advances.stage.actions advances.machine.mem) ≡ said_in M.means X d e
      taken : is_taken e.reply ≡ true

    abbrev Told_then : (ℕ → model.View) → Type 0
    Told_then views = (r : ℕ) → Told M.means X r (taken_by r (H ++ (e ∷ []))) (views r)

    still : (r : ℕ) (b : Bool) → (calls r e.asked && is_taken e.reply) ≡ b → b ≡ false → Told M.means X r (taken_by r (H ++ (e ∷ []))) (st.views r)
    still r true p q = absurd (cc)
    still r false p q = subst⁻¹ (λ l. Told M.means X r l (st.views r)) (taken_more r H e ∙ ap (λ b. cond b (taken_by r H ++ (e ∷ [])) (taken_by r H)) p) (a.tells r)

    and_none : (b c : Bool) → c ≡ false → (b && c) ≡ false
    and_none true c q = q
    and_none false c q = refl

    -- no run moved
    unmoved : after.0.views ≡ st.views → ((r : ℕ) → (calls r e.asked && is_taken e.reply) ≡ false) → Told_then after.0.views
    unmoved v f r = subst⁻¹ (λ views. Told M.means X r (taken_by r (H ++ (e ∷ []))) (views r)) v (still r (calls r e.asked && is_taken e.reply) refl (f r))

    -- one did
    moved : (p : ℕ) → ((r : ℕ) → calls r e.asked ≡ eqb r p) → Moved p → Told_then after.0.views
    moved p c m r = subst⁻¹ (λ views. Told M.means X r (taken_by r (H ++ (e ∷ []))) (views r)) m.advances.views (go (eqb p r) (eqb_iff p r) (eqb r p) (eqb_iff r p) refl)
      where
        v : model.View
        v = st.views p

        go : (b : Bool) → (T b ↔ (p ≡ r)) → (b' : Bool) → (T b' ↔ (r ≡ p)) → eqb r p ≡ b'
            → Told M.means X r (taken_by r (H ++ (e ∷ []))) (cond b (model.went_on (st.views p) m.advances.stage m.vs m.ns m.advances.machine) (st.views r))
        go true i true j q =
            subst⁻¹ (λ l. Told M.means X r l (model.went_on (st.views p) m.advances.stage m.vs m.ns m.advances.machine))
            (taken_more r H e ∙ ap (λ b. cond (b && is_taken e.reply) (taken_by r H ++ (e ∷ [])) (taken_by r H)) (c r ∙ q) ∙ ap (λ b. cond b (taken_by r H ++ (e ∷ [])) (taken_by r H)) m.taken)
            (subst (λ k. Told M.means X k (taken_by k H ++ (e ∷ [])) (model.went_on (st.views p) m.advances.stage m.vs m.ns m.advances.machine)) (i.0 tt)
            (told_on M.means X p acc cost st (a.attend p) m.turn m.vs m.ns after m.advances (taken_by p H) (a.tells p) e m.values m.numbers m.says))
        go true i false j q = absurd (j.1 (sym (i.0 tt)))
        go false i true j q = absurd (i.1 (sym (j.0 tt)))
        go false i false j q = still r (calls r e.asked && is_taken e.reply) refl (ap (λ b. b && is_taken e.reply) (c r ∙ q))

    build_views : (v : Tree) → (call cost st (build v)).0.views ≡ st.views
    build_views v = go (leb (cost v) st.space)
      where
        go : (b : Bool) → (cond {A = State × Answer} b (record { space = st.space - cost v; views = st.views }, taken nothing) (st, declined 15 0)).0.views ≡ st.views
        go true = refl
        go false = refl

    maker_views : (w : Result Tree StoreFault) → (call cost st (of_maker w)).0.views ≡ st.views
    maker_views (Ok v) = build_views v
    maker_views (Err f) = refl

    -- a request that calls no run
    outside_runs : (q : Request) → e.asked ≡ q → (call cost st (event_of X.roles (M.means e.before) e.earlier q)).0.views ≡ st.views → ((r : ℕ) → calls r q ≡ false) → Told_then after.0.views
    outside_runs q k v f = unmoved (ap (λ x. (call cost st (event_of X.roles (M.means e.before) e.earlier x)).0.views) k ∙ v) (λ r. ap (λ b. b && is_taken e.reply) (ap (calls r) k ∙ f r))

    no_role : event e ≡ other → e.reply ≡ replies.NoRole → Told_then after.0.views
    no_role v y = unmoved (ap (λ x. (call cost st x).0.views) v) (λ r. and_none (calls r e.asked) (is_taken e.reply) (ap is_taken y))

    stays : (p : ℕ) → Stays cost st p after → Tells after.1 e.reply → Told_then after.0.views
    stays p z t = unmoved z.views (λ r. and_none (calls r e.asked) (is_taken e.reply) (t_false (is_taken e.reply) (λ h. subst Taken z.answered (t.takes.1 h))))

    -- whose turn it was
    at_turn : (p : ℕ) (turn : Turn → Bool) (vs : List Tree) (ns : List ℕ) (z : Advances cost st p turn vs ns after) → T (turn z.stage.turn)
    at_turn p turn vs ns z = (only_first turn (st.views p).ahead z.stage z.first).2

    goes : (p : ℕ) (turn : Turn → Bool) (vs : List Tree) (ns : List ℕ) (z : Advances cost st p turn vs ns after) → Tells after.1 e.reply → is_taken e.reply ≡ true
    goes p turn vs ns z t = t_true (is_taken e.reply) (t.takes.0 (subst⁻¹ Taken z.answered tt))

    says_nothing : (turn : Turn → Bool) → ((t : Turn) → T (turn t) → T (to_say t) → ⊥) → (p : ℕ) (vs : List Tree) (ns : List ℕ) (z : Advances cost st p turn vs ns after)
        → (d : Duty) → turn_of d ≡ z.stage.turn → told z.stage.turn (answer z.stage.actions z.machine.mem) ≡ said_in M.means X d e
    says_nothing turn f p vs ns z d q =
        subst (λ t. told t (answer z.stage.actions z.machine.mem) ≡ said_in M.means X d e) q
        (said_at M.means X d (answer z.stage.actions z.machine.mem) e (λ h. absurd (f (turn_of d) (subst⁻¹ (λ t. T (turn t)) q (at_turn p turn vs ns z)) h)))

    begin_told : (p : ℕ) (hs : List (Option Tree)) (ns : List ℕ) → ((r : ℕ) → calls r e.asked ≡ eqb r p) → valid (values_in M.means e) ≡ valid hs → ns ≡ numbers_in e.asked
        → event e ≡ begin p hs ns → Tells after.1 e.reply → Told_then after.0.views
    begin_told p hs ns c values numbers v t =
        go (subst⁻¹ (λ x. (Advances cost st p to_begin (valid hs) ns (call cost st x) × T (model.counts_right (st.views p).ahead hs ns)) ⊎ Stays cost st p (call cost st x)) v (begin_turns cost st p hs ns))
      where
        go : (Advances cost st p to_begin (valid hs) ns after × T (model.counts_right (st.views p).ahead hs ns)) ⊎ Stays cost st p after → Told_then after.0.views
        go (inr z) = stays p z t
        go (inl (z, counts)) = moved p c (record {
          turn = to_begin;
          vs = valid hs;
          ns = ns;
          advances = z;
          values = values;
          numbers = inr (
            begins_first X p (taken_by p H) place.duty place.later place.here (subst (λ x. T (to_begin x)) (ap (λ (w : Stage). w.turn) place.is) (at_turn p to_begin (valid hs) ns z)),
            numbers,
          );
          says = says_nothing to_begin begin_not_say p (valid hs) ns z;
          taken = goes p to_begin (valid hs) ns z t;
        })
          where
            place : Place X (X.party p) nobody_yet (duties X p) (length (taken_by p H)) z.stage
            place = here M.means X p acc cost st (a.attend p) to_begin (valid hs) ns after z (taken_by p H) (a.tells p) e

    hear_told : (p : ℕ) (h : Option Tree) → ((r : ℕ) → calls r e.asked ≡ eqb r p) → valid (values_in M.means e) ≡ valid (h ∷ []) → numbers_in e.asked ≡ []
        → event e ≡ hear p h → Tells after.1 e.reply → Told_then after.0.views
    hear_told p h c values numbers v t =
        go (subst⁻¹ (λ x. Advances cost st p to_hear (valid (h ∷ [])) (st.views p).numbers (call cost st x) ⊎ Stays cost st p (call cost st x)) v (hear_turns cost st p h))
      where
        go : Advances cost st p to_hear (valid (h ∷ [])) (st.views p).numbers after ⊎ Stays cost st p after → Told_then after.0.views
        go (inr z) = stays p z t
        go (inl z) = moved p c (record {
          turn = to_hear;
          vs = valid (h ∷ []);
          ns = (st.views p).numbers;
          advances = z;
          values = values;
          numbers = inl (refl, numbers);
          says = says_nothing to_hear hear_not_say p (valid (h ∷ [])) (st.views p).numbers z;
          taken = goes p to_hear (valid (h ∷ [])) (st.views p).numbers z t;
        })

    say_told : (p : ℕ) → ((r : ℕ) → calls r e.asked ≡ eqb r p) → valid (values_in M.means e) ≡ [] → numbers_in e.asked ≡ []
        → event e ≡ say p → SaidSo (M.means e.after) after.1 e.reply → Told_then after.0.views
    say_told p c values numbers v y =
        go (subst⁻¹ (λ x. Advances cost st p to_say [] (st.views p).numbers (call cost st x) ⊎ Stays cost st p (call cost st x)) v (say_turns cost st p))
      where
        t : Tells after.1 e.reply
        t = told_tells (M.means e.after) after.1 e.reply y

        go : Advances cost st p to_say [] (st.views p).numbers after ⊎ Stays cost st p after → Told_then after.0.views
        go (inr z) = stays p z t
        go (inl z) = moved p c (record {
          turn = to_say;
          vs = [];
          ns = (st.views p).numbers;
          advances = z;
          values = values;
          numbers = inl (refl, numbers);
          says = λ d q.
              subst (λ t. told t (answer z.stage.actions z.machine.mem) ≡ said_in M.means X d e) q
              (said_at M.means X d (answer z.stage.actions z.machine.mem) e (λ h. say_value (M.means e.after) (answer z.stage.actions z.machine.mem) y.0 e.reply (sym z.answered ∙ y.1) y.2));
          taken = goes p to_say [] (st.views p).numbers z t;
        })

    tells_then : (q : Request) → e.asked ≡ q → Answers q → Told_then after.0.views
    tells_then (Begin p given numbers) k y = go (ltb p X.roles) (ap (λ x. event_of X.roles (M.means e.before) e.earlier x) k) y
      where
        go : (b : Bool) → event e ≡ cond b (begin p (values_at (M.means e.before) e.earlier (Begin p given numbers)) (vec_items numbers)) other
            → cond b (Took after.1 e.reply × Untouched e.before e.after e.reply) ((e.after ≡ e.before) × (e.reply ≡ replies.NoRole)) → Told_then after.0.views
        go true v z = begin_told p (values_at (M.means e.before) e.earlier (Begin p given numbers)) (vec_items numbers) (λ r. ap (calls r) k)
            (ap (λ x. valid (values_at (M.means e.before) e.earlier x)) k) (sym (ap numbers_in k)) v (took_tells after.1 e.reply z.0)
        go false v z = no_role v z.1
    tells_then (Say p) k y = go (ltb p X.roles) (ap (λ x. event_of X.roles (M.means e.before) e.earlier x) k) y
      where
        go : (b : Bool) → event e ≡ cond b (say p) other
            → cond b (SaidSo (M.means e.after) after.1 e.reply × Untouched e.before e.after e.reply) ((e.after ≡ e.before) × (e.reply ≡ replies.NoRole)) → Told_then after.0.views
        go true v z = say_told p (λ r. ap (calls r) k) (ap (λ x. valid (values_at (M.means e.before) e.earlier x)) k) (ap numbers_in k) v z.0
        go false v z = no_role v z.1
    tells_then (Hear p h) k y = go (ltb p X.roles) (ap (λ x. event_of X.roles (M.means e.before) e.earlier x) k) y
      where
        go : (b : Bool) → event e ≡ cond b (hear p (as_option (M.means e.before (handle_of e.earlier h)))) other
            → cond b (Took after.1 e.reply × Untouched e.before e.after e.reply) ((e.after ≡ e.before) × (e.reply ≡ replies.NoRole)) → Told_then after.0.views
        go true v z = hear_told p (as_option (M.means e.before (handle_of e.earlier h))) (λ r. ap (calls r) k)
            (ap (λ x. valid (values_at (M.means e.before) e.earlier x)) k) (ap numbers_in k) v (took_tells after.1 e.reply z.0)
        go false v z = no_role v z.1
    tells_then (Register r n) k y = outside_runs (Register r n) k refl (λ r. refl)
    tells_then (Atom n) k y = outside_runs (Atom n) k (build_views (leaf n)) (λ r. refl)
    tells_then (Tuple parts) k y = outside_runs (Tuple parts) k (maker_views (wanted (M.means e.before) tupled (handles_of e.earlier (vec_items parts)))) (λ r. refl)
    tells_then (Crypt text key) k y = outside_runs (Crypt text key) k (maker_views (wanted (M.means e.before) crypted (handle_of e.earlier text ∷ handle_of e.earlier key ∷ []))) (λ r. refl)
    tells_then (Apply f parts) k y = outside_runs (Apply f parts) k (maker_views (wanted (M.means e.before) (applied f) (handles_of e.earlier (vec_items parts)))) (λ r. refl)
    tells_then (Shape h) k y = outside_runs (Shape h) k refl (λ r. refl)
    tells_then (Part h i) k y = outside_runs (Part h i) k refl (λ r. refl)
    tells_then (Unlock h i) k y = outside_runs (Unlock h i) k refl (λ r. refl)
    tells_then (Same h i) k y = outside_runs (Same h i) k refl (λ r. refl)
    tells_then Space k y = outside_runs Space k refl (λ r. refl)

    pub at_next : At (H ++ (e ∷ [])) e.after e.runs_after after.0
    at_next = record {
      many = moves.many ∙ a.many;
      priced = moves.priced ∙ priced_here;
      stands = stands_then;
      attend = call_attends X cost st (event e) a.attend;
      shaped = call_shaped cost st a.shaped (event e);
      tells = tells_then e.asked refl replied;
    }
