-- One call of a plain run, beside the model's call of that role.
use Rattle.std.proofs.Common.{◌≡◌, ℕ, suc, ◌+◌, ◌≤◌, Bool, true, false, cond, not, ◌&&◌, eqb, List, [], ◌∷◌, map, length, drop, sym, refl, ap, ◌∙◌, subst, arith}
use Rattle.std.proofs.lemmas.Bool.{eq-eqb}
use mathlib.Core.Option.{Option, none as nothing, some}
use mathlib.Core.Path.{subst⁻¹}
use Rattle.model.specs.Trees.{Tree}
use Rattle.model.specs.Roles.{Act}
use Rattle.model.specs.Runs.{Fault, mismatch, full, invalid, broken, Machine, Outcome, ended, stopped, attempt, answer}
use Rattle.model.specs.Programs.{Turn, begins, says_line, hears_line, Stage, line_of, rows_of}
use Rattle.model.specs.Sessions as model
use Rattle.model.specs.Sessions.{View, State, Event, Answer, taken, declined, number_of, only, rest_of_stages, to_begin, to_say, to_hear, begins_next, valid, gives, news, first_actions, machine_for, counts_right, handled}
use Rattle.model.specs.SessionLaw.{Numbered}
use Rattle.run.specs.Plain as plain
use Rattle.run.specs.Plain.{Plain, of_line, line_ahead, line_turn, turn_now, line_now, counts_fit, fault_number, After, called, call}
use Rattle.sessions.specs.Plays.{plain_of}
use Rattle.sessions.proofs.Shaped.{Opens, Shaped}
use Rattle.sessions.proofs.Rows.{first_line, drop_line, rows_actions, next_line}

-- no later stage begins
later_begins : (l : ℕ) (xs : List Stage) → Shaped (suc l) xs → begins_next xs ≡ false
later_begins l [] s = refl
later_begins l (st ∷ rest) s = go st.turn s.0
  where
    go : (t : Turn) → suc l ≤ line_of t → to_begin t ≡ false
    go begins h = absurd (omega arith)
    go (says_line k) h = refl
    go (hears_line k) h = refl

-- whose turn it is, by the stages
abbrev turn_in : Turn → plain.Turn
turn_in begins = plain.begins
turn_in (says_line l) = plain.says
turn_in (hears_line l) = plain.hears

abbrev pub turn_for : List Stage → plain.Turn
turn_for [] = plain.nobody
turn_for (st ∷ rest) = turn_in st.turn

-- the rows tell the same turn as the stages, and the same actions
pub turn_same : (l : ℕ) (xs : List Stage) → Shaped l xs
    → (cond (not (begins_next xs)) (line_turn (rows_of xs)) plain.begins ≡ turn_for xs)
    × (cond (not (begins_next xs)) (line_ahead (rows_of xs)) (of_line 0 (rows_of xs)) ≡ first_actions xs)
turn_same l [] s = (refl, refl)
turn_same l (st ∷ rest) s = go st.turn refl s.1
  where
    rows : List (ℕ × Act)
    rows = rows_of (st ∷ rest)

    go : (t : Turn) → st.turn ≡ t → Opens t st.actions
        → (cond (not (to_begin t)) (line_turn rows) plain.begins ≡ turn_in t)
        × (cond (not (to_begin t)) (line_ahead rows) (of_line 0 rows) ≡ st.actions)
    go begins e o = (refl, subst (λ t. of_line (line_of t) rows ≡ st.actions) e (first_line l st rest s))
    go (says_line k) e o = next_line false l st rest s o.0
    go (hears_line k) e o = next_line true l st rest s o

-- a fault that the model numbers from 11 on has that number here
number_same : (f : Fault) (k : ℕ) → Numbered (declined (number_of f) k) → fault_number f ≡ number_of f
number_same mismatch k h = refl
number_same full k h = refl
number_same invalid k h = refl
number_same broken k h = let p = h.0 in absurd (omega arith)

-- what a call of the model leaves of one role, and its answer
abbrev pub seen : ℕ → State × Answer → After
seen r x = record { run = plain_of (x.0.views r); space = x.0.space; reply = x.1 }

module _ (c : Tree → ℕ) (s : State) (r l : ℕ) (shaped : Shaped l (s.views r).ahead) where
  abbrev v : View
  v = s.views r

  abbrev w : Plain
  w = plain_of v

  -- a stage that is tried
  tried_same : (st : Stage) (rest : List Stage) → v.ahead ≡ st ∷ rest → (vs : List Tree) (ns : List ℕ) → Numbered (model.tried c r st vs ns s).1
      → plain.tried c w s.space vs ns ≡ seen r (model.tried c r st vs ns s)
  tried_same st rest e vs ns n =
      ap (λ xs. plain.concluded w xs (attempt c xs v.done M)) line_is ∙ go (attempt c st.actions v.done M) n
    where
      M : Machine
      M = machine_for r vs ns s

      line_is : line_now w ≡ st.actions
      line_is = (turn_same l v.ahead shaped).1 ∙ ap first_actions e

      later : begins_next (rest_of_stages v.ahead) ≡ false
      later =
          ap (λ xs. begins_next (rest_of_stages xs)) e
          ∙ later_begins (line_of st.turn) rest (subst (Shaped l) e shaped).2

      left : drop (length st.actions) (rows_of v.ahead) ≡ rows_of (rest_of_stages v.ahead)
      left = subst⁻¹ (λ xs. drop (length st.actions) (rows_of xs) ≡ rows_of (rest_of_stages xs)) e (drop_line st rest)

      moved : (N : Machine) → Plain
      moved N = plain_of (model.went_on v st vs ns N)

      go : (o : Outcome) → Numbered (model.concluded r st vs ns s o).1 → plain.concluded w st.actions o ≡ seen r (model.concluded r st vs ns s o)
      go (ended N) h =
          ap (λ b. record {
            run = record { begun = b; done = v.done + length st.actions; ahead = drop (length st.actions) (rows_of v.ahead); memory = N.mem; numbers = N.numbers };
            space = N.space;
            reply = taken (answer st.actions N.mem);
          }) (sym (ap not later))
          ∙ ap (λ xs. record {
            run = record { begun = not (begins_next (rest_of_stages v.ahead)); done = v.done + length st.actions; ahead = xs; memory = N.mem; numbers = N.numbers };
            space = N.space;
            reply = taken (answer st.actions N.mem);
          }) left
          ∙ ap (λ b. record { run = plain_of (cond b (model.went_on v st vs ns N) v); space = N.space; reply = taken (answer st.actions N.mem) })
          (sym (eq-eqb r r refl))
      go (stopped f k m) h = ap (λ x. record { run = w; space = m; reply = declined x k }) (number_same f k h)

  -- what a call does is told by whose turn it is
  by_turn : (e : plain.Call) → call c w s.space e ≡ called c w s.space (turn_for v.ahead) e
  by_turn e = ap (λ t. called c w s.space t e) (turn_same l v.ahead shaped).0

  pub say_same : Numbered (model.call c s (model.say r)).1 → call c w s.space plain.say ≡ seen r (model.call c s (model.say r))
  say_same n = by_turn plain.say ∙ go v.ahead refl n
    where
      go : (xs : List Stage) → v.ahead ≡ xs → Numbered (handled c s (model.say r) (only to_say xs)).1
          → called c w s.space (turn_for xs) plain.say ≡ seen r (handled c s (model.say r) (only to_say xs))
      go [] e h = refl
      go (st ∷ rest) e h = one st.turn h
        where
          one : (t : Turn) → Numbered (handled c s (model.say r) (cond (to_say t) (some st) nothing)).1
              → called c w s.space (turn_in t) plain.say ≡ seen r (handled c s (model.say r) (cond (to_say t) (some st) nothing))
          one begins i = refl
          one (says_line k) i = tried_same st rest e [] v.numbers i
          one (hears_line k) i = refl

  pub hear_same : (h : Option Tree) → Numbered (model.call c s (model.hear r h)).1 → call c w s.space (plain.hear h) ≡ seen r (model.call c s (model.hear r h))
  hear_same h n = by_turn (plain.hear h) ∙ go v.ahead refl n
    where
      go : (xs : List Stage) → v.ahead ≡ xs → Numbered (handled c s (model.hear r h) (only to_hear xs)).1
          → called c w s.space (turn_for xs) (plain.hear h) ≡ seen r (handled c s (model.hear r h) (only to_hear xs))
      go [] e m = refl
      go (st ∷ rest) e m = one st.turn m
        where
          one : (t : Turn) → Numbered (handled c s (model.hear r h) (cond (to_hear t) (some st) nothing)).1
              → called c w s.space (turn_in t) (plain.hear h) ≡ seen r (handled c s (model.hear r h) (cond (to_hear t) (some st) nothing))
          one begins i = refl
          one (says_line k) i = refl
          one (hears_line k) i = tried_same st rest e (valid (h ∷ [])) v.numbers i

  module _ (hs : List (Option Tree)) (ns : List ℕ) where
    -- the counts that a begin should have, by the rows and by the stages
    counts_same : (st : Stage) (rest : List Stage) → v.ahead ≡ st ∷ rest → st.turn ≡ begins → counts_fit w hs ns ≡ counts_right v.ahead hs ns
    counts_same st rest e t =
        ap (λ xs. eqb (length hs) (gives xs) && eqb (length ns) (news (map (λ x. x.1) (rows_of v.ahead)))) start
        ∙ ap (λ xs. eqb (length hs) (gives (first_actions v.ahead)) && eqb (length ns) (news xs)) (rows_actions v.ahead)
      where
        start : of_line 0 (rows_of v.ahead) ≡ first_actions v.ahead
        start =
            subst⁻¹ (λ xs. of_line 0 (rows_of xs) ≡ first_actions xs) e
            (subst (λ z. of_line (line_of z) (rows_of (st ∷ rest)) ≡ st.actions) t (first_line l st rest (subst (Shaped l) e shaped)))

    pub begin_same : Numbered (model.call c s (model.begin r hs ns)).1
        → call c w s.space (plain.begin hs ns) ≡ seen r (model.call c s (model.begin r hs ns))
    begin_same n = by_turn (plain.begin hs ns) ∙ go v.ahead refl n
      where
        go : (xs : List Stage) → v.ahead ≡ xs → Numbered (handled c s (model.begin r hs ns) (only to_begin xs)).1
            → called c w s.space (turn_for xs) (plain.begin hs ns) ≡ seen r (handled c s (model.begin r hs ns) (only to_begin xs))
        go [] e m = refl
        go (st ∷ rest) e m = one st.turn refl m
          where
            counted : (b : Bool) → Numbered (cond b (model.tried c r st (valid hs) ns s) (s, declined 13 v.done)).1
                → cond b (plain.tried c w s.space (valid hs) ns) (plain.refused 13 w s.space)
                ≡ seen r (cond b (model.tried c r st (valid hs) ns s) (s, declined 13 v.done))
            counted true i = tried_same st rest e (valid hs) ns i
            counted false i = refl

            one : (t : Turn) → st.turn ≡ t → Numbered (handled c s (model.begin r hs ns) (cond (to_begin t) (some st) nothing)).1
                → called c w s.space (turn_in t) (plain.begin hs ns) ≡ seen r (handled c s (model.begin r hs ns) (cond (to_begin t) (some st) nothing))
            one begins q i =
                ap (λ b. cond b (plain.tried c w s.space (valid hs) ns) (plain.refused 13 w s.space)) (counts_same st rest e q)
                ∙ counted (counts_right v.ahead hs ns) i
            one (says_line k) q i = refl
            one (hears_line k) q i = refl
