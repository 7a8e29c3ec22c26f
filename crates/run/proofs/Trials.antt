-- The calls of a run, on any store.
use Rattle.std.proofs.Common.{◌≡◌, ℕ, zero, suc, ◌+◌, ◌≤◌, Bool, true, false, cond, ◌&&◌, ◌==◌, Ok, Err, Result, if◌then◌else◌, List, [], ◌∷◌, ◌++◌, length, map, drop, sym, refl, ap, ap₂, ◌∙◌, subst, arith}
use Rattle.std.proofs.lemmas.Bool.{false≢true, and_parts, eqb-true}
use Rattle.std.proofs.lemmas.List.{nil_from_length}
use mathlib.Core.Path.{subst⁻¹}
use Rattle.model.specs.Roles.{Act}
use Rattle.model.specs.Sessions.{gives, news}
use Rattle.program.specs.declared.action.Row.{Row}
use Rattle.program.specs.Actions.{row_act}
use Rattle.store.specs.Semantics.{Semantics}
use Rattle.run.specs.declared.fault.RunFault.{RunFault}
use Rattle.run.specs.declared.fault.RunFault.TheVariants.{Counts, OutOfTurn}
use Rattle.run.specs.declared.run.Run.{Run}
use Rattle.run.specs.declared.turn.Asked.TheVariants as asks
use Rattle.run.specs.Actions.{State}
use Rattle.run.specs.Calls.{AreNext, numbers_left, valid_handles, begin_line, begin_counts, begin_answer, Behind, TriesLine, Calls, at_once, taken, refused, Begins, Says}
use Rattle.run.specs.Filling.{lined, line_rows}
use Rattle.run.specs.Plain.{Turn, begins, says, hears, line_turn, is_hear}
use Rattle.run.specs.Lines.{DoesLine, last_said}
use Rattle.run.specs.Started.{Stays, Starts, Cancels}
use Rattle.run.specs.Turned.{rows_ahead, line_ahead, first_line, turn_of, turns, turn_answer}
use Rattle.run.proofs.Counting.{news_first, line_front}

-- a run that has begun has not to begin
not_begins : (xs : List (ℕ × Act)) → turns (line_turn xs) asks.Begin ≡ false
not_begins [] = refl
not_begins (x ∷ xs) = go (is_hear x.1)
  where
    go : (b : Bool) → turns (cond b hears says) asks.Begin ≡ false
    go true = refl
    go false = refl

first_next : (rows : List Row) → first_line rows ++ drop (length (first_line rows)) rows ≡ rows
first_next [] = refl
first_next (x ∷ rows) = line_front x.line (x ∷ rows)

pub next_line : (run : Run) (line : List Row) → line ≡ line_ahead run → AreNext line run
next_line run line e = subst⁻¹ (λ (xs : List Row). xs ++ drop (length xs) (rows_ahead run) ≡ rows_ahead run) e (first_next (rows_ahead run))

pub next_front : (run run' : Run) (rows line : List Row) → rows ≡ rows_ahead run → line ≡ line_rows 0 rows → Stays run run' → AreNext line run'
next_front run run' rows line ahead is s =
    subst (λ (xs : List Row). line ++ drop (length line) xs ≡ xs) (ahead ∙ ap₂ (λ (k : ℕ) (xs : List Row). drop k xs) (sym s.place) (ap (λ p. p.rows.now) (sym s.program)))
    (subst⁻¹ (λ (xs : List Row). xs ++ drop (length xs) rows ≡ rows) is (line_front 0 rows))

-- of the last rows no more atoms are made than of all
news_left : (k : ℕ) (rows : List Row) → news (map row_act (drop k rows)) ≤ news (map row_act rows)
news_left zero rows = omega arith
news_left (suc k) [] = omega arith
news_left (suc k) (x ∷ rows) = let e = news_left k rows in let f = news_first (row_act x) (map row_act rows) in omega arith

-- there is room for as many numbers as fit
pub number_room : (place : ℕ) (all rows : List Row) (a b : Bool) (n cap : ℕ) → b ≡ (a && n == news (map row_act rows)) → b ≡ true → rows ≡ drop place all → news (map row_act all) ≤ cap → n ≤ cap
number_room place all rows a b n cap test fits is room =
    let e = eqb-true n (news (map row_act rows)) (and_parts a (n == news (map row_act rows)) (sym test ∙ fits)).1 in
    omega (arith, ap (λ (xs : List Row). news (map row_act xs)) is, news_left place all)

-- it is the turn of a say
pub said_turn : (run : Run) (u : Unit {0}) → Ok u ≡ turn_answer run asks.Say → turn_answer run asks.Say ≡ Ok tt
said_turn run u e = sym e

module _ {S : Type 0} (M : Semantics S) (old new : S) where
  -- a line that was heard
  pub heard : (run run' : Run) (check : Result (Unit {0}) RunFault) → check ≡ Ok tt → (line line' : List Row) → line ≡ line' → (inputs inputs' : List ℕ) → inputs ≡ inputs'
      → (r : Result (Unit {0}) RunFault) → TriesLine M line inputs old new run run' r
      → Calls M check line' (record { registers = run.registers; inputs = inputs'; numbers = numbers_left run }) (λ y. tt) old new run run' r
  heard run run' check ok line line' is inputs inputs' are r t =
      subst (λ l. Calls M check l (record { registers = run.registers; inputs = inputs'; numbers = numbers_left run }) (λ y. tt) old new run run' r) is
      (subst (λ hs. Calls M check line (record { registers = run.registers; inputs = hs; numbers = numbers_left run }) (λ y. tt) old new run run' r) are (go r t))
    where
      go : (r : Result (Unit {0}) RunFault) → TriesLine M line inputs old new run run' r → Calls M check line (record { registers = run.registers; inputs = inputs; numbers = numbers_left run }) (λ y. tt) old new run run' r
      go (Ok u) (y, d, b) = taken y ok d b refl
      go (Err e) (y, d, u) = refused e y ok d u refl

  -- a line that was said
  module _ (run run' : Run) (ok : turn_answer run asks.Say ≡ Ok tt) (line : List Row) (is : line ≡ line_ahead run) where
    pub said_ok : (u : Unit {0}) → TriesLine M line [] old new run run' (Ok u) → (h : ℕ) → h ≡ last_said run'.registers line → Says M old new run run' (Ok h)
    said_ok u (y, d, b) h e =
        taken y ok (subst (λ l. DoesLine M l run.place old (record { registers = run.registers; inputs = []; numbers = numbers_left run }) new y (Ok tt)) is d)
        (subst (λ l. Behind l y run run') is b)
        (ap Ok (e ∙ ap₂ (λ (cells : List ℕ) (l : List Row). last_said cells l) b.registers is))

    pub said_err : (e : RunFault) → TriesLine M line [] old new run run' (Err e) → Says M old new run run' (Err e)
    said_err e (y, d, u) = refused e y ok (subst (λ l. DoesLine M l run.place old (record { registers = run.registers; inputs = []; numbers = numbers_left run }) new y (Err e)) is d) u refl

-- a begin
pub early_begin : {S : Type 0} (M : Semantics S) (run : Run) (given ns : List ℕ) (s : S) (f : RunFault) → Err f ≡ turn_answer run asks.Begin → Begins M s s run run given ns (Err f)
early_begin M run given ns s f e =
    at_once f (ap (λ r. elim r as (λ z. Result (Unit {0}) RunFault) [ Err f ↦ Err f | Ok u ↦ if begin_counts run given ns then Ok tt else Err (Counts run.place) ]) (sym e)) refl refl refl

pub begin_waits : (run : Run) (u : Unit {0}) → Ok u ≡ turn_answer run asks.Begin → run.begun ≡ false
begin_waits run u asked = go run.begun (turns (turn_of run) asks.Begin) refl refl asked
  where
    ahead : Turn
    ahead = line_turn (map lined (rows_ahead run))

    go : (b t : Bool) → run.begun ≡ b → turns (turn_of run) asks.Begin ≡ t → Ok u ≡ (if t then Ok tt else Err (OutOfTurn run.place)) → run.begun ≡ false
    go false t e f g = e
    go true false e f g = absurd (cc)
    go true true e f g = absurd (false≢true (sym (not_begins (map lined (rows_ahead run))) ∙ ap (λ b. turns (if b then ahead else begins) asks.Begin) (sym e) ∙ f))

module _ (run : Run) (u : Unit {0}) (asked : Ok u ≡ turn_answer run asks.Begin) (rows line : List Row) (ahead : rows ≡ rows_ahead run) (is : line ≡ line_rows 0 rows)
    (given ns : List ℕ) (fits : Bool) (test : fits ≡ (length given == gives (map row_act line) && length ns == news (map row_act rows))) where
  line_is : line ≡ begin_line run
  line_is = is ∙ ap (λ (xs : List Row). line_rows 0 xs) ahead

  right : begin_counts run given ns ≡ fits
  right = ap₂ (λ (l xs : List Row). length given == gives (map row_act l) && length ns == news (map row_act xs)) (sym line_is) (sym ahead) ∙ sym test

  answered : begin_answer run given ns ≡ (if fits then Ok tt else Err (Counts run.place))
  answered =
      ap (λ r. elim r as (λ z. Result (Unit {0}) RunFault) [ Err f ↦ Err f | Ok u ↦ if begin_counts run given ns then Ok tt else Err (Counts run.place) ]) (sym asked)
      ∙ ap (λ b. if b then Ok tt else Err (Counts run.place)) right

  module _ {S : Type 0} (M : Semantics S) (old : S) where
    pub wrong_counts : fits ≡ false → Begins M old old run run given ns (Err (Counts run.place))
    wrong_counts wrong = at_once (Counts run.place) (answered ∙ ap (λ b. if b then Ok tt else Err (Counts run.place)) wrong) refl refl refl

    module _ (enough : fits ≡ true) (new : S) (run₁ run₂ : Run) (starts : Starts run run₁ ns) (inputs : List ℕ) (are : inputs ≡ valid_handles (M.means old) given) where
      ok : begin_answer run given ns ≡ Ok tt
      ok = answered ∙ ap (λ b. if b then Ok tt else Err (Counts run.place)) enough

      -- the line from the state before it
      does : (y : State) (r : Result (Unit {0}) RunFault) → DoesLine M line run₁.place old (record { registers = run₁.registers; inputs = inputs; numbers = numbers_left run₁ }) new y r
          → DoesLine M (begin_line run) run.place old (record { registers = run.registers; inputs = valid_handles (M.means old) given; numbers = ns }) new y r
      does y r d =
          subst (λ l. DoesLine M l run.place old (record { registers = run.registers; inputs = valid_handles (M.means old) given; numbers = ns }) new y r) line_is
          (subst (λ k. DoesLine M line k old (record { registers = run.registers; inputs = valid_handles (M.means old) given; numbers = ns }) new y r) starts.stays.place
          (subst (λ cells. DoesLine M line run₁.place old (record { registers = cells; inputs = valid_handles (M.means old) given; numbers = ns }) new y r) starts.stays.registers
          (subst (λ hs. DoesLine M line run₁.place old (record { registers = run₁.registers; inputs = hs; numbers = ns }) new y r) are
          (subst (λ ms. DoesLine M line run₁.place old (record { registers = run₁.registers; inputs = inputs; numbers = ms }) new y r)
          (ap₂ (λ (k : ℕ) (ms : List ℕ). drop k ms) starts.used starts.numbers) d))))

      pub begun_ok : (x : Unit {0}) → TriesLine M line inputs old new run₁ run₂ (Ok x) → Begins M old new run run₂ given ns (Ok x)
      begun_ok x (y, d, b) =
          taken y ok (does y (Ok tt) d)
          (record {
            program = b.program ∙ starts.stays.program;
            begun = b.begun;
            place = b.place ∙ ap₂ (λ (k : ℕ) (l : List Row). k + length l) starts.stays.place line_is;
            registers = b.registers;
            numbers = b.numbers;
          }) refl

      pub begun_err : run.begun ≡ false → (e : RunFault) → TriesLine M line inputs old new run₁ run₂ (Err e) → (last : Run) → Cancels run₂ last → Begins M old new run last given ns (Err e)
      begun_err waits e (y, d, v) last cancels =
          refused e y ok (does y (Err e) d)
          (record {
            program = cancels.stays.program ∙ v.program ∙ starts.stays.program;
            begun = cancels.begun ∙ sym waits;
            place = cancels.stays.place ∙ v.place ∙ starts.stays.place;
            registers = cancels.stays.registers ∙ v.registers ∙ starts.stays.registers;
            used = cancels.used ∙ (let n = run.taken in let z = run.waiting waits in omega arith);
            numbers = cancels.numbers ∙ sym (nil_from_length run.numbers.items (run.waiting waits));
          }) refl
