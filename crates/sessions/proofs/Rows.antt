-- The rows of stages: which are the next line's, what comes after them, and their actions.
use Rattle.std.proofs.Common.{◌≡◌, ℕ, suc, ◌<◌, Bool, true, false, cond, T, eqb, ◌↔◌, List, [], ◌∷◌, ◌++◌, map, length, drop, sym, refl, ap, ◌∙◌, append-nil, arith}
use Rattle.std.proofs.lemmas.List.{map-append, length-map}
use Rattle.std.proofs.Math.Seq.{drop-append_seam}
use Rattle.model.specs.Roles.{Act}
use Rattle.model.specs.Programs.{Stage, all_actions, line_of, rows_of}
use Rattle.model.proofs.Machine.{eqb_iff}
use Rattle.run.specs.Plain.{of_line, line_ahead, line_turn, hears, says}
use Rattle.sessions.proofs.Shaped.{OpensAs, Shaped}

-- rows of one line
abbrev pub in_line : ℕ → List Act → List (ℕ × Act)
in_line l xs = map (λ a. (l, a)) xs

of_line_same : (l : ℕ) (xs : List Act) (rows : List (ℕ × Act)) → of_line l (in_line l xs ++ rows) ≡ xs ++ of_line l rows
of_line_same l [] rows = refl
of_line_same l (a ∷ xs) rows = go (eqb l l) ((eqb_iff l l).1 refl) (of_line_same l xs rows)
  where
    go : (b : Bool) → T b → of_line l (in_line l xs ++ rows) ≡ xs ++ of_line l rows
        → cond b (a ∷ of_line l (in_line l xs ++ rows)) [] ≡ a ∷ (xs ++ of_line l rows)
    go true h e = ap (λ z. a ∷ z) e
    go false h e = elim h [ ]

of_line_other : (l k : ℕ) (a : Act) (rows : List (ℕ × Act)) → l < k → of_line l ((k, a) ∷ rows) ≡ []
of_line_other l k a rows h = go (eqb k l) (eqb_iff k l)
  where
    go : (b : Bool) → (T b ↔ (k ≡ l)) → cond b (a ∷ of_line l rows) [] ≡ []
    go true i = let e = i.0 tt in absurd (omega arith)
    go false i = refl

of_line_later : (l k : ℕ) (xs : List Stage) → l < k → Shaped k xs → of_line l (rows_of xs) ≡ []
of_line_later l k [] h s = refl
of_line_later l k (st ∷ rest) h s = let p = s.0 in go st.actions (of_line_later l (suc (line_of st.turn)) rest (omega arith) s.2)
  where
    go : (xs : List Act) → of_line l (rows_of rest) ≡ [] → of_line l (in_line (line_of st.turn) xs ++ rows_of rest) ≡ []
    go [] e = e
    go (a ∷ xs) e = let p = s.0 in of_line_other l (line_of st.turn) a (in_line (line_of st.turn) xs ++ rows_of rest) (omega arith)

-- the rows of the first stage's line are its actions
pub first_line : (l : ℕ) (st : Stage) (rest : List Stage) → Shaped l (st ∷ rest) → of_line (line_of st.turn) (rows_of (st ∷ rest)) ≡ st.actions
first_line l st rest s =
    of_line_same (line_of st.turn) st.actions (rows_of rest)
    ∙ ap (λ z. st.actions ++ z) (of_line_later (line_of st.turn) (suc (line_of st.turn)) rest (omega arith) s.2)
    ∙ append-nil st.actions

-- what comes after them
pub drop_line : (st : Stage) (rest : List Stage) → drop (length st.actions) (rows_of (st ∷ rest)) ≡ rows_of rest
drop_line st rest =
    ap (λ n. drop n (rows_of (st ∷ rest))) (sym (length-map st.actions (λ a. (line_of st.turn, a))))
    ∙ drop-append_seam (in_line (line_of st.turn) st.actions) (rows_of rest)

actions_in : (l : ℕ) (xs : List Act) → map (λ x. x.1) (in_line l xs) ≡ xs
actions_in l [] = refl
actions_in l (a ∷ xs) = ap (λ z. a ∷ z) (actions_in l xs)

-- the actions of all rows are those of all stages
pub rows_actions : (xs : List Stage) → map (λ x. x.1) (rows_of xs) ≡ all_actions xs
rows_actions [] = refl
rows_actions (st ∷ rest) =
    map-append (λ x. x.1) (in_line (line_of st.turn) st.actions) (rows_of rest)
    ∙ ap (λ z. z ++ map (λ x. x.1) (rows_of rest)) (actions_in (line_of st.turn) st.actions)
    ∙ ap (λ z. st.actions ++ z) (rows_actions rest)

-- from the begin on, the next line is that of the first row
pub next_line : (b : Bool) (l : ℕ) (st : Stage) (rest : List Stage) → Shaped l (st ∷ rest) → OpensAs b st.actions
    → (line_turn (rows_of (st ∷ rest)) ≡ cond b hears says) × (line_ahead (rows_of (st ∷ rest)) ≡ st.actions)
next_line b l st rest s o = go st.actions o (first_line l st rest s)
  where
    go : (xs : List Act) → OpensAs b xs → of_line (line_of st.turn) (in_line (line_of st.turn) xs ++ rows_of rest) ≡ xs
        → (line_turn (in_line (line_of st.turn) xs ++ rows_of rest) ≡ cond b hears says) × (line_ahead (in_line (line_of st.turn) xs ++ rows_of rest) ≡ xs)
    go [] o q = elim o [ ]
    go (a ∷ xs) o q = (ap (λ d. cond d hears says) o, q)
