-- The rows of a line, and how many values and numbers are wanted.
use Rattle.std.proofs.Common.{◌≡◌, ℕ, ◌+◌, ◌<◌, ◌≤◌, Bool, true, false, cond, List, [], ◌∷◌, ◌++◌, length, map, get_or, take, drop, if◌then◌else◌, sym, refl, ap, ◌∙◌, arith, ◌==◌}
use Rattle.std.proofs.lemmas.List.{drop_more, drop_all}
use Rattle.model.specs.Roles.{Act, give, new, hear, say, same, make, split, unlock}
use Rattle.model.specs.Sessions.{gives, news}
use Rattle.program.specs.declared.action.Row.{Row}
use Rattle.program.specs.Actions.{row_act}
use Rattle.run.specs.Filling.{lined, line_rows}
use Rattle.run.specs.Plain.{of_line}
use Rattle.run.specs.Turned.{is_give, is_new}

pub gives_first : (a : Act) (xs : List Act) → gives (a ∷ xs) ≡ (if is_give a then 1 else 0) + gives xs
gives_first (give r) xs = omega arith
gives_first (new r) xs = omega arith
gives_first (hear r) xs = omega arith
gives_first (say r) xs = omega arith
gives_first (same r q) xs = omega arith
gives_first (make r h rs) xs = omega arith
gives_first (split f n h r) xs = omega arith
gives_first (unlock x r k) xs = omega arith

pub news_first : (a : Act) (xs : List Act) → news (a ∷ xs) ≡ (if is_new a then 1 else 0) + news xs
news_first (give r) xs = omega arith
news_first (new r) xs = omega arith
news_first (hear r) xs = omega arith
news_first (say r) xs = omega arith
news_first (same r q) xs = omega arith
news_first (make r h rs) xs = omega arith
news_first (split f n h r) xs = omega arith
news_first (unlock x r k) xs = omega arith

-- a count so far, with that of what is left, is the whole count
abbrev pub Counted : (List Act → ℕ) → List Row → ℕ → ℕ → Type 0
Counted counts rows i n = (n ≤ i) × (n + counts (map row_act (drop i rows)) ≡ counts (map row_act rows))

pub all_counted : (counts : List Act → ℕ) → counts [] ≡ 0 → (rows : List Row) (i n : ℕ) → length rows ≤ i → Counted counts rows i n → n ≡ counts (map row_act rows)
all_counted counts z rows i n l c = omega (arith, c.1, z, ap (λ (ys : List Row). counts (map row_act ys)) (drop_all i rows l))

module _ (counts : List Act → ℕ) (is : Act → Bool) (first : (a : Act) (xs : List Act) → counts (a ∷ xs) ≡ (if is a then 1 else 0) + counts xs) (rows : List Row) (i : ℕ) (x : Row) (at : x ≡ get_or rows i x) (l : i < length rows) where
  cut : counts (map row_act (drop i rows)) ≡ (if is (row_act x) then 1 else 0) + counts (map row_act (drop (i + 1) rows))
  cut =
      ap (λ (ys : List Row). counts (map row_act ys)) (drop_more rows i x l)
      ∙ ap (λ (y : Row). counts (row_act y ∷ map row_act (drop (i + 1) rows))) (sym at)
      ∙ first (row_act x) (map row_act (drop (i + 1) rows))

  pub counts_one : (n : ℕ) → is (row_act x) ≡ true → Counted counts rows i n → Counted counts rows (i + 1) (n + 1)
  counts_one n e c = let d = cut ∙ ap (λ b. (if b then 1 else 0) + counts (map row_act (drop (i + 1) rows))) e in (omega (arith, c.0), omega (arith, c.1, d))

  pub counts_none : (n : ℕ) → is (row_act x) ≡ false → Counted counts rows i n → Counted counts rows (i + 1) n
  counts_none n e c = let d = cut ∙ ap (λ b. (if b then 1 else 0) + counts (map row_act (drop (i + 1) rows))) e in (omega (arith, c.0), omega (arith, c.1, d))

-- the rows of a line stand at the front
abbrev pub Fronted : ℕ → List Row → ℕ → Type 0
Fronted line rows i = take i rows ++ line_rows line (drop i rows) ≡ line_rows line rows

pub line_acts : (line : ℕ) (rows : List Row) → map row_act (line_rows line rows) ≡ of_line line (map lined rows)
line_acts line [] = refl
line_acts line (x ∷ rows) = go (x.line == line) (line_acts line rows)
  where
    go : (b : Bool) → map row_act (line_rows line rows) ≡ of_line line (map lined rows) → map row_act (cond b (x ∷ line_rows line rows) []) ≡ cond b (row_act x ∷ of_line line (map lined rows)) []
    go true e = ap (λ ys. row_act x ∷ ys) e
    go false e = refl

pub line_front : (line : ℕ) (rows : List Row) → line_rows line rows ++ drop (length (line_rows line rows)) rows ≡ rows
line_front line [] = refl
line_front line (x ∷ rows) = go (x.line == line) (line_front line rows)
  where
    go : (b : Bool) → line_rows line rows ++ drop (length (line_rows line rows)) rows ≡ rows → cond b (x ∷ line_rows line rows) [] ++ drop (length (cond b (x ∷ line_rows line rows) [])) (x ∷ rows) ≡ x ∷ rows
    go true e = ap (λ ys. x ∷ ys) e
    go false e = refl
