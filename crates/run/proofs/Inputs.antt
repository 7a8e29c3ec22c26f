-- Which handles can be taken in, and what a line says.
use Rattle.std.proofs.Common.{◌≡◌, ℕ, ◌+◌, ◌<◌, ◌≤◌, Bool, true, false, eqb, Some, None, Option, is_err, if◌then◌else◌, List, [], ◌∷◌, ◌++◌, length, get_or, take, drop, sym, refl, ap, ◌∙◌}
use Rattle.std.proofs.lemmas.Bool.{false≢true, eqb-true}
use Rattle.std.proofs.lemmas.List.{drop_more, drop_all, take_more, take_all, append_assoc, append-nil}
use Rattle.model.specs.Trees.{Tree}
use Rattle.store.specs.Questions.{shape_answer}
use Rattle.program.specs.declared.action.Row.{Row}
use Rattle.run.specs.Calls.{valid_handles}
use Rattle.run.specs.Lines.{or_before, said_handle, last_said}
use Rattle.run.specs.Shown.{Meaning, vacant}

-- a handle is valid if the store tells its shape
pub is_none : (o : Option Tree) → is_err (shape_answer o) ≡ true → o ≡ None
is_none None e = refl
is_none (Some v) e = absurd (false≢true e)

pub is_some : (o : Option Tree) → is_err (shape_answer o) ≡ false → (v : Tree) × (o ≡ Some v)
is_some None e = absurd (false≢true (sym e))
is_some (Some v) e = (v, refl)

-- handles that are valid so far: with those of what is left they are all
abbrev pub ValidUpto : Meaning → List ℕ → ℕ → Type 0
ValidUpto m handles i = take i handles ++ valid_handles m (drop i handles) ≡ valid_handles m handles

module _ (m : Meaning) (handles : List ℕ) (i : ℕ) (upto : ValidUpto m handles i) where
  pub valid_all : length handles ≤ i → handles ≡ valid_handles m handles
  valid_all l =
      sym (ap (λ hs. hs ++ []) (take_all i handles l) ∙ append-nil handles)
      ∙ ap (λ hs. take i handles ++ valid_handles m hs) (sym (drop_all i handles l)) ∙ upto

  module _ (x : ℕ) (at : x ≡ get_or handles i 0) (l : i < length handles) where
    here : drop i handles ≡ x ∷ drop (i + 1) handles
    here = drop_more handles i 0 l ∙ ap (λ y. y ∷ drop (i + 1) handles) (sym at)

    abbrev first : Option Tree → List ℕ
    first o = elim o [ None ↦ [] | Some v ↦ x ∷ valid_handles m (drop (i + 1) handles) ]

    pub valid_stops : m x ≡ None → take i handles ≡ valid_handles m handles
    valid_stops e =
        sym (append-nil (take i handles)) ∙ ap (λ hs. take i handles ++ hs) (sym (ap (valid_handles m) here ∙ ap first e)) ∙ upto

    pub valid_more : (v : Tree) × (m x ≡ Some v) → ValidUpto m handles (i + 1)
    valid_more (v, e) =
        ap (λ hs. hs ++ valid_handles m (drop (i + 1) handles)) (take_more handles i 0 l ∙ ap (λ y. take i handles ++ y ∷ []) (sym at))
        ∙ append_assoc (take i handles) (x ∷ []) (valid_handles m (drop (i + 1) handles))
        ∙ ap (λ hs. take i handles ++ hs) (sym (ap (valid_handles m) here ∙ ap first e)) ∙ upto

-- of three handles the first that holds something
pub or_first : (a b c : ℕ) → or_before (or_before a b) c ≡ or_before a (or_before b c)
or_first a b c = go (eqb a vacant) refl
  where
    go : (t : Bool) → eqb a vacant ≡ t → or_before (or_before a b) c ≡ or_before a (or_before b c)
    go true e = ap (λ t. or_before (if t then b else a) c) e ∙ ap (λ t. if t then or_before b c else a) (sym e)
    go false e =
        ap (λ t. or_before (if t then b else a) c) e ∙ ap (λ t. if t then c else a) e ∙ ap (λ t. if t then or_before b c else a) (sym e)

-- what the rows that are left say last, or else what was said so far
abbrev pub SaidUpto : List Row → List ℕ → ℕ → ℕ → Type 0
SaidUpto rows cells i said = or_before (last_said cells (drop i rows)) said ≡ last_said cells rows

pub said_none : (rows : List Row) (cells : List ℕ) → SaidUpto rows cells 0 vacant
said_none rows cells = whole (last_said cells rows) (eqb (last_said cells rows) vacant) refl
  where
    whole : (h : ℕ) (t : Bool) → eqb h vacant ≡ t → or_before h vacant ≡ h
    whole h true e = ap (λ t. if t then vacant else h) e ∙ sym (eqb-true h vacant e)
    whole h false e = ap (λ t. if t then vacant else h) e

pub said_more : (rows : List Row) (cells : List ℕ) (i : ℕ) (x : Row) → x ≡ get_or rows i x → i < length rows → (before h now : ℕ) → h ≡ said_handle cells x.action → now ≡ or_before h before
    → SaidUpto rows cells i before → SaidUpto rows cells (i + 1) now
said_more rows cells i x at l before h now says is upto =
    ap (or_before (last_said cells (drop (i + 1) rows))) (is ∙ ap (λ k. or_before k before) says)
    ∙ sym (or_first (last_said cells (drop (i + 1) rows)) (said_handle cells x.action) before)
    ∙ ap (λ (y : Row). or_before (or_before (last_said cells (drop (i + 1) rows)) (said_handle cells y.action)) before) at
    ∙ ap (λ (ys : List Row). or_before (last_said cells ys) before) (sym (drop_more rows i x l)) ∙ upto

pub said_all : (rows : List Row) (cells : List ℕ) (i said : ℕ) → length rows ≤ i → SaidUpto rows cells i said → said ≡ last_said cells rows
said_all rows cells i said l upto = ap (λ (ys : List Row). or_before (last_said cells ys) said) (sym (drop_all i rows l)) ∙ upto
