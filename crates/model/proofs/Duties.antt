-- A role's duties: after the start only lines, and what was so of the whole life was so before.
use Rattle.std.proofs.Common.{◌≡◌, ℕ, suc, Bool, true, false, cond, eqb, List, [], ◌∷◌, ◌++◌, refl}
use Rattle.model.specs.Lists.{Every}
use Rattle.model.specs.Lives.{Life, starts, hears, says, Disciplined}
use Rattle.model.specs.Specifications.{Line, Specification, message, makes, Duty, begin, speak, listen, own_from, life_on}

-- a line, said or heard
abbrev pub IsLine : Duty → Type 0
IsLine (begin ts) = ⊥
IsLine (speak l mk) = Unit {0}
IsLine (listen l) = Unit {0}

module _ (S : Specification) where
  pub own_lines : (r l : ℕ) (xs : List Line) → Every IsLine (own_from S r l xs)
  own_lines r l [] = tt
  own_lines r l (x ∷ xs) = go (eqb r x.sender) (eqb r x.receiver) (own_lines r (suc l) xs)
    where
      rest : List Duty
      rest = own_from S r (suc l) xs

      go : (a b : Bool) → Every IsLine rest → Every IsLine (cond a (speak l (makes S l) ∷ rest) (cond b (listen l ∷ rest) rest))
      go true b h = (tt, h)
      go false true h = (tt, h)
      go false false h = h

  -- a disciplined life was so before
  pub disciplined_before : (ds : List Duty) → Every IsLine ds → (l : Life) → Disciplined (life_on S l ds) → Disciplined l
  disciplined_before [] i l d = d
  disciplined_before (begin ts ∷ ds) i l d = absurd i.0
  disciplined_before (speak k mk ∷ ds) i l d = (disciplined_before ds i.1 (says l mk (message S k)) d).0
  disciplined_before (listen k ∷ ds) i l d = disciplined_before ds i.1 (hears l (message S k)) d

  -- a life goes on from where it was
  pub life_append : (l : Life) (xs ys : List Duty) → life_on S l (xs ++ ys) ≡ life_on S (life_on S l xs) ys
  life_append l [] ys = refl
  life_append l (begin ts ∷ xs) ys = life_append (starts ts) xs ys
  life_append l (speak k mk ∷ xs) ys = life_append (says l mk (message S k)) xs ys
  life_append l (listen k ∷ xs) ys = life_append (hears l (message S k)) xs ys
