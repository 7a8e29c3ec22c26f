-- What a list of entries has: which terms, and at which registers.
use Rattle.std.proofs.Common.{◌≡◌, ℕ, ◌<◌, Bool, true, false, cond, T, ◌⊎◌, ◌↔◌, List, [], ◌∷◌, ◌++◌, sym, refl, inl, inr}
use mathlib.Core.Option.{Option, none as nothing, some}
use Rattle.model.specs.Lists.{Every}
use Rattle.model.specs.Trees.{Tree, eq_tree}
use Rattle.model.specs.Roles.{Entry, find, knows}
use Rattle.model.specs.Entries.{Has, Held, Ascends, Once}
use Rattle.model.proofs.Trees.{eq_tree_is, is_eq_tree}

abbrev pub entry : Tree → ℕ → Bool → Entry
entry t r b = record { term = t; at = r; settled = b }

-- the list with one more entry
abbrev pub with_one : List Entry → Entry → List Entry
with_one es e = es ++ (e ∷ [])

-- what the one list has, the other has
abbrev pub Keeps : List Entry → List Entry → Type 0
Keeps es fs = (u : Tree) → Has es u → Has fs u

pub held_has : (es : List Entry) (t : Tree) (r : ℕ) → Held es t r → Has es t
held_has [] t r h = h
held_has (e ∷ es) t r (inl p) = inl p.0
held_has (e ∷ es) t r (inr h) = inr (held_has es t r h)

-- what `find` says
abbrev pub Found : List Entry → Tree → Option ℕ → Type 0
Found es t (some r) = Held es t r
Found es t nothing = ¬ Has es t

found_more : (e : Entry) (es : List Entry) (t : Tree) (b : Bool) → (T b ↔ (t ≡ e.term)) → (o : Option ℕ) → Found es t o → Found (e ∷ es) t (cond b (some e.at) o)
found_more e es t true q o f = inl (q.0 tt, refl)
found_more e es t false q (some r) f = inr f
found_more e es t false q nothing f = elim [ inl p ↦ q.1 p | inr h ↦ f h ]

pub found : (es : List Entry) (t : Tree) → Found es t (find t es)
found [] t = λ h. h
found (e ∷ es) t = found_more e es t (eq_tree t e.term) (eq_tree_is t e.term, is_eq_tree t e.term) (find t es) (found es t)

-- `knows` is true exactly if an entry has the term
pub knows_has : (es : List Entry) (t : Tree) → T (knows es t) ↔ Has es t
knows_has es t = go (find t es) (found es t)
  where
    go : (o : Option ℕ) → Found es t o → T (elim o [ some r ↦ true | nothing ↦ false ]) ↔ Has es t
    go (some r) f = ((λ k. held_has es t r f), λ h. tt)
    go nothing f = ((λ k. absurd k), λ h. f h)

-- one more entry
pub has_old : (es : List Entry) (e : Entry) → Keeps es (with_one es e)
has_old [] e t h = elim h [ ]
has_old (x ∷ es) e t (inl p) = inl p
has_old (x ∷ es) e t (inr h) = inr (has_old es e t h)

pub has_new : (es : List Entry) (e : Entry) → Has (with_one es e) e.term
has_new [] e = inl refl
has_new (x ∷ es) e = inr (has_new es e)

pub held_new : (es : List Entry) (e : Entry) → Held (with_one es e) e.term e.at
held_new [] e = inl (refl, refl)
held_new (x ∷ es) e = inr (held_new es e)

pub has_split : (es : List Entry) (e : Entry) (t : Tree) → Has (with_one es e) t → Has es t ⊎ (t ≡ e.term)
has_split [] e t (inl p) = inr p
has_split [] e t (inr h) = elim h [ ]
has_split (x ∷ es) e t (inl p) = inl (inl p)
has_split (x ∷ es) e t (inr h) = elim (has_split es e t h) [ inl k ↦ inl (inr k) | inr p ↦ inr p ]

-- what holds of every entry
pub every_one : (X : Entry → Type 0) (es : List Entry) (e : Entry) → Every X es → X e → Every X (with_one es e)
every_one X [] e a x = (x, tt)
every_one X (y ∷ es) e a x = (a.0, every_one X es e a.1 x)

pub every_both : (X Y Z : Entry → Type 0) → ((e : Entry) → X e → Y e → Z e) → (es : List Entry) → Every X es → Every Y es → Every Z es
every_both X Y Z f [] a b = tt
every_both X Y Z f (e ∷ es) a b = (f e a.0 b.0, every_both X Y Z f es a.1 b.1)

pub ascends_one : (es : List Entry) (e : Entry) → Ascends es → Every (λ x. x.at < e.at) es → Ascends (with_one es e)
ascends_one [] e a b = (tt, tt)
ascends_one (x ∷ es) e a b = (every_one (λ y. x.at < y.at) es e a.0 b.0, ascends_one es e a.1 b.1)

pub once_one : (es : List Entry) (e : Entry) → Once es → ¬ Has es e.term → Once (with_one es e)
once_one [] e o n = ((λ h. h), tt)
once_one (x ∷ es) e o n = (apart, once_one es e o.1 (λ h. n (inr h)))
  where
    apart : ¬ Has (with_one es e) x.term
    apart h = elim (has_split es e x.term h) [ inl k ↦ o.0 k | inr p ↦ n (inl (sym p)) ]

-- what holds of every term that the list has
pub has_every : (X : Tree → Type 0) (es : List Entry) → ((u : Tree) → Has es u → X u) → Every (λ e. X e.term) es
has_every X [] f = tt
has_every X (e ∷ es) f = (f e.term (inl refl), has_every X es (λ u h. f u (inr h)))
