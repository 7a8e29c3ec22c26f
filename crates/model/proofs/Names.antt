-- Which line makes a name; each name is made before it stands elsewhere in a role's life.
use Rattle.std.proofs.Common.{◌≡◌, ℕ, zero, suc, ◌<◌, Bool, true, false, cond, not, ◌&&◌, ◌||◌, T, eqb, ◌⊎◌, List, [], ◌∷◌, refl, subst, inl, inr, arith, eqb→eq, T_not}
use native.Mathlib.Decide.{dec_lt}
use lib.Dec.{eqb_refl}
use Rattle.model.specs.Lists.{Every}
use Rattle.model.specs.Trees.{Tree, leaf, node, Trees, none, more, ◌among◌, Within, itself, inside}
use Rattle.model.specs.Lives.{Life, starts, hears, says, OneOf, Passed, New, Disciplined}
use Rattle.model.specs.Specifications.{Line, Specification, stands, stands_in_one, stands_in, message, stood_before, started_from, makes, Duty, speak, listen, own_from, life_on, life}
use Rattle.model.specs.NamesLaw.{FirstStands, NamesLaw}
use Rattle.model.proofs.Tests.{or_cases, or_left, or_right, and_both, and_left, and_right, not_true}

-- a name within a term stands in it
stands_among : (n : ℕ) (ts : Trees) (u : Tree) → u among ts → T (stands n u) → T (stands_in_one n ts)
stands_among n none u i h = elim i [ ]
stands_among n (more t ts) u (inl p) h = or_left (stands n t) (stands_in_one n ts) (subst (λ v. T (stands n v)) p h)
stands_among n (more t ts) u (inr i) h = or_right (stands n t) (stands_in_one n ts) (stands_among n ts u i h)

within_stands : (n : ℕ) {t : Tree} → Within (leaf n) t → T (stands n t)
within_stands n itself = eqb_refl n
within_stands n (inside {h = h} {ts = ts} {u = u} i w) = stands_among n ts u i (within_stands n w)

one_stands : (n : ℕ) (ts : List Tree) (u : Tree) → OneOf ts u → T (stands n u) → T (stands_in n ts)
one_stands n [] u i h = elim i [ ]
one_stands n (t ∷ ts) u (inl p) h = or_left (stands n t) (stands_in n ts) (subst (λ v. T (stands n v)) p h)
one_stands n (t ∷ ts) u (inr i) h = or_right (stands n t) (stands_in n ts) (one_stands n ts u i h)

module _ (S : Specification) where
  stood : (n l k : ℕ) → k < l → T (stands n (message S k)) → T (stood_before S l n)
  stood n zero k h s = absurd (omega arith)
  stood n (suc l) k h s = go (dec_lt k l) (λ q. stood n l k q s)
    where
      go : Dec (k < l) → (k < l → T (stood_before S l n)) → T (stands n (message S l) || stood_before S l n)
      go (yes q) f = or_right (stands n (message S l)) (stood_before S l n) (f q)
      go (no q) f =
          let e : k ≡ l = omega arith in
          or_left (stands n (message S l)) (stood_before S l n) (subst (λ z. T (stands n (message S z))) e s)

  started : (n q r : ℕ) → r < q → T (stands_in n (S.knows r)) → T (started_from S q n)
  started n zero r h s = absurd (omega arith)
  started n (suc q) r h s = go (dec_lt r q) (λ i. started n q r i s)
    where
      go : Dec (r < q) → (r < q → T (started_from S q n)) → T (stands_in n (S.knows q) || started_from S q n)
      go (yes i) f = or_right (stands_in n (S.knows q)) (started_from S q n) (f i)
      go (no i) f =
          let e : r ≡ q = omega arith in
          or_left (stands_in n (S.knows q)) (started_from S q n) (subst (λ z. T (stands_in n (S.knows z))) e s)

  -- what a name made in a line is not
  made_not_before : (l n : ℕ) → T (makes S l n) → ¬ T (stood_before S l n)
  made_not_before l n m =
      T_not (stood_before S l n) (and_left (not (stood_before S l n)) (not (started_from S S.roles n) && not (S.barred n))
      (and_right (stands n (message S l)) (not (stood_before S l n) && (not (started_from S S.roles n) && not (S.barred n))) m))

  made_not_started : (l n : ℕ) → T (makes S l n) → ¬ T (started_from S S.roles n)
  made_not_started l n m =
      T_not (started_from S S.roles n) (and_left (not (started_from S S.roles n)) (not (S.barred n))
      (and_right (not (stood_before S l n)) (not (started_from S S.roles n) && not (S.barred n))
      (and_right (stands n (message S l)) (not (stood_before S l n) && (not (started_from S S.roles n) && not (S.barred n))) m)))

  made_not_barred : (l n : ℕ) → T (makes S l n) → T (not (S.barred n))
  made_not_barred l n m =
      and_right (not (started_from S S.roles n)) (not (S.barred n))
      (and_right (not (stood_before S l n)) (not (started_from S S.roles n) && not (S.barred n))
      (and_right (stands n (message S l)) (not (stood_before S l n) && (not (started_from S S.roles n) && not (S.barred n))) m))

  module _ (r : ℕ) (role : r < S.roles) where
    -- what has passed is from the start, or the message of an earlier line
    abbrev Before : ℕ → Tree → Type 0
    Before l u = OneOf (S.knows r) u ⊎ ((k : ℕ) × (k < l) × (u ≡ message S k))

    before_more : (l : ℕ) (u : Tree) → Before l u ⊎ (u ≡ message S l) → Before (suc l) u
    before_more l u (inl (inl i)) = inl i
    before_more l u (inl (inr x)) = let h = x.1 in inr (x.0, omega arith, x.2)
    before_more l u (inr p) = inr (l, omega arith, p)

    makes_new : (l : ℕ) (y : Life) → ((u : Tree) → Passed y u → Before l u) → New y (makes S l)
    makes_new l y f n m u p w = go (f u p)
      where
        go : Before l u → ⊥
        go (inl i) = made_not_started l n m (started n S.roles r role (one_stands n (S.knows r) u i (within_stands n w)))
        go (inr (k, h, e)) = made_not_before l n m (stood n l k h (subst (λ v. T (stands n v)) e (within_stands n w)))

    disciplined_on : (xs : List Line) (l : ℕ) (y : Life) → Disciplined y → ((u : Tree) → Passed y u → Before l u)
        → Disciplined (life_on S y (own_from S r l xs))
    disciplined_on [] l y d f = d
    disciplined_on (x ∷ xs) l y d f =
        go (eqb r x.sender) (eqb r x.receiver)
        (disciplined_on xs (suc l) (says y (makes S l) (message S l)) (d, makes_new l y f) (λ u. elim [ inl p ↦ before_more l u (inl (f u p)) | inr e ↦ before_more l u (inr e) ]))
        (disciplined_on xs (suc l) (hears y (message S l)) d (λ u. elim [ inl p ↦ before_more l u (inl (f u p)) | inr e ↦ before_more l u (inr e) ]))
        (disciplined_on xs (suc l) y d (λ u p. before_more l u (inl (f u p))))
      where
        rest : List Duty
        rest = own_from S r (suc l) xs

        go : (a b : Bool) → Disciplined (life_on S (says y (makes S l) (message S l)) rest) → Disciplined (life_on S (hears y (message S l)) rest)
            → Disciplined (life_on S y rest) → Disciplined (life_on S y (cond a (speak l (makes S l) ∷ rest) (cond b (listen l ∷ rest) rest)))
        go true b i j k = i
        go false true i j k = j
        go false false i j k = k

    -- each name is made before it stands elsewhere in the role's life
    pub disciplined : Disciplined (life S r)
    disciplined = disciplined_on S.lines 1 (starts (S.knows r)) tt (λ u i. inl i)

-- a name that stands in a term is within it
mutual
  stands_within : (n : ℕ) (t : Tree) → T (stands n t) → Within (leaf n) t
  stands_within n (leaf m) h = subst (λ z. Within (leaf n) (leaf z)) (eqb→eq n m h) itself
  stands_within n (node h ts) x = let z = one_within n ts x in inside z.1 z.2

  one_within : (n : ℕ) (ts : Trees) → T (stands_in_one n ts) → (u : Tree) × (u among ts) × Within (leaf n) u
  one_within n none x = elim x [ ]
  one_within n (more t ts) x = go (or_cases (stands n t) (stands_in_one n ts) x) (stands_within n t) (one_within n ts)
    where
      go : T (stands n t) ⊎ T (stands_in_one n ts) → (T (stands n t) → Within (leaf n) t)
          → (T (stands_in_one n ts) → (u : Tree) × (u among ts) × Within (leaf n) u) → (u : Tree) × (u among (more t ts)) × Within (leaf n) u
      go (inl h) f g = (t, inl refl, f h)
      go (inr h) f g = let z = g h in (z.0, inr z.1, z.2)

not_in : (n : ℕ) (ts : List Tree) → ¬ T (stands_in n ts) → Every (λ t. ¬ Within (leaf n) t) ts
not_in n [] f = tt
not_in n (t ∷ ts) f = ((λ w. f (or_left (stands n t) (stands_in n ts) (within_stands n w))), not_in n ts (λ h. f (or_right (stands n t) (stands_in n ts) h)))

in_none : (n : ℕ) (ts : List Tree) → Every (λ t. ¬ Within (leaf n) t) ts → ¬ T (stands_in n ts)
in_none n [] a h = h
in_none n (t ∷ ts) a h = elim (or_cases (stands n t) (stands_in n ts) h) [ inl x ↦ a.0 (stands_within n t x) | inr y ↦ in_none n ts a.1 y ]

module _ (S : Specification) where
  never_stood : (n l : ℕ) → ((k : ℕ) → k < l → ¬ Within (leaf n) (message S k)) → ¬ T (stood_before S l n)
  never_stood n zero f h = h
  never_stood n (suc l) f h =
      elim (or_cases (stands n (message S l)) (stood_before S l n) h) [
        | inl x ↦ f l (omega arith) (stands_within n (message S l) x)
        | inr y ↦ never_stood n l (λ k q. f k (omega arith)) y
      ]

  never_started : (n q : ℕ) → ((r : ℕ) → r < q → Every (λ t. ¬ Within (leaf n) t) (S.knows r)) → ¬ T (started_from S q n)
  never_started n zero f h = h
  never_started n (suc q) f h =
      elim (or_cases (stands_in n (S.knows q)) (started_from S q n) h) [
        | inl x ↦ in_none n (S.knows q) (f q (omega arith)) x
        | inr y ↦ never_started n q (λ r i. f r (omega arith)) y
      ]

  made_stands : (l n : ℕ) → T (makes S l n) → FirstStands S l n
  made_stands l n m =
      record {
        here = stands_within n (message S l) (and_left (stands n (message S l)) _ m);
        not_earlier = λ k h w. made_not_before S l n m (stood S n l k h (within_stands n w));
        not_started = λ r h. not_in n (S.knows r) (λ i. made_not_started S l n m (started S n S.roles r h i));
        not_barred = T_not (S.barred n) (made_not_barred S l n m);
      }

  stands_made : (l n : ℕ) → FirstStands S l n → T (makes S l n)
  stands_made l n f =
      and_both (stands n (message S l)) _ (within_stands n f.here)
      (and_both (not (stood_before S l n)) _ (not_true (stood_before S l n) (never_stood n l f.not_earlier))
      (and_both (not (started_from S S.roles n)) (not (S.barred n)) (not_true (started_from S S.roles n) (never_started n S.roles f.not_started))
      (not_true (S.barred n) f.not_barred)))

  one_line : (k l n : ℕ) → FirstStands S k n → FirstStands S l n → k ≡ l
  one_line k l n f g = go (dec_lt k l) (dec_lt l k)
    where
      go : Dec (k < l) → Dec (l < k) → k ≡ l
      go (yes h) d = absurd (g.not_earlier k h f.here)
      go (no h) (yes i) = absurd (f.not_earlier l i g.here)
      go (no h) (no i) = omega arith

pub names_law : NamesLaw
names_law S =
    record {
      exactly = λ l n. (made_stands S l n, stands_made S l n);
      one_line = λ k l n a b. one_line S k l n (made_stands S k n a) (made_stands S l n b);
      before_use = disciplined S;
    }
