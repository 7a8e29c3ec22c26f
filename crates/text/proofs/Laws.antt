-- The law of reading a text.
use Rattle.std.proofs.Common.{◌≡◌, ℕ, suc, ◌+◌, ◌<◌, ◌≤◌, min, Bool, true, false, cond, ltb, leb, List, [], ◌∷◌, ◌++◌, length, take, drop, Ok, Err, Result, sym, refl, ap, ◌∙◌, subst, inl, inr, ⊎_elim, append-nil, arith, length-append, take-append-drop, length-take, take_all, take-take}
use Rattle.std.proofs.lemmas.Bool.{leb-true, leb-false, ltb-true, ltb-false, cases_lt}
use Rattle.text.specs.Grammar.{Text, Begins}
use Rattle.text.specs.Law.{nodes, Shallow, Fits, FitsBefore, Passes, Breaks, Exceeds, Obeys, Lawful, Known, Accepted, Accepts}
use Rattle.text.specs.Machine.{State, between, before, Step, broken, goes, begins, step}
use Rattle.text.specs.Reading.{read, reading, too_long, Answers}
use Rattle.text.specs.Trees.{Tree}
use Rattle.text.specs.declared.fault.TextFault.{TextFault}
use Rattle.text.specs.declared.fault.TextFault.TheVariants.{Limit, Broken, NoMemory}
use Rattle.text.specs.declared.tree.Tree.{Tree as TreeValue}
use Rattle.text.proofs.Spots.{spot}
use Rattle.text.proofs.Completing.{Completes, Onward}
use Rattle.text.proofs.Stepping.{onward}
use Rattle.text.proofs.Ending.{ended_nil}
use Rattle.text.proofs.Seen.{from_less}
use Rattle.text.proofs.Located.{text_parts}
use Rattle.text.proofs.Outcome.{BrokenFrom, LimitFrom, Outcome, outcome}

-- A state is completed to one tree by the same bytes.
one_tree : (bs : List ℕ) (at : ℕ) (s : State) (T U : Tree) → Completes s (spot at bs) T → Completes s (spot at bs) U → U ≡ T
one_tree [] at s T U h k = let a = ended_nil s at T h in let b = ended_nil s at U k in cc
one_tree (b ∷ bs) at s T U h k = go (step at s b) (onward at b bs T s h) (onward at b bs U s k) (one_tree bs (at + 1))
  where
    go : (z : Step) → Onward z (λ t. Completes t (spot (at + 1) bs) T) → Onward z (λ t. Completes t (spot (at + 1) bs) U) → ((t : State) (T U : Tree) → Completes t (spot (at + 1) bs) T → Completes t (spot (at + 1) bs) U → U ≡ T) → U ≡ T
    go broken h k ih = absurd h
    go (goes t) h k ih = ih t T U h k
    go (begins fs t) h k ih = ih t T U h k

earlier_place : (p q : ℕ) (t : Tree) → p ≤ q → FitsBefore q t → FitsBefore p t
earlier_place p q t l f = record { earlier = f.earlier; later = f.later; all = f.all; fits = f.fits; from = from_less p q l f.later f.from }

module _ (text : List ℕ) where
  abbrev xs : List ℕ
  xs = take 65536 text

  xs_length : length xs ≡ min 65536 (length text)
  xs_length = length-take 65536 text

  same_front : (n : ℕ) → n ≤ 65536 → take n xs ≡ take n text
  same_front n h = take-take n 65536 text h

  xs_whole : length text ≤ 65535 → xs ≡ text
  xs_whole h = take_all 65536 text (omega arith)

  breaks : (p : ℕ) → p ≤ 65535 → BrokenFrom 0 (between before) xs p → Breaks text p
  breaks p h o =
      let q = o.place in
      let w = o.within in
      let n = xs_length in
      let e : o.taken ≡ p = omega arith in
      let f : suc o.taken ≡ p + 1 = omega arith in
      record {
        within = omega arith;
        short = h;
        begins = subst Begins (ap (λ k. take k xs) e ∙ same_front p (omega arith)) o.begins;
        ends = λ l more t s. o.ends (omega arith) more t (subst (λ ys. Text (ys ++ more) t) (sym (ap (λ k. take k xs) f ∙ same_front (p + 1) (omega arith))) s);
        unfinished = λ l t s. o.unfinished (omega arith) t (subst (λ ys. Text ys t) (sym (xs_whole (omega arith))) s);
        fits = λ more t s. o.fits more t (subst (λ ys. Text (ys ++ more) t) (sym (ap (λ k. take k xs) e ∙ same_front p (omega arith))) s);
      }

  exceeds : (p : ℕ) → LimitFrom 0 (between before) xs p → Exceeds text p
  exceeds p o =
      let q = o.place in
      let w = o.within in
      let n = xs_length in
      let f : suc o.taken ≡ p + 1 = omega arith in
      let g : take (suc o.taken) xs ≡ take (p + 1) text = ap (λ k. take k xs) f ∙ same_front (p + 1) (omega arith) in
      record {
        within = omega arith;
        short = omega arith;
        begins = subst Begins g o.begins;
        over = inl (λ more t s. o.passes more t (subst (λ ys. Text (ys ++ more) t) (sym g) s));
      }

  -- A byte too many.
  too_far : 65535 < length text → Begins xs → ((more : List ℕ) (t : Tree) → Text (xs ++ more) t → FitsBefore 65536 t) → Exceeds text 65535
  too_far h b f =
      record {
        within = h;
        short = omega arith;
        begins = b;
        over = inr (refl, λ more t s. earlier_place 65535 65536 t (omega arith) (f more t s));
      }

  short_law : length text ≤ 65535 → (r : Result Tree TextFault) → Outcome 0 (between before) xs r → Obeys text r
  short_law h (Ok t) o =
      let e = xs_whole h in
      let s = subst (λ ys. Text ys t) e o.completes in
      record { spells = s; only = λ u k. one_tree text 0 (between before) t u s k; parts = text_parts text t s; fits = o.fits; short = h }
  short_law h (Err (Broken p)) o =
      let q = o.place in
      let w = o.within in
      let n = xs_length in
      breaks p (omega arith) o
  short_law h (Err (Limit p)) o = exceeds p o
  short_law h (Err (NoMemory w)) o = o

  long_law : 65535 < length text → (r : Result Tree TextFault) → Outcome 0 (between before) xs r → Obeys text (too_long r)
  long_law h (Ok t) o =
      let n = xs_length in
      let e : 0 + length xs ≡ 65536 = omega arith in
      too_far h ([], t, subst (λ ys. Text ys t) (sym (append-nil xs)) o.completes, tt) (λ more u s. subst (λ p. FitsBefore p u) e (o.so_far more u s))
  long_law h (Err (Limit p)) o = exceeds p o
  long_law h (Err (Broken p)) o = go (ltb p 65536) refl
    where
      go : (b : Bool) → ltb p 65536 ≡ b → Obeys text (cond b (Err (Broken p)) (Err (Limit 65535)))
      go true q = let l = ltb-true p 65536 q in breaks p (omega arith) o
      go false q =
          let l = ltb-false p 65536 q in
          let i = o.place in
          let w = o.within in
          let n = xs_length in
          let e : o.taken ≡ 65536 = omega arith in
          let k : p ≡ 65536 = omega arith in
          let a : take o.taken xs ≡ xs = ap (λ m. take m xs) e ∙ same_front 65536 (omega arith) in
          too_far h (subst Begins a o.begins) (λ more u s. subst (λ m. FitsBefore m u) k (o.fits more u (subst (λ ys. Text (ys ++ more) u) (sym a) s)))
  long_law h (Err (NoMemory w)) o = o

  pub law : Obeys text (reading text)
  law = go (leb (length text) 65535) refl
    where
      all : Outcome 0 (between before) xs (read xs)
      all = outcome xs 0 (between before) tt (record { few = omega arith; shallow = tt })

      go : (b : Bool) → leb (length text) 65535 ≡ b → Obeys text (cond b (read text) (too_long (read xs)))
      go true q = let l = leb-true (length text) 65535 q in subst (λ ys. Obeys text (read ys)) (xs_whole l) (short_law l (read xs) all)
      go false q = long_law (leb-false (length text) 65535 q) (read xs) all

  -- What the code answers obeys the law.
  pub lawful : (r : Result TreeValue TextFault) → Answers (reading text) r → Lawful text r
  lawful (Ok n) e = subst (Obeys text) e law
  lawful (Err (Broken p)) e = subst (Obeys text) e law
  lawful (Err (Limit p)) e = subst (Obeys text) e law
  lawful (Err (NoMemory w)) e = tt

-- What a tree within the limits cannot be refused for.
shallow_of : (ms ns : List (ℕ × ℕ)) (n : ℕ × ℕ) → Shallow (ms ++ (n ∷ ns)) → n.1 ≤ 32
shallow_of [] ns n h = h.0
shallow_of (m ∷ ms) ns n h = shallow_of ms ns n h.1

pub fits_passes : (p : ℕ) (t : Tree) → Fits (nodes 1 t) → Passes p t → ⊥
fits_passes p t f o =
    let g = subst Fits o.all f in
    let l = g.few in
    let a = length-append o.earlier ((p, o.level) ∷ o.later) in
    let s = shallow_of o.earlier o.later (p, o.level) g.shallow in
    ⊎_elim (λ e. omega arith) (λ e. omega arith) o.over

pub front_text : (text : List ℕ) (n : ℕ) (t : Tree) → Text text t → Text (take n text ++ drop n text) t
front_text text n t s = subst (λ ys. Text ys t) (sym (take-append-drop n text)) s

module _ (text : List ℕ) (t : Tree) (s : Text text t) where
  known : (r : Result TreeValue TextFault) → Lawful text r → Known text t r
  known (Ok n) k = sym (k.only t s)
  known (Err (Broken p)) k = elim (cases_lt p (length text)) [
    | inl l ↦ k.ends l (drop (p + 1) text) t (front_text text (p + 1) t s)
    | inr l ↦ let w = k.within in k.unfinished (omega arith) t s
  ]
  known (Err (Limit p)) k =
      let w = k.within in
      elim k.over [
        | inl o ↦ inl (o (drop (p + 1) text) t (front_text text (p + 1) t s))
        | inr o ↦ let e = o.0 in inr (e, omega arith)
      ]
  known (Err (NoMemory w)) k = tt

  accepted : Fits (nodes 1 t) → length text ≤ 65535 → (r : Result TreeValue TextFault) → Known text t r → Accepted t r
  accepted f l (Ok n) k = k
  accepted f l (Err (Broken p)) k = k
  accepted f l (Err (Limit p)) k = ⊎_elim (λ o. fits_passes p t f o) (λ o. let w = o.1 in omega arith) k
  accepted f l (Err (NoMemory w)) k = tt

pub accepts : (text : List ℕ) (r : Result TreeValue TextFault) → Answers (reading text) r → Accepts text r
accepts text r a =
    record {
      spelled = λ t s. known text t s r (lawful text r a);
      within = λ t s f l. accepted text t s f l r (known text t s r (lawful text r a));
    }
