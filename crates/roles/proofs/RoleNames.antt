-- The names of a specification's roles: each has its place, and keeps it while names are added.
use Rattle.std.proofs.Common.{◌≡◌, ℕ, zero, suc, ◌<◌, ◌≤◌, Bool, true, false, cond, T, eqb, ltb, List, [], ◌∷◌, ◌++◌, length, get_or, sym, refl, ap, ◌∙◌, append_assoc, append-nil, arith, eqb→eq, length-append}
use native.Mathlib.Decide.{dec_lt}
use Rattle.std.proofs.lemmas.Bool.{eq-eqb, lt-ltb, le-ltb, cond-true, cond-false}
use Rattle.syntax.specs.Specs.{Lined}
use Rattle.terms.specs.Scope.{Scope}
use Rattle.roles.specs.Specified.{place_in, with_number, numbered, names_from}

module _ (n : ℕ) where
  -- a name that has its place keeps it
  pub place_kept : (ns ms : List ℕ) → place_in n ns < length ns → place_in n (ns ++ ms) ≡ place_in n ns
  place_kept [] ms h = absurd (omega arith)
  place_kept (m ∷ ns) ms h = go (eqb m n) h (place_kept ns ms)
    where
      go : (b : Bool) → cond b zero (suc (place_in n ns)) < suc (length ns) → (place_in n ns < length ns → place_in n (ns ++ ms) ≡ place_in n ns)
          → cond b zero (suc (place_in n (ns ++ ms))) ≡ cond b zero (suc (place_in n ns))
      go true l f = refl
      go false l f = ap suc (f (omega arith))

  -- one that has none comes last
  pub place_last : (ns : List ℕ) → length ns ≤ place_in n ns → place_in n (ns ++ (n ∷ [])) ≡ length ns
  place_last [] h = ap (λ b. cond b zero 1) (eq-eqb n n refl)
  place_last (m ∷ ns) h = go (eqb m n) h (place_last ns)
    where
      go : (b : Bool) → suc (length ns) ≤ cond b zero (suc (place_in n ns)) → (length ns ≤ place_in n ns → place_in n (ns ++ (n ∷ [])) ≡ length ns)
          → cond b zero (suc (place_in n (ns ++ (n ∷ [])))) ≡ suc (length ns)
      go true l f = absurd (omega arith)
      go false l f = ap suc (f (omega arith))

  -- what stands at its place
  pub at_place : (ns : List ℕ) (d : ℕ) → place_in n ns < length ns → get_or ns (place_in n ns) d ≡ n
  at_place [] d h = absurd (omega arith)
  at_place (m ∷ ns) d h = go (eqb m n) (eqb→eq m n) h (at_place ns d)
    where
      go : (b : Bool) → (T b → m ≡ n) → cond b zero (suc (place_in n ns)) < suc (length ns) → (place_in n ns < length ns → get_or ns (place_in n ns) d ≡ n)
          → get_or (m ∷ ns) (cond b zero (suc (place_in n ns))) d ≡ n
      go true e l f = e tt
      go false e l f = f (omega arith)

  -- names only come behind others
  pub number_added : (ns : List ℕ) → (rest : List ℕ) × (with_number n ns ≡ ns ++ rest)
  number_added ns = go (ltb (place_in n ns) (length ns))
    where
      go : (b : Bool) → (rest : List ℕ) × (cond b ns (ns ++ (n ∷ [])) ≡ ns ++ rest)
      go true = ([], sym (append-nil ns))
      go false = (n ∷ [], refl)

  pub number_there : (ns : List ℕ) → place_in n ns < length ns → with_number n ns ≡ ns
  number_there ns h = cond-true _ _ _ (lt-ltb (place_in n ns) (length ns) h)

  pub number_new : (ns : List ℕ) → length ns ≤ place_in n ns → with_number n ns ≡ ns ++ (n ∷ [])
  number_new ns h = cond-false _ _ _ (le-ltb (place_in n ns) (length ns) h)

  -- then it has its place
  pub number_placed : (ns : List ℕ) → place_in n (with_number n ns) < length (with_number n ns)
  number_placed ns = go (dec_lt (place_in n ns) (length ns))
    where
      go : Dec (place_in n ns < length ns) → place_in n (with_number n ns) < length (with_number n ns)
      go (yes h) = rw (number_there ns h) h
      go (no h) =
          let e : length ns ≤ place_in n ns = omega arith in
          let p = place_last ns e in
          let l = length-append ns (n ∷ []) in
          rw (number_new ns e) (omega arith)

module _ (text : List ℕ) (U : Scope) where
  pub names_kept : (ls : List Lined) (ns : List ℕ) → (rest : List ℕ) × (names_from text U ns ls ≡ ns ++ rest)
  names_kept [] ns = ([], sym (append-nil ns))
  names_kept (l ∷ ls) ns =
      let a = numbered text U l.sender in
      let b = numbered text U l.receiver in
      let x = number_added a ns in
      let y = number_added b (with_number a ns) in
      let z = names_kept ls (with_number b (with_number a ns)) in
      (x.0 ++ (y.0 ++ z.0), z.1 ∙ ap (λ ms. ms ++ z.0) (y.1 ∙ ap (λ ms. ms ++ y.0) x.1) ∙ append_assoc (ns ++ x.0) y.0 z.0 ∙ append_assoc ns x.0 (y.0 ++ z.0))

  pub names_then : (xs ys : List Lined) (ns : List ℕ) → names_from text U ns (xs ++ ys) ≡ names_from text U (names_from text U ns xs) ys
  names_then [] ys ns = refl
  names_then (x ∷ xs) ys ns = names_then xs ys (with_number (numbered text U x.receiver) (with_number (numbered text U x.sender) ns))
