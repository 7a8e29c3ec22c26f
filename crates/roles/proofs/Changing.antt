-- What comes of it when one of the roles does something.
use Rattle.std.proofs.Common.{◌≡◌, ℕ, zero, suc, ◌<◌, cond, eqb, List, [], ◌∷◌, map, length, get_or, Ok, Err, Result, sym, refl, ap, ◌∙◌, subst, arith}
use Rattle.terms.specs.Declaring.{bind}
use Rattle.terms.proofs.Steps.{steps}
use Rattle.roles.specs.declared.line_fault.LineFault.{LineFault}
use Rattle.roles.specs.Playing.{Player}
use Rattle.roles.specs.Specified.{place_in}
use Rattle.roles.specs.Stages.{change, place_among}

abbrev pub names : List Player → List ℕ
names ps = map (λ (p : Player). p.name) ps

-- the place of a role is that of its name
pub place_is : (n : ℕ) (ps : List Player) → place_among n ps ≡ place_in n (names ps)
place_is n [] = refl
place_is n (p ∷ ps) = ap (λ k. cond (eqb p.name n) zero (suc k)) (place_is n ps)

module _ (f : Player → Result Player LineFault) where
  -- the one at the place did it, and the others are as they were
  pub record Changed (k : ℕ) (ps qs : List Player) : Type 0 where
    pub long : length qs ≡ length ps
    pub others : (r : ℕ) (p : Player) → ¬ (r ≡ k) → get_or qs r p ≡ get_or ps r p
    pub itself : (p : Player) → k < length ps → f (get_or ps k p) ≡ Ok (get_or qs k p)

  first_changed : (x y : Player) (ps : List Player) → f x ≡ Ok y → Changed zero (x ∷ ps) (y ∷ ps)
  first_changed x y ps e = record { long = refl; others = others; itself = λ p h. e }
    where
      others : (r : ℕ) (p : Player) → ¬ (r ≡ zero) → get_or (y ∷ ps) r p ≡ get_or (x ∷ ps) r p
      others zero p n = absurd (n refl)
      others (suc r) p n = refl

  later_changed : (k : ℕ) (x : Player) (ps qs : List Player) → Changed k ps qs → Changed (suc k) (x ∷ ps) (x ∷ qs)
  later_changed k x ps qs c = record { long = ap suc c.long; others = others; itself = λ p h. c.itself p (omega arith) }
    where
      others : (r : ℕ) (p : Player) → ¬ (r ≡ suc k) → get_or (x ∷ qs) r p ≡ get_or (x ∷ ps) r p
      others zero p n = refl
      others (suc r) p n = c.others r p (λ e. n (ap suc e))

  pub changed_at : (k : ℕ) (ps qs : List Player) → change k f ps ≡ Ok qs → Changed k ps qs
  changed_at k [] qs e =
      let is : [] ≡ qs = cc in
      record { long = ap length (sym is); others = λ r p n. ap (λ xs. get_or xs r p) (sym is); itself = λ p h. absurd (omega arith) }
  changed_at zero (p ∷ ps) qs e =
      let b = steps (f p) (λ q. Ok (q ∷ ps)) qs e in
      let s = b.second in
      let is : b.mid ∷ ps ≡ qs = cc in
      subst (Changed zero (p ∷ ps)) is (first_changed p b.mid ps b.first)
  changed_at (suc k) (p ∷ ps) qs e =
      let b = steps (change k f ps) (λ rs. Ok (p ∷ rs)) qs e in
      let s = b.second in
      let is : p ∷ b.mid ≡ qs = cc in
      subst (Changed (suc k) (p ∷ ps)) is (later_changed k p ps b.mid (changed_at k ps b.mid b.first))

  -- roles keep their names
  module _ (keeps : (p q : Player) → f p ≡ Ok q → q.name ≡ p.name) where
    pub names_same : (k : ℕ) (ps qs : List Player) → change k f ps ≡ Ok qs → names qs ≡ names ps
    names_same k [] qs e = let is : [] ≡ qs = cc in ap names (sym is)
    names_same zero (p ∷ ps) qs e =
        let b = steps (f p) (λ q. Ok (q ∷ ps)) qs e in
        let s = b.second in
        let is : b.mid ∷ ps ≡ qs = cc in
        ap names (sym is) ∙ ap (λ n. n ∷ names ps) (keeps p b.mid b.first)
    names_same (suc k) (p ∷ ps) qs e =
        let b = steps (change k f ps) (λ rs. Ok (p ∷ rs)) qs e in
        let s = b.second in
        let is : p ∷ b.mid ≡ qs = cc in
        ap names (sym is) ∙ ap (λ ns. p.name ∷ ns) (names_same k ps b.mid b.first)

  -- a fault is that of the role at the place
  pub fault_at : (k : ℕ) (ps : List Player) (x : LineFault) → change k f ps ≡ Err x → (p : Player) → f (get_or ps k p) ≡ Err x
  fault_at k [] x e p = absurd (cc)
  fault_at zero (p ∷ ps) x e q = go (f p) e
    where
      go : (o : Result Player LineFault) → bind o (λ r. Ok (r ∷ ps)) ≡ Err x → o ≡ Err x
      go (Ok r) e = absurd (cc)
      go (Err y) e = cc
  fault_at (suc k) (p ∷ ps) x e q = go (change k f ps) (λ g. fault_at k ps x g q) e
    where
      go : (o : Result (List Player) LineFault) → (o ≡ Err x → f (get_or ps k q) ≡ Err x) → bind o (λ rs. Ok (p ∷ rs)) ≡ Err x → f (get_or ps k q) ≡ Err x
      go (Ok r) h e = absurd (cc)
      go (Err y) h e = h (cc)

  -- and it is there, if that role is refused
  pub fault_through : (k : ℕ) (ps : List Player) (x : LineFault) (p : Player) → k < length ps → f (get_or ps k p) ≡ Err x → change k f ps ≡ Err x
  fault_through k [] x p h e = absurd (omega arith)
  fault_through zero (q ∷ ps) x p h e = ap (λ o. bind o (λ r. Ok (r ∷ ps))) e
  fault_through (suc k) (q ∷ ps) x p h e = ap (λ o. bind o (λ rs. Ok (q ∷ rs))) (fault_through k ps x p (omega arith) e)
