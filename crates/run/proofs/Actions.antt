-- What one action keeps.
use Rattle.std.proofs.Common.{◌≡◌, ℕ, false, Some, None, Ok, Err, Option, Result, List, [], ◌∷◌, length, ap, ◌∙◌}
use Rattle.std.proofs.lemmas.List.{length-set}
use mathlib.Core.Path.{subst⁻¹}
use Rattle.model.specs.Trees.{tupled, crypted, applied, Tree, leaf, node}
use Rattle.model.specs.Roles.{count}
use Rattle.program.specs.declared.action.Action.{Action}
use Rattle.program.specs.declared.action.Action.TheVariants.{Give, New, Hear, Say, Same, Crypt, Tuple, Apply, OpenCrypt, OpenTuple, OpenApply}
use Rattle.program.specs.Held.{has, from, fills}
use Rattle.store.specs.declared.fault.StoreFault.{StoreFault}
use Rattle.store.specs.declared.shape.Shape.{Shape}
use Rattle.store.specs.declared.shape.Shape.TheVariants as shapes
use Rattle.store.specs.Semantics.{Semantics}
use Rattle.store.specs.Questions.{shape_of}
use Rattle.run.specs.declared.fault.StepFault.{StepFault}
use Rattle.run.specs.Shown.{Meaning, register}
use Rattle.run.specs.Actions.{State, Keeps, Opens, parts_within, Does}
use Rattle.run.proofs.Holding.{other_set, filled_size, filled_other}

-- what a register keeps
pub keeps_size : (cells cells' : List ℕ) (t : ℕ) (made : Result ℕ StoreFault) (r : Result (Unit {0}) StepFault) → Keeps cells cells' t made r → length cells' ≡ length cells
keeps_size cells cells' t (Ok h) r k = ap length k.0 ∙ length-set cells t h
keeps_size cells cells' t (Err e) r k = ap length k.0

pub keeps_other : (cells cells' : List ℕ) (t : ℕ) (made : Result ℕ StoreFault) (r : Result (Unit {0}) StepFault) → Keeps cells cells' t made r → (q : ℕ) → has q (t ∷ []) ≡ false
    → register cells' q ≡ register cells q
keeps_other cells cells' t (Ok h) r k q e = ap (λ c. register c q) k.0 ∙ other_set cells t h q e
keeps_other cells cells' t (Err f) r k q e = ap (λ c. register c q) k.0

-- a value of a shape has as many parts as that says
pub tuple_parts : (n : ℕ) (v : Tree) → shape_of v ≡ shapes.Tuple n → count (parts_within v) ≡ n
tuple_parts n (leaf a) e = absurd (cc)
tuple_parts n (node tupled vs) e = cc
tuple_parts n (node crypted vs) e = absurd (cc)
tuple_parts n (node (applied k) vs) e = absurd (cc)

pub apply_parts : (k n : ℕ) (v : Tree) → shape_of v ≡ shapes.Apply k n → count (parts_within v) ≡ n
apply_parts k n (leaf a) e = absurd (cc)
apply_parts k n (node tupled vs) e = absurd (cc)
apply_parts k n (node crypted vs) e = absurd (cc)
apply_parts k n (node (applied g) vs) e = cc

module _ (m : Meaning) (cells cells' : List ℕ) (f n : ℕ) (shape : Shape) (fit : (v : Tree) → shape_of v ≡ shape → count (parts_within v) ≡ n) where
  opens_size : (o : Option Tree) (r : Result (Unit {0}) StepFault) → Opens m cells cells' f o shape r → length cells' ≡ length cells
  opens_size None r d = ap length d.1
  opens_size (Some v) (Ok x) d = filled_size m cells cells' f (parts_within v) d.1
  opens_size (Some v) (Err e) d = ap length d.2

  opens_other : (o : Option Tree) (r : Result (Unit {0}) StepFault) → Opens m cells cells' f o shape r → (q : ℕ) → has q (from f n) ≡ false → register cells' q ≡ register cells q
  opens_other None r d q free = ap (λ c. register c q) d.1
  opens_other (Some v) (Ok x) d q free = filled_other m cells cells' f (parts_within v) d.1 q (subst⁻¹ (λ k. has q (from f k) ≡ false) (fit v d.0) free)
  opens_other (Some v) (Err e) d q free = ap (λ c. register c q) d.2

module _ {S : Type 0} (M : Semantics S) where
  pub does_size : (a : Action) (s t : S) (x y : State) (r : Result (Unit {0}) StepFault) → Does M a s x t y r → length y.registers ≡ length x.registers
  does_size (Give q) s t x y r d = keeps_size x.registers y.registers q _ r d.1
  does_size (Hear q) s t x y r d = keeps_size x.registers y.registers q _ r d.1
  does_size (New q) s t x y r d = keeps_size x.registers y.registers q d.0.made r d.0.keeps
  does_size (Say q) s t x y r d = ap length d.1
  does_size (Same q p) s t x y r d = ap length d.1
  does_size (Crypt q p k) s t x y r d = keeps_size x.registers y.registers q d.0.made r d.0.keeps
  does_size (Tuple q ps) s t x y r d = keeps_size x.registers y.registers q d.0.made r d.0.keeps
  does_size (Apply q f ps) s t x y r d = keeps_size x.registers y.registers q d.0.made r d.0.keeps
  does_size (OpenCrypt q p k) s t x y r d = keeps_size x.registers y.registers q d.1.text r d.1.keeps
  does_size (OpenTuple f n q) s t x y r d = opens_size (M.means s) x.registers y.registers f n (shapes.Tuple n) (tuple_parts n) (M.means s (register x.registers q)) r d.1
  does_size (OpenApply f n q k) s t x y r d = opens_size (M.means s) x.registers y.registers f n (shapes.Apply k n) (apply_parts k n) (M.means s (register x.registers q)) r d.1

  pub does_other : (a : Action) (s t : S) (x y : State) (r : Result (Unit {0}) StepFault) → Does M a s x t y r → (q : ℕ) → has q (fills a) ≡ false → register y.registers q ≡ register x.registers q
  does_other (Give p) s t x y r d q e = keeps_other x.registers y.registers p _ r d.1 q e
  does_other (Hear p) s t x y r d q e = keeps_other x.registers y.registers p _ r d.1 q e
  does_other (New p) s t x y r d q e = keeps_other x.registers y.registers p d.0.made r d.0.keeps q e
  does_other (Say p) s t x y r d q e = ap (λ c. register c q) d.1
  does_other (Same p k) s t x y r d q e = ap (λ c. register c q) d.1
  does_other (Crypt p k j) s t x y r d q e = keeps_other x.registers y.registers p d.0.made r d.0.keeps q e
  does_other (Tuple p ps) s t x y r d q e = keeps_other x.registers y.registers p d.0.made r d.0.keeps q e
  does_other (Apply p f ps) s t x y r d q e = keeps_other x.registers y.registers p d.0.made r d.0.keeps q e
  does_other (OpenCrypt p k j) s t x y r d q e = keeps_other x.registers y.registers p d.1.text r d.1.keeps q e
  does_other (OpenTuple f n p) s t x y r d q e = opens_other (M.means s) x.registers y.registers f n (shapes.Tuple n) (tuple_parts n) (M.means s (register x.registers p)) r d.1 q e
  does_other (OpenApply f n p k) s t x y r d q e = opens_other (M.means s) x.registers y.registers f n (shapes.Apply k n) (apply_parts k n) (M.means s (register x.registers p)) r d.1 q e
