-- What one action does, on any store and whatever the registers hold: the call of the store that it makes, with which handles, and
-- what becomes of the answer.
use Rattle.std.specs.Prelude.{◌≡◌, ◌≢◌, ◌==◌, ◌≤◌, if◌then◌else◌, ℕ, suc, true, false, List, [], ◌∷◌, length, map, drop, Ok, Err, Some, None, slice_set}
use Rattle.std.specs.Prelude as std
use Rattle.model.specs.Trees.{Head, tupled, crypted, applied, Tree, leaf, node, Trees, none, more, eq_tree}
use Rattle.program.specs.declared.action.Action.{Action}
use Rattle.program.specs.declared.action.Action.TheVariants.{Give, New, Hear, Say, Same, Crypt, Tuple, Apply, OpenCrypt, OpenTuple, OpenApply}
use Rattle.program.specs.Parts.{parts_of}
use Rattle.store.specs.declared.fault.StoreFault.{StoreFault}
use Rattle.store.specs.declared.fault.StoreFault.TheVariants.{Invalid}
use Rattle.store.specs.declared.shape.Shape.{Shape}
use Rattle.store.specs.declared.shape.Shape.TheVariants as shapes
use Rattle.store.specs.Semantics.{Semantics}
use Rattle.store.specs.Makers.{wanted, Makes}
use Rattle.store.specs.Questions.{shape_of, unlocked_value, Answers}
use Rattle.run.specs.declared.fault.StepFault.{StepFault}
use Rattle.run.specs.declared.fault.StepFault.TheVariants.{Store, Differs}
use Rattle.run.specs.declared.supply.Supply.{Supply}
use Rattle.run.specs.Supplies.{first_of}
use Rattle.run.specs.Shown.{Meaning, vacant, register}

-- What actions work on, besides the store: the handles that the registers hold, those that can still be taken in, and the numbers
-- that are left for new atoms.
pub record State : Type 0 where
  pub registers : List ℕ
  pub inputs : List ℕ
  pub numbers : List ℕ

abbrev pub state_of : List ℕ → Supply → State
state_of cells supply = record { registers = cells; inputs = supply.handles.now; numbers = drop supply.used supply.numbers.now }

-- the next handle is taken in, the next number is used, or neither
abbrev pub TakesInput : State → State → Type 0
TakesInput x y = (y.inputs ≡ drop 1 x.inputs) × (y.numbers ≡ x.numbers)

abbrev pub TakesNumber : State → State → Type 0
TakesNumber x y = (y.inputs ≡ x.inputs) × (y.numbers ≡ drop 1 x.numbers)

abbrev pub TakesNothing : State → State → Type 0
TakesNothing x y = (y.inputs ≡ x.inputs) × (y.numbers ≡ x.numbers)

-- the atom of the first of some numbers
abbrev pub next_atom : List ℕ → std.Result Tree StoreFault
next_atom [] = Err Invalid
next_atom (n ∷ ns) = Ok (leaf n)

-- a handle that was answered goes into a register; the store's fault is passed on, and the registers stay
abbrev pub Keeps : List ℕ → List ℕ → ℕ → std.Result ℕ StoreFault → std.Result (Unit {0}) StepFault → Type 0
Keeps cells cells' target (Ok h) result = (cells' ≡ slice_set cells target h) × (result ≡ Ok tt)
Keeps cells cells' target (Err e) result = (cells' ≡ cells) × (result ≡ Err (Store e))

-- a register holds something
abbrev pub filled : List ℕ → ℕ → std.Result (Unit {0}) StepFault
filled cells r = if register cells r == vacant then Err (Store Invalid) else Ok tt

-- two values are equal
abbrev pub compared : std.Option Tree → std.Option Tree → std.Result (Unit {0}) StepFault
compared None w = Err (Store Invalid)
compared (Some v) None = Err (Store Invalid)
compared (Some v) (Some w) = if eq_tree v w then Ok tt else Err Differs

-- a value has a shape
abbrev pub FitsShape : std.Option Tree → Shape → std.Result (Unit {0}) StepFault → Type 0
FitsShape None shape result = result ≡ Err (Store Invalid)
FitsShape (Some v) shape (Ok x) = shape_of v ≡ shape
FitsShape (Some v) shape (Err e) = (e ≡ Differs) × (shape_of v ≢ shape)

-- the shape of a tuple, or of an application of a function
abbrev pub compound_shape : std.Option ℕ → ℕ → Shape
compound_shape None n = shapes.Tuple n
compound_shape (Some f) n = shapes.Apply f n

-- handles of some values go into registers in a row
pub data Filled (m : Meaning) : List ℕ → ℕ → Trees → List ℕ → Type 0 where
  no_more : {cells : List ℕ} {r : ℕ} → Filled m cells r none cells
  one_more : {cells cells' : List ℕ} {r : ℕ} {v : Tree} {vs : Trees} (h : ℕ) → m h ≡ Some v → Filled m (slice_set cells r h) (suc r) vs cells' → Filled m cells r (more v vs) cells'

-- the parts that can be asked for
abbrev pub parts_within : Tree → Trees
parts_within (leaf n) = none
parts_within (node tupled vs) = vs
parts_within (node crypted vs) = none
parts_within (node (applied f) vs) = vs

-- a value of the wanted shape is taken apart
abbrev pub OpensValue : Meaning → List ℕ → List ℕ → ℕ → Tree → Shape → std.Result (Unit {0}) StepFault → Type 0
OpensValue m cells cells' first v shape (Ok x) = (shape_of v ≡ shape) × Filled m cells first (parts_within v) cells'
OpensValue m cells cells' first v shape (Err e) = (e ≡ Differs) × (shape_of v ≢ shape) × (cells' ≡ cells)

abbrev pub Opens : Meaning → List ℕ → List ℕ → ℕ → std.Option Tree → Shape → std.Result (Unit {0}) StepFault → Type 0
Opens m cells cells' first None shape result = (result ≡ Err (Store Invalid)) × (cells' ≡ cells)
Opens m cells cells' first (Some v) shape result = OpensValue m cells cells' first v shape result

module _ {S : Type 0} (M : Semantics S) where
  -- the atom of the next number is made, and its handle goes into a register
  pub record MakesAtom (numbers : List ℕ) (target : ℕ) (old new : S) (cells cells' : List ℕ) (result : std.Result (Unit {0}) StepFault) : Type 0 where
    pub made : std.Result ℕ StoreFault
    pub makes : Makes M old new (next_atom numbers) made
    pub keeps : Keeps cells cells' target made result

  -- a compound of what some registers hold, at most eight, is made, and its handle goes into a register
  pub record Builds (head : Head) (parts : List ℕ) (target : ℕ) (old new : S) (cells cells' : List ℕ) (result : std.Result (Unit {0}) StepFault) : Type 0 where
    pub made : std.Result ℕ StoreFault
    pub few : length parts ≤ 8
    pub makes : Makes M old new (wanted (M.means old) head (map (λ r. register cells r) parts)) made
    pub keeps : Keeps cells cells' target made result

  -- the ciphertext of a register is unlocked with what another holds, and a handle of its text goes into a register
  pub record Unlocks (target source key : ℕ) (old : S) (cells cells' : List ℕ) (result : std.Result (Unit {0}) StepFault) : Type 0 where
    pub text : std.Result ℕ StoreFault
    pub answers : Answers (M.means old) (unlocked_value (M.means old (register cells source)) (M.means old (register cells key))) text
    pub keeps : Keeps cells cells' target text result

  -- One action, from a store and a state to a store and a state, and its result. What `give` and `hear` take in is looked at when
  -- the call of the run begins.
  abbrev pub Does : Action → S → State → S → State → std.Result (Unit {0}) StepFault → Type 0
  Does (Give t) s x s' y r = (s' ≡ s) × Keeps x.registers y.registers t (first_of x.inputs) r × TakesInput x y
  Does (Hear t) s x s' y r = (s' ≡ s) × Keeps x.registers y.registers t (first_of x.inputs) r × TakesInput x y
  Does (New t) s x s' y r = MakesAtom x.numbers t s s' x.registers y.registers r × TakesNumber x y
  Does (Say q) s x s' y r = (s' ≡ s) × (y.registers ≡ x.registers) × TakesNothing x y × (r ≡ filled x.registers q)
  Does (Same q p) s x s' y r =
      (s' ≡ s) × (y.registers ≡ x.registers) × TakesNothing x y × (r ≡ compared (M.means s (register x.registers q)) (M.means s (register x.registers p)))
  Does (Crypt t q k) s x s' y r = Builds crypted (q ∷ k ∷ []) t s s' x.registers y.registers r × TakesNothing x y
  Does (Tuple t ps) s x s' y r = Builds tupled (parts_of ps) t s s' x.registers y.registers r × TakesNothing x y
  Does (Apply t f ps) s x s' y r = Builds (applied f) (parts_of ps) t s s' x.registers y.registers r × TakesNothing x y
  Does (OpenCrypt t q k) s x s' y r = (s' ≡ s) × Unlocks t q k s x.registers y.registers r × TakesNothing x y
  Does (OpenTuple f n q) s x s' y r =
      (s' ≡ s) × Opens (M.means s) x.registers y.registers f (M.means s (register x.registers q)) (shapes.Tuple n) r × TakesNothing x y
  Does (OpenApply f n q g) s x s' y r =
      (s' ≡ s) × Opens (M.means s) x.registers y.registers f (M.means s (register x.registers q)) (shapes.Apply g n) r × TakesNothing x y
