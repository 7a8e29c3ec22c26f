-- A specification as a tree: declarations and lines, over terms with their places.
use Rattle.std.specs.Prelude.{ℕ, suc, Bool, List}
use Rattle.text.specs.declared.part.Part.{Part}
use Rattle.syntax.specs.declared.symbol.FunctionClass.{FunctionClass}
use Rattle.syntax.specs.declared.spec.Name.{Name}
use Rattle.syntax.specs.declared.spec.Label.{Label}

-- A term with the place of each node: a name, a tuple, a text under a key, or an application of a function by its name.
mutual
  pub data Term : Type 0 where
    name : ℕ → Part → Term
    tuple : ℕ → Terms → Term
    crypt : ℕ → Term → Term → Term
    apply : ℕ → Name → Terms → Term

  pub data Terms : Type 0 where
    none : Terms
    more : Term → Terms → Terms

pub data Declared : Type 0 where
  -- a name with its type, shared or not
  value : Name → Name → Bool → Declared
  -- a function with its result and its parameters
  function : Name → FunctionClass → Name → List Name → Declared
  -- starting knowledge of one party, or of everybody
  knows : Name → Term → Declared
  everybody : Term → Declared

pub record Lined : Type 0 where
  pub label : Label
  pub sender : Name
  pub receiver : Name
  pub message : Term

pub record Specification : Type 0 where
  pub declarations : List Declared
  pub lines : List Lined

-- how many terms
abbrev pub count : Terms → ℕ
count none = 0
count (more t ts) = suc (count ts)
