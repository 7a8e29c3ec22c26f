-- What is declared: names with what they stand for, functions, starting knowledge, and the terms read so far.
use Rattle.std.specs.Prelude.{ℕ, Bool, false, List, [], take, drop, Some, None, Option, option_map}
use Rattle.std.specs.List.{position, find}
use Rattle.std.specs.Str.{bytes_eq}
use Rattle.model.specs.Trees.{Tree}
use Rattle.text.specs.declared.part.Part.{Part}
use Rattle.syntax.specs.declared.symbol.FunctionClass.{FunctionClass}
use Rattle.terms.specs.declared.declarations.Declared.{Declared}
use Rattle.terms.specs.declared.declarations.Meaning.{Meaning}
use Rattle.terms.specs.declared.declarations.Meaning.TheVariants.{Value, Function}
use Rattle.terms.specs.declared.declarations.Right.{Right}
use Rattle.terms.specs.declared.declarations.ValueType.{ValueType}
use Rattle.terms.specs.declared.declarations.ValueType.TheVariants.{Number}

-- a function: its name, who may apply it and whether it hides its arguments, and its type
pub record Signature : Type 0 where
  pub name : Part
  pub class : FunctionClass
  pub result : ValueType
  pub parameters : List ValueType

-- a term that a party starts from, by the number of its name, or everybody
pub record Given : Type 0 where
  pub knower : Option ℕ
  pub term : Tree

pub record Scope : Type 0 where
  pub names : List Declared
  pub functions : List Signature
  pub starts : List Given
  pub rights : List Right
  -- the distinct terms, in the order in which they were first read, parts before the whole
  pub terms : List Tree

abbrev pub nothing_declared : Scope
nothing_declared = record { names = []; functions = []; starts = []; rights = []; terms = [] }

-- the bytes of a part of the text
abbrev pub bytes : List ℕ → Part → List ℕ
bytes text p = take p.len (drop p.at text)

-- is it the declaration of this name?
abbrev pub declares : List ℕ → Part → Declared → Bool
declares text p d = bytes_eq (bytes text d.name) (bytes text p)

-- the number of a name, and what it stands for, by its first declaration
abbrev pub number_of : List ℕ → List Declared → Part → Option ℕ
number_of text ds p = position (declares text p) ds

abbrev pub meaning_of : List ℕ → List Declared → Part → Option Meaning
meaning_of text ds p = option_map (λ (d : Declared). d.meaning) (find (declares text p) ds)

-- the number of the function that a name stands for
abbrev pub function_of : Option Meaning → Option ℕ
function_of None = None
function_of (Some (Value kind shared)) = None
function_of (Some (Function f)) = Some f

-- what stands where there is no function
abbrev pub no_function : Signature
no_function = record { name = record { at = 0; len = 0 }; class = record { secret = false; one_way = false }; result = Number; parameters = [] }
