-- What reading a declaration does.
use Rattle.std.specs.Prelude.{◌≡◌, ℕ, List, [], ◌∷◌, ◌++◌, Ok, Err, vec_items, Option, Result}
use Rattle.syntax.specs.declared.spec.Name.{Name}
use Rattle.syntax.specs.Specs as syntax
use Rattle.syntax.specs.Specs.{Term, Specification}
use Rattle.terms.specs.declared.declarations.Declarations.{Declarations}
use Rattle.terms.specs.declared.declarations.Declared.{Declared}
use Rattle.terms.specs.declared.declarations.Function.{Function}
use Rattle.terms.specs.declared.declarations.Meaning.{Meaning}
use Rattle.terms.specs.declared.declarations.Meaning.TheVariants as meaning
use Rattle.terms.specs.declared.declarations.ValueType.{ValueType}
use Rattle.syntax.specs.declared.symbol.FunctionClass.{FunctionClass}
use Rattle.terms.specs.declared.limits.Limits.{Limits}
use Rattle.terms.specs.declared.fault.DeclarationFault.{DeclarationFault}
use Rattle.terms.specs.declared.fault.DeclarationFault.TheVariants.{Limit, Redeclared, Undeclared, WrongType, NoMemory}
use Rattle.base.specs.declared.memory.NoMemory.{NoMemory as Lack}
use Rattle.terms.specs.Scope.{Scope}
use Rattle.terms.specs.Declaring.{kinds_of, known, declare, declared}
use Rattle.terms.specs.Meanings.{scope_of}

-- this fault, or want of memory, of which nothing is said
abbrev pub Unfit : {A : Type 0} → Result A DeclarationFault → DeclarationFault → Type 0
Unfit q (Limit p) = q ≡ Err (Limit p)
Unfit q (Redeclared p) = q ≡ Err (Redeclared p)
Unfit q (Undeclared p) = q ≡ Err (Undeclared p)
Unfit q (WrongType p) = q ≡ Err (WrongType p)
Unfit q (NoMemory w) = Unit {0}

-- the declarations that come out, or the fault
abbrev pub Scoped : Result Scope DeclarationFault → Declarations → Result (Unit {0}) DeclarationFault → Type 0
Scoped q d (Ok x) = q ≡ Ok (scope_of d)
Scoped q d (Err f) = Unfit q f

-- the types of some names, behind those that were there
abbrev pub Kinds : List ℕ → List Name → List ValueType → List ValueType → Result (Unit {0}) DeclarationFault → Type 0
Kinds text ns ws ws' (Ok x) = (ks : List ValueType) × ((kinds_of text ns ≡ Ok ks) × (ws' ≡ ws ++ ks))
Kinds text ns ws ws' (Err f) = Unfit (kinds_of text ns) f

-- it is done, or there was no memory
abbrev pub Done : Type 0 → Result (Unit {0}) Lack → Type 0
Done P (Ok x) = P
Done P (Err w) = Unit {0}

-- the rows of a name and of a function
abbrev pub declared_name : Name → Meaning → Declared
declared_name n m = record { name = n.part; meaning = m }

abbrev pub function_name : Name → ℕ → Declared
function_name n k = declared_name n (meaning.Function k)

abbrev pub function_row : Name → FunctionClass → ValueType → ℕ → ℕ → Function
function_row n c result first end = record { name = n.part; class = c; result = result; first = first; end = end }

-- one name more, and nothing else
pub record MoreNames (d d' : Declarations) (x : Declared) : Type 0 where
  pub names : vec_items d'.names ≡ vec_items d.names ++ (x ∷ [])
  pub functions : d'.functions ≡ d.functions
  pub parameters : d'.parameters ≡ d.parameters
  pub starts : d'.starts ≡ d.starts
  pub rights : d'.rights ≡ d.rights
  pub terms : d'.terms ≡ d.terms

-- one name and one function more
pub record MoreFunctions (d d' : Declarations) (x : Declared) (f : Function) : Type 0 where
  pub names : vec_items d'.names ≡ vec_items d.names ++ (x ∷ [])
  pub functions : vec_items d'.functions ≡ vec_items d.functions ++ (f ∷ [])
  pub parameters : d'.parameters ≡ d.parameters
  pub starts : d'.starts ≡ d.starts
  pub rights : d'.rights ≡ d.rights
  pub terms : d'.terms ≡ d.terms

module _ (text : List ℕ) (limits : Limits) where
  -- starting knowledge
  abbrev pub Knowing : Declarations → Declarations → Option ℕ → Term → Result (Unit {0}) DeclarationFault → Type 0
  Knowing d d' who t r = Scoped (known text limits who t (scope_of d)) d' r

  -- a declaration
  abbrev pub Declaring : Declarations → Declarations → syntax.Declared → Result (Unit {0}) DeclarationFault → Type 0
  Declaring d d' x r = Scoped (declare text limits x (scope_of d)) d' r

  -- all declarations of a specification
  abbrev pub Declares : Specification → Result Declarations DeclarationFault → Type 0
  Declares X (Ok d) = declared text limits X ≡ Ok (scope_of d)
  Declares X (Err f) = Unfit (declared text limits X) f
