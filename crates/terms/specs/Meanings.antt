-- What the tables of declarations stand for.
use Rattle.std.specs.Prelude.{◌≡◌, ℕ, zero, suc, ◌-◌, ◌<◌, List, [], ◌∷◌, ◌++◌, map, length, vec_items, slice_index_or, slice_range}
use Rattle.model.specs.Trees.{Tree, leaf}
use Rattle.terms.specs.declared.declarations.Declarations.{Declarations}
use Rattle.terms.specs.declared.declarations.Function.{Function}
use Rattle.terms.specs.declared.declarations.Start.{Start}
use Rattle.terms.specs.declared.declarations.ValueType.{ValueType}
use Rattle.terms.specs.declared.table.TermTable.{TermTable}
use Rattle.terms.specs.Terms.{tree_in, size}
use Rattle.terms.specs.Scope.{Scope, Signature, Given}

-- the types of a function's parameters, among those of all functions
abbrev pub parameters_in : List ValueType → Function → List ValueType
parameters_in ws f = slice_range ws f.first f.end

-- and how many they are, where they stand in the list
abbrev pub arity : Function → ℕ
arity f = f.end - f.first

-- a function's row
abbrev pub signature_in : List ValueType → Function → Signature
signature_in ws f = record { name = f.name; class = f.class; result = f.result; parameters = parameters_in ws f }

abbrev pub given_in : TermTable → Start → Given
given_in t s = record { knower = s.knower; term = tree_in t s.term }

-- the table's numbers stand for these trees
pub record Lists (t : TermTable) (us : List Tree) : Type 0 where
  pub long : length us ≡ size t
  pub each : (k : ℕ) → k < size t → slice_index_or us k (leaf 0) ≡ tree_in t k

-- the first k trees, by their numbers
abbrev pub first_trees : (ℕ → Tree) → ℕ → List Tree
first_trees f zero = []
first_trees f (suc k) = first_trees f k ++ (f k ∷ [])

-- the terms of a table, in the order of their numbers
unfoldable pub trees_of : TermTable → List Tree
trees_of t = first_trees (tree_in t) (size t)

-- the rows of functions, the types of their parameters, the rows of starts, and the terms by number
abbrev pub functions_of : Declarations → List Function
functions_of d = vec_items d.functions

abbrev pub types_of : Declarations → List ValueType
types_of d = vec_items d.parameters

abbrev pub starts_of : Declarations → List Start
starts_of d = vec_items d.starts

abbrev pub table_of : Declarations → TermTable
table_of d = d.terms

-- what is declared
abbrev pub scope_of : Declarations → Scope
scope_of d = record {
  names = vec_items d.names;
  functions = map (signature_in (types_of d)) (functions_of d);
  starts = map (given_in (table_of d)) (starts_of d);
  rights = vec_items d.rights;
  terms = trees_of (table_of d);
}
