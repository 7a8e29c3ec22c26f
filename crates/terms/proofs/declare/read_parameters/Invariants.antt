use Rattle.std.proofs.Common.{◌≡◌, ℕ, List, ◌++◌, drop, Ok, vec_items}
use Rattle.syntax.specs.declared.spec.Name.{Name}
use Rattle.terms.specs.declared.declarations.ValueType.{ValueType}
use Rattle.terms.specs.Declaring.{bind, kinds_of}
use Rattle.terms.proofs.declare.read_parameters.Given as goal

-- the types of so many names stand behind those that were there
pub record TypesRead (text : List ℕ) (ns : List Name) (old now : List ValueType) (i : ℕ) : Type 0 where
  pub kinds : List ValueType
  pub items : now ≡ old ++ kinds
  pub same : kinds_of text ns ≡ bind (kinds_of text (drop i ns)) (λ ks. Ok (kinds ++ ks))

abbrev pub invariant-loop-name : goal.invariant-loop-name
invariant-loop-name l = TypesRead l.text l.names (vec_items l.fn.parameters) (vec_items l.parameters) l.name-index
