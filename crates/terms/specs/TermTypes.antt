-- Which terms have which types, by rules; what is wrong with a node of a term; and the law over both.
use Rattle.std.specs.Prelude.{◌≡◌, ◌≢◌, ◌↔◌, ℕ, Bool, List, [], ◌∷◌, ◌++◌, length, Some, None, Ok, Err, Option, slice_get}
use Rattle.model.specs.Lists.{Every}
use Rattle.text.specs.declared.part.Part.{Part}
use Rattle.syntax.specs.declared.spec.Name.{Name}
use Rattle.syntax.specs.Specs.{Term, name, tuple, crypt, apply, Terms, none, more, count}
use Rattle.terms.specs.declared.declarations.Meaning.{Meaning}
use Rattle.terms.specs.declared.declarations.Meaning.TheVariants.{Value, Function}
use Rattle.terms.specs.declared.declarations.ValueType.{ValueType}
use Rattle.terms.specs.declared.declarations.ValueType.TheVariants.{Number, Principal}
use Rattle.terms.specs.declared.fault.TermFault.{TermFault}
use Rattle.terms.specs.declared.fault.TermFault.TheVariants.{Undeclared, WrongType}
use Rattle.terms.specs.Scope.{Scope, Signature, meaning_of}
use Rattle.terms.specs.Typing.{typed}

-- A principal may stand where a number is wanted; otherwise types are equal.
pub data StandsFor : ValueType → ValueType → Type 0 where
  same : {w : ValueType} → StandsFor w w
  party : StandsFor Principal Number

-- The name stands for a function of this kind.
pub record Applies (text : List ℕ) (S : Scope) (f : Name) (s : Signature) : Type 0 where
  pub number : ℕ
  pub stands : meaning_of text S.names f.part ≡ Some (Function number)
  pub is : slice_get S.functions number ≡ Some s

-- A term has a type. Tuples and ciphertexts are numbers, and so are their parts; an application follows its function's declaration.
mutual
  pub data HasType (text : List ℕ) (S : Scope) : Term → ValueType → Type 0 where
    named : {at : ℕ} {p : Part} {kind w : ValueType} {shared : Bool} → meaning_of text S.names p ≡ Some (Value kind shared) → StandsFor kind w → HasType text S (name at p) w
    tupled : {at : ℕ} {ts : Terms} → Numbers text S ts → HasType text S (tuple at ts) Number
    crypted : {at : ℕ} {t k : Term} → HasType text S t Number → HasType text S k Number → HasType text S (crypt at t k) Number
    applied : {at : ℕ} {f : Name} {ts : Terms} {s : Signature} {w : ValueType} → Applies text S f s → HaveTypes text S ts s.parameters → StandsFor s.result w → HasType text S (apply at f ts) w

  -- each is a number
  pub data Numbers (text : List ℕ) (S : Scope) : Terms → Type 0 where
    no_number : Numbers text S none
    one_number : {t : Term} {ts : Terms} → HasType text S t Number → Numbers text S ts → Numbers text S (more t ts)

  -- as many terms as types, each of its type
  pub data HaveTypes (text : List ℕ) (S : Scope) : Terms → List ValueType → Type 0 where
    no_typed : HaveTypes text S none []
    one_typed : {t : Term} {ts : Terms} {w : ValueType} {ws : List ValueType} → HasType text S t w → HaveTypes text S ts ws → HaveTypes text S (more t ts) (w ∷ ws)

-- What is wrong with a node where this type is wanted of it, its parts aside.
pub data Wrong (text : List ℕ) (S : Scope) : Term → ValueType → TermFault → Type 0 where
  undeclared : {at : ℕ} {p : Part} {w : ValueType} → meaning_of text S.names p ≡ None → Wrong text S (name at p) w (Undeclared at)
  function_as_term : {at : ℕ} {p : Part} {w : ValueType} {g : ℕ} → meaning_of text S.names p ≡ Some (Function g) → Wrong text S (name at p) w (WrongType at)
  no_principal : {at : ℕ} {p : Part} {shared : Bool} → meaning_of text S.names p ≡ Some (Value Number shared) → Wrong text S (name at p) Principal (WrongType at)
  tuple_as_principal : {at : ℕ} {ts : Terms} → Wrong text S (tuple at ts) Principal (WrongType at)
  crypt_as_principal : {at : ℕ} {t k : Term} → Wrong text S (crypt at t k) Principal (WrongType at)
  unknown_function : {at : ℕ} {f : Name} {ts : Terms} {w : ValueType} → meaning_of text S.names f.part ≡ None → Wrong text S (apply at f ts) w (Undeclared f.at)
  no_function : {at : ℕ} {f : Name} {ts : Terms} {w kind : ValueType} {shared : Bool} → meaning_of text S.names f.part ≡ Some (Value kind shared) → Wrong text S (apply at f ts) w (WrongType f.at)
  wrong_count : {at : ℕ} {f : Name} {ts : Terms} {w : ValueType} {s : Signature} → Applies text S f s → count ts ≢ length s.parameters → Wrong text S (apply at f ts) w (WrongType at)
  wrong_result : {at : ℕ} {f : Name} {ts : Terms} {s : Signature} → Applies text S f s → s.result ≡ Number → Wrong text S (apply at f ts) Principal (WrongType at)

-- A node, and the type that is wanted of it.
pub record Node : Type 0 where
  pub term : Term
  pub wanted : ValueType

module _ (text : List ℕ) (S : Scope) where
  -- the parameters of a function, by what its name stands for
  abbrev pub parameters_from : Option Signature → List ValueType
  parameters_from None = []
  parameters_from (Some s) = s.parameters

  abbrev pub parameters_of : Option Meaning → List ValueType
  parameters_of None = []
  parameters_of (Some (Value kind shared)) = []
  parameters_of (Some (Function g)) = parameters_from (slice_get S.functions g)

  -- The nodes of a term, a node before its parts, and these from left to right.
  abbrev mutual
    pub nodes : Term → ValueType → List Node
    nodes (name at p) w = record { term = name at p; wanted = w } ∷ []
    nodes (tuple at ts) w = record { term = tuple at ts; wanted = w } ∷ nodes_all ts []
    nodes (crypt at t k) w = record { term = crypt at t k; wanted = w } ∷ (nodes t Number ++ nodes k Number)
    nodes (apply at f ts) w = record { term = apply at f ts; wanted = w } ∷ nodes_all ts (parameters_of (meaning_of text S.names f.part))

    -- where no type is said, a number is wanted
    pub nodes_all : Terms → List ValueType → List Node
    nodes_all none ws = []
    nodes_all (more t ts) [] = nodes t Number ++ nodes_all ts []
    nodes_all (more t ts) (w ∷ ws) = nodes t w ++ nodes_all ts ws

  abbrev pub Sound : Node → Type 0
  Sound n = (f : TermFault) → Wrong text S n.term n.wanted f → ⊥

  -- The first node at which something is wrong, and what.
  pub record FirstWrong (ns : List Node) (f : TermFault) : Type 0 where
    pub before : List Node
    pub node : Node
    pub after : List Node
    pub all : ns ≡ before ++ (node ∷ after)
    pub sound : Every Sound before
    pub wrong : Wrong text S node.term node.wanted f

  -- The types of a term are good exactly if it has the type that is wanted; and what is answered else is the first thing that is wrong.
  pub record TypingLaw : Type 0 where
    pub good : (t : Term) (w : ValueType) → (typed text S t w ≡ Ok tt) ↔ HasType text S t w
    pub faulty : (t : Term) (w : ValueType) (f : TermFault) → (typed text S t w ≡ Err f) ↔ FirstWrong (nodes t w) f
