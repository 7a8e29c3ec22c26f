-- The symbols of the language by their names.
use Rattle.std.specs.Prelude.{ℕ, Bool, true, false, cond, List, [], ◌∷◌, map, Some, None, codes, Option}
use Rattle.std.specs.Borrow.{Bor}
use Rattle.std.specs.Str.{bytes_eq}
use Rattle.syntax.specs.declared.symbol.Section.TheVariants as sections
use Rattle.syntax.specs.declared.symbol.Symbol.{Symbol}
use Rattle.syntax.specs.declared.symbol.Symbol.TheVariants as symbols

-- A function type: who may apply its functions, and whether an application hides its arguments.
abbrev pub function_type : Bool → Bool → Symbol
function_type secret one_way = symbols.FunctionType (record { secret = secret; one_way = one_way })

-- The symbols that are carried.
abbrev pub carried : List (List ℕ × Symbol)
carried =
    (codes "spec", symbols.Spec)
    ∷ (codes "declare", symbols.Declare)
    ∷ (codes "type", symbols.Type)
    ∷ (codes "type-shared", symbols.TypeShared)
    ∷ (codes "knows", symbols.Knows)
    ∷ (codes "everybody-knows", symbols.EverybodyKnows)
    ∷ (codes "block", symbols.Block)
    ∷ (codes "comm", symbols.Comm)
    ∷ (codes "tuple", symbols.Tuple)
    ∷ (codes "crypt", symbols.Crypt)
    ∷ (codes "vanilla", symbols.Vanilla)
    ∷ (codes "apply", symbols.Apply)
    ∷ (codes "sessions", symbols.Section sections.Sessions)
    ∷ (codes "assume", symbols.Section sections.Assume)
    ∷ (codes "claim", symbols.Section sections.Claim)
    ∷ (codes "function", function_type false false)
    ∷ (codes "secret-function", function_type true false)
    ∷ (codes "one-way-function", function_type false true)
    ∷ (codes "secret-one-way-function", function_type true true)
    ∷ []

-- The symbols that are known but not carried.
abbrev pub not_carried : List (List ℕ)
not_carried =
    codes "keypair" ∷ codes "alias" ∷ codes "local-alias" ∷ codes "basetype" ∷ codes "axiom" ∷ codes "equals" ∷ codes "assign" ∷ codes "switch"
    ∷ codes "case" ∷ codes "sign" ∷ codes "percent" ∷ codes "locate" ∷ codes "session" ∷ codes "session-repeat" ∷ codes "private"
    ∷ codes "principals-only" ∷ codes "principals-except" ∷ codes "bind" ∷ codes "prop" ∷ codes "at" ∷ codes "owns" ∷ codes "secret" ∷ codes "and"
    ∷ codes "or" ∷ codes "implies" ∷ codes "not" ∷ codes "E" ∷ codes "A" ∷ codes "F" ∷ codes "G" ∷ codes "P" ∷ codes "Q" ∷ codes "N" ∷ codes "U" ∷ codes "W" ∷ codes "S" ∷ codes "B"
    ∷ codes "line"
    ∷ []

-- The symbol of the first entry that has this name.
unfoldable pub found : List ℕ → List (List ℕ × Symbol) → Option Symbol
found name [] = None
found name (entry ∷ rest) = cond (bytes_eq name entry.0) (Some entry.1) (found name rest)

unfoldable pub one_of : List ℕ → List (List ℕ) → Bool
one_of name [] = false
one_of name (n ∷ rest) = cond (bytes_eq name n) true (one_of name rest)

-- Any other name is unknown.
abbrev pub other : List ℕ → Option Symbol → Symbol
other name (Some x) = x
other name None = cond (one_of name not_carried) symbols.NotCarried symbols.Unknown

abbrev pub symbol : List ℕ → Symbol
symbol name = other name (found name carried)

-- The tables of the code, without their references.
abbrev pub entries : List (Bor (List ℕ) × Symbol) → List (List ℕ × Symbol)
entries es = map (λ (e : Bor (List ℕ) × Symbol). (e.0.now, e.1)) es

abbrev pub spellings : List (Bor (List ℕ)) → List (List ℕ)
spellings names = map (λ (n : Bor (List ℕ)). n.now) names
