-- Which trees have the shape of a specification, and the first fault of one that has not. A node is looked at before its parts, and these from left to right.
use Rattle.std.specs.Prelude.{ℕ, suc, Bool, true, false, cond, List, [], ◌∷◌, take, drop, Ok, Err, codes, Result, nat_le}
use Prim.Native.String.{String}
use Rattle.std.specs.Str.{bytes_eq}
use Rattle.text.specs.declared.part.Part.{Part}
use Rattle.text.specs.Trees.{Tree, quoted, integer, bracket, Trees, none, more}
use Rattle.syntax.specs.declared.fault.ShapeFault.{ShapeFault}
use Rattle.syntax.specs.declared.fault.ShapeFault.TheVariants.{Limit, Misfit, NotCarried, NoName}
use Rattle.syntax.specs.declared.spec.Name.{Name}
use Rattle.syntax.specs.declared.spec.Label.{Label}
use Rattle.syntax.specs.declared.spec.Label.TheVariants as label_of
use Rattle.syntax.specs.Names.{is_name}
use Rattle.syntax.specs.Symbols.{one_of, not_carried}
use Rattle.syntax.specs.Specs.{Term, name, tuple, crypt, apply, Terms, Declared, value, function, knows, everybody, Lined, Specification}
use Rattle.syntax.specs.Specs as tables

-- What is answered, or the first fault.
abbrev pub Shaped : Type 0 → Type 0
Shaped A = Result A ShapeFault

-- One after the other: the first fault is the answer.
abbrev pub and_then : {A B : Type 0} → Shaped A → (A → Shaped B) → Shaped B
and_then (Ok x) f = f x
and_then (Err e) f = Err e

-- What is answered at each part, from left to right.
unfoldable pub each : {A : Type 0} → (Tree → Shaped A) → Trees → Shaped (List A)
each one none = Ok []
each one (more t ts) = and_then (one t) (λ x. and_then (each one ts) (λ xs. Ok (x ∷ xs)))

abbrev pub bytes : List ℕ → Part → List ℕ
bytes text p = take p.len (drop p.at text)

abbrev pub spells : List ℕ → Part → String → Bool
spells text s word = bytes_eq (bytes text s) (codes word)

-- What is wrong with a node that does not belong where it stands.
abbrev pub misfit : List ℕ → Tree → ShapeFault
misfit text (quoted at p) = cond (is_name (bytes text p)) (Misfit at) (NoName at)
misfit text (integer at n) = Misfit at
misfit text (bracket at s ts) = cond (one_of (bytes text s) not_carried) (NotCarried at) (Misfit at)

-- A bracket with this symbol, by its place and its parts.
abbrev pub form : {A : Type 0} → List ℕ → String → (ℕ → Trees → Shaped A) → Tree → Shaped A
form text word f (quoted at p) = Err (misfit text (quoted at p))
form text word f (integer at n) = Err (misfit text (integer at n))
form text word f (bracket at s ts) = cond (spells text s word) (f at ts) (Err (misfit text (bracket at s ts)))

-- Counts of parts, looked at with the bracket.
abbrev pub parts_count : Trees → ℕ
parts_count none = 0
parts_count (more t ts) = suc (parts_count ts)

abbrev pub at_most : {A : Type 0} → ℕ → ℕ → Trees → Shaped A → Shaped A
at_most n at ts answer = cond (nat_le (parts_count ts) n) answer (Err (Limit at))

abbrev pub no_parts : {A : Type 0} → ℕ → Trees → Shaped A → Shaped A
no_parts at none answer = answer
no_parts at (more a ts) answer = Err (Misfit at)

abbrev pub one_part : {A : Type 0} → ℕ → Trees → (Tree → Shaped A) → Shaped A
one_part at none f = Err (Misfit at)
one_part at (more a none) f = f a
one_part at (more a (more b ts)) f = Err (Misfit at)

abbrev pub two_parts : {A : Type 0} → ℕ → Trees → (Tree → Tree → Shaped A) → Shaped A
two_parts at none f = Err (Misfit at)
two_parts at (more a none) f = Err (Misfit at)
two_parts at (more a (more b none)) f = f a b
two_parts at (more a (more b (more c ts))) f = Err (Misfit at)

abbrev pub four_parts : {A : Type 0} → ℕ → Trees → (Tree → Tree → Tree → Tree → Shaped A) → Shaped A
four_parts at none f = Err (Misfit at)
four_parts at (more a none) f = Err (Misfit at)
four_parts at (more a (more b none)) f = Err (Misfit at)
four_parts at (more a (more b (more c none))) f = Err (Misfit at)
four_parts at (more a (more b (more c (more d none)))) f = f a b c d
four_parts at (more a (more b (more c (more d (more e ts))))) f = Err (Misfit at)

abbrev pub five_parts : {A : Type 0} → ℕ → Trees → (Tree → Tree → Tree → Tree → Tree → Shaped A) → Shaped A
five_parts at none f = Err (Misfit at)
five_parts at (more a none) f = Err (Misfit at)
five_parts at (more a (more b none)) f = Err (Misfit at)
five_parts at (more a (more b (more c none))) f = Err (Misfit at)
five_parts at (more a (more b (more c (more d none)))) f = Err (Misfit at)
five_parts at (more a (more b (more c (more d (more e none))))) f = f a b c d e
five_parts at (more a (more b (more c (more d (more e (more g ts)))))) f = Err (Misfit at)

-- A name of at most 31 bytes.
abbrev pub short : Name → Shaped Name
short n = cond (nat_le n.part.len 31) (Ok n) (Err (Limit n.at))

abbrev pub a_name : List ℕ → Tree → Shaped Name
a_name text (quoted at p) = cond (is_name (bytes text p)) (short (record { at = at; part = p })) (Err (NoName at))
a_name text (integer at n) = Err (misfit text (integer at n))
a_name text (bracket at s ts) = Err (misfit text (bracket at s ts))

unfoldable pub names : List ℕ → Trees → Shaped (List Name)
names text ts = each (a_name text) ts

-- (vanilla)
abbrev pub vanilla : List ℕ → Tree → Shaped Unit
vanilla text t = form text "vanilla" (λ at ts. no_parts at ts (Ok tt)) t

-- A text and a key with the mark behind them, the third part and the last.
abbrev pub marked : List ℕ → ℕ → Shaped Term → Shaped Term → Trees → Shaped Term
marked text at t k none = Err (Misfit at)
marked text at t k (more c none) = and_then t (λ x. and_then k (λ y. and_then (vanilla text c) (λ _. Ok (crypt at x y))))
marked text at t k (more c (more d ts)) = Err (Misfit at)

-- A term: a name, (tuple TERM ...), (crypt TERM TERM (vanilla)) or (apply NAME TERM ...).
unfoldable mutual
  pub term : List ℕ → Tree → Shaped Term
  term text (quoted at p) = and_then (a_name text (quoted at p)) (λ n. Ok (name at p))
  term text (integer at n) = Err (misfit text (integer at n))
  term text (bracket at s ts) =
      cond (spells text s "tuple") (at_most 8 at ts (and_then (terms text ts) (λ us. Ok (tuple at us))))
      (cond (spells text s "crypt") (crypt_term text at ts)
      (cond (spells text s "apply") (apply_term text at ts)
      (Err (misfit text (bracket at s ts)))))

  pub crypt_term : List ℕ → ℕ → Trees → Shaped Term
  crypt_term text at none = Err (Misfit at)
  crypt_term text at (more a ts) = key_term text at (term text a) ts

  pub key_term : List ℕ → ℕ → Shaped Term → Trees → Shaped Term
  key_term text at t none = Err (Misfit at)
  key_term text at t (more b ts) = marked text at t (term text b) ts

  pub apply_term : List ℕ → ℕ → Trees → Shaped Term
  apply_term text at none = Err (Misfit at)
  apply_term text at (more f ts) = at_most 8 at ts (and_then (a_name text f) (λ n. and_then (terms text ts) (λ us. Ok (apply at n us))))

  pub terms : List ℕ → Trees → Shaped Terms
  terms text none = Ok tables.none
  terms text (more t ts) = and_then (term text t) (λ u. and_then (terms text ts) (λ us. Ok (tables.more u us)))

-- A function type: (function RESULT PARAMETER ...), and its kinds.
abbrev pub function_of : List ℕ → Name → Bool → Bool → ℕ → Trees → Shaped Declared
function_of text n secret one_way at none = Err (Misfit at)
function_of text n secret one_way at (more r ts) =
    at_most 8 at ts (and_then (a_name text r) (λ result. and_then (names text ts) (λ parameters. Ok (function n (record { secret = secret; one_way = one_way }) result parameters))))

-- A shared name has a type or a function type.
abbrev pub shared_as : List ℕ → Name → Tree → Shaped Declared
shared_as text n (quoted at p) = and_then (a_name text (quoted at p)) (λ k. Ok (value n k true))
shared_as text n (integer at v) = Err (misfit text (integer at v))
shared_as text n (bracket at s ts) =
    cond (spells text s "function") (function_of text n false false at ts)
    (cond (spells text s "secret-function") (function_of text n true false at ts)
    (cond (spells text s "one-way-function") (function_of text n false true at ts)
    (cond (spells text s "secret-one-way-function") (function_of text n true true at ts)
    (Err (misfit text (bracket at s ts))))))

-- (type NAME TYPE)
abbrev pub type_of : List ℕ → ℕ → Trees → Shaped Declared
type_of text at ts = two_parts at ts (λ n k. and_then (a_name text n) (λ x. and_then (a_name text k) (λ y. Ok (value x y false))))

-- (type-shared NAME TYPE)
abbrev pub shared_of : List ℕ → ℕ → Trees → Shaped Declared
shared_of text at ts = two_parts at ts (λ n k. and_then (a_name text n) (λ x. shared_as text x k))

-- (knows NAME TERM)
abbrev pub knows_of : List ℕ → ℕ → Trees → Shaped Declared
knows_of text at ts = two_parts at ts (λ n t. and_then (a_name text n) (λ x. and_then (term text t) (λ u. Ok (knows x u))))

-- (everybody-knows TERM)
abbrev pub everybody_of : List ℕ → ℕ → Trees → Shaped Declared
everybody_of text at ts = one_part at ts (λ t. and_then (term text t) (λ u. Ok (everybody u)))

abbrev pub declaration : List ℕ → Tree → Shaped Declared
declaration text (quoted at p) = Err (misfit text (quoted at p))
declaration text (integer at n) = Err (misfit text (integer at n))
declaration text (bracket at s ts) =
    cond (spells text s "type") (type_of text at ts)
    (cond (spells text s "type-shared") (shared_of text at ts)
    (cond (spells text s "knows") (knows_of text at ts)
    (cond (spells text s "everybody-knows") (everybody_of text at ts)
    (Err (misfit text (bracket at s ts))))))

unfoldable pub declarations : List ℕ → Trees → Shaped (List Declared)
declarations text ts = each (declaration text) ts

-- A label is a name or an integer.
abbrev pub label : List ℕ → Tree → Shaped Label
label text (quoted at p) = and_then (a_name text (quoted at p)) (λ n. Ok (label_of.Name n))
label text (integer at n) = Ok (label_of.Number at n)
label text (bracket at s ts) = Err (misfit text (bracket at s ts))

-- (comm LABEL SENDER RECEIVER TERM)
abbrev pub comm_of : List ℕ → ℕ → Trees → Shaped Lined
comm_of text at ts = four_parts at ts (λ l s r m.
    and_then (label text l) (λ lab.
    and_then (a_name text s) (λ from.
    and_then (a_name text r) (λ to.
    and_then (term text m) (λ message. Ok (record { label = lab; sender = from; receiver = to; message = message }))))))

-- A line; a block within a block is not carried.
abbrev pub line : List ℕ → Tree → Shaped Lined
line text (quoted at p) = Err (misfit text (quoted at p))
line text (integer at n) = Err (misfit text (integer at n))
line text (bracket at s ts) =
    cond (spells text s "comm") (comm_of text at ts)
    (cond (spells text s "block") (Err (NotCarried at))
    (Err (misfit text (bracket at s ts))))

unfoldable pub lines : List ℕ → Trees → Shaped (List Lined)
lines text ts = each (line text) ts

-- (declare DECLARATION ...)
abbrev pub declare : List ℕ → Tree → Shaped (List Declared)
declare text t = form text "declare" (λ at ts. declarations text ts) t

-- (block LINE ...), of at most 64 lines
abbrev pub block : List ℕ → Tree → Shaped (List Lined)
block text t = form text "block" (λ at ts. at_most 64 at ts (lines text ts)) t

-- A list of which no part is carried.
abbrev pub barred : List ℕ → Tree → ShapeFault
barred text (quoted at p) = cond (is_name (bytes text p)) (NotCarried at) (NoName at)
barred text (integer at n) = NotCarried at
barred text (bracket at s ts) = NotCarried at

abbrev pub empty : List ℕ → Trees → Shaped Unit
empty text none = Ok tt
empty text (more t ts) = Err (barred text t)

abbrev pub section : List ℕ → String → Tree → Shaped Unit
section text word t = form text word (λ at ts. empty text ts) t

-- (spec DECLARE BLOCK (sessions) (assume) (claim))
unfoldable pub specification : List ℕ → Tree → Tree → Tree → Tree → Tree → Shaped Specification
specification text d b s a c =
    and_then (declare text d) (λ ds.
    and_then (block text b) (λ ls.
    and_then (section text "sessions" s) (λ _.
    and_then (section text "assume" a) (λ _.
    and_then (section text "claim" c) (λ _. Ok (record { declarations = ds; lines = ls }))))))

abbrev pub shape : List ℕ → Tree → Shaped Specification
shape text t = form text "spec" (λ at ts. five_parts at ts (specification text)) t
