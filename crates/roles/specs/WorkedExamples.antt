-- Eight worked examples: texts and what is answered to them in print, and what holds of all names and keys that the examples leave open.
use Rattle.std.specs.Prelude.{◌≡◌, ℕ, Bool, true, false, List, [], ◌∷◌, ◌++◌, codes, flat_map, Err, ◌==◌}
use Rattle.model.specs.Trees.{tupled, applied, Tree, leaf, node, none, more, crypt}
use Rattle.model.specs.Deduction.{Party, Derives}
use Rattle.model.specs.Roles.{start, heard, said, failed}
use Rattle.model.specs.Lives.{Life, starts, hears, Holdings}
use Rattle.model.specs.Specifications.{Line, Specification, message, makes}
use Rattle.model.specs.Programs.{program}
use Rattle.model.specs.Tape.{encode, tape_cost}
use Rattle.program.specs.Printed.{name, step_text}
use Rattle.terms.specs.Limits.{standard_limits}
use Rattle.roles.specs.declared.line_fault.LineFault.TheVariants.{Underivable}
use Rattle.roles.specs.declared.translation_fault.TranslationFault.TheVariants.{Lines}
use Rattle.roles.specs.Answers.{answer}
use Rattle.roles.specs.Translating.{translation}

-- a specification for the principals a and b, with some declarations more, and lines
abbrev pub text_of : List ℕ → List ℕ → List ℕ
text_of declarations lines =
    codes "(spec (declare (type \"a\" \"principal\") (type \"b\" \"principal\")" ++ (declarations ++ (codes ") (block" ++ (lines ++ codes ") (sessions) (assume) (claim))")))

abbrev pub answered : List ℕ → List ℕ
answered text = answer standard_limits text

-- n and k are numbers that may be made
abbrev pub numbers : List ℕ
numbers = codes " (type \"n\" \"number\") (type \"k\" \"number\")"

-- a says n under k to b, who then says one of them
abbrev pub says_text : List ℕ
says_text = text_of numbers (codes " (comm 1 \"a\" \"b\" (crypt \"n\" \"k\" (vanilla))) (comm 2 \"b\" \"a\" \"n\")")

abbrev pub says_key : List ℕ
says_key = text_of numbers (codes " (comm 1 \"a\" \"b\" (crypt \"n\" \"k\" (vanilla))) (comm 2 \"b\" \"a\" \"k\")")

-- both know x and y; a says n under the tuple of them to b, who then says n
abbrev pub tuple_as_key : List ℕ
tuple_as_key =
    text_of (codes " (type-shared \"x\" \"number\") (type-shared \"y\" \"number\") (type \"n\" \"number\") (everybody-knows \"x\") (everybody-knows \"y\")")
    (codes " (comm 1 \"a\" \"b\" (crypt \"n\" (tuple \"x\" \"y\") (vanilla))) (comm 2 \"b\" \"a\" \"n\")")

-- a says the one-way h(n) to b, and then n
abbrev pub explained : List ℕ
explained =
    text_of (codes " (type \"n\" \"number\") (type-shared \"h\" (one-way-function \"number\" \"number\"))")
    (codes " (comm 1 \"a\" \"b\" (apply \"h\" \"n\")) (comm 2 \"a\" \"b\" \"n\")")

-- a says n under k to b, and then k
abbrev pub opened_later : List ℕ
opened_later = text_of numbers (codes " (comm 1 \"a\" \"b\" (crypt \"n\" \"k\" (vanilla))) (comm 2 \"a\" \"b\" \"k\")")

-- a says the tuple of n and n to b
abbrev pub twins : List ℕ
twins = text_of numbers (codes " (comm 1 \"a\" \"b\" (tuple \"n\" \"n\"))")

-- a says n under k to b, and k is shared
abbrev pub key_shared : List ℕ
key_shared = text_of (codes " (type \"n\" \"number\") (type-shared \"k\" \"number\")") (codes " (comm 1 \"a\" \"b\" (crypt \"n\" \"k\" (vanilla)))")

-- Two roles that are given nothing, by the lines between them; every function is one-way, and everybody may apply it.
abbrev pub everyone : Party
everyone = record { secret = λ f. false; one_way = λ f. true; right = λ f. false }

abbrev pub two_roles : (ℕ → Bool) → List Line → Specification
two_roles barred lines = record { roles = 2; party = λ r. everyone; knows = λ r. []; barred = barred; lines = lines }

abbrev pub none_barred : ℕ → Bool
none_barred n = false

-- a line from role 0 to role 1, and one back
abbrev pub there : Tree → Line
there t = record { sender = 0; receiver = 1; message = t }

abbrev pub back : Tree → Line
back t = record { sender = 1; receiver = 0; message = t }

abbrev pub pair : Tree → Tree → Tree
pair a b = node tupled (more a (more b none))

abbrev pub apply : ℕ → Tree → Tree
apply f t = node (applied f) (more t none)

-- a role's program in print, with these names of functions
abbrev pub printed : List (List ℕ) → Specification → ℕ → List ℕ
printed names S r = flat_map (step_text names) (program S r)

-- what a role holds that is given nothing, and then hears a term
abbrev pub hears_only : Tree → Tree → Type 0
hears_only t = Holdings (hears (starts []) t)

-- role 0 says n under k; role 1 says n, that it heard under k only
abbrev pub closed_then : ℕ → ℕ → Specification
closed_then n k = two_roles none_barred (there (crypt (leaf n) (leaf k)) ∷ back (leaf n) ∷ [])

-- role 0 says n under k, which nobody makes
abbrev pub closed_under : ℕ → ℕ → Specification
closed_under n k = two_roles (λ x. x == k) (there (crypt (leaf n) (leaf k)) ∷ [])

-- The answers to the texts, and what holds of all terms and names. A refusal has its number, its layer and its place, the message's first byte; and the fault
-- behind it has the role and the failing term by their numbers: a is role 0 and b role 1; terms are numbered as they are read, n and k before the ciphertext.
pub record WorkedExamples : Type 0 where
  -- a ciphertext without its key gives neither text nor key, unless that derives from nothing
  pub without_key : (answered says_text ≡ codes "refused 10 4 168\n") × (answered says_key ≡ codes "refused 10 4 168\n")
  pub gives_neither : (P : Party) (n k : Tree) → ¬ Derives P (Holdings (starts [])) n → ¬ Derives P (Holdings (starts [])) k
      → (¬ Derives P (hears_only (crypt n k)) n) × (¬ Derives P (hears_only (crypt n k)) k)
  -- under a tuple as key, whose parts are held, the text derives
  pub under_tuple : answered tuple_as_key
      ≡ codes "role a\n0 give 0\n0 give 1\n1 new 2\n1 tuple 3 0 1\n1 crypt 4 2 3\n1 say 4\n2 hear 5\n2 same 5 2\nrole b\n0 give 0\n0 give 1\n1 hear 2\n1 tuple 3 0 1\n1 open-crypt 4 2 3\n2 say 4\n"
  pub text_derives : (P : Party) (l : Life) (n a b : Tree) → Holdings l (crypt n (pair a b)) → Holdings l a → Holdings l b → Derives P (Holdings l) n
  -- line 1 brings the one-way h(n), line 2 n: line 2 ends with the application made again and compared
  pub one_way : answered explained ≡ codes "role a\n1 new 0\n1 apply 1 h 0\n1 say 1\n2 say 0\nrole b\n1 hear 0\n2 hear 1\n2 apply 2 h 1\n2 same 2 0\n"
  pub explains : (names : List (List ℕ)) (f n : ℕ)
      → printed names (two_roles none_barred (there (apply f (leaf n)) ∷ there (leaf n) ∷ [])) 1
      ≡ codes "1 hear 0\n2 hear 1\n2 apply 2 " ++ (name names f ++ codes " 1\n2 same 2 0\n")
  -- line 1 brings n under k, line 2 k: line 2 ends with the ciphertext opened
  pub later : answered opened_later ≡ codes "role a\n1 new 0\n1 new 1\n1 crypt 2 0 1\n1 say 2\n2 say 1\nrole b\n1 hear 0\n2 hear 1\n2 open-crypt 2 0 1\n"
  pub opens : (names : List (List ℕ)) (n k : ℕ) → ¬ (n ≡ k)
      → printed names (two_roles none_barred (there (crypt (leaf n) (leaf k)) ∷ there (leaf k) ∷ [])) 1 ≡ codes "1 hear 0\n2 hear 1\n2 open-crypt 2 0 1\n"
  -- a pair of equals heard first: line 1 ends with its parts compared
  pub equal_parts : answered twins ≡ codes "role a\n1 new 0\n1 tuple 1 0 0\n1 say 1\nrole b\n1 hear 0\n1 open-tuple 1 2 0\n1 same 2 1\n"
  pub compares : (names : List (List ℕ)) (n : ℕ)
      → printed names (two_roles none_barred (there (pair (leaf n) (leaf n)) ∷ [])) 1 ≡ codes "1 hear 0\n1 open-tuple 1 2 0\n1 same 2 1\n"
  -- n under k said first, k shared and not given: underivable at k
  pub key_not_given : (answered key_shared ≡ codes "refused 10 4 132\n") × (translation standard_limits key_shared ≡ Err (Lines (Underivable 132 0 1)))
  pub fails_at_key : (n k : ℕ) → ¬ (n ≡ k) → said everyone (makes (closed_under n k) 1) (message (closed_under n k) 1) (start everyone []) ≡ failed (leaf k)
  -- the pair of atom 7 and the empty tuple on tape
  pub on_tape : (encode (pair (leaf 7) (node tupled none)) ≡ 2 ∷ 2 ∷ 1 ∷ 0 ∷ 0 ∷ 0 ∷ 7 ∷ 2 ∷ 0 ∷ []) × (tape_cost (pair (leaf 7) (node tupled none)) ≡ 9)
  -- n said, heard only under a key that does not derive: underivable at n
  pub under_closed_key : translation standard_limits says_text ≡ Err (Lines (Underivable 168 1 0))
  pub fails_at_text : (n k : ℕ) → said everyone (makes (closed_then n k) 2) (message (closed_then n k) 2) (heard everyone (message (closed_then n k) 1) (start everyone [])) ≡ failed (leaf n)
