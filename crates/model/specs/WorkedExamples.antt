-- Eight worked examples of these definitions.
use Rattle.std.specs.Prelude.{◌≡◌, ℕ, Bool, false, List, [], ◌∷◌, ◌==◌, nat_eq}
use Rattle.model.specs.Trees.{tupled, applied, Tree, leaf, node, none, more, crypt}
use Rattle.model.specs.Deduction.{Party, Derives}
use Rattle.model.specs.Roles.{hear, same, make, split, unlock, start, heard, failed, said}
use Rattle.model.specs.Lives.{starts, hears, Holdings}
use Rattle.model.specs.Specifications.{Line, Specification, message, makes}
use Rattle.model.specs.Programs.{program}
use Rattle.model.specs.Tape.{encode, tape_cost}

-- function 0 is one-way, and everybody may apply every function
abbrev pub plain : Party
plain = record { secret = λ f. false; one_way = λ f. (f == 0); right = λ f. false }

-- two roles that are given nothing
abbrev pub two_roles : (ℕ → Bool) → List Line → Specification
two_roles barred lines = record { roles = 2; party = λ r. plain; knows = λ r. []; barred = barred; lines = lines }

abbrev pub none_barred : ℕ → Bool
none_barred n = false

-- a line from role 0 to role 1, and one back
abbrev pub there : Tree → Line
there t = record { sender = 0; receiver = 1; message = t }

abbrev pub back : Tree → Line
back t = record { sender = 1; receiver = 0; message = t }

-- the names of a nonce and a key; a pair; the one-way application
abbrev pub n : Tree
n = leaf 3

abbrev pub k : Tree
k = leaf 2

abbrev pub pair : Tree → Tree → Tree
pair a b = node tupled (more a (more b none))

abbrev pub h : Tree → Tree
h t = node (applied 0) (more t none)

-- role 0 says n under k, where k is shared; role 1 says n, that it heard under k only
abbrev pub key_shared : Specification
key_shared = two_roles (λ x. nat_eq x 2) (there (crypt n k) ∷ [])

abbrev pub heard_closed : Specification
heard_closed = two_roles none_barred (there (crypt n k) ∷ back n ∷ [])

pub record WorkedExamples : Type 0 where
  -- a ciphertext without its key gives neither text nor key
  pub no_key : (P : Party) (text key : ℕ)
      → (¬ Derives P (Holdings (hears (starts []) (crypt (leaf text) (leaf key)))) (leaf text))
      × (¬ Derives P (Holdings (hears (starts []) (crypt (leaf text) (leaf key)))) (leaf key))
  -- under a tuple as key, whose parts are held, the text derives
  pub tuple_as_key : (P : Party) (text a b : Tree) → Derives P (Holdings (hears (starts (a ∷ b ∷ [])) (crypt text (pair a b)))) text
  -- line 1 brings the one-way h(n), line 2 n: line 2 ends with the application made again and compared
  pub one_way_explained : program (two_roles none_barred (there (h n) ∷ there n ∷ [])) 1
      ≡ (1, hear 0) ∷ (2, hear 1) ∷ (2, make 2 (applied 0) (1 ∷ [])) ∷ (2, same 2 0) ∷ []
  -- line 1 brings n under k, line 2 k: line 2 ends with the ciphertext opened
  pub opened_later : program (two_roles none_barred (there (crypt n k) ∷ there k ∷ [])) 1
      ≡ (1, hear 0) ∷ (2, hear 1) ∷ (2, unlock 2 0 1) ∷ []
  -- a pair of equals heard first: line 1 ends with its parts compared
  pub equal_parts : program (two_roles none_barred (there (pair n n) ∷ [])) 1
      ≡ (1, hear 0) ∷ (1, split 1 2 tupled 0) ∷ (1, same 2 1) ∷ []
  -- n under k said first, k shared and not given: underivable at k
  pub key_not_given : said plain (makes key_shared 1) (message key_shared 1) (start plain []) ≡ failed k
  -- the pair of atom 7 and the empty tuple on tape
  pub on_tape : (encode (pair (leaf 7) (node tupled none)) ≡ 2 ∷ 2 ∷ 1 ∷ 0 ∷ 0 ∷ 0 ∷ 7 ∷ 2 ∷ 0 ∷ []) × (tape_cost (pair (leaf 7) (node tupled none)) ≡ 9)
  -- n said, heard only under a key that does not derive: underivable at n
  pub under_closed_key : said plain (makes heard_closed 2) (message heard_closed 2) (heard plain (message heard_closed 1) (start plain [])) ≡ failed n
