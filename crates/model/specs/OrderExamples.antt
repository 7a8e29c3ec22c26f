-- Programs computed: in which order terms are given, composed and settled.
use Rattle.std.specs.Prelude.{◌≡◌, true, false, List, [], ◌∷◌}
use Rattle.model.specs.Trees.{tupled, crypted, applied, Tree, leaf, node, none, more, crypt}
use Rattle.model.specs.Deduction.{Party}
use Rattle.model.specs.Roles.{give, new, hear, say, same, make, split, none_made, start, failed, said}
use Rattle.model.specs.Specifications.{Line, Specification}
use Rattle.model.specs.Programs.{program}

-- every function is secret, and nobody has a right
abbrev pub no_right : Party
no_right = record { secret = λ f. true; one_way = λ f. false; right = λ f. false }

abbrev pub pair : Tree → Tree → Tree
pair a b = node tupled (more a (more b none))

-- two roles that start from some terms, with some lines
abbrev pub two_roles : List Tree → List Line → Specification
two_roles ts lines =
    record {
      roles = 2;
      party = λ r. no_right;
      knows = λ r. ts;
      barred = λ n. false;
      lines = lines;
    }

-- role 0 starts from some terms and says one to role 1
abbrev pub one_line : List Tree → Tree → Specification
one_line ts t = two_roles ts (record { sender = 0; receiver = 1; message = t } ∷ [])

-- role 0 says a pair and hears its first part back
abbrev pub part_back : Tree → Tree → Specification
part_back a b = two_roles [] (record { sender = 0; receiver = 1; message = pair a b } ∷ record { sender = 1; receiver = 0; message = a } ∷ [])

pub record OrderExamples : Type 0 where
  -- a term is given once
  pub given_once : program (one_line (leaf 1 ∷ leaf 1 ∷ []) (leaf 1)) 0 ≡ (0, give 0) ∷ (1, say 0) ∷ []
  -- the first due term is settled, from the top each time: the part of the first pair, itself a pair, comes after the second pair
  pub from_the_top : program (one_line (pair (pair (leaf 1) (leaf 2)) (leaf 3) ∷ pair (leaf 4) (leaf 5) ∷ []) (leaf 1)) 0
      ≡ (0, give 0) ∷ (0, give 1) ∷ (0, split 2 2 tupled 0) ∷ (0, split 4 2 tupled 1) ∷ (0, split 6 2 tupled 2) ∷ (1, say 6) ∷ []
  -- parts are composed left to right, text before key, and each before the whole
  pub left_to_right : program (one_line [] (pair (crypt (leaf 1) (leaf 2)) (leaf 3))) 0
      ≡ (1, new 0) ∷ (1, new 1) ∷ (1, make 2 crypted (0 ∷ 1 ∷ [])) ∷ (1, new 3) ∷ (1, make 4 tupled (2 ∷ 3 ∷ [])) ∷ (1, say 4) ∷ []
  -- what was built is settled: it is not opened again
  pub built_settled : program (part_back (leaf 1) (leaf 2)) 0
      ≡ (1, new 0) ∷ (1, new 1) ∷ (1, make 2 tupled (0 ∷ 1 ∷ [])) ∷ (1, say 2) ∷ (2, hear 3) ∷ (2, same 3 0) ∷ []
  -- a compound's right is looked at before its parts
  pub right_first : said no_right none_made (node (applied 0) (more (leaf 1) none)) (start no_right []) ≡ failed (node (applied 0) (more (leaf 1) none))
