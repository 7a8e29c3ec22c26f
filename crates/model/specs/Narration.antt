-- A narration, computed: m says n to h, and h says n under k to m; k is shared and given to both.
use Rattle.std.specs.Prelude.{◌≡◌, ℕ, true, false, cond, List, [], ◌∷◌, ◌==◌, nat_le}
use Rattle.std.proofs.Math.Option.{none as nothing, some}
use Rattle.model.specs.Trees.{tupled, crypted, applied, Tree, leaf, node, none, more, crypt}
use Rattle.model.specs.Roles.{give, new, hear as hear_it, say as say_it, same, make, unlock}
use Rattle.model.specs.Readings.{reading_of}
use Rattle.model.specs.Specifications.{Specification}
use Rattle.model.specs.Programs.{program, Accepted}
use Rattle.model.specs.Sessions.{new_runs, Event, begin, say, hear, build, other, Answer, taken, declined, outside, answers}
use Rattle.model.specs.SessionLaw.{costs, Fair}

-- the names: 0 is m, 1 is h, 2 is k, 3 is n
abbrev pub pairing : Specification
pairing =
    record {
      roles = 2;
      party = λ r. record { secret = λ f. false; one_way = λ f. false; right = λ f. false };
      knows = λ r. leaf 2 ∷ [];
      barred = λ n. nat_le n 2;
      lines = record { sender = 0; receiver = 1; message = leaf 3 } ∷ record { sender = 1; receiver = 0; message = crypt (leaf 3) (leaf 2) } ∷ [];
    }

-- each value costs 1; k is the atom 70
abbrev pub one_each : Tree → ℕ
one_each t = 1

abbrev pub k : Tree
k = leaf 70

-- the answers to calls, on a store with so much space
abbrev pub paired : ℕ → List Event → List Answer
paired space es = answers one_each (new_runs pairing space) es

-- all goes as it should; the choice: n is the atom 5
abbrev pub calls : List Event
calls = begin 0 (some k ∷ []) (5 ∷ []) ∷ begin 1 (some k ∷ []) [] ∷ say 0 ∷ hear 1 (some (leaf 5)) ∷ say 1 ∷ hear 0 (some (crypt (leaf 5) k)) ∷ []

abbrev pub choice : ℕ → Tree
choice a = cond (a == 3) (leaf 5) k

-- role 0 says the one-way h(n), and then n
abbrev pub h : Tree → Tree
h t = node (applied 0) (more t none)

abbrev pub committing : Specification
committing =
    record {
      roles = 2;
      party = λ r. record { secret = λ f. false; one_way = λ f. true; right = λ f. false };
      knows = λ r. [];
      barred = λ n. false;
      lines = record { sender = 0; receiver = 1; message = h (leaf 3) } ∷ record { sender = 0; receiver = 1; message = leaf 3 } ∷ [];
    }

abbrev pub committed : ℕ → List Event → List Answer
committed space es = answers one_each (new_runs committing space) es

-- role 0 says a pair of equals
abbrev pub pair : Tree → Tree → Tree
pair a b = node tupled (more a (more b none))

abbrev pub twinning : Specification
twinning =
    record {
      roles = 2;
      party = λ r. record { secret = λ f. false; one_way = λ f. false; right = λ f. false };
      knows = λ r. [];
      barred = λ n. false;
      lines = record { sender = 0; receiver = 1; message = pair (leaf 3) (leaf 3) } ∷ [];
    }

abbrev pub twinned : ℕ → List Event → List Answer
twinned space es = answers one_each (new_runs twinning space) es

pub record Narrated : Type 0 where
  pub accepted : Accepted pairing
  pub role_m : program pairing 0 ≡ (0, give 0) ∷ (1, new 1) ∷ (1, say_it 1) ∷ (2, hear_it 2) ∷ (2, unlock 3 2 0) ∷ (2, same 3 1) ∷ []
  pub role_h : program pairing 1 ≡ (0, give 0) ∷ (1, hear_it 1) ∷ (2, make 2 crypted (1 ∷ 0 ∷ [])) ∷ (2, say_it 2) ∷ []
  pub no_other_role : program pairing 2 ≡ []
  -- all that the programs make or build costs two, and with that space all calls are taken: the premises of the law of sessions are met
  pub costs_two : costs pairing one_each (reading_of choice) 2 ≡ 2
  pub fair : Fair pairing one_each choice (new_runs pairing 2) calls
  pub all_taken : paired 2 calls
      ≡ taken nothing ∷ taken nothing ∷ taken (some (leaf 5)) ∷ taken nothing ∷ taken (some (crypt (leaf 5) k)) ∷ taken nothing ∷ []
  -- an old line 2, with another nonce, is refused at `same`; the run keeps its place and takes the right one
  pub replayed : paired 1 (begin 0 (some k ∷ []) (5 ∷ []) ∷ say 0 ∷ hear 0 (some (crypt (leaf 4) k)) ∷ hear 0 (some (crypt (leaf 5) k)) ∷ [])
      ≡ taken nothing ∷ taken (some (leaf 5)) ∷ declined 14 5 ∷ taken nothing ∷ []
  -- before begin, begin twice, hear for say, say for hear, after the end; no such role
  pub out_of_turn : paired 1 (say 0 ∷ begin 0 (some k ∷ []) (5 ∷ []) ∷ begin 0 (some k ∷ []) (5 ∷ []) ∷ hear 0 (some k) ∷ say 0 ∷ say 0 ∷ hear 0 (some (crypt (leaf 5) k)) ∷ hear 0 (some k) ∷ say 2 ∷ [])
      ≡ declined 11 0 ∷ taken nothing ∷ declined 11 1 ∷ declined 11 1 ∷ taken (some (leaf 5)) ∷ declined 11 3 ∷ taken nothing ∷ declined 11 6 ∷ declined 11 0 ∷ []
  -- wrong counts, a handle that is not valid, no space left by somebody else's build
  pub otherwise_refused : paired 1 (begin 0 [] (5 ∷ []) ∷ begin 0 (some k ∷ []) [] ∷ begin 0 (nothing ∷ []) (5 ∷ []) ∷ begin 0 (some k ∷ []) (5 ∷ []) ∷ build (leaf 9) ∷ build (leaf 9) ∷ say 0 ∷ other ∷ [])
      ≡ declined 13 0 ∷ declined 13 0 ∷ declined 12 0 ∷ taken nothing ∷ taken nothing ∷ declined 15 0 ∷ declined 15 1 ∷ outside ∷ []
  -- a handle that is not valid, no ciphertext, another key
  pub misheard : paired 1 (begin 0 (some k ∷ []) (5 ∷ []) ∷ say 0 ∷ hear 0 nothing ∷ hear 0 (some (leaf 5)) ∷ hear 0 (some (crypt (leaf 5) (leaf 71))) ∷ [])
      ≡ taken nothing ∷ taken (some (leaf 5)) ∷ declined 12 3 ∷ declined 14 4 ∷ declined 14 4 ∷ []
  -- for the pair of equals: an application of two parts, a tuple of three, a pair of others, and one of equals
  pub other_kind : twinned 0 (begin 1 [] [] ∷ hear 1 (some (node (applied 0) (more (leaf 5) (more (leaf 5) none)))) ∷ hear 1 (some (node tupled (more (leaf 5) (more (leaf 5) (more (leaf 5) none))))) ∷ hear 1 (some (pair (leaf 5) (leaf 6))) ∷ hear 1 (some (pair (leaf 5) (leaf 5))) ∷ [])
      ≡ taken nothing ∷ declined 14 1 ∷ declined 14 1 ∷ declined 14 2 ∷ taken nothing ∷ []
  -- what was built before a refusal stays built: with one less of space there is room for one explanation of h(n) only
  pub explained : committed 4 (begin 0 [] (5 ∷ []) ∷ begin 1 [] [] ∷ say 0 ∷ hear 1 (some (h (leaf 5))) ∷ hear 1 (some (leaf 6)) ∷ hear 1 (some (leaf 5)) ∷ say 0 ∷ [])
      ≡ taken nothing ∷ taken nothing ∷ taken (some (h (leaf 5))) ∷ taken nothing ∷ declined 14 3 ∷ taken nothing ∷ taken (some (leaf 5)) ∷ []
  pub explained_once : committed 3 (begin 0 [] (5 ∷ []) ∷ begin 1 [] [] ∷ say 0 ∷ hear 1 (some (h (leaf 5))) ∷ hear 1 (some (leaf 6)) ∷ hear 1 (some (leaf 5)) ∷ [])
      ≡ taken nothing ∷ taken nothing ∷ taken (some (h (leaf 5))) ∷ taken nothing ∷ declined 14 3 ∷ declined 15 2 ∷ []
