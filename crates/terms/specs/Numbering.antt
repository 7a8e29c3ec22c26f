-- The tree that a term stands for, and the distinct terms in the order of first reading.
use Rattle.std.specs.Prelude.{ℕ, Bool, false, cond, ◌||◌, List, [], ◌∷◌, ◌++◌, length, Some, None, Ok, Err, Option, Result, nat_le}
use Rattle.std.specs.Option.{unwrap_or}
use Rattle.model.specs.Trees as model
use Rattle.model.specs.Trees.{Tree, Trees, tupled, applied, leaf, node, eq_tree}
use Rattle.syntax.specs.Specs.{Term, name, tuple, crypt, apply, Terms, none, more, count}
use Rattle.terms.specs.declared.declarations.Declared.{Declared}
use Rattle.terms.specs.declared.declarations.Meaning.{Meaning}
use Rattle.terms.specs.declared.declarations.Meaning.TheVariants.{Value, Function}
use Rattle.terms.specs.declared.fault.TermFault.{TermFault}
use Rattle.terms.specs.declared.fault.TermFault.TheVariants.{Limit}
use Rattle.terms.specs.Scope.{number_of, meaning_of}

-- the number of a function by what its name stands for
abbrev pub function_number : Option Meaning → ℕ
function_number None = 0
function_number (Some (Value kind shared)) = 0
function_number (Some (Function f)) = f

module _ (text : List ℕ) (names : List Declared) where
  -- a name is a leaf with its number, an application a node with its function's number
  abbrev mutual
    pub tree : Term → Tree
    tree (name at p) = leaf (unwrap_or (number_of text names p) 0)
    tree (tuple at ts) = node tupled (trees ts)
    tree (crypt at t k) = model.crypt (tree t) (tree k)
    tree (apply at f ts) = node (applied (function_number (meaning_of text names f.part))) (trees ts)

    pub trees : Terms → Trees
    trees none = model.none
    trees (more t ts) = model.more (tree t) (trees ts)

abbrev pub has : Tree → List Tree → Bool
has t [] = false
has t (u ∷ us) = eq_tree t u || has t us

-- one term more, at a place, if it is not there; there are at most `most`
abbrev pub noted : ℕ → ℕ → Tree → List Tree → Result (List Tree) TermFault
noted most at t us = cond (has t us) (Ok us) (cond (nat_le most (length us)) (Err (Limit at)) (Ok (us ++ (t ∷ []))))

abbrev pub next : Result (List Tree) TermFault → (List Tree → Result (List Tree) TermFault) → Result (List Tree) TermFault
next (Ok us) f = f us
next (Err e) f = Err e

-- a compound has at most eight parts: one of more is refused at its bracket
abbrev pub at_most_eight : ℕ → Terms → Result (List Tree) TermFault → Result (List Tree) TermFault
at_most_eight at ts r = cond (nat_le (count ts) 8) r (Err (Limit at))

module _ (text : List ℕ) (names : List Declared) (most : ℕ) where
  -- a term's parts are read before the whole, from left to right
  abbrev mutual
    pub read : Term → List Tree → Result (List Tree) TermFault
    read (name at p) us = noted most at (tree text names (name at p)) us
    read (tuple at ts) us = next (at_most_eight at ts (read_all ts us)) (noted most at (tree text names (tuple at ts)))
    read (crypt at t k) us = next (next (read t us) (read k)) (noted most at (tree text names (crypt at t k)))
    read (apply at f ts) us = next (at_most_eight at ts (read_all ts us)) (noted most at (tree text names (apply at f ts)))

    pub read_all : Terms → List Tree → Result (List Tree) TermFault
    read_all none us = Ok us
    read_all (more t ts) us = next (read t us) (read_all ts)
