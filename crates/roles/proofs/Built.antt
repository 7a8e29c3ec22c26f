-- The action that builds a compound of registers.
use Rattle.std.proofs.Common.{◌≡◌, ℕ, ◌+◌, ◌<◌, List, [], ◌∷◌, ◌++◌, length, get_or, take, sym, refl, ap, ◌∙◌, arith}
use Rattle.std.proofs.lemmas.List.{take_all, length_push}
use Rattle.model.specs.Trees.{Head, tupled, crypted, applied, Tree}
use Rattle.model.specs.Roles.{make, count}
use Rattle.program.specs.declared.kind.Kind.{Kind}
use Rattle.program.specs.declared.kind.Kind.TheVariants.{Tuple, Crypt, Apply}
use Rattle.program.specs.declared.parts.Parts.{Parts}
use Rattle.program.specs.Parts.{parts_of}
use Rattle.program.specs.Actions.{head_of, act_of, built}
use Rattle.terms.specs.Shapes.{formed, trees, two_parts}

-- a list of two numbers
two : (xs : List ℕ) → length xs ≡ 2 → get_or xs 0 0 ∷ get_or xs 1 0 ∷ [] ≡ xs
two [] n = absurd (omega arith)
two (a ∷ []) n = absurd (omega arith)
two (a ∷ b ∷ []) n = refl
two (a ∷ b ∷ c ∷ xs) n = absurd (omega arith)

-- as many parts make a compound as whole
pub two_alike : (h : Head) (ps qs : List ℕ) → length ps ≡ length qs → two_parts (formed h ps) ≡ 2 → two_parts (formed h qs) ≡ 2
two_alike tupled ps qs e n = refl
two_alike crypted ps qs e n = sym e ∙ n
two_alike (applied f) ps qs e n = refl

pub built_act : (n : ℕ) (kind : Kind) (rs : Parts) → two_parts (formed (head_of kind) (parts_of rs)) ≡ 2 → act_of (built n kind rs) ≡ make n (head_of kind) (parts_of rs)
built_act n Tuple rs e = refl
built_act n Crypt rs e = ap (make n crypted) (two (parts_of rs) e)
built_act n (Apply f) rs e = refl

pub count_trees : (f : ℕ → Tree) (ks : List ℕ) → count (trees f ks) ≡ length ks
count_trees f [] = refl
count_trees f (k ∷ ks) = let h = count_trees f ks in omega arith

-- one more register of at most eight
pub more_parts : (xs ys : List ℕ) (x : ℕ) → length xs < 8 → ys ≡ take 8 (xs ++ x ∷ []) → ys ≡ xs ++ x ∷ []
more_parts xs ys x l e = let n = length_push xs x in e ∙ take_all 8 (xs ++ x ∷ []) (omega arith)

pub longer_parts : (xs ys : List ℕ) (x : ℕ) → ys ≡ xs ++ x ∷ [] → length ys ≡ length xs + 1
longer_parts xs ys x e = ap length e ∙ length_push xs x
