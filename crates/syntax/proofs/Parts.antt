-- Counts of a bracket's parts.
use Rattle.std.proofs.Common.{◌≡◌, ℕ, suc, ◌-◌, ◌≤◌, ◌<◌, Bool, true, false, cond, leb, List, [], ◌∷◌, length, get_or, take, drop, Ok, Err, refl, sym, ap, ◌∙◌, arith, take_all, length-drop}
use Rattle.std.proofs.lemmas.Bool.{le-leb, lt-leb}
use Rattle.text.specs.declared.tree.Tree.{Tree as TreeValue}
use Rattle.text.specs.Nodes.{tree_of, trees_of}
use Rattle.text.specs.Trees.{Tree, Trees, none, more}
use Rattle.syntax.specs.declared.fault.ShapeFault.TheVariants.{Misfit, Limit}
use Rattle.syntax.specs.declared.source.Headed.{Headed}
use Rattle.syntax.specs.declared.spec.Name.{Name}
use Rattle.syntax.specs.declared.symbol.FunctionClass.{FunctionClass}
use Rattle.syntax.specs.Seeing.{headed, headed_by}
use Rattle.syntax.specs.Specs.{function}
use Rattle.syntax.specs.Shape.{Shaped, and_then, a_name, names, function_of, parts_count, at_most, empty, no_parts, one_part, two_parts, four_parts, five_parts}

pub count_nodes : (ns : List TreeValue) → parts_count (trees_of ns) ≡ length ns
count_nodes [] = refl
count_nodes (n ∷ ns) = ap suc (count_nodes ns)

-- the first node and those behind it
pub first_of : (ns : List TreeValue) (h : TreeValue) → 1 ≤ length ns → h ≡ get_or ns 0 h → trees_of ns ≡ more (tree_of h) (trees_of (drop 1 ns))
first_of [] h l e = absurd (omega arith)
first_of (n ∷ ns) h l e = ap (λ m. more (tree_of m) (trees_of ns)) (sym e)

pub rest_all : (ns : List TreeValue) → 1 ≤ length ns → take (length ns - 1) (drop 1 ns) ≡ drop 1 ns
rest_all ns l = take_all (length ns - 1) (drop 1 ns) (omega (arith, length-drop 1 ns))

pub empty_so : (text : List ℕ) (ns : List TreeValue) → length ns < 1 → empty text (trees_of ns) ≡ Ok tt
empty_so text [] h = refl
empty_so text (n ∷ ns) h = absurd (omega arith)

module _ {A : Type 0} (at : ℕ) where
  pub at_most_so : (n : ℕ) (ns : List TreeValue) (o : Shaped A) → length ns ≤ n → at_most n at (trees_of ns) o ≡ o
  at_most_so n ns o h = ap (λ b. cond b o (Err (Limit at))) (le-leb (parts_count (trees_of ns)) n (omega (arith, count_nodes ns)))

  pub at_most_not : (n : ℕ) (ns : List TreeValue) (o : Shaped A) → n < length ns → at_most n at (trees_of ns) o ≡ Err (Limit at)
  at_most_not n ns o h = ap (λ b. cond b o (Err (Limit at))) (lt-leb (parts_count (trees_of ns)) n (omega (arith, count_nodes ns)))

  pub none_so : (ns : List TreeValue) (o : Shaped A) → length ns ≡ 0 → no_parts at (trees_of ns) o ≡ o
  none_so [] o h = refl
  none_so (n ∷ ns) o h = absurd (omega arith)

  pub not_none : (ns : List TreeValue) (o : Shaped A) → (length ns ≡ 0 → ⊥) → no_parts at (trees_of ns) o ≡ Err (Misfit at)
  not_none [] o h = absurd (h refl)
  not_none (n ∷ ns) o h = refl

  pub not_one : (f : Tree → Shaped A) (ns : List TreeValue) → (length ns ≡ 1 → ⊥) → one_part at (trees_of ns) f ≡ Err (Misfit at)
  not_one f [] h = refl
  not_one f (a ∷ []) h = absurd (h refl)
  not_one f (a ∷ b ∷ ns) h = refl

  pub not_two : (f : Tree → Tree → Shaped A) (ns : List TreeValue) → (length ns ≡ 2 → ⊥) → two_parts at (trees_of ns) f ≡ Err (Misfit at)
  not_two f [] h = refl
  not_two f (a ∷ []) h = refl
  not_two f (a ∷ b ∷ []) h = absurd (h refl)
  not_two f (a ∷ b ∷ c ∷ ns) h = refl

  pub not_four : (f : Tree → Tree → Tree → Tree → Shaped A) (ns : List TreeValue) → (length ns ≡ 4 → ⊥) → four_parts at (trees_of ns) f ≡ Err (Misfit at)
  not_four f [] h = refl
  not_four f (a ∷ []) h = refl
  not_four f (a ∷ b ∷ []) h = refl
  not_four f (a ∷ b ∷ c ∷ []) h = refl
  not_four f (a ∷ b ∷ c ∷ d ∷ []) h = absurd (h refl)
  not_four f (a ∷ b ∷ c ∷ d ∷ e ∷ ns) h = refl

  pub not_five : (f : Tree → Tree → Tree → Tree → Tree → Shaped A) (ns : List TreeValue) → (length ns ≡ 5 → ⊥) → five_parts at (trees_of ns) f ≡ Err (Misfit at)
  not_five f [] h = refl
  not_five f (a ∷ []) h = refl
  not_five f (a ∷ b ∷ []) h = refl
  not_five f (a ∷ b ∷ c ∷ []) h = refl
  not_five f (a ∷ b ∷ c ∷ d ∷ []) h = refl
  not_five f (a ∷ b ∷ c ∷ d ∷ e ∷ []) h = absurd (h refl)
  not_five f (a ∷ b ∷ c ∷ d ∷ e ∷ g ∷ ns) h = refl

-- a name before the others
module _ (text : List ℕ) (at : ℕ) where
  pub headed_so : (ns : List TreeValue) (h : TreeValue) → 1 ≤ length ns → h ≡ get_or ns 0 h → length (drop 1 ns) ≤ 8 → headed text at (trees_of ns) ≡ and_then (a_name text (tree_of h)) (λ n. Ok (n, trees_of (drop 1 ns)))
  headed_so ns h l e m = ap (headed text at) (first_of ns h l e) ∙ at_most_so at 8 (drop 1 ns) (and_then (a_name text (tree_of h)) (λ n. Ok (n, trees_of (drop 1 ns)))) m

  pub headed_limit : (ns : List TreeValue) (h : TreeValue) → 1 ≤ length ns → h ≡ get_or ns 0 h → 8 < length (drop 1 ns) → headed text at (trees_of ns) ≡ Err (Limit at)
  headed_limit ns h l e m = ap (headed text at) (first_of ns h l e) ∙ at_most_not at 8 (drop 1 ns) (and_then (a_name text (tree_of h)) (λ n. Ok (n, trees_of (drop 1 ns)))) m

  pub headed_then : {A : Type 0} (k : Name → Trees → Shaped A) (f : Tree) (ts : Trees) → at_most 8 at ts (and_then (a_name text f) (λ n. k n ts)) ≡ and_then (headed text at (more f ts)) (λ p. k p.0 p.1)
  headed_then {A} k f ts = go (leb (parts_count ts) 8) (a_name text f)
    where
      go : (b : Bool) (o : Shaped Name) → cond b (and_then o (λ n. k n ts)) (Err (Limit at)) ≡ and_then {A = Name × Trees} (cond b (and_then o (λ n. Ok (n, ts))) (Err (Limit at))) (λ p. k p.0 p.1)
      go true (Ok n) = refl
      go true (Err e) = refl
      go false o = refl

function_headed : (text : List ℕ) (n : Name) (secret one_way : Bool) (at : ℕ) (ts : Trees)
    → function_of text n secret one_way at ts ≡ and_then (headed text at ts) (λ p. and_then (names text p.1) (λ ps. Ok (function n (record { secret = secret; one_way = one_way }) p.0 ps)))
function_headed text n secret one_way at none = refl
function_headed text n secret one_way at (more r ts) = headed_then text at (λ result us. and_then (names text us) (λ ps. Ok (function n (record { secret = secret; one_way = one_way }) result ps))) r ts

pub function_so : (text : List ℕ) (n : Name) (c : FunctionClass) (at : ℕ) (ts : Trees) (h : Headed) (ps : List Name) → Ok (headed_by h) ≡ headed text at ts → names text (trees_of h.rest.now) ≡ Ok ps → function_of text n c.secret c.one_way at ts ≡ Ok (function n c h.name ps)
function_so text n c at ts h ps e q = function_headed text n c.secret c.one_way at ts ∙ rw (← e, q) refl

pub one_so : {A : Type 0} (at : ℕ) (f : Tree → Shaped A) (ns : List TreeValue) (a : TreeValue) → length ns ≡ 1 → a ≡ get_or ns 0 a → one_part at (trees_of ns) f ≡ f (tree_of a)
one_so at f [] a l p = absurd (omega arith)
one_so at f (x ∷ []) a l p = rw p refl
one_so at f (x ∷ y ∷ ns) a l p = absurd (omega arith)

pub two_so : {A : Type 0} (at : ℕ) (f : Tree → Tree → Shaped A) (ns : List TreeValue) (a b : TreeValue) → length ns ≡ 2 → a ≡ get_or ns 0 a → b ≡ get_or ns 1 b → two_parts at (trees_of ns) f ≡ f (tree_of a) (tree_of b)
two_so at f [] a b l p q = absurd (omega arith)
two_so at f (x ∷ []) a b l p q = absurd (omega arith)
two_so at f (x ∷ y ∷ []) a b l p q = rw (p, q) refl
two_so at f (x ∷ y ∷ z ∷ ns) a b l p q = absurd (omega arith)

pub four_so : {A : Type 0} (at : ℕ) (f : Tree → Tree → Tree → Tree → Shaped A) (ns : List TreeValue) (a b c d : TreeValue) → length ns ≡ 4 → a ≡ get_or ns 0 a → b ≡ get_or ns 1 b → c ≡ get_or ns 2 c → d ≡ get_or ns 3 d → four_parts at (trees_of ns) f ≡ f (tree_of a) (tree_of b) (tree_of c) (tree_of d)
four_so at f [] a b c d l p q r s = absurd (omega arith)
four_so at f (x ∷ []) a b c d l p q r s = absurd (omega arith)
four_so at f (x ∷ y ∷ []) a b c d l p q r s = absurd (omega arith)
four_so at f (x ∷ y ∷ z ∷ []) a b c d l p q r s = absurd (omega arith)
four_so at f (x ∷ y ∷ z ∷ w ∷ []) a b c d l p q r s = rw (p, q, r, s) refl
four_so at f (x ∷ y ∷ z ∷ w ∷ v ∷ ns) a b c d l p q r s = absurd (omega arith)

pub five_so : {A : Type 0} (at : ℕ) (f : Tree → Tree → Tree → Tree → Tree → Shaped A) (ns : List TreeValue) (a b c d e : TreeValue) → length ns ≡ 5 → a ≡ get_or ns 0 a → b ≡ get_or ns 1 b → c ≡ get_or ns 2 c → d ≡ get_or ns 3 d → e ≡ get_or ns 4 e → five_parts at (trees_of ns) f ≡ f (tree_of a) (tree_of b) (tree_of c) (tree_of d) (tree_of e)
five_so at f [] a b c d e l p q r s t = absurd (omega arith)
five_so at f (x ∷ []) a b c d e l p q r s t = absurd (omega arith)
five_so at f (x ∷ y ∷ []) a b c d e l p q r s t = absurd (omega arith)
five_so at f (x ∷ y ∷ z ∷ []) a b c d e l p q r s t = absurd (omega arith)
five_so at f (x ∷ y ∷ z ∷ w ∷ []) a b c d e l p q r s t = absurd (omega arith)
five_so at f (x ∷ y ∷ z ∷ w ∷ v ∷ []) a b c d e l p q r s t = rw (p, q, r, s, t) refl
five_so at f (x ∷ y ∷ z ∷ w ∷ v ∷ u ∷ ns) a b c d e l p q r s t = absurd (omega arith)
