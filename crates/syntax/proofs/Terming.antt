-- Terms by their nodes, and the sizes that fall on the way to their parts.
use Rattle.std.proofs.Common.{◌≡◌, ℕ, zero, suc, ◌+◌, ◌<◌, ◌≤◌, Bool, true, false, cond, leb, List, [], ◌∷◌, length, get_or, Ok, Err, Vec, Box, Global, sym, refl, ap, ◌∙◌, arith, rules}
use Rattle.text.specs.declared.tree.Tree.{Tree as TreeValue}
use Rattle.text.specs.Nodes.{tree_of, trees_of}
use Rattle.text.specs.Trees.{Tree, quoted, integer, Trees, none, more, size, sizes}
use Rattle.syntax.specs.declared.fault.ShapeFault.TheVariants.{Misfit, Limit, NoName}
use Rattle.syntax.specs.declared.source.Bracket.{Bracket as Opening}
use Rattle.syntax.specs.declared.source.Headed.{Headed}
use Rattle.syntax.specs.declared.spec.Name.{Name as NameValue}
use Rattle.syntax.specs.declared.spec.Term.{Term as TermValue, Name, Tuple, Crypt, Apply, the_lemmas}
use Rattle.syntax.specs.Names.{is_name}
use Rattle.syntax.specs.Seeing.{Stands, headed, headed_by}
use Rattle.syntax.specs.Shape.{Shaped, and_then, bytes, short, a_name, vanilla, term, crypt_term, apply_term, terms, parts_count}
use Rattle.syntax.specs.Specs.{name, tuple, crypt, apply}
use Rattle.syntax.specs.Views.{term_of, terms_of}
use Rattle.syntax.proofs.Parts.{headed_then}

pub size_bracket : (text : List ℕ) (t : Tree) (b : Opening) → Stands text t b → size t ≡ suc (sizes (trees_of b.parts.now))
unfolding size
size_bracket text t b h = ap size h.is

pub size_at : (ns : List TreeValue) (i : ℕ) (n : TreeValue) → i < length ns → n ≡ get_or ns i n → size (tree_of n) ≤ sizes (trees_of ns)
unfolding size
size_at [] i n l e = absurd (omega arith)
size_at (m ∷ ns) zero n l e = let w = ap (λ k. size (tree_of k)) e in omega arith
size_at (m ∷ ns) (suc i) n l e = omega (arith, size_at ns i n (omega arith) e)

abbrev behind : Shaped (NameValue × Trees) → Trees
behind (Ok p) = p.1
behind (Err e) = none

pub size_rest : (text : List ℕ) (at : ℕ) (ts : Trees) (h : Headed) → Ok (headed_by h) ≡ headed text at ts → sizes (trees_of h.rest.now) ≤ sizes ts
unfolding size
size_rest text at none h e = cc
size_rest text at (more f ts) h e = go (leb (parts_count ts) 8) (a_name text f) e
  where
    go : (b : Bool) (o : Shaped NameValue) → Ok (headed_by h) ≡ cond b (and_then o (λ n. Ok (n, ts))) (Err (Limit at)) → sizes (trees_of h.rest.now) ≤ size f + sizes ts
    go true (Ok n) e = let s = ap (λ q. sizes (behind q)) e in omega arith
    go true (Err d) e = cc
    go false o e = cc

pub name_term : (text : List ℕ) (t : Tree) (n : NameValue) → (t ≡ quoted n.at n.part) × (is_name (bytes text n.part) ≡ true) → term text t ≡ and_then (short n) (λ m. Ok (term_of (Name m)))
unfolding term
name_term text t n h = ap (term text) h.0 ∙ ap (λ b. and_then (cond b (short n) (Err (NoName n.at))) (λ m. Ok (name n.at n.part))) h.1 ∙ go (leb n.part.len 31)
  where
    view-Name : term_of (Name n) ≡ name n.at n.part
    view-Name = search (rules, the_lemmas)

    go : (b : Bool) → and_then (cond b (Ok n) (Err (Limit n.at))) (λ m. Ok (name n.at n.part)) ≡ and_then (cond b (Ok n) (Err (Limit n.at))) (λ m. Ok (term_of (Name m)))
    go true = ap Ok (sym view-Name)
    go false = refl

pub number_term : (text : List ℕ) (t : Tree) (at v : ℕ) → t ≡ integer at v → term text t ≡ Err (Misfit at)
unfolding term
number_term text t at v e = ap (term text) e

pub apply_headed : (text : List ℕ) (at : ℕ) (ts : Trees) → apply_term text at ts ≡ and_then (headed text at ts) (λ p. and_then (terms text p.1) (λ us. Ok (apply at p.0 us)))
unfolding term
apply_headed text at none = refl
apply_headed text at (more f ts) = headed_then text at (λ n us. and_then (terms text us) (λ vs. Ok (apply at n vs))) f ts

pub not_three : (text : List ℕ) (at : ℕ) (ns : List TreeValue) → (length ns ≡ 3 → ⊥) → crypt_term text at (trees_of ns) ≡ Err (Misfit at)
unfolding term
not_three text at [] h = refl
not_three text at (a ∷ []) h = refl
not_three text at (a ∷ b ∷ []) h = refl
not_three text at (a ∷ b ∷ c ∷ []) h = absurd (h refl)
not_three text at (a ∷ b ∷ c ∷ d ∷ ns) h = refl

pub crypt_so : (text : List ℕ) (at : ℕ) (ns : List TreeValue) (a b c : TreeValue) → length ns ≡ 3 → a ≡ get_or ns 0 a → b ≡ get_or ns 1 b → c ≡ get_or ns 2 c
    → crypt_term text at (trees_of ns) ≡ and_then (term text (tree_of a)) (λ x. and_then (term text (tree_of b)) (λ y. and_then (vanilla text (tree_of c)) (λ _. Ok (crypt at x y))))
unfolding term
crypt_so text at [] a b c l p q r = absurd (omega arith)
crypt_so text at (x ∷ []) a b c l p q r = absurd (omega arith)
crypt_so text at (x ∷ y ∷ []) a b c l p q r = absurd (omega arith)
crypt_so text at (x ∷ y ∷ z ∷ []) a b c l p q r = rw (p, q, r) refl
crypt_so text at (x ∷ y ∷ z ∷ w ∷ ns) a b c l p q r = absurd (omega arith)

pub view-Tuple : (at : ℕ) (v : Vec TermValue Global) → term_of (Tuple at v) ≡ tuple at (terms_of v.items)
view-Tuple at v = search (rules, the_lemmas)

pub view-Apply : (at : ℕ) (n : NameValue) (v : Vec TermValue Global) → term_of (Apply at n v) ≡ apply at n (terms_of v.items)
view-Apply at n v = search (rules, the_lemmas)

pub view-Crypt : (at : ℕ) (t k : Box TermValue Global) → term_of (Crypt at t k) ≡ crypt at (term_of t.value) (term_of k.value)
view-Crypt at t k = search (rules, the_lemmas)
