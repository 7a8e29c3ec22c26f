-- What is named by number, and that it stays what it is when more is added.
use Rattle.std.proofs.Common.{◌≡◌, ℕ, ◌+◌, ◌-◌, ◌≤◌, ◌<◌, List, [], ◌∷◌, ◌++◌, map, length, get_or, take, drop, slice_range, Ok, Err, Result, Vec, Global, ap, sym, subst, ◌∙◌, refl, arith, append-nil, append_assoc}
use Rattle.std.proofs.Math.Seq.{drop-append_seam, take-append_seam}
use Rattle.std.proofs.lemmas.List.{length-append}
use Rattle.std.proofs.Math.ListN.{get_or-map}
use Rattle.text.specs.declared.tree.Tree.{Tree as TreeValue}
use Rattle.text.specs.Nodes.{tree_of, trees_of}
use Rattle.text.specs.Trees.{Tree}
use Rattle.syntax.specs.declared.fault.ShapeFault.{ShapeFault}
use Rattle.syntax.specs.declared.spec.Name.{Name}
use Rattle.syntax.specs.declared.spec.Spec.{Spec}
use Rattle.syntax.specs.declared.spec.Term.{Term as TermValue}
use Rattle.syntax.specs.Numbers.{AllTake}
use Rattle.syntax.specs.Seeing.{Adds, GivesAlways, Kept, Refuses}
use Rattle.syntax.specs.Shape.{Shaped, each}
use Rattle.syntax.specs.Views.{nothing, term_of, term_in}
use Rattle.syntax.proofs.Rest.{Rest, rest_first, rest_more, rest_refused, rest_none, by_each}

-- a term that is looked up
pub term_there : (ts : List TermValue) (k : ℕ) (x y : TermValue) → y ≡ get_or ts k x → term_of x ≡ nothing → term_of y ≡ term_in ts k
term_there ts k x y e n = ap term_of e ∙ sym (get_or-map term_of ts k x) ∙ ap (get_or (map term_of ts) k) n

pub kept_same : (s : Spec) → Kept s s
kept_same s = record { declarations = refl; lines = refl; more_parameters = []; parameters = sym (append-nil s.parameters.items); more_terms = []; terms = sym (append-nil s.terms.items) }

-- with names behind the parameters
pub kept_named : (s : Spec) (v : Vec Name Global) (more : List Name) → v.items ≡ s.parameters.items ++ more → Kept s (record { declarations = s.declarations; parameters = v; lines = s.lines; terms = s.terms })
kept_named s v more e = record { declarations = refl; lines = refl; more_parameters = more; parameters = e; more_terms = []; terms = sym (append-nil s.terms.items) }

-- with terms behind the terms
pub kept_termed : (s : Spec) (v : Vec TermValue Global) (more : List TermValue) → v.items ≡ s.terms.items ++ more → Kept s (record { declarations = s.declarations; parameters = s.parameters; lines = s.lines; terms = v })
kept_termed s v more e = record { declarations = refl; lines = refl; more_parameters = []; parameters = sym (append-nil s.parameters.items); more_terms = more; terms = e }

kept_then : (a b c : Spec) → Kept a b → Kept b c → Kept a c
kept_then a b c h k =
    record {
      declarations = k.declarations ∙ h.declarations;
      lines = k.lines ∙ h.lines;
      more_parameters = h.more_parameters ++ k.more_parameters;
      parameters = k.parameters ∙ ap (λ ns. ns ++ k.more_parameters) h.parameters ∙ append_assoc a.parameters.items h.more_parameters k.more_parameters;
      more_terms = h.more_terms ++ k.more_terms;
      terms = k.terms ∙ ap (λ ts. ts ++ k.more_terms) h.terms ∙ append_assoc a.terms.items h.more_terms k.more_terms;
    }

behind : {X : Type 0} (xs ys zs more : List X) → zs ≡ xs ++ ys → xs ++ (ys ++ more) ≡ zs ++ more
behind xs ys zs more e = sym (append_assoc xs ys more) ∙ ap (λ l. l ++ more) (sym e)

-- What holds of the lists whatever is added behind holds of longer ones too.
pub later : (P : List Name → List TermValue → Type 0) (a b : Spec) → Kept a b → ((ns : List Name) (ts : List TermValue) → P (a.parameters.items ++ ns) (a.terms.items ++ ts)) → (ns : List Name) (ts : List TermValue) → P (b.parameters.items ++ ns) (b.terms.items ++ ts)
later P a b k h ns ts =
    subst (λ l. P l (b.terms.items ++ ts)) (behind a.parameters.items k.more_parameters b.parameters.items ns k.parameters)
    (subst (λ l. P (a.parameters.items ++ (k.more_parameters ++ ns)) l) (behind a.terms.items k.more_terms b.terms.items ts k.terms) (h (k.more_parameters ++ ns) (k.more_terms ++ ts)))

-- and with nothing behind
pub at_last : (P : List Name → List TermValue → Type 0) (s : Spec) → ((ns : List Name) (ts : List TermValue) → P (s.parameters.items ++ ns) (s.terms.items ++ ts)) → P s.parameters.items s.terms.items
at_last P s h = subst (λ l. P l s.terms.items) (append-nil s.parameters.items) (subst (λ l. P (s.parameters.items ++ []) l) (append-nil s.terms.items) (h [] []))

-- what was added, among more behind it
pub between : {X : Type 0} (xs ys zs more : List X) → zs ≡ xs ++ ys → slice_range (zs ++ more) (length xs) (length zs) ≡ ys
between xs ys zs more e =
    let n : length zs - length xs ≡ length ys = omega (arith, ap length e, length-append xs ys) in
    ap (λ l. take (length zs - length xs) (drop (length xs) l)) (sym (behind xs ys zs more e)) ∙ ap (λ l. take (length zs - length xs) l) (drop-append_seam xs (ys ++ more)) ∙ ap (λ k. take k (ys ++ more)) n ∙ take-append_seam ys more

-- one row more takes the next ones
pub take_more : {A : Type 0} (takes : ℕ → ℕ → A → ℕ → ℕ → Type 0) (p t : ℕ) (xs : List A) (q u : ℕ) (x : A) (p' t' : ℕ) → AllTake takes p t xs q u → takes q u x p' t' → AllTake takes p t (xs ++ x ∷ []) p' t'
take_more takes p t [] q u x p' t' h k = (p', (t', (subst (λ n. takes n t x p' t') h.0 (subst (λ n. takes q n x p' t') h.1 k), (refl, refl))))
take_more takes p t (y ∷ ys) q u x p' t' h k = (h.0, (h.1.0, (h.1.1.0, take_more takes h.0 h.1.0 ys q u x p' t' h.1.1.1 k)))

module _ {A B : Type 0} (view : List Name → List TermValue → B → A) where
  pub adds_path : {o o' : Shaped A} (old new : Spec) (r : Result B ShapeFault) → o ≡ o' → Adds view o' old new r → Adds view o old new r
  adds_path old new (Ok x) p h = (h.0, λ ns ts. p ∙ h.1 ns ts)
  adds_path old new (Err f) p h = λ n. p ∙ h n

  pub adds_nothing : {o o' : Shaped A} (s : Spec) (r : Result B ShapeFault) → o ≡ o' → GivesAlways view o' r → Adds view o s s r
  adds_nothing s (Ok x) p h = (kept_same s, λ ns ts. p ∙ h (s.parameters.items ++ ns) (s.terms.items ++ ts))
  adds_nothing s (Err f) p h = λ n. p ∙ h [] [] n

  -- rows that are read one by one
  module _ (one : Tree → Shaped A) (nodes : List TreeValue) where
    pub record Rows (i : ℕ) (old now : Spec) (rows : List B) : Type 0 where
      pub kept : Kept old now
      pub rest : (ns : List Name) (ts : List TermValue) → Rest one (each one) (view (now.parameters.items ++ ns) (now.terms.items ++ ts)) (map (view (now.parameters.items ++ ns) (now.terms.items ++ ts))) nodes i rows

    pub rows_first : (a s : Spec) → Kept a s → Rows 0 a s []
    rows_first a s k = record { kept = k; rest = λ ns ts. rest_first one (each one) (view (s.parameters.items ++ ns) (s.terms.items ++ ts)) (map (view (s.parameters.items ++ ns) (s.terms.items ++ ts))) nodes }

    module _ (i : ℕ) (old now : Spec) (rows : List B) (r : Rows i old now rows) where
      pub rows_more : (d : TreeValue) → i < length nodes → (next : Spec) (x : B) → Adds view (one (tree_of (get_or nodes i d))) now next (Ok x) → Rows (i + 1) old next (rows ++ x ∷ [])
      rows_more d h next x a =
          record {
            kept = kept_then old now next r.kept a.0;
            rest = λ ns ts.
                let v = view (next.parameters.items ++ ns) (next.terms.items ++ ts) in
                rest_more one (each one) v (map v) nodes (by_each one v) i rows (later (λ l m. Rest one (each one) (view l m) (map (view l m)) nodes i rows) now next a.0 r.rest ns ts) d h x (a.1 ns ts);
          }

      pub rows_refused : (d : TreeValue) → i < length nodes → (f : ShapeFault) → Refuses f (one (tree_of (get_or nodes i d))) → Refuses f (each one (trees_of nodes))
      rows_refused d h f q n =
          let v = view (now.parameters.items ++ []) (now.terms.items ++ []) in
          rest_refused one (each one) v (map v) nodes (by_each one v) i rows (r.rest [] []) d h f (q n)

      pub rows_all : length nodes ≤ i → Kept old now × ((ns : List Name) (ts : List TermValue) → each one (trees_of nodes) ≡ Ok (map (view (now.parameters.items ++ ns) (now.terms.items ++ ts)) rows))
      rows_all h = (
        r.kept,
        λ ns ts.
            let v = view (now.parameters.items ++ ns) (now.terms.items ++ ts) in
            rest_none one (each one) v (map v) nodes (by_each one v) i rows (r.rest ns ts) h,
      )
