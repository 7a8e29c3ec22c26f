-- The numbering of a term, form by form.
use Rattle.std.proofs.Common.{◌≡◌, ℕ, ◌+◌, ◌<◌, ◌≤◌, cond, List, [], ◌∷◌, ◌++◌, length, take, IfOk, Some, None, Ok, Err, vec_items, Option, Result, unwrap_or, refl, ap, ◌∙◌, subst, ap₂, arith}
use mathlib.Core.Path.{subst⁻¹}
use Rattle.std.proofs.lemmas.List.{take_all, length_push}
use Rattle.std.proofs.lemmas.Bool.{le-leb, lt-leb}
use Rattle.model.specs.Trees as model
use Rattle.model.specs.Trees.{Head, tupled, crypted, applied, Tree, Trees, leaf, node}
use Rattle.program.specs.declared.parts.Parts.{Parts}
use Rattle.text.specs.declared.part.Part.{Part}
use Rattle.syntax.specs.declared.spec.Name.{Name}
use Rattle.syntax.specs.Specs.{Term, name, tuple, crypt, apply, Terms, none, more, count}
use Rattle.terms.specs.declared.declarations.Declared.{Declared}
use Rattle.terms.specs.declared.declarations.Meaning.{Meaning}
use Rattle.terms.specs.declared.declarations.Meaning.TheVariants as meaning
use Rattle.terms.specs.declared.fault.TermFault.{TermFault}
use Rattle.terms.specs.declared.fault.TermFault.TheVariants.{Limit, Undeclared, WrongType, NoMemory}
use Rattle.terms.specs.declared.table.TermTable.{TermTable}
use Rattle.terms.specs.Shapes as shapes
use Rattle.terms.specs.Shapes.{named, formed, grown, AllBelow}
use Rattle.terms.specs.Interned.{Interned}
use Rattle.terms.specs.Terms.{tree_in, size, Grows}
use Rattle.terms.specs.Scope.{number_of, meaning_of, function_of}
use Rattle.terms.specs.Numbering.{function_number, tree, trees, noted, next, at_most_eight, read, read_all}
use Rattle.terms.specs.Meanings.{Lists}
use Rattle.terms.specs.Reads.{Refused, Noted, Gives, SayableAll, Reads, ReadsAll}
use Rattle.terms.proofs.Noting.{noting}
use Rattle.terms.proofs.Growing.{grows_numbered, grows_refused, number_within}

-- a refused step refuses all
refused_next : (f : TermFault) (g : List Tree → Result (List Tree) TermFault) (q : Result (List Tree) TermFault) → Refused q f → Refused (next q g) f
refused_next (Limit p) g q e = ap (λ z. next z g) e
refused_next (Undeclared p) g q e = ap (λ z. next z g) e
refused_next (WrongType p) g q e = ap (λ z. next z g) e
refused_next (NoMemory w) g q e = tt

refused_as : (f : TermFault) (q r : Result (List Tree) TermFault) → q ≡ r → Refused r f → Refused q f
refused_as f q r e h = subst⁻¹ (λ z. Refused z f) e h

-- what follows a good step
noted_next : (t t' : TermTable) (q : Result (List Tree) TermFault) (g : List Tree → Result (List Tree) TermFault) (n : Noted t q) → Noted t' (g n.terms) → Noted t' (next q g)
noted_next t t' q g n m = record { terms = m.terms; is = ap (λ z. next z g) n.is ∙ m.is; lists = m.lists }

-- a row was numbered, or refused
module _ (t t' : TermTable) (s : shapes.Shape) (most at : ℕ) where
  pub within_interned : (r : Result ℕ TermFault) → Interned (vec_items t.rows) (vec_items t'.rows) s most at r → IfOk r (λ k. k < size t')
  within_interned (Ok k) i = number_within t t' s k i.0
  within_interned (Err f) i = tt

  pub grows_interned : (r : Result ℕ TermFault) → Interned (vec_items t.rows) (vec_items t'.rows) s most at r → Grows t t'
  grows_interned (Ok k) i = grows_numbered t t' s k i.0
  grows_interned (Err (Limit p)) i = grows_refused t t' i.1
  grows_interned (Err (Undeclared p)) i = absurd i
  grows_interned (Err (WrongType p)) i = absurd i
  grows_interned (Err (NoMemory w)) i = grows_refused t t' i

-- the whole, behind its parts
module _ (t t' : TermTable) (h : Head) (ks : List ℕ) (u : Tree) (most at : ℕ) (r : Result ℕ TermFault) (small : most ≤ 65536) (i : Interned (vec_items t.rows) (vec_items t'.rows) (formed h ks) most at r) where
  whole : (q : Result (List Tree) TermFault) → Noted t q → grown (tree_in t) (formed h ks) ≡ u → AllBelow (size t) ks → Gives t' u (next q (noted most at u)) r
  whole q n g b = subst⁻¹ (λ q. Gives t' u (next q (noted most at u)) r) n.is (subst (λ u. Gives t' u (noted most at u n.terms) r) g (noting t t' n.terms n.lists (formed h ks) b most at r small i))

module _ (text : List ℕ) (names : List Declared) (most : ℕ) (t t' : TermTable) (at : ℕ) where
  pub name_read : (p : Part) (m : ℕ) (r : Result ℕ TermFault) → Some m ≡ number_of text names p → Interned (vec_items t.rows) (vec_items t'.rows) (named m) most at r → Reads text names t t' (name at p) most r
  name_read p m r a i us small l s =
      subst (λ u. Gives t' u (noted most at u us) r) (ap (λ o. leaf (unwrap_or o 0)) a) (noting t t' us l (named m) tt most at r small i)

  module _ (t₁ : TermTable) (ps : Parts) (r : Result ℕ TermFault) (b : AllBelow (size t₁) ps) where
    pub tuple_read : (xs : Terms) → ReadsAll text names t t₁ at xs most (Ok ps) → Interned (vec_items t₁.rows) (vec_items t'.rows) (formed tupled ps) most at r → Reads text names t t' (tuple at xs) most r
    tuple_read xs a i us small l s =
        let x = a us small l s in
        whole t₁ t' tupled ps (tree text names (tuple at xs)) most at r small i (at_most_eight at xs (read_all text names most xs us)) x.1 (ap (node tupled) x.0) b

    pub apply_read : (f : Name) (g : ℕ) (xs : Terms) → Some g ≡ function_of (meaning_of text names f.part) → ReadsAll text names t t₁ at xs most (Ok ps)
        → Interned (vec_items t₁.rows) (vec_items t'.rows) (formed (applied g) ps) most at r → Reads text names t t' (apply at f xs) most r
    apply_read f g xs e a i us small l s =
        let x = a us small l s.1 in
        whole t₁ t' (applied g) ps (tree text names (apply at f xs)) most at r small i (at_most_eight at xs (read_all text names most xs us)) x.1 (ap₂ (λ o z. node (applied o) z) (go (meaning_of text names f.part) e) x.0) b
      where
        go : (o : Option Meaning) → Some g ≡ function_of o → g ≡ function_number o
        go None e = absurd (cc)
        go (Some (meaning.Value k s)) e = absurd (cc)
        go (Some (meaning.Function f)) e = cc

  pub crypt_read : (t₁ t₂ : TermTable) (x y : Term) (k₁ k₂ : ℕ) (r : Result ℕ TermFault) → Reads text names t t₁ x most (Ok k₁) → Reads text names t₁ t₂ y most (Ok k₂) → k₁ < size t₁ → k₂ < size t₂ → Grows t₁ t₂
      → Interned (vec_items t₂.rows) (vec_items t'.rows) (formed crypted (k₁ ∷ (k₂ ∷ []))) most at r → Reads text names t t' (crypt at x y) most r
  crypt_read t₁ t₂ x y k₁ k₂ r a c h₁ h₂ g i us small l s =
      let z = a us small l s.0 in
      let w = c z.1.terms small z.1.lists s.1 in
      whole t₂ t' crypted (k₁ ∷ (k₂ ∷ [])) (tree text names (crypt at x y)) most at r small i (next (read text names most x us) (read text names most y))
      (noted_next t₁ t₂ (read text names most x us) (read text names most y) z.1 w.1) (ap₂ model.crypt (g.kept k₁ h₁ ∙ z.0) w.0) (let l = g.longer in (omega arith, (h₂, tt)))

-- the trees of some numbers, and others behind them
abbrev trees_then : (ℕ → Tree) → List ℕ → Trees → Trees
trees_then f [] us = us
trees_then f (k ∷ ks) us = model.more (f k) (trees_then f ks us)

then_push : (f : ℕ → Tree) (ks : List ℕ) (k : ℕ) (us : Trees) → trees_then f (ks ++ k ∷ []) us ≡ trees_then f ks (model.more (f k) us)
then_push f [] k us = refl
then_push f (j ∷ ks) k us = ap (model.more (f j)) (then_push f ks k us)

then_none : (f : ℕ → Tree) (ks : List ℕ) → shapes.trees f ks ≡ trees_then f ks model.none
then_none f [] = refl
then_none f (k ∷ ks) = ap (model.more (f k)) (then_none f ks)

then_same : (f g : ℕ → Tree) (n : ℕ) (ks : List ℕ) (us : Trees) → AllBelow n ks → ((j : ℕ) → j < n → f j ≡ g j) → trees_then f ks us ≡ trees_then g ks us
then_same f g n [] us b e = refl
then_same f g n (k ∷ ks) us b e = ap₂ model.more (e k b.0) (then_same f g n ks us b.1 e)

-- more than eight parts
pub too_many : (at : ℕ) (xs : Terms) (r : Result (List Tree) TermFault) → 8 < count xs → at_most_eight at xs r ≡ Err (Limit at)
too_many at xs r h = ap (λ b. cond b r (Err (Limit at))) (lt-leb (count xs) 8 h)

-- the numbers of some terms, and the terms that are left
module _ (text : List ℕ) (names : List Declared) (most : ℕ) where
  pub record Rest (t : TermTable) (ks : List ℕ) (left : Terms) (all : Result (List Tree) TermFault) (whole : Trees) : Type 0 where
    pub mid : List Tree
    pub lists : Lists t mid
    pub same : all ≡ read_all text names most left mid
    pub made : trees_then (tree_in t) ks (trees text names left) ≡ whole
    pub said : SayableAll text names left
    pub room : length ks + count left ≤ 8

  module _ (t₀ : TermTable) (xs : Terms) where
    abbrev pub Onward : TermTable → List ℕ → Terms → Type 0
    Onward t ks left = (us : List Tree) → most ≤ 65536 → Lists t₀ us → SayableAll text names xs → Rest t ks left (read_all text names most xs us) (trees text names xs)

    pub onward_none : count xs ≤ 8 → Onward t₀ [] xs
    onward_none few us small l s = record { mid = us; lists = l; same = refl; made = refl; said = s; room = omega arith }

    module _ (t t' : TermTable) (ks : List ℕ) (x : Term) (left : Terms) (o : Onward t ks (more x left)) where
      pub onward_more : AllBelow (size t) ks → Grows t t' → (k : ℕ) → Reads text names t t' x most (Ok k) → (ks' : List ℕ) → ks' ≡ take 8 (ks ++ k ∷ []) → Onward t' ks' left
      onward_more b g k a ks' e us small l s =
          let r = o us small l s in
          let q = a r.mid small r.lists r.said.0 in
          let n = length_push ks k in
          let m = r.room in
          let e' : ks' ≡ ks ++ k ∷ [] = e ∙ take_all 8 (ks ++ k ∷ []) (omega arith) in
          let n' = ap length e' in
          record {
            mid = q.1.terms;
            lists = q.1.lists;
            same = r.same ∙ ap (λ z. next z (read_all text names most left)) q.1.is;
            made = ap (λ z. trees_then (tree_in t') z (trees text names left)) e' ∙ then_push (tree_in t') ks k (trees text names left)
                ∙ then_same (tree_in t') (tree_in t) (size t) ks (model.more (tree_in t' k) (trees text names left)) b g.kept
                ∙ ap (λ z. trees_then (tree_in t) ks (model.more z (trees text names left))) q.0 ∙ r.made;
            said = r.said.1;
            room = omega arith;
          }

    module _ (at : ℕ) (few : count xs ≤ 8) where
      pub onward_done : (t : TermTable) (ps : Parts) → Onward t ps none → ReadsAll text names t₀ t at xs most (Ok ps)
      onward_done t ps o us small l s =
          let r = o us small l s in (
            then_none (tree_in t) ps ∙ r.made,
            record { terms = r.mid; is = ap (λ b. cond b (read_all text names most xs us) (Err (Limit at))) (le-leb (count xs) 8 few) ∙ r.same; lists = r.lists },
          )
