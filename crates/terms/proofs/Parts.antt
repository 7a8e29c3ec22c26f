-- Reading a term lists it with all that is within it.
use Rattle.std.proofs.Common.{◌≡◌, ℕ, Bool, true, ◌⊎◌, List, Ok, refl, ap, ◌∙◌, subst, inl, inr}
use Rattle.std.proofs.lemmas.Bool.{or_left}
use Rattle.model.specs.Trees as model
use Rattle.model.specs.Trees.{tupled, crypted, applied, Tree, leaf, node, Trees, ◌among◌, Within, itself, inside}
use Rattle.syntax.specs.Specs.{Term, name, tuple, crypt, apply, Terms, none, more}
use Rattle.terms.specs.declared.declarations.Declared.{Declared}
use Rattle.terms.specs.Numbering.{tree, trees, has, noted, next, at_most_eight, read, read_all}
use Rattle.terms.proofs.Leaves.{has_append, More, noted_more, read_more, read_all_more, read_there}
use Rattle.terms.proofs.Steps.{steps_read, few_read}

-- what is within a tree is the tree, or within one of its parts
abbrev InPart : Tree → Tree → Type 0
InPart (leaf n) u = ⊥
InPart (node h ts) u = (v : Tree) × (v among ts) × Within u v

whole_or_part : (u t : Tree) → Within u t → (u ≡ t) ⊎ InPart t u
whole_or_part u t itself = inl refl
whole_or_part u t (inside {u = v} i w) = inr (v, i, w)

-- what is listed stays listed
listed_still : (P : Tree → Type 0) (q : ℕ → Bool) (us vs : List Tree) → More P q us vs → (u : Tree) → has u us ≡ true → has u vs ≡ true
listed_still P q us vs m u h = ap (has u) m.is ∙ has_append u us m.new ∙ or_left (has u us) (has u m.new) h

-- what one of two trees has
of_two : {Z : Type 0} (Q : Tree → Type 0) (t k v : Tree) → v among (model.more t (model.more k model.none)) → Q v → (Q t → Z) → (Q k → Z) → Z
of_two Q t k v (inl p) q f g = f (subst Q p q)
of_two Q t k v (inr (inl p)) q f g = g (subst Q p q)
of_two Q t k v (inr (inr i)) q f g = elim i [ ]

module _ (text : List ℕ) (names : List Declared) (most : ℕ) (u : Tree) where
  -- behind the parts the whole is listed
  whole_listed : (at : ℕ) (t : Tree) (us vs : List Tree) → noted most at t us ≡ Ok vs → has u us ≡ true → has u vs ≡ true
  whole_listed at t us vs e h = listed_still _ _ us vs (noted_more most at t us vs e) u h

  -- the term is, if its parts are
  listed_if : (t : Term) (us vs : List Tree) → read text names most t us ≡ Ok vs → Within u (tree text names t) → (InPart (tree text names t) u → has u vs ≡ true) → has u vs ≡ true
  listed_if t us vs e w f = elim (whole_or_part u (tree text names t) w) [ inl p ↦ ap (λ z. has z vs) p ∙ read_there text names most t us vs e | inr i ↦ f i ]

  -- what is within a term is listed
  mutual
    pub within_listed : (t : Term) (us vs : List Tree) → read text names most t us ≡ Ok vs → Within u (tree text names t) → has u vs ≡ true
    within_listed (name at p) us vs e w = listed_if (name at p) us vs e w (λ i. absurd i)
    within_listed (tuple at ts) us vs e w =
        let s = steps_read (at_most_eight at ts (read_all text names most ts us)) (noted most at (tree text names (tuple at ts))) vs e in
        listed_if (tuple at ts) us vs e w (λ i. whole_listed at (tree text names (tuple at ts)) s.mid vs s.second (one_listed ts us s.mid (few_read at ts (read_all text names most ts us) s.mid s.first) i.0 i.1 i.2))
    within_listed (crypt at t k) us vs e w =
        let s = steps_read (next (read text names most t us) (read text names most k)) (noted most at (tree text names (crypt at t k))) vs e in
        let r = steps_read (read text names most t us) (read text names most k) s.mid s.first in
        listed_if (crypt at t k) us vs e w
        (λ i. whole_listed at (tree text names (crypt at t k)) s.mid vs s.second
        (of_two (λ z. Within u z) (tree text names t) (tree text names k) i.0 i.1 i.2
        (λ x. listed_still _ _ r.mid s.mid (read_more text names most k r.mid s.mid r.second) u (within_listed t us r.mid r.first x))
        (within_listed k r.mid s.mid r.second)))
    within_listed (apply at f ts) us vs e w =
        let s = steps_read (at_most_eight at ts (read_all text names most ts us)) (noted most at (tree text names (apply at f ts))) vs e in
        listed_if (apply at f ts) us vs e w (λ i. whole_listed at (tree text names (apply at f ts)) s.mid vs s.second (one_listed ts us s.mid (few_read at ts (read_all text names most ts us) s.mid s.first) i.0 i.1 i.2))

    one_listed : (ts : Terms) (us vs : List Tree) → read_all text names most ts us ≡ Ok vs → (v : Tree) → v among (trees text names ts) → Within u v → has u vs ≡ true
    one_listed none us vs e v i w = elim i [ ]
    one_listed (more t ts) us vs e v (inl p) w =
        let s = steps_read (read text names most t us) (read_all text names most ts) vs e in
        listed_still _ _ s.mid vs (read_all_more text names most ts s.mid vs s.second) u (within_listed t us s.mid s.first (subst (λ z. Within u z) p w))
    one_listed (more t ts) us vs e v (inr i) w =
        let s = steps_read (read text names most t us) (read_all text names most ts) vs e in
        one_listed ts s.mid vs s.second v i w
