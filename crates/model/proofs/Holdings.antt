-- A line adds to the holdings what came in and what was made.
use Rattle.std.proofs.Common.{◌≡◌, ℕ, List, ap, inl, inr}
use Rattle.model.specs.Lists.{Every, zip}
use Rattle.model.specs.Trees.{Tree, leaf}
use Rattle.model.specs.Holdings.{Stock, add, TermOf, ValueOf}
use Rattle.model.proofs.Lists.{some_left, some_right, some_map}
use Rattle.model.proofs.Feeding.{Fed, fed_zip, fed_left}

module _ (h : Stock) (is vs : List Tree) (ns ks : List ℕ) where
  pub term_more : (t : Tree) → TermOf h t → TermOf (add h is vs ns ks) t
  term_more t (inl i) = inl (some_left _ h.taken (zip is vs) i)
  term_more t (inr i) = inr (some_left _ h.made (zip ns ks) i)

  pub value_more : (t : Tree) → ValueOf h t → ValueOf (add h is vs ns ks) t
  value_more t (inl i) = inl (some_left _ h.taken (zip is vs) i)
  value_more t (inr i) = inr (some_left _ h.made (zip ns ks) i)

  module _ (vs' : List Tree) (ks' : List ℕ) (Q : Tree → Tree → Type 0) (N : ℕ → ℕ → Type 0) (fi : Fed Q is vs vs') (fn : Fed N ns ks ks') where
    pub terms_in : Every (TermOf (add h is vs ns ks)) is
    terms_in = fed_left _ is vs vs' (fed_zip Q (λ t v. TermOf (add h is vs ns ks) t) is vs vs' fi
        (λ x y i. inl (some_right _ h.taken (zip is vs) (some_map _ (λ p. x ≡ p.0) (λ p e. e.0) (zip is vs) i))))

    pub names_in : Every (λ a. TermOf (add h is vs ns ks) (leaf a)) ns
    names_in = fed_left _ ns ks ks' (fed_zip N (λ a k. TermOf (add h is vs ns ks) (leaf a)) ns ks ks' fn
        (λ x y i. inr (some_right _ h.made (zip ns ks) (some_map _ (λ p. leaf x ≡ leaf p.0) (λ p e. ap leaf e.0) (zip ns ks) i))))

    pub values_in : Fed (λ t v. ValueOf (add h is vs ns ks) v) is vs vs'
    values_in = fed_zip Q (λ t v. ValueOf (add h is vs ns ks) v) is vs vs' fi
        (λ x y i. inl (some_right _ h.taken (zip is vs) (some_map _ (λ p. y ≡ p.1) (λ p e. e.1) (zip is vs) i)))

    pub numbers_in : Fed (λ a k. ValueOf (add h is vs ns ks) (leaf k)) ns ks ks'
    numbers_in = fed_zip N (λ a k. ValueOf (add h is vs ns ks) (leaf k)) ns ks ks' fn
        (λ x y i. inr (some_right _ h.made (zip ns ks) (some_map _ (λ p. leaf y ≡ leaf p.1) (λ p e. ap leaf e.1) (zip ns ks) i)))
