-- Handles looked up one after the other.
use Rattle.std.proofs.Common.{◌≡◌, ℕ, ◌+◌, ◌<◌, ◌≤◌, List, [], ◌∷◌, ◌++◌, length, drop, get_or, refl, ap, sym, ◌∙◌, append_assoc, append-nil}
use Rattle.std.proofs.lemmas.List.{at_drop_more, at_drop_all}
use Rattle.std.specs.Prelude.{Some, None, Option, option_map}
use Rattle.std.specs.List.{flat_map}
use Rattle.model.specs.Trees.{Tree, Trees, none, more}
use Rattle.model.specs.Tape.{encode, encode_all}
use Rattle.store.specs.Makers.{with_more, gathered}

-- some values before others
abbrev pub before : List Tree → Trees → Trees
before [] ts = ts
before (u ∷ us) ts = more u (before us ts)

before_push : (us : List Tree) (v : Tree) (ts : Trees) → before (us ++ v ∷ []) ts ≡ before us (more v ts)
before_push [] v ts = refl
before_push (u ∷ us) v ts = ap (more u) (before_push us v ts)

pub encode_before : (us : List Tree) (ts : Trees) → encode_all (before us ts) ≡ flat_map encode us ++ encode_all ts
encode_before [] ts = refl
encode_before (u ∷ us) ts = ap (λ bs. encode u ++ bs) (encode_before us ts) ∙ sym (append_assoc (encode u) (flat_map encode us) (encode_all ts))

pub flat_push : (us : List Tree) (v : Tree) → flat_map encode (us ++ v ∷ []) ≡ flat_map encode us ++ encode v
flat_push [] v = append-nil (encode v)
flat_push (u ∷ us) v = ap (λ bs. encode u ++ bs) (flat_push us v) ∙ sym (append_assoc (encode u) (flat_map encode us) (encode v))

module _ (m : ℕ → Option Tree) (hs : List ℕ) where
  -- the handles before an index have these values
  pub record Found (i : ℕ) (us : List Tree) : Type 0 where
    pub all : gathered m hs ≡ option_map (before us) (gathered m (drop i hs))

  pub none_found : Found 0 []
  none_found = record { all = go (gathered m hs) }
    where
      go : (o : Option Trees) → o ≡ option_map (before []) o
      go None = refl
      go (Some ts) = refl

  ahead : (i h : ℕ) → h ≡ get_or hs i 0 → i < length hs → gathered m (drop i hs) ≡ with_more (m h) (gathered m (drop (i + 1) hs))
  unfolding gathered
  ahead i h e l = at_drop_more (gathered m) hs i 0 l ∙ ap (λ k. with_more (m k) (gathered m (drop (i + 1) hs))) (sym e)

  pub one_found : (i h : ℕ) (us : List Tree) (v : Tree) → Found i us → h ≡ get_or hs i 0 → i < length hs → m h ≡ Some v → Found (i + 1) (us ++ v ∷ [])
  one_found i h us v f e l q = record {
    all = f.all ∙ ap (option_map (before us)) (ahead i h e l ∙ ap (λ o. with_more o rest) q) ∙ go rest;
  }
    where
      rest : Option Trees
      rest = gathered m (drop (i + 1) hs)

      go : (o : Option Trees) → option_map (before us) (option_map (more v) o) ≡ option_map (before (us ++ v ∷ [])) o
      go None = refl
      go (Some ts) = ap Some (sym (before_push us v ts))

  pub one_invalid : (i h : ℕ) (us : List Tree) → Found i us → h ≡ get_or hs i 0 → i < length hs → m h ≡ None → gathered m hs ≡ None
  one_invalid i h us f e l q = f.all ∙ ap (option_map (before us)) (ahead i h e l ∙ ap (λ o. with_more o (gathered m (drop (i + 1) hs))) q)

  pub all_found : (i : ℕ) (us : List Tree) → Found i us → length hs ≤ i → gathered m hs ≡ Some (before us none)
  unfolding gathered
  all_found i us f l = f.all ∙ ap (option_map (before us)) (at_drop_all (gathered m) hs i l)
