-- Composing keeps to the declared counts of parts.
use Rattle.std.proofs.Common.{◌≡◌, ℕ, Bool, true, false, cond, List, [], ◌∷◌, ◌++◌, length, refl, arith}
use mathlib.Core.Option.{Option, none as nothing, some}
use mathlib.Core.Path.{subst⁻¹}
use Rattle.model.specs.Lists.{Every}
use Rattle.model.specs.Trees.{Head, Tree, leaf, node, Trees, none, more}
use Rattle.model.specs.Deduction.{Party, may}
use Rattle.model.specs.Roles.{Act, new, same, make, Entry, Role, find, act, fill, enter, meet, Composed, got, lacks, ComposedAll, got_all, lacks_one, and_then, put_together, compose, compose_all, meet_all, count}
use Rattle.model.specs.CountLaw.{Parts, Declared, DeclaredAll, Counted}
use Rattle.model.proofs.Lists.{every_join}
use Rattle.model.proofs.Entries.{entry, every_one}

module _ (A : ℕ → ℕ) where
  abbrev pub TermCounted : Entry → Type 0
  TermCounted e = Declared A e.term

  -- what a state keeps
  pub record Counts (s : Role) : Type 0 where
    pub terms : Every TermCounted s.known
    pub acts : Every (Counted A) s.acts

  pub one_more : (a : Act) (xs : List Act) → Counted A a → Every (Counted A) xs → Every (Counted A) (xs ++ (a ∷ []))
  one_more a xs c h = every_join (Counted A) xs (a ∷ []) h (c, tt)

  pub acted : (a : Act) (s : Role) → Counted A a → Counts s → Counts (act a s)
  acted a s c k = record { terms = k.terms; acts = one_more a s.acts c k.acts }

  pub filled : (f : ℕ → Act) (s : Role) → Counted A (f s.next) → Counts s → Counts (fill f s)
  filled f s c k = record { terms = k.terms; acts = one_more (f s.next) s.acts c k.acts }

  pub entered : (t : Tree) (r : ℕ) (b : Bool) (s : Role) → Declared A t → Counts s → Counts (enter t r b s)
  entered t r b s d k = record { terms = every_one TermCounted s.known (entry t r b) k.terms d; acts = k.acts }

  pub met : (t : Tree) (r : ℕ) (s : Role) → Declared A t → Counts s → Counts (meet t r s)
  met t r s d k = go (find t s.known)
    where
      go : (o : Option ℕ) → Counts (elim o [ some old ↦ act (same r old) s | nothing ↦ enter t r false s ])
      go (some old) = acted (same r old) s tt k
      go nothing = entered t r false s d k

  pub met_all : (ts : Trees) (r : ℕ) (s : Role) → DeclaredAll A ts → Counts s → Counts (meet_all ts r s)
  met_all none r s d k = k
  met_all (more t ts) r s d k = met_all ts _ (meet t r s) d.1 (met t r s d.0 k)

  -- after composing, as many registers as parts
  abbrev pub After : Composed → Type 0
  After (got s r) = Counts s
  After (lacks u) = Unit {0}

  abbrev pub AfterAll : Trees → ComposedAll → Type 0
  AfterAll ts (got_all s rs) = Counts s × (length rs ≡ count ts)
  AfterAll ts (lacks_one u) = Unit {0}

  put : (h : Head) (ts : Trees) → Declared A (node h ts) → (c : ComposedAll) → AfterAll ts c → After (put_together h ts c)
  put h ts d (got_all s rs) k =
      entered (node h ts) s.next true (fill (λ r. make r h rs) s) d (filled (λ r. make r h rs) s (subst⁻¹ (Parts A h) k.1 d.0) k.0)
  put h ts d (lacks_one u) k = tt

  put_first : (r : ℕ) (t : Tree) (ts : Trees) (c : ComposedAll) → AfterAll ts c → AfterAll (more t ts) (and_then r c)
  put_first r t ts (got_all s rs) k = let p = k.1 in (k.0, omega arith)
  put_first r t ts (lacks_one u) k = tt

  module _ (P : Party) (may_make : ℕ → Bool) where
    name_after : (n : ℕ) (s : Role) → Counts s → (o : Option ℕ) (b : Bool)
        → After (elim o [ some r ↦ got s r | nothing ↦ cond b (got (enter (leaf n) s.next true (fill new s)) s.next) (lacks (leaf n)) ])
    name_after n s k (some r) b = k
    name_after n s k nothing true = entered (leaf n) s.next true (fill new s) tt (filled new s tt k)
    name_after n s k nothing false = tt

    compound_after : (t : Tree) (s : Role) → Counts s → (c : Composed) → After c → (o : Option ℕ) (b : Bool) → After (elim o [ some r ↦ got s r | nothing ↦ cond b c (lacks t) ])
    compound_after t s k c a (some r) b = k
    compound_after t s k c a nothing true = a
    compound_after t s k c a nothing false = tt

    parts_after : (t : Tree) (ts : Trees) (c : Composed) → After c → ((s : Role) → Counts s → AfterAll ts (compose_all P may_make ts s))
        → AfterAll (more t ts) (elim c [ got s r ↦ and_then r (compose_all P may_make ts s) | lacks u ↦ lacks_one u ])
    parts_after t ts (got s r) k f = put_first r t ts (compose_all P may_make ts s) (f s k)
    parts_after t ts (lacks u) k f = tt

    mutual
      unfolding compose

      pub composed : (t : Tree) (s : Role) → Declared A t → Counts s → After (compose P may_make t s)
      composed (leaf n) s d k = name_after n s k (find (leaf n) s.known) (may_make n)
      composed (node h ts) s d k =
          compound_after (node h ts) s k (put_together h ts (compose_all P may_make ts s)) (put h ts d (compose_all P may_make ts s) (composed_all ts s d.1 k))
          (find (node h ts) s.known) (may P h)

      pub composed_all : (ts : Trees) (s : Role) → DeclaredAll A ts → Counts s → AfterAll ts (compose_all P may_make ts s)
      composed_all none s d k = (k, refl)
      composed_all (more t ts) s d k = parts_after t ts (compose P may_make t s) (composed t s d.0 k) (λ s' k'. composed_all ts s' d.1 k')
