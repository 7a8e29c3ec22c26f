-- To say is to build: a say's line makes names, builds and says, and can be refused only as full.
use Rattle.std.proofs.Common.{◌≡◌, ℕ, Bool, true, false, cond, leb, List, [], ◌∷◌, ◌++◌, sym, refl, ap, ◌∙◌, subst, append_assoc, append-nil}
use mathlib.Core.Option.{Option, none as nothing, some}
use mathlib.Core.Path.{subst⁻¹}
use Rattle.model.specs.Lists.{Every, rest_of}
use Rattle.model.specs.Trees.{Head, Tree, leaf, node, Trees, none, more}
use Rattle.model.specs.Deduction.{Party, may}
use Rattle.model.specs.Roles.{Act, give, new, hear, say, same, make, split, unlock, Role, find, act, fill, enter, Composed, got, lacks, ComposedAll, got_all, lacks_one, and_then, put_together, compose, compose_all, Said, spoke, failed, say_composed, said}
use Rattle.model.specs.Runs.{reads, mismatch, full, invalid, broken, Machine, Result, ran, refused, need, need_all, check, pay, take_number, step}
use Rattle.model.specs.Programs.{line}
use Rattle.model.proofs.Lists.{every_join, rest_append}
use Rattle.model.proofs.Exec.{and_on, exec}

abbrev pub Builds : Act → Type 0
Builds (give r) = ⊥
Builds (hear r) = ⊥
Builds (new r) = Unit {0}
Builds (say r) = Unit {0}
Builds (same r q) = ⊥
Builds (make r h rs) = Unit {0}
Builds (split f n h r) = ⊥
Builds (unlock x r k) = ⊥

-- one state has building actions more than another
abbrev pub Adds : Role → Role → Type 0
Adds s s' = (xs : List Act) × (s'.acts ≡ s.acts ++ xs) × Every Builds xs

adds_none : (s : Role) → Adds s s
adds_none s = ([], sym (append-nil s.acts), tt)

adds_then : (s s₁ s₂ : Role) → Adds s s₁ → Adds s₁ s₂ → Adds s s₂
adds_then s s₁ s₂ a b = (
  a.0 ++ b.0,
  b.1 ∙ ap (λ l. l ++ b.0) a.1 ∙ append_assoc s.acts a.0 b.0,
  every_join Builds a.0 b.0 a.2 b.2,
)

module _ (P : Party) (may_make : ℕ → Bool) where
  abbrev AddsOne : Role → Composed → Type 0
  AddsOne s (got s' r) = Adds s s'
  AddsOne s (lacks u) = Unit {0}

  abbrev AddsAll : Role → ComposedAll → Type 0
  AddsAll s (got_all s' rs) = Adds s s'
  AddsAll s (lacks_one u) = Unit {0}

  adds_leaf : (n : ℕ) (s : Role) → AddsOne s (compose P may_make (leaf n) s)
  unfolding compose
  adds_leaf n s = go (find (leaf n) s.known)
    where
      one : (b : Bool) → AddsOne s (cond b (got (enter (leaf n) s.next true (fill new s)) s.next) (lacks (leaf n)))
      one true = (new s.next ∷ [], refl, (tt, tt))
      one false = tt

      go : (o : Option ℕ) → AddsOne s (elim o [ some r ↦ got s r | nothing ↦ cond (may_make n) (got (enter (leaf n) s.next true (fill new s)) s.next) (lacks (leaf n)) ])
      go (some r) = adds_none s
      go nothing = one (may_make n)

  adds_node : (h : Head) (ts : Trees) (s : Role) → AddsAll s (compose_all P may_make ts s) → AddsOne s (compose P may_make (node h ts) s)
  unfolding compose
  adds_node h ts s a = go (find (node h ts) s.known)
    where
      put : (c : ComposedAll) → AddsAll s c → AddsOne s (put_together h ts c)
      put (got_all s' rs) b = adds_then s s' (enter (node h ts) s'.next true (fill (λ r. make r h rs) s')) b (make s'.next h rs ∷ [], refl, (tt, tt))
      put (lacks_one u) b = tt

      one : (b : Bool) → AddsOne s (cond b (put_together h ts (compose_all P may_make ts s)) (lacks (node h ts)))
      one true = put (compose_all P may_make ts s) a
      one false = tt

      go : (o : Option ℕ) → AddsOne s (elim o [ some r ↦ got s r | nothing ↦ cond (may P h) (put_together h ts (compose_all P may_make ts s)) (lacks (node h ts)) ])
      go (some r) = adds_none s
      go nothing = one (may P h)

  adds_more : (s : Role) (ts : Trees) (c : Composed) → AddsOne s c → ((s' : Role) → AddsAll s' (compose_all P may_make ts s'))
      → AddsAll s (elim c [ got s' r ↦ and_then r (compose_all P may_make ts s') | lacks u ↦ lacks_one u ])
  adds_more s ts (got s' r) a f = go (compose_all P may_make ts s') (f s')
    where
      go : (c : ComposedAll) → AddsAll s' c → AddsAll s (and_then r c)
      go (got_all s'' rs) b = adds_then s s' s'' a b
      go (lacks_one u) b = tt
  adds_more s ts (lacks u) a f = tt

  mutual
    unfolding compose

    adds : (t : Tree) (s : Role) → AddsOne s (compose P may_make t s)
    adds (leaf n) s = adds_leaf n s
    adds (node h ts) s = adds_node h ts s (adds_all ts s)

    adds_all : (ts : Trees) (s : Role) → AddsAll s (compose_all P may_make ts s)
    adds_all none s = adds_none s
    adds_all (more t ts) s = adds_more s ts (compose P may_make t s) (adds t s) (λ s'. adds_all ts s')

  abbrev AddsSaid : Role → Said → Type 0
  AddsSaid s (spoke s') = Adds s s'
  AddsSaid s (failed u) = Unit {0}

  adds_said : (t : Tree) (s : Role) → AddsSaid s (said P may_make t s)
  unfolding said
  adds_said t s = go (compose P may_make t s) (adds t s)
    where
      go : (c : Composed) → AddsOne s c → AddsSaid s (say_composed c)
      go (got s' r) a = adds_then s s' (act (say r) s') a (say r ∷ [], refl, (tt, tt))
      go (lacks u) a = tt

  -- the line of a say only builds
  pub said_builds : (t : Tree) (s s' : Role) → said P may_make t s ≡ spoke s' → Every Builds (line s s')
  said_builds t s s' e =
      let a = subst (AddsSaid s) e (adds_said t s) in
      subst⁻¹ (Every Builds) (ap (rest_of s.acts) a.1 ∙ rest_append s.acts a.0) a.2

abbrev pub NoMismatch : Result → Type 0
NoMismatch (ran M) = Unit {0}
NoMismatch (refused mismatch) = ⊥
NoMismatch (refused full) = Unit {0}
NoMismatch (refused broken) = Unit {0}
NoMismatch (refused invalid) = Unit {0}

module _ (c : Tree → ℕ) where
  pays : (b : Bool) (M : Machine) → NoMismatch (check b full (ran M))
  pays true M = tt
  pays false M = tt

  build_fits : (a : Act) (M : Machine) → Builds a → NoMismatch (step c a M)
  build_fits (give r) M b = elim b [ ]
  build_fits (hear r) M b = elim b [ ]
  build_fits (new r) M b = go M.numbers
    where
      go : (l : List ℕ) → NoMismatch (take_number c r M l)
      go [] = tt
      go (n ∷ l) = pays (leb (c (leaf n)) M.space) _
  build_fits (say r) M b = go (M.mem r)
    where
      go : (o : Option Tree) → NoMismatch (need o (λ v. ran M))
      go nothing = tt
      go (some v) = tt
  build_fits (same r q) M b = elim b [ ]
  build_fits (make r h rs) M b = go (reads M.mem rs)
    where
      go : (o : Option Trees) → NoMismatch (need_all o (λ vs. pay c r (node h vs) M))
      go nothing = tt
      go (some vs) = pays (leb (c (node h vs)) M.space) _
  build_fits (split f n h r) M b = elim b [ ]
  build_fits (unlock x r k) M b = elim b [ ]

  pub builds_fit : (xs : List Act) (M : Machine) → Every Builds xs → NoMismatch (exec c xs M)
  builds_fit [] M b = tt
  builds_fit (a ∷ xs) M b = go (step c a M) (build_fits a M b.0) (λ N. builds_fit xs N b.1)
    where
      go : (x : Result) → NoMismatch x → ((N : Machine) → NoMismatch (exec c xs N)) → NoMismatch (and_on x (exec c xs))
      go (ran N) h k = k N
      go (refused mismatch) h k = h
      go (refused full) h k = tt
      go (refused broken) h k = tt
      go (refused invalid) h k = tt
