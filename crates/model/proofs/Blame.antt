-- The term that a failure names is to blame.
use Rattle.std.proofs.Common.{◌≡◌, ℕ, Bool, true, false, cond, T, ◌↔◌, sym, refl, ap, subst, inl, inr}
use mathlib.Core.Logic.Iff
use mathlib.Core.Option.{Option, none as nothing, some}
use Rattle.model.specs.Trees.{Head, Tree, leaf, node, Trees, none, more, ◌among◌, itself}
use Rattle.model.specs.Deduction.{Party, may, Derives}
use Rattle.model.specs.Blame.{Blame, FirstBlame, name, no_right, part, here, later}
use Rattle.model.specs.Roles.{new, Role, find, fill, enter, Composed, got, lacks, ComposedAll, got_all, lacks_one, and_then, put_together, compose, compose_all, failed, say_composed, said}
use Rattle.model.specs.Lives.{Life, says, Holdings, New}
use Rattle.model.proofs.Entries.{held_has}
use Rattle.model.proofs.Growing.{Grows, stay, grows_trans, grows_has}
use Rattle.model.proofs.Composing.{composes_map, Base, Built, Good, good}
use Rattle.model.proofs.Lived.{Seen, seen_whole, Lived}
use Rattle.model.proofs.Saying.{IsFailed, failed_at, derivable_composes, inv_after}

module _ (P : Party) (l : Life) (s : Role) (v : Lived P l s) (makes : ℕ → Bool) (fresh : New l makes) (t : Tree) where
  abbrev S : Tree → Type 0
  S = Seen (says l makes t)

  abbrev H : Tree → Type 0
  H = Holdings (says l makes t)

  -- a state on the way: what joined was built
  abbrev Reached : Role → Type 0
  Reached s' = Grows (Built P makes S) s.known s.next s'.known s'.next

  abbrev For : Tree → Composed → Type 0
  For w (got s' r) = Unit {0}
  For w (lacks u) = Blame P H w u

  abbrev ForAll : Trees → ComposedAll → Type 0
  ForAll ts (got_all s' rs) = Unit {0}
  ForAll ts (lacks_one u) = FirstBlame P H ts u

  underives : (s' : Role) → Reached s' → (w u : Tree) → Good P makes S s' w (lacks u) → ¬ Derives P H w
  underives s' g w u k d =
      k.2 (composes_map P (Base makes S s.known) (Base makes S s'.known) (λ x. elim [ inl h ↦ inl (grows_has (Built P makes S) g x h) | inr m ↦ inr m ]) (derivable_composes P l s v makes fresh t d))

  derives : (s' : Role) → Reached s' → (w : Tree) (s'' : Role) (r : ℕ) → Good P makes S s' w (got s'' r) → Derives P H w
  derives s' g w s'' r k = (inv_after P l s v makes fresh t (grows_trans (Built P makes S) g k.0)).sound w (held_has s''.known w r k.1)

  of_leaf : (s' : Role) → Reached s' → (n : ℕ) (o : Option ℕ) (b : Bool)
      → Good P makes S s' (leaf n) (elim o [ some r ↦ got s' r | nothing ↦ cond b (got (enter (leaf n) s'.next true (fill new s')) s'.next) (lacks (leaf n)) ])
      → For (leaf n) (elim o [ some r ↦ got s' r | nothing ↦ cond b (got (enter (leaf n) s'.next true (fill new s')) s'.next) (lacks (leaf n)) ])
  of_leaf s' g n (some r) b k = tt
  of_leaf s' g n nothing true k = tt
  of_leaf s' g n nothing false k = name (underives s' g (leaf n) (leaf n) k)

  of_node : (s' : Role) → Reached s' → (h : Head) (ts : Trees) (o : Option ℕ) (b : Bool) → (T b ↔ T (may P h)) → (c : ComposedAll) → ForAll ts c
      → Good P makes S s' (node h ts) (elim o [ some r ↦ got s' r | nothing ↦ cond b (put_together h ts c) (lacks (node h ts)) ])
      → For (node h ts) (elim o [ some r ↦ got s' r | nothing ↦ cond b (put_together h ts c) (lacks (node h ts)) ])
  of_node s' g h ts (some r) b q c y k = tt
  of_node s' g h ts nothing false q c y k = no_right (underives s' g (node h ts) (node h ts) k) (λ m. q.1 m)
  of_node s' g h ts nothing true q (got_all s'' rs) y k = tt
  of_node s' g h ts nothing true q (lacks_one u) y k = part (underives s' g (node h ts) u k) (q.0 tt) y

  of_more : (s' : Role) → Reached s' → (w : Tree) (ts : Trees) (c : Composed) → For w c → Good P makes S s' w c → ((s'' : Role) → Reached s'' → ForAll ts (compose_all P makes ts s''))
      → ForAll (more w ts) (elim c [ got s'' r ↦ and_then r (compose_all P makes ts s'') | lacks u ↦ lacks_one u ])
  of_more s' g w ts (lacks u) y k f = here y
  of_more s' g w ts (got s'' r) y k f = then (compose_all P makes ts s'') (f s'' (grows_trans (Built P makes S) g k.0))
    where
      then : (c : ComposedAll) → ForAll ts c → ForAll (more w ts) (and_then r c)
      then (got_all s''' rs) z = tt
      then (lacks_one u) z = later (derives s' g w s'' r k) z

  mutual
    unfolding compose

    blame : (w : Tree) (s' : Role) → Reached s' → S w → For w (compose P makes w s')
    blame (leaf n) s' g i = of_leaf s' g n (find (leaf n) s'.known) (makes n) (good P makes S (seen_whole (says l makes t)) (leaf n) s' i)
    blame (node h ts) s' g i =
        of_node s' g h ts (find (node h ts) s'.known) (may P h) Iff.rfl (compose_all P makes ts s') (blame_all ts s' g (seen_whole (says l makes t) h ts i)) (good P makes S (seen_whole (says l makes t)) (node h ts) s' i)

    blame_all : (ts : Trees) (s' : Role) → Reached s' → ((u : Tree) → u among ts → S u) → ForAll ts (compose_all P makes ts s')
    blame_all none s' g i = tt
    blame_all (more w ts) s' g i =
        of_more s' g w ts (compose P makes w s') (blame w s' g (i w (inl refl))) (good P makes S (seen_whole (says l makes t)) w s' (i w (inl refl))) (λ s'' g'. blame_all ts s'' g' (λ u k. i u (inr k)))

  pub said_blames : (u : Tree) → said P makes t s ≡ failed u → Blame P H t u
  unfolding said
  said_blames u = go (compose P makes t s) (blame t s stay (t, inr refl, itself))
    where
      go : (c : Composed) → For t c → say_composed c ≡ failed u → Blame P H t u
      go (got s' r) y e = absurd (subst IsFailed (sym e) tt)
      go (lacks w) y e = subst (Blame P H t) (ap failed_at e) y
