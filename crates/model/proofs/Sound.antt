-- From a run that went through, a reading: each known term is read as its register's value, any other is built from its parts.
use Rattle.std.proofs.Common.{◌≡◌, ℕ, Bool, true, false, not, ◌&&◌, T, ◌⊎◌, List, [], ◌∷◌, sym, refl, ap, ◌∙◌, subst, inl, inr}
use mathlib.Core.Option.{Option, none as nothing, some}
use Rattle.model.specs.Lists.{Every}
use Rattle.model.specs.Trees.{Head, tupled, crypted, applied, Tree, leaf, node, Trees, none, more, ◌among◌, map_trees}
use Rattle.model.specs.Deduction.{Party, may, Derives}
use Rattle.model.specs.Roles.{Entry, Role, find, can, can_all, due_parts, due}
use Rattle.model.specs.Entries.{Has, Held, Once, AtRest}
use Rattle.model.specs.Runs.{Memory, reads}
use Rattle.model.specs.Readings.{OpenTo, shows, unlocks, rebuilds, Reading}
use Rattle.model.proofs.Tests.{or_left, or_right, and_both}
use Rattle.model.proofs.Deduction.{Composes, Saturated, complete}
use Rattle.model.proofs.Entries.{held_has, Found, found}
use Rattle.model.proofs.Composing.{composes_can}
use Rattle.model.proofs.Resting.{saturated}
use Rattle.model.proofs.Machine.{some_inj, reads_parts}
use Rattle.model.proofs.Sheets.{Facts}
use Rattle.model.proofs.Grounds.{Explained, Good, held_every}
use Rattle.model.proofs.Marked.{None}
use Rattle.model.proofs.Lines.{good_done_at}

pub can_each : (P : Party) (es : List Entry) (ts : Trees) → ((t : Tree) → t among ts → T (can P t es)) → T (can_all P ts es)
unfolding can
can_each P es none f = tt
can_each P es (more u us) f = and_both (can P u es) (can_all P us es) (f u (inl refl)) (can_each P es us (λ t i. f t (inr i)))

-- a term stands at one register
held_once : (es : List Entry) (t : Tree) (r q : ℕ) → Once es → Held es t r → Held es t q → r ≡ q
held_once [] t r q o h k = elim h [ ]
held_once (e ∷ es) t r q o (inl p) (inl p') = p.1 ∙ sym p'.1
held_once (e ∷ es) t r q o (inl p) (inr k) = absurd (o.0 (subst (Has es) p.0 (held_has es t q k)))
held_once (e ∷ es) t r q o (inr h) (inl p) = absurd (o.0 (subst (Has es) p.0 (held_has es t r h)))
held_once (e ∷ es) t r q o (inr h) (inr k) = held_once es t r q o.1 h k

abbrev pub lookup : List Entry → Memory → Tree → Option Tree
lookup es m t = elim (find t es) [ some r ↦ m r | nothing ↦ nothing ]

abbrev pub or_else : Option Tree → Tree → Tree
or_else (some v) d = v
or_else nothing d = d

-- the reading that a memory gives
module _ (es : List Entry) (m : Memory) where
  unfoldable mutual
    pub read : Tree → Tree
    read (leaf n) = or_else (lookup es m (leaf n)) (leaf 0)
    read (node h ts) = or_else (lookup es m (node h ts)) (node h (read_all ts))

    pub read_all : Trees → Trees
    read_all none = none
    read_all (more t ts) = more (read t) (read_all ts)

  read_map : (ts : Trees) → read_all ts ≡ map_trees read ts
  unfolding read
  read_map none = refl
  read_map (more t ts) = ap (more (read t)) (read_map ts)

  looked : (t d : Tree) (q : ℕ) (v : Tree) → Once es → Held es t q → m q ≡ some v → or_else (lookup es m t) d ≡ v
  looked t d q v o h e = go (find t es) (found es t)
    where
      go : (x : Option ℕ) → Found es t x → or_else (elim x [ some r ↦ m r | nothing ↦ nothing ]) d ≡ v
      go (some r) f = ap (λ y. or_else y d) (ap m (held_once es t r q o f h) ∙ e)
      go nothing f = absurd (f (held_has es t q h))

  pub read_known : (t : Tree) (q : ℕ) (v : Tree) → Once es → Held es t q → m q ≡ some v → read t ≡ v
  unfolding read
  read_known (leaf n) q v o h e = looked (leaf n) (leaf 0) q v o h e
  read_known (node k ts) q v o h e = looked (node k ts) (node k (read_all ts)) q v o h e

  unknown : (t d : Tree) → ¬ Has es t → or_else (lookup es m t) d ≡ d
  unknown t d n = go (find t es) (found es t)
    where
      go : (x : Option ℕ) → Found es t x → or_else (elim x [ some r ↦ m r | nothing ↦ nothing ]) d ≡ d
      go (some r) f = absurd (n (held_has es t r f))
      go nothing f = refl

  pub read_unknown : (h : Head) (ts : Trees) → ¬ Has es (node h ts) → read (node h ts) ≡ node h (map_trees read ts)
  unfolding read
  read_unknown h ts n = unknown (node h ts) (node h (read_all ts)) n ∙ ap (node h) (read_map ts)

module _ (P : Party) (s : Role) (Γ : Memory) (H : Tree → Type 0) (g : Good s Γ s.next None) (rest : AtRest P s)
    (all : (t : Tree) → H t → Has s.known t) where
  -- the list is saturated
  pub known_saturated : Saturated P (Has s.known)
  known_saturated = saturated P s.known (good_done_at P s Γ g) rest

  pub composes : {t : Tree} → Derives P H t → Composes P (Has s.known) t
  composes d = complete P H (Has s.known) known_saturated all d

  -- an open compound is due until it is settled
  abbrev Due : Tree → Type 0
  Due (leaf n) = Unit {0}
  Due (node h ts) = T (due_parts P h ts s.known)

  open_due : {t : Tree} → OpenTo P H t → Due t
  unfolding due_parts
  open_due (shows {h = tupled} o) = tt
  open_due (shows {h = crypted} o) = elim o [ ]
  open_due (shows {h = applied f} {ts = ts} o) = or_left (not (P.one_way f)) (may P (applied f) && can_all P ts s.known) o
  open_due (unlocks d) = composes_can P s.known (composes d)
  open_due (rebuilds {f = f} {ts = ts} p d) =
      or_right (not (P.one_way f)) (may P (applied f) && can_all P ts s.known)
      (and_both (may P (applied f)) (can_all P ts s.known) p (can_each P s.known ts (λ t i. composes_can P s.known (composes (d t i)))))

  abbrev Why : Tree → ℕ → Type 0
  Why t r = OpenTo P H t → Explained Γ s.acts r t

  open_explained : Every (λ e. Why e.term e.at) s.known
  unfolding due
  open_explained = go s.known g.explained rest
    where
      one : (r : ℕ) (b : Bool) (t : Tree) → (T b → None r ⊎ Explained Γ s.acts r t)
          → ¬ T (not b && elim t [ leaf n ↦ false | node h ts ↦ due_parts P h ts s.known ]) → Why t r
      one r b (leaf n) f n' = λ o. tt
      one r true (node h ts) f n = λ o. elim (f tt) [ inl x ↦ absurd x | inr y ↦ y ]
      one r false (node h ts) f n = λ o. absurd (n (open_due o))

      go : (es : List Entry) → Every (λ e. T e.settled → None e.at ⊎ Explained Γ s.acts e.at e.term) es
          → Every (λ e. ¬ T (due P s.known e)) es → Every (λ e. Why e.term e.at) es
      go [] a b = tt
      go (e ∷ es) a b = (one e.at e.settled e.term a.0 b.0, go es a.1 b.1)

  module _ (m : Memory) (facts : Facts m s.acts) where
    abbrev pub R : Tree → Tree
    R t = read s.known m t

    -- each register holds the reading of its term
    pub read_register : (r : ℕ) (t v : Tree) → Γ r ≡ some t → m r ≡ some v → R t ≡ v
    read_register r t v e k =
        let x = g.met r t (g.bound r t e) e in
        read_known s.known m t x.0 v g.once x.1 (sym (x.2 m facts) ∙ k)

    read_registers : (rs : List ℕ) (ts vs : Trees) → reads Γ rs ≡ some ts → reads m rs ≡ some vs → map_trees R ts ≡ vs
    read_registers [] ts vs e k = subst (λ l. map_trees R l ≡ vs) (some_inj e) (some_inj k)
    read_registers (r ∷ rs) ts vs e k =
        let x = reads_parts Γ r rs ts e in
        let y = reads_parts m r rs vs k in
        ap (map_trees R) x.4 ∙ (λ i. more (read_register r x.0 y.0 x.2 y.2 i) (read_registers rs x.1 y.1 x.3 y.3 i)) ∙ sym y.4

    pub sound : Reading P H R
    sound h ts o = go (find (node h ts) s.known) (found s.known (node h ts))
      where
        go : (x : Option ℕ) → Found s.known (node h ts) x → R (node h ts) ≡ node h (map_trees R ts)
        go (some r) f =
            let w = held_every Why s.known open_explained (node h ts) r f o in
            let z = w.2 m facts in
            read_known s.known m (node h ts) r (node h z.0) g.once f z.2 ∙ ap (node h) (sym (read_registers w.0 ts z.0 w.1 z.1))
        go nothing n = read_unknown s.known m h ts n
