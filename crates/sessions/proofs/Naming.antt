-- What a role is given and which names it makes, told by the specification alone.
use Rattle.std.proofs.Common.{◌≡◌, ℕ, ◌<◌, Bool, true, false, cond, not, ◌&&◌, ◌||◌, T, eqb, ltb, ◌⊎◌, List, [], ◌∷◌, ◌++◌, length, take, drop, sym, refl, ap, ◌∙◌, subst, inl, inr, arith, append-nil, append_assoc, eq-eqb, eqb→eq, ltb→lt}
use mathlib.Core.Option.{Option, none as nothing, some}
use mathlib.Core.Path.{subst⁻¹}
use Rattle.model.specs.Lists.{Every}
use Rattle.model.specs.Trees.{Head, Tree, leaf, node, Trees, none, more, eq_tree, ◌among◌, Within, itself, inside}
use Rattle.model.specs.Deduction.{Party, may}
use Rattle.model.specs.Roles.{Entry, Role, give, new, find, fill, enter, Composed, got, lacks, ComposedAll, got_all, lacks_one, and_then, put_together, compose, compose_all, knows, give_all, say_composed, said}
use Rattle.model.specs.Entries.{Has}
use Rattle.model.specs.Lives.{says, Disciplined, spoken, run}
use Rattle.model.specs.Specifications.{Specification, message, Duty, begin, speak, listen, own, duties, life_on, life_to}
use Rattle.model.specs.Programs.{nobody_yet, next_role, terms, leaf_of, leaves, given, takes, names, new_names, Accepted, Stage}
use Rattle.model.proofs.Trees.{within_trans}
use Rattle.model.proofs.Entries.{entry, with_one, held_has, Found, found, has_old, held_new, has_split}
use Rattle.model.proofs.Machine.{some_inj, no_some}
use Rattle.model.proofs.Adding.{names_are}
use Rattle.model.proofs.Duties.{IsLine, own_lines, disciplined_before}
use Rattle.model.proofs.ComposingLaw.{disciplined_to}
use Rattle.model.proofs.Lives.{lived}
use Rattle.model.proofs.Lived.{Seen}
use Rattle.sessions.specs.Observed.{is_one_of, each_once, has_number, names_on, names_on_all, terms_of, names_of}
use Rattle.sessions.proofs.Places.{Place}

-- the terms that a start gives registers
knows_one : (es : List Entry) (t : Tree) → knows es t ≡ is_one_of t (terms es)
knows_one [] t = refl
knows_one (e ∷ es) t = go (eq_tree t e.term) (knows_one es t)
  where
    go : (b : Bool) → knows es t ≡ is_one_of t (terms es) → elim (cond b (some e.at) (find t es)) as (λ x. Bool) [ some r ↦ true | nothing ↦ false ] ≡ (b || is_one_of t (terms es))
    go true i = refl
    go false i = i

terms_more : (es : List Entry) (e : Entry) → terms (es ++ (e ∷ [])) ≡ terms es ++ (e.term ∷ [])
terms_more [] e = refl
terms_more (x ∷ es) e = ap (λ l. x.term ∷ l) (terms_more es e)

given_on : (P : Party) (ts : List Tree) (s : Role) → terms (give_all P ts s).known ≡ each_once (terms s.known) ts
unfolding give_all
given_on P [] s = refl
given_on P (t ∷ ts) s = given_on P ts (cond (knows s.known t) s (enter t s.next false (fill give s))) ∙ ap (λ l. each_once l ts) (go (knows s.known t) (is_one_of t (terms s.known)) (knows_one s.known t))
  where
    go : (b b' : Bool) → b ≡ b' → terms (cond b s (enter t s.next false (fill give s))).known ≡ cond b' (terms s.known) (terms s.known ++ (t ∷ []))
    go true true e = refl
    go true false e = absurd (cc)
    go false true e = absurd (cc)
    go false false e = terms_more s.known (record { term = t; at = s.next; settled = false })

pub given_once : (P : Party) (ts : List Tree) → given P ts ≡ each_once [] ts
given_once P ts = given_on P ts nobody_yet

pub takes_are : (X : Specification) (P : Party) (d : Duty) → takes (message X) P d ≡ terms_of X d
takes_are X P (begin ts) = given_once P ts
takes_are X P (speak l mk) = refl
takes_are X P (listen l) = refl

-- numbers of a list
has_more : (n : ℕ) (xs ys : List ℕ) → T (has_number n xs) → T (has_number n (xs ++ ys))
has_more n [] ys h = elim h [ ]
has_more n (x ∷ xs) ys h = go (eqb n x) (has_more n xs ys) h
  where
    go : (b : Bool) → (T (has_number n xs) → T (has_number n (xs ++ ys))) → T (b || has_number n xs) → T (b || has_number n (xs ++ ys))
    go true f h = tt
    go false f h = f h

has_last : (n : ℕ) (xs : List ℕ) → T (has_number n (xs ++ (n ∷ [])))
has_last n [] = subst⁻¹ (λ b. T (b || false)) (eq-eqb n n refl) tt
has_last n (x ∷ xs) = go (eqb n x) (has_last n xs)
  where
    go : (b : Bool) → T (has_number n (xs ++ (n ∷ []))) → T (b || has_number n (xs ++ (n ∷ [])))
    go true h = tt
    go false h = h

has_either : (n m : ℕ) (xs : List ℕ) → T (has_number n (xs ++ (m ∷ []))) → T (has_number n xs) ⊎ (n ≡ m)
has_either n m [] h = go (eqb n m) (eqb→eq n m) h
  where
    go : (b : Bool) → (T b → n ≡ m) → T (b || false) → T (has_number n []) ⊎ (n ≡ m)
    go true f h = inr (f tt)
    go false f h = elim h [ ]
has_either n m (x ∷ xs) h = go (eqb n x) h (has_either n m xs)
  where
    go : (b : Bool) → T (b || has_number n (xs ++ (m ∷ []))) → (T (has_number n (xs ++ (m ∷ []))) → T (has_number n xs) ⊎ (n ≡ m)) → T (b || has_number n xs) ⊎ (n ≡ m)
    go true h f = inl tt
    go false h f = f h

module _ (mk : ℕ → Bool) where
  -- each name of a term that is to be made is one of some numbers
  abbrev Covered : List ℕ → Tree → Type 0
  Covered acc u = (n : ℕ) → T (mk n) → Within (leaf n) u → T (has_number n acc)

  name_once : (m : ℕ) (acc : List ℕ) → (b c : Bool) → (T b → T c) → cond (b && not c) (acc ++ (m ∷ [])) acc ≡ acc
  name_once m acc true true f = refl
  name_once m acc true false f = absurd (f tt)
  name_once m acc false c f = refl

  mutual
    keeps : (t : Tree) (acc : List ℕ) (n : ℕ) → T (has_number n acc) → T (has_number n (names_on mk acc t))
    keeps (leaf m) acc n h = go (mk m && not (has_number m acc))
      where
        go : (b : Bool) → T (has_number n (cond b (acc ++ (m ∷ [])) acc))
        go true = has_more n acc (m ∷ []) h
        go false = h
    keeps (node h ts) acc n i = keeps_all ts acc n i

    keeps_all : (ts : Trees) (acc : List ℕ) (n : ℕ) → T (has_number n acc) → T (has_number n (names_on_all mk acc ts))
    keeps_all none acc n h = h
    keeps_all (more t ts) acc n h = keeps_all ts (names_on mk acc t) n (keeps t acc n h)

  abbrev IsLeaf : Tree → Type 0
  IsLeaf (leaf n) = Unit {0}
  IsLeaf (node h ts) = ⊥

  within_only : {a b : Tree} → Within a b → IsLeaf b → a ≡ b
  within_only itself l = refl
  within_only (inside i w) l = absurd l

  within_leaf : (n m : ℕ) → Within (leaf n) (leaf m) → n ≡ m
  within_leaf n m w = go (within_only w tt)
    where
      go : leaf n ≡ leaf m → n ≡ m
      go e = cc

  within_node : (n : ℕ) (h : Head) (ts : Trees) → Within (leaf n) (node h ts) → (u : Tree) × (u among ts) × Within (leaf n) u
  within_node n h ts (inside {u = u} i w) = (u, i, w)

  mutual
    covers : (t : Tree) (acc : List ℕ) → Covered (names_on mk acc t) t
    covers (leaf m) acc n k w = go (mk m) (has_number m acc) (λ h. h) (subst (λ x. T (mk x)) (within_leaf n m w) k)
      where
        go : (b c : Bool) → (T c → T (has_number m acc)) → T b → T (has_number n (cond (b && not c) (acc ++ (m ∷ [])) acc))
        go true true f h = subst⁻¹ (λ x. T (has_number x acc)) (within_leaf n m w) (f tt)
        go true false f h = subst⁻¹ (λ x. T (has_number x (acc ++ (m ∷ [])))) (within_leaf n m w) (has_last m acc)
        go false c f h = elim h [ ]
    covers (node h ts) acc n k w = let z = within_node n h ts w in covers_all ts acc z.0 z.1 n k z.2

    covers_all : (ts : Trees) (acc : List ℕ) (u : Tree) → u among ts → Covered (names_on_all mk acc ts) u
    covers_all none acc u i n k w = elim i [ ]
    covers_all (more t ts) acc u (inl p) n k w = keeps_all ts (names_on mk acc t) n (covers t acc n k (subst (Within (leaf n)) p w))
    covers_all (more t ts) acc u (inr i) n k w = covers_all ts (names_on mk acc t) u i n k w

  mutual
    same : (t : Tree) (acc : List ℕ) → Covered acc t → names_on mk acc t ≡ acc
    same (leaf m) acc c = name_once m acc (mk m) (has_number m acc) (λ h. c m h itself)
    same (node h ts) acc c = same_all ts acc (λ u i n k w. c n k (inside i w))

    same_all : (ts : Trees) (acc : List ℕ) → ((u : Tree) → u among ts → Covered acc u) → names_on_all mk acc ts ≡ acc
    same_all none acc c = refl
    same_all (more t ts) acc c = ap (λ l. names_on_all mk l ts) (same t acc (c t (inl refl))) ∙ same_all ts acc (λ u i. c u (inr i))

  leaves_more : (es : List Entry) (e : Entry) → leaves (es ++ (e ∷ [])) ≡ leaves es ++ leaf_of e.term
  leaves_more [] e = append-nil (leaf_of e.term)
  leaves_more (x ∷ es) e = ap (λ l. leaf_of x.term ++ l) (leaves_more es e) ∙ sym (append_assoc (leaf_of x.term) (leaves es) (leaf_of e.term))

  module _ (P : Party) (L : List ℕ) where
    -- so far these names were made, and they are known
    record Makes (acc : List ℕ) (s : Role) : Type 0 where
      leaves_are : leaves s.known ≡ L ++ acc
      covered : (u : Tree) → Has s.known u → Covered acc u
      has : (n : ℕ) → T (mk n) → T (has_number n acc) → Has s.known (leaf n)

    abbrev After : List ℕ → Composed → Type 0
    After acc (got s r) = Makes acc s
    After acc (lacks u) = Unit {0}

    abbrev AfterAll : List ℕ → ComposedAll → Type 0
    AfterAll acc (got_all s rs) = Makes acc s
    AfterAll acc (lacks_one u) = Unit {0}

    -- a name that is made
    name_made : (s : Role) (acc : List ℕ) (n : ℕ) → Makes acc s → T (mk n) → Makes (acc ++ (n ∷ [])) (enter (leaf n) s.next true (fill new s))
    name_made s acc n m k = record {
      leaves_are = leaves_more s.known (record { term = leaf n; at = s.next; settled = true }) ∙ ap (λ l. l ++ (n ∷ [])) m.leaves_are ∙ append_assoc L acc (n ∷ []);
      covered = λ u h. one u (has_split s.known e u h);
      has = λ i t h. elim (has_either i n acc h) [ inl x ↦ has_old s.known e (leaf i) (m.has i t x) | inr p ↦ subst⁻¹ (λ z. Has (with_one s.known e) (leaf z)) p (held_has (with_one s.known e) (leaf n) s.next (held_new s.known e)) ];
    }
      where
        e : Entry
        e = entry (leaf n) s.next true

        one : (u : Tree) → Has s.known u ⊎ (u ≡ leaf n) → Covered (acc ++ (n ∷ [])) u
        one u (inl h) i t w = has_more i acc (n ∷ []) (m.covered u h i t w)
        one u (inr p) i t w = subst⁻¹ (λ x. T (has_number x (acc ++ (n ∷ [])))) (within_leaf i n (subst (Within (leaf i)) p w)) (has_last n acc)

    after_name : (s : Role) (acc : List ℕ) (n : ℕ) → Makes acc s → ¬ Has s.known (leaf n) → After (names_on mk acc (leaf n)) (cond (mk n) (got (enter (leaf n) s.next true (fill new s)) s.next) (lacks (leaf n)))
    after_name s acc n m f = go (mk n) (λ h. h) (has_number n acc) (λ h. h)
      where
        go : (b : Bool) → (T b → T (mk n)) → (c : Bool) → (T c → T (has_number n acc)) → After (cond (b && not c) (acc ++ (n ∷ [])) acc) (cond b (got (enter (leaf n) s.next true (fill new s)) s.next) (lacks (leaf n)))
        go true t true h = absurd (f (m.has n (t tt) (h tt)))
        go true t false h = name_made s acc n m (t tt)
        go false t c h = tt

    after_put : (s : Role) (h : Head) (ts : Trees) (acc : List ℕ) → (c : ComposedAll) → AfterAll (names_on_all mk acc ts) c → After (names_on_all mk acc ts) (put_together h ts c)
    after_put s h ts acc (got_all s' rs) m = record {
      leaves_are = leaves_more s'.known (record { term = node h ts; at = s'.next; settled = true }) ∙ append-nil (leaves s'.known) ∙ m.leaves_are;
      covered = λ u k. one u (has_split s'.known e u k);
      has = λ i t k. has_old s'.known e (leaf i) (m.has i t k);
    }
      where
        e : Entry
        e = entry (node h ts) s'.next true

        one : (u : Tree) → Has s'.known u ⊎ (u ≡ node h ts) → Covered (names_on_all mk acc ts) u
        one u (inl k) = m.covered u k
        one u (inr p) = subst⁻¹ (Covered (names_on_all mk acc ts)) p (covers (node h ts) acc)
    after_put s h ts acc (lacks_one u) m = tt

    -- a known term makes none
    after_known : (s : Role) (t : Tree) (acc : List ℕ) → Makes acc s → Has s.known t → Makes (names_on mk acc t) s
    after_known s t acc m h = subst⁻¹ (λ l. Makes l s) (same t acc (m.covered t h)) m

    after_leaf : (s : Role) (n : ℕ) (acc : List ℕ) → Makes acc s → After (names_on mk acc (leaf n)) (compose P mk (leaf n) s)
    unfolding compose
    after_leaf s n acc m = go (find (leaf n) s.known) (found s.known (leaf n))
      where
        go : (o : Option ℕ) → Found s.known (leaf n) o
            → After (names_on mk acc (leaf n)) (elim o [ some r ↦ got s r | nothing ↦ cond (mk n) (got (enter (leaf n) s.next true (fill new s)) s.next) (lacks (leaf n)) ])
        go (some r) f = after_known s (leaf n) acc m (held_has s.known (leaf n) r f)
        go nothing f = after_name s acc n m f

    after_node : (s : Role) (h : Head) (ts : Trees) (acc : List ℕ) → Makes acc s → AfterAll (names_on_all mk acc ts) (compose_all P mk ts s) → After (names_on mk acc (node h ts)) (compose P mk (node h ts) s)
    unfolding compose
    after_node s h ts acc m k = go (find (node h ts) s.known) (found s.known (node h ts))
      where
        right : (b : Bool) → After (names_on_all mk acc ts) (cond b (put_together h ts (compose_all P mk ts s)) (lacks (node h ts)))
        right true = after_put s h ts acc (compose_all P mk ts s) k
        right false = tt

        go : (o : Option ℕ) → Found s.known (node h ts) o
            → After (names_on mk acc (node h ts)) (elim o [ some r ↦ got s r | nothing ↦ cond (may P h) (put_together h ts (compose_all P mk ts s)) (lacks (node h ts)) ])
        go (some r) f = after_known s (node h ts) acc m (held_has s.known (node h ts) r f)
        go nothing f = right (may P h)

    after_then : (r : ℕ) (acc : List ℕ) (c : ComposedAll) → AfterAll acc c → AfterAll acc (and_then r c)
    after_then r acc (got_all s rs) m = m
    after_then r acc (lacks_one u) m = tt

    after_more : (ts : Trees) (acc acc' : List ℕ) (c : Composed) → After acc c → ((s' : Role) → Makes acc s' → AfterAll acc' (compose_all P mk ts s'))
        → AfterAll acc' (elim c [ got s' r ↦ and_then r (compose_all P mk ts s') | lacks u ↦ lacks_one u ])
    after_more ts acc acc' (got s' r) m f = after_then r acc' (compose_all P mk ts s') (f s' m)
    after_more ts acc acc' (lacks u) m f = tt

    mutual
      unfolding compose

      composed : (t : Tree) (s : Role) (acc : List ℕ) → Makes acc s → After (names_on mk acc t) (compose P mk t s)
      composed (leaf n) s acc m = after_leaf s n acc m
      composed (node h ts) s acc m = after_node s h ts acc m (composed_all ts s acc m)

      composed_all : (ts : Trees) (s : Role) (acc : List ℕ) → Makes acc s → AfterAll (names_on_all mk acc ts) (compose_all P mk ts s)
      composed_all none s acc m = m
      composed_all (more t ts) s acc m =
          after_more ts (names_on mk acc t) (names_on_all mk (names_on mk acc t) ts) (compose P mk t s) (composed t s acc m) (λ s' m'. composed_all ts s' (names_on mk acc t) m')

  -- a say adds the names of its term that it makes
  said_names : (P : Party) (t : Tree) (s s' : Role) → ((u : Tree) → Has s.known u → Covered [] u) → spoken (said P mk t s) ≡ some s' → new_names s s' ≡ names_on mk [] t
  unfolding said
  said_names P t s s' c e = names_are P s s' (names_on mk [] t) (go (compose P mk t s) (composed P (leaves s.known) t s [] begun) e)
    where
      begun : Makes P (leaves s.known) [] s
      begun = record { leaves_are = sym (append-nil (leaves s.known)); covered = c; has = λ n t h. elim h [ ] }

      go : (x : Composed) → After P (leaves s.known) (names_on mk [] t) x → spoken (say_composed x) ≡ some s' → leaves s'.known ≡ leaves s.known ++ names_on mk [] t
      go (got u r) m i = ap (λ z. leaves z.known) (sym (some_inj i)) ∙ m.leaves_are
      go (lacks u) m i = absurd (no_some i)

-- done and left
take_and_drop : {A C : Type 0} (cs : List C) (xs : List A) → xs ≡ take (length cs) xs ++ drop (length cs) xs
take_and_drop [] xs = refl
take_and_drop (c ∷ cs) [] = refl
take_and_drop (c ∷ cs) (x ∷ xs) = ap (λ l. x ∷ l) (take_and_drop cs xs)

no_duty : {d : Duty} {ds : List Duty} → [] ≡ d ∷ ds → ⊥
no_duty e = let z : ◌≡◌ {A = ℕ} 0 1 = cc in omega arith

first_duty : {x d : Duty} {ds later : List Duty} → x ∷ ds ≡ d ∷ later → x ≡ d
first_duty e = cc

abbrev Speaks : Duty → Type 0
Speaks (begin ts) = ⊥
Speaks (speak l mk) = Unit {0}
Speaks (listen l) = ⊥

module _ (X : Specification) (r : ℕ) where
  -- at a line to be said, no name that it makes stands in what is known
  unknown : r < X.roles → {C : Type 0} (cs : List C) (l : ℕ) (mk : ℕ → Bool) (later : List Duty) → drop (length cs) (own X r) ≡ speak l mk ∷ later
      → (s : Role) → run (X.party r) (life_to X r (take (length cs) (own X r))) ≡ some s → (u : Tree) → Has s.known u → Covered mk [] u
  unknown h cs l mk later e s ran u k n t w = absurd (d.1 n t seen.0 seen.1 (within_trans w seen.2))
    where
      done : List Duty
      done = take (length cs) (own X r)

      z : Disciplined (life_on X (life_to X r (take (length cs) (own X r))) (speak l mk ∷ later)) × Every IsLine (speak l mk ∷ later)
      z = disciplined_to X r h (take (length cs) (own X r)) (speak l mk ∷ later) (take_and_drop cs (own X r) ∙ ap (λ x. take (length cs) (own X r) ++ x) e)

      d : Disciplined (says (life_to X r (take (length cs) (own X r))) mk (message X l))
      d = disciplined_before X later z.1.1 (says (life_to X r (take (length cs) (own X r))) mk (message X l)) z.0

      seen : Seen (life_to X r (take (length cs) (own X r))) u
      seen = (lived (X.party r) (life_to X r (take (length cs) (own X r))) d.0 s ran).inv.seen u k

-- the names that a line makes
pub makes_are : (X : Specification) → Accepted X → (r : ℕ) {C : Type 0} (cs : List C) (st : Stage) (p : Place X (X.party r) nobody_yet (duties X r) (length cs) st)
    → names p.duty p.role p.role' ≡ names_of X p.duty
makes_are X acc r cs st p = go p.duty p.here p.next
  where
    say_names : (l : ℕ) (mk : ℕ → Bool) → drop (length cs) (duties X r) ≡ speak l mk ∷ p.later → next_role (message X) (X.party r) (speak l mk) p.role ≡ some p.role'
        → new_names p.role p.role' ≡ names_on mk [] (message X l)
    say_names l mk e q = said_names mk (X.party r) (message X l) p.role p.role' (at cs refl (ltb r X.roles) (ltb→lt r X.roles) refl e) q
      where
        at : {D : Type 0} (ds : List D) → length cs ≡ length ds → (b : Bool) → (T b → r < X.roles) → duties X r ≡ cond b (begin (X.knows r) ∷ own X r) []
            → drop (length ds) (cond b (begin (X.knows r) ∷ own X r) []) ≡ speak l mk ∷ p.later → (u : Tree) → Has p.role.known u → Covered mk [] u
        at [] n true h f e = absurd (subst⁻¹ Speaks (first_duty e) tt)
        at [] n false h f e = absurd (no_duty e)
        at (c ∷ ds) n true h f e = unknown X r (h tt) ds l mk p.later e p.role (p.begun (X.knows r) (own X r) (length ds) f n (own_lines X r 1 X.lines))
        at (c ∷ ds) n false h f e = absurd (no_duty e)

    go : (d : Duty) → drop (length cs) (duties X r) ≡ d ∷ p.later → next_role (message X) (X.party r) d p.role ≡ some p.role' → names d p.role p.role' ≡ names_of X d
    go (begin ts) e q = refl
    go (speak l mk) e q = say_names l mk e q
    go (listen l) e q = refl
