-- The terms that a role took, and the names that it made, are the holdings of its life.
use Rattle.std.proofs.Common.{◌≡◌, ℕ, Bool, true, false, cond, T, ◌⊎◌, ◌↔◌, List, [], ◌∷◌, ◌++◌, sym, refl, ap, ◌∙◌, subst, inl, inr}
use mathlib.Core.Option.{some}
use mathlib.Core.Path.{subst⁻¹}
use Rattle.model.specs.Lists.{Every, SomeOf, firsts}
use Rattle.model.specs.Trees.{Tree, leaf, node, Within, Formed}
use Rattle.model.specs.Deduction.{Party}
use Rattle.model.specs.Roles.{give, Entry, Role, fill, enter, knows, give_all, spoke, said}
use Rattle.model.specs.Entries.{Has}
use Rattle.model.specs.Lives.{Fresh, Life, says, OneOf, Holdings, New, Disciplined, after_hear, spoken, after_say, run}
use Rattle.model.specs.Programs.{nobody_yet, terms, leaf_of, leaves, given, new_names}
use Rattle.model.proofs.Lists.{some_left, some_right, some_map, every_some}
use Rattle.model.proofs.Entries.{entry, knows_has, has_old, has_new, has_split}
use Rattle.model.proofs.Lived.{Seen, Lived}
use Rattle.model.proofs.Lives.{lived}
use Rattle.model.proofs.Adding.{said_went, names_are}
use Rattle.model.proofs.Scripts.{Script, started, hearing, saying, script_went}

pub some_split : {A : Type 0} (Q : A → Type 0) (xs ys : List A) → SomeOf Q (xs ++ ys) → SomeOf Q xs ⊎ SomeOf Q ys
some_split Q [] ys h = inr h
some_split Q (x ∷ xs) ys (inl h) = inl (inl h)
some_split Q (x ∷ xs) ys (inr h) = elim (some_split Q xs ys h) [ inl k ↦ inl (inr k) | inr k ↦ inr k ]

-- a term of a list, a name of a list
has_terms : (es : List Entry) (u : Tree) → Has es u ↔ SomeOf (λ t. u ≡ t) (terms es)
has_terms [] u = ((λ h. h), λ h. h)
has_terms (e ∷ es) u = (
  elim [ inl p ↦ inl p | inr h ↦ inr ((has_terms es u).0 h) ],
  elim [ inl p ↦ inl p | inr h ↦ inr ((has_terms es u).1 h) ],
)

leaf_same : {a b : ℕ} → leaf a ≡ leaf b → a ≡ b
leaf_same e = cc

abbrev IsLeaf : Tree → Type 0
IsLeaf (leaf n) = Unit {0}
IsLeaf (node h ts) = ⊥

leaf_in : (n : ℕ) (t : Tree) (l : List ℕ) → (leaf n ≡ t) ⊎ SomeOf (λ a. n ≡ a) l → SomeOf (λ a. n ≡ a) (leaf_of t ++ l)
leaf_in n (leaf m) l (inl p) = inl (leaf_same p)
leaf_in n (leaf m) l (inr h) = inr h
leaf_in n (node g ts) l (inl p) = absurd (subst IsLeaf p tt)
leaf_in n (node g ts) l (inr h) = h

leaf_out : (n : ℕ) (t : Tree) (l : List ℕ) → SomeOf (λ a. n ≡ a) (leaf_of t ++ l) → (leaf n ≡ t) ⊎ SomeOf (λ a. n ≡ a) l
leaf_out n (leaf m) l (inl p) = inl (ap leaf p)
leaf_out n (leaf m) l (inr h) = inr h
leaf_out n (node g ts) l h = inr h

has_leaves : (es : List Entry) (n : ℕ) → Has es (leaf n) ↔ SomeOf (λ a. n ≡ a) (leaves es)
has_leaves [] n = ((λ h. h), λ h. h)
has_leaves (e ∷ es) n = (
  (λ h. leaf_in n e.term (leaves es) (elim h [ inl p ↦ inl p | inr k ↦ inr ((has_leaves es n).0 k) ])),
  λ h. elim (leaf_out n e.term (leaves es) h) [ inl p ↦ inl p | inr k ↦ inr ((has_leaves es n).1 k) ],
)

pub some_firsts : {A B : Type 0} (Q : A → Type 0) (ps : List (A × B)) → SomeOf (λ p. Q p.0) ps ↔ SomeOf Q (firsts ps)
some_firsts Q [] = ((λ h. h), λ h. h)
some_firsts Q (p ∷ ps) = (
  elim [ inl h ↦ inl h | inr k ↦ inr ((some_firsts Q ps).0 k) ],
  elim [ inl h ↦ inl h | inr k ↦ inr ((some_firsts Q ps).1 k) ],
)

module _ (P : Party) where
  -- the terms given are those of the start, each once
  give_has : (ts : List Tree) (s : Role) (u : Tree) → Has (give_all P ts s).known u ↔ (Has s.known u ⊎ OneOf ts u)
  unfolding give_all
  give_has [] s u = ((λ h. inl h), elim [ inl h ↦ h | inr i ↦ absurd i ])
  give_has (t ∷ ts) s u = (
    (λ h. elim ((give_has ts s₁ u).0 h) [
      | inl k ↦ elim (one (knows s.known t) u k) [ inl x ↦ inl x | inr p ↦ inr (inl p) ]
      | inr i ↦ inr (inr i)
    ]),
    elim [
      | inl h ↦ (give_has ts s₁ u).1 (inl (old (knows s.known t) u h))
      | inr i ↦ elim i [
        | inl p ↦ (give_has ts s₁ u).1 (inl (subst⁻¹ (Has s₁.known) p (here (knows s.known t) (knows_has s.known t).0)))
        | inr j ↦ (give_has ts s₁ u).1 (inr j)
      ]
    ],
  )
    where
      s' : Role
      s' = enter t s.next false (fill give s)

      s₁ : Role
      s₁ = cond (knows s.known t) s s'

      one : (b : Bool) (v : Tree) → Has (cond b s s').known v → Has s.known v ⊎ (v ≡ t)
      one true v k = inl k
      one false v k = has_split s.known (entry t s.next false) v k

      old : (b : Bool) (v : Tree) → Has s.known v → Has (cond b s s').known v
      old true v k = k
      old false v k = has_old s.known (entry t s.next false) v k

      here : (b : Bool) → (T b → Has s.known t) → Has (cond b s s').known t
      here true f = f tt
      here false f = has_new s.known (entry t s.next false)

  given_of : (ts : List Tree) (u : Tree) → SomeOf (λ t. u ≡ t) (given P ts) ↔ OneOf ts u
  given_of ts u = (
    (λ h. elim ((give_has ts nobody_yet u).0 ((has_terms (give_all P ts nobody_yet).known u).1 h)) [ inl x ↦ absurd x | inr i ↦ i ]),
    λ i. (has_terms (give_all P ts nobody_yet).known u).0 ((give_has ts nobody_yet u).1 (inr i)),
  )

  -- a script is a life's run
  pub script_run : {l : Life} {s : Role} {is : List Tree} {ns : List ℕ} → Script P l s is ns → run P l ≡ some s
  unfolding run
  script_run (started ts f) = refl
  script_run (hearing k t f) = ap (after_hear P t) (script_run k)
  script_run (saying k may_make t f s' e) = ap (after_say P may_make t) (script_run k) ∙ ap spoken e

  abbrev pub Among : List Tree → List ℕ → Tree → Type 0
  Among is ns u = SomeOf (λ t. u ≡ t) is ⊎ SomeOf (λ a. u ≡ leaf a) ns

  which : (u : Tree) (xs : List ℕ) → SomeOf (λ a. u ≡ leaf a) xs → (a : ℕ) × (u ≡ leaf a) × SomeOf (λ b. a ≡ b) xs
  which u [] h = elim h [ ]
  which u (x ∷ xs) (inl p) = (x, p, inl refl)
  which u (x ∷ xs) (inr h) = let z = which u xs h in (z.0, z.1, inr z.2)

  -- the names that a say makes are those that it may make, within its term
  module _ (l : Life) (s : Role) (is : List Tree) (ns : List ℕ) (k : Script P l s is ns) (d : Disciplined l)
      (may_make : ℕ → Bool) (t : Tree) (f : Formed t) (s' : Role) (e : said P may_make t s ≡ spoke s') (new : New l may_make) where
    now : Lived P (says l may_make t) s'
    now = lived P (says l may_make t) (d, new) s' (script_run (saying k may_make t f s' e))

    leaves_are : leaves s'.known ≡ leaves s.known ++ new_names s s'
    leaves_are =
        let w = script_went P k in
        let z = said_went P may_make t s s' w.sheet w.good f e in
        z.3 ∙ ap (λ xs. leaves s.known ++ xs) (sym (names_are P s s' z.0 z.3))

    may_all : Every (λ n. T (may_make n)) (new_names s s')
    may_all =
        let w = script_went P k in
        let z = said_went P may_make t s s' w.sheet w.good f e in
        subst⁻¹ (Every (λ n. T (may_make n))) (names_are P s s' z.0 z.3) z.2

    made_fresh : (n : ℕ) → SomeOf (λ a. n ≡ a) (new_names s s') → T (may_make n) × Within (leaf n) t
    made_fresh n i = (may, elim seen.1 [ inl p ↦ absurd (new n may seen.0 p seen.2) | inr q ↦ subst (Within (leaf n)) q seen.2 ])
      where
        may : T (may_make n)
        may = every_some _ _ (T (may_make n)) (λ a m p. subst⁻¹ (λ x. T (may_make x)) p m) (new_names s s') may_all i

        seen : Seen (says l may_make t) (leaf n)
        seen = now.inv.seen (leaf n) ((has_leaves s'.known n).1 (subst⁻¹ (SomeOf (λ a. n ≡ a)) leaves_are (some_right _ (leaves s.known) (new_names s s') i)))

    fresh_made : (n : ℕ) → T (may_make n) → Within (leaf n) t → SomeOf (λ a. n ≡ a) (new_names s s')
    fresh_made n m w =
        elim (some_split _ (leaves s.known) (new_names s s') (subst (SomeOf (λ a. n ≡ a)) leaves_are ((has_leaves s'.known n).0 (now.all (leaf n) (inr (m, w)))))) [
          | inl old ↦ absurd (not_seen ((lived P l d s (script_run k)).inv.seen (leaf n) ((has_leaves s.known n).1 old)))
          | inr i ↦ i
        ]
      where
        not_seen : Seen l (leaf n) → ⊥
        not_seen x = new n m x.0 x.1 x.2

    fresh_in : (u : Tree) → Fresh may_make (λ v. Within v t) u → SomeOf (λ a. u ≡ leaf a) (new_names s s')
    fresh_in (leaf n) x = some_map _ (λ a. leaf n ≡ leaf a) (λ a p. ap leaf p) (new_names s s') (fresh_made n x.0 x.1)
    fresh_in (node h ts) x = elim x [ ]

    fresh_out : (u : Tree) → SomeOf (λ a. u ≡ leaf a) (new_names s s') → Fresh may_make (λ v. Within v t) u
    fresh_out u h = let z = which u (new_names s s') h in subst⁻¹ (Fresh may_make (λ v. Within v t)) z.1 (made_fresh z.0 z.2)

  -- the terms taken and the names made are the life's holdings
  pub script_holdings : {l : Life} {s : Role} {is : List Tree} {ns : List ℕ} → Script P l s is ns → Disciplined l → (u : Tree) → Among is ns u ↔ Holdings l u
  script_holdings (started ts f) d u = (elim [ inl h ↦ (given_of ts u).0 h | inr x ↦ absurd x ], λ i. inl ((given_of ts u).1 i))
  script_holdings (hearing {is = is} {ns = ns} k t f) d u =
      let q = script_holdings k d u in (
        elim [
          | inl h ↦ elim (some_split _ is (t ∷ []) h) [ inl a ↦ inl (q.0 (inl a)) | inr b ↦ elim b [ inl p ↦ inr p | inr x ↦ absurd x ] ]
          | inr n ↦ inl (q.0 (inr n))
        ],
        elim [
          | inl h ↦ elim (q.1 h) [ inl a ↦ inl (some_left _ is (t ∷ []) a) | inr b ↦ inr b ]
          | inr p ↦ inl (some_right _ is (t ∷ []) (inl p))
        ],
      )
  script_holdings (saying {l = l} {s = s} {is = is} {ns = ns} k may_make t f s' e) d u =
      let q = script_holdings k d.0 u in (
        elim [
          | inl h ↦ inl (q.0 (inl h))
          | inr n ↦ elim (some_split _ ns (new_names s s') n)
              [ inl a ↦ inl (q.0 (inr a)) | inr b ↦ inr (fresh_out l s is ns k d.0 may_make t f s' e d.1 u b) ]
        ],
        elim [
          | inl h ↦ elim (q.1 h) [ inl a ↦ inl a | inr b ↦ inr (some_left _ ns (new_names s s') b) ]
          | inr x ↦ inr (some_right _ ns (new_names s s') (fresh_in l s is ns k d.0 may_make t f s' e d.1 u x))
        ],
      )
