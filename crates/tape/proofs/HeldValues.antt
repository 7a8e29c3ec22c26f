-- A value that is made of values that can be held is one more of them.
use Rattle.std.proofs.Common.{◌≡◌, ℕ, ◌+◌, ◌-◌, ◌<◌, ◌≤◌, ◌⊎◌, inl, inr, true, List, [], ◌∷◌, ◌++◌, length, drop, arith, refl, ap, sym, subst, ◌∙◌, append-nil}
use Rattle.std.proofs.lemmas.Bool.{cases_lt}
use Rattle.std.specs.Prelude.{Some, Option}
use Rattle.std.specs.List.{flat_map}
use Rattle.model.specs.Lists.{Every}
use Rattle.model.specs.Trees.{tupled, crypted, applied, Tree, leaf, node, Trees, none, more, Formed, FormedAll}
use Rattle.model.specs.Storable.{Storable, StorableAll}
use Rattle.model.specs.Roles.{count}
use Rattle.model.specs.Tape.{encode}
use Rattle.store.specs.declared.shape.Shape.{Shape as Form}
use Rattle.store.specs.declared.shape.Shape.TheVariants.{Atom, Tuple, Crypt, Apply}
use Rattle.store.specs.Makers.{gathered}
use Rattle.tape.specs.Headers.{parts_after}
use Rattle.tape.specs.Values.{starts, values, build, meaning, IsWhole, Stands, parts_of}
use Rattle.tape.specs.Fitting.{means_starts}
use Rattle.tape.specs.Held.{Held, IsNumbered}
use Rattle.tape.specs.Making.{parts_on}
use Rattle.tape.proofs.Formed.{listed, two_formed}
use Rattle.tape.proofs.Starting.{behind_each}
use Rattle.tape.proofs.Reaching.{drop_past, reached, value_there, anywhere}
use Rattle.tape.proofs.Appending.{starts_same, kept_append}
use Rattle.tape.proofs.Building.{both}

mutual
  formed_held : (v : Tree) → Storable v → Formed v
  formed_held (leaf n) s = tt
  formed_held (node tupled vs) s = (tt, all_formed vs s.1)
  formed_held (node crypted vs) s = (s.0, all_formed vs s.1)
  formed_held (node (applied f) vs) s = (tt, all_formed vs s.1)

  all_formed : (vs : Trees) → StorableAll vs → FormedAll vs
  all_formed none s = tt
  all_formed (more v vs) s = (formed_held v s.0, all_formed vs s.1)

every_held : (vs : Trees) → StorableAll vs → Every Storable (listed vs)
every_held none s = tt
every_held (more v vs) s = (s.0, every_held vs s.1)

inside_held : (v : Tree) → Storable v → Every Storable (listed (parts_of v))
inside_held (leaf n) s = tt
inside_held (node h vs) s = every_held vs s.1

-- a value of a shape, and of parts that are named by handles
pub build_held : (s : Form) (ts : Trees) → IsNumbered s → parts_after s ≡ count ts → parts_after s ≤ 8 → StorableAll ts → Storable (build s ts)
build_held (Atom n) ts i e l f = i
build_held (Tuple c) ts i e l f = (omega arith, f)
build_held Crypt ts i e l f = (two_formed ts (sym e), f)
build_held (Apply g c) ts i e l f = ((i, omega arith), f)

pub parts_held : (bs : List ℕ) → Held bs → (hs : List ℕ) (ts : Trees) → parts_on bs hs ≡ Some ts → StorableAll ts
unfolding gathered
parts_held bs held [] ts e = let q : none ≡ ts = (let z : ◌≡◌ {A = Option Trees} (Some none) (Some ts) = e in cc) in subst StorableAll q tt
parts_held bs held (h ∷ hs) ts e =
    let b = both (meaning bs h) (gathered (meaning bs) hs) ts e in
    subst StorableAll b.all (held h b.first b.one, parts_held bs held hs b.others b.rest)

-- a value's encoding behind others: each handle is one of before, or stands in that encoding
module _ (bs : List ℕ) (w : IsWhole bs) (held : Held bs) (v : Tree) (s : Storable v) where
  one_value : (h : ℕ) (u x : Tree) → meaning (bs ++ encode v) h ≡ Some u → meaning (bs ++ encode v) h ≡ Some x → Storable x → Storable u
  one_value h u x e f p = let q : x ≡ u = (let z : ◌≡◌ {A = Option Tree} (Some x) (Some u) = sym f ∙ e in cc) in subst Storable q p

  all : encode v ≡ flat_map encode (v ∷ [])
  all = sym (append-nil (encode v))

  -- what stands in that encoding stands behind the others too
  stands_behind : (h : ℕ) (x : Tree) → length bs ≤ h → Stands (flat_map encode (v ∷ [])) (h - length bs) x → Stands (bs ++ encode v) h x
  stands_behind h x l k = record {
    rest = k.rest;
    formed = k.formed;
    spelled = drop_past bs (encode v) (length bs) h refl l ∙ (ap (drop (h - length bs)) all ∙ k.spelled);
  }

  pub held_append : Held (bs ++ encode v)
  held_append h u e = go (cases_lt h (length bs))
    where
      there : starts 0 (bs ++ encode v) h ≡ true
      there = means_starts (bs ++ encode v) h u e

      go : (h < length bs) ⊎ (length bs ≤ h) → Storable u
      go (inl l) =
          let b = anywhere bs h w (sym (starts_same 0 bs h (encode v) l) ∙ there) in
          let m = value_there bs h b.0 b.1 in
          one_value h u b.0 e (kept_append bs w v (formed_held v s) h b.0 m) (held h b.0 m)
      go (inr l) =
          let j = h - length bs in
          let begin : starts 0 (encode v) j ≡ true =
          sym (ap (λ cs. starts 0 (cs ++ encode v) h) (sym w) ∙ behind_each (values 0 bs) (encode v) h j (let q = ap length w in omega arith)) ∙ there in
          let r = reached Storable formed_held inside_held (j + 1) (v ∷ []) j (omega arith) (s, tt) (subst (λ cs. starts 0 cs j ≡ true) all begin) in
          let m = value_there (bs ++ encode v) h r.value (record { starts = there; stands = stands_behind h r.value l r.stands }) in
          one_value h u r.value e m r.holds
