-- The parts of a value, by what its header tells.
use Rattle.std.proofs.Common.{◌≡◌, ℕ, zero, suc, ◌<◌, ◌≤◌, Bool, true, List, drop, arith, refl, ap, sym, subst, ◌∙◌}
use Rattle.std.specs.Prelude.{Some, None, Ok, Err, if◌then◌else◌}
use Rattle.model.specs.Trees.{Tree, leaf, node, tupled, crypted, applied, Trees, none, more, Formed, crypt, eq_tree}
use Rattle.model.specs.Roles.{count}
use Rattle.store.specs.declared.fault.StoreFault.TheVariants.{NoPart, Mismatch}
use Rattle.store.specs.declared.shape.Shape.TheVariants.{Crypt}
use Rattle.store.specs.Numbers.{part_count}
use Rattle.store.specs.Questions.{shape_of, value_at, part_of, text_of}
use Rattle.tape.specs.Headers.{header}
use Rattle.tape.specs.Values.{Stands, HasValue, Begins, parts_of}
use Rattle.tape.specs.Opening.{Gives}
use Rattle.tape.proofs.Starting.{header_of}

pub header_there : (bs : List ℕ) (at : ℕ) (v : Tree) → Stands bs at v → header (drop at bs) ≡ shape_of v
header_there bs at v k = ap header k.spelled ∙ header_of v k.rest

no_value_at : (ts : Trees) (i : ℕ) → count ts ≤ i → value_at ts i ≡ None
no_value_at none i l = refl
no_value_at (more t ts) zero l = absurd (omega arith)
no_value_at (more t ts) (suc i) l = no_value_at ts i (omega arith)

no_part : (v : Tree) (i : ℕ) → part_count (shape_of v) ≤ i → part_of v i ≡ None
no_part (leaf n) i l = refl
no_part (node tupled ts) i l = no_value_at ts i l
no_part (node crypted ts) i l = refl
no_part (node (applied f) ts) i l = no_value_at ts i l

some_value_at : (ts : Trees) (i : ℕ) → i < count ts → (p : Tree) × (value_at ts i ≡ Some p)
some_value_at none i l = absurd (omega arith)
some_value_at (more t ts) zero l = (t, refl)
some_value_at (more t ts) (suc i) l = some_value_at ts i (omega arith)

some_part : (v : Tree) (i : ℕ) → i < part_count (shape_of v) → (p : Tree) × (value_at (parts_of v) i ≡ Some p) × (part_of v i ≡ Some p)
some_part (leaf n) i l = absurd (omega arith)
some_part (node tupled ts) i l = let s = some_value_at ts i l in (s.0, s.1, s.1)
some_part (node crypted ts) i l = absurd (omega arith)
some_part (node (applied f) ts) i l = let s = some_value_at ts i l in (s.0, s.1, s.1)

module _ (bs : List ℕ) (place : ℕ) (v : Tree) (b : Begins bs place v) where
  module _ (index : ℕ) (count : ℕ) (e : count ≡ part_count (header (drop place bs))) where
    known : count ≡ part_count (shape_of v)
    known = e ∙ ap part_count (header_there bs place v b.stands)

    pub too_far : count ≤ index → Gives bs (part_of v index) NoPart (Err NoPart)
    too_far l = subst (λ o. Gives bs o NoPart (Err NoPart)) (sym (no_part v index (let k = known in omega arith))) refl

    pub part_there : (at : ℕ) → index < count → ((v p : Tree) → Begins bs place v → value_at (parts_of v) index ≡ Some p → Begins bs at p) → Gives bs (part_of v index) NoPart (Ok at)
    part_there at l f =
        let s = some_part v index (let k = known in omega arith) in
        subst (λ o. Gives bs o NoPart (Ok at)) (sym s.2) (f v s.0 b s.1)

-- a ciphertext's text and key
record Parts (v : Tree) : Type 0 where
  text : Tree
  key : Tree
  is : v ≡ crypt text key

two_parts : (v : Tree) → Formed v → shape_of v ≡ Crypt → Parts v
two_parts (leaf n) f e = absurd (cc)
two_parts (node tupled ts) f e = absurd (cc)
two_parts (node crypted none) f e = absurd f.0
two_parts (node crypted (more t none)) f e = absurd f.0
two_parts (node crypted (more t (more k none))) f e = record { text = t; key = k; is = refl }
two_parts (node crypted (more t (more k (more u us)))) f e = absurd f.0
two_parts (node (applied g) ts) f e = absurd (cc)

module _ (bs : List ℕ) (place : ℕ) (v : Tree) (b : Begins bs place v) (kind : header (drop place bs) ≡ Crypt) where
  parts : Parts v
  parts = two_parts v b.stands.formed (sym (header_there bs place v b.stands) ∙ kind)

  module _ (lock : ℕ) (f : (u p : Tree) → Begins bs place u → value_at (parts_of u) 1 ≡ Some p → Begins bs lock p) where
    the_key : Begins bs lock parts.key
    the_key = f v parts.key b (ap (λ u. value_at (parts_of u) 1) parts.is)

    pub has_key : HasValue bs lock
    has_key = (parts.key, the_key.stands)

    pub text_there : (at : ℕ) (w : Tree) (r : Bool) → r ≡ true → ((u p : Tree) → Begins bs place u → value_at (parts_of u) 0 ≡ Some p → Begins bs at p) → ((p : Tree) → Stands bs lock p → r ≡ eq_tree p w)
        → Gives bs (text_of v w) Mismatch (Ok at)
    text_there at w r q g h =
        let same : eq_tree parts.key w ≡ true = sym (h parts.key the_key.stands) ∙ q in
        let is : text_of v w ≡ Some parts.text = ap (λ u. text_of u w) parts.is ∙ ap (λ c. if c then Some parts.text else None) same in
        subst (λ o. Gives bs o Mismatch (Ok at)) (sym is) (g v parts.text b (ap (λ u. value_at (parts_of u) 0) parts.is))
