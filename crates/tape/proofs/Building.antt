-- The encoding of a value that is built of a shape and parts.
use Rattle.std.proofs.Common.{◌≡◌, ℕ, List, [], ◌∷◌, ◌++◌, length, arith, refl, ap, sym, subst, ◌∙◌}
use Rattle.std.specs.Prelude.{Some, None, Option, Ok, Err, Result}
use Rattle.model.specs.Trees.{Tree, Trees, none, more, Formed, FormedAll}
use Rattle.model.specs.Roles.{count}
use Rattle.model.specs.Tape.{encode, encode_all}
use Rattle.store.specs.declared.fault.StoreFault.{StoreFault}
use Rattle.store.specs.declared.fault.StoreFault.TheVariants.{Invalid}
use Rattle.store.specs.declared.shape.Shape.{Shape as Form}
use Rattle.store.specs.declared.shape.Shape.TheVariants.{Atom, Tuple, Crypt, Apply}
use Rattle.store.specs.Makers.{with_more, gathered}
use Rattle.tape.specs.Headers.{header_bytes, parts_after}
use Rattle.tape.specs.Values.{build, meaning, IsWhole}
use Rattle.tape.specs.Making.{parts_on, size_answer}
use Rattle.tape.proofs.Formed.{two_formed}
use Rattle.tape.proofs.Appending.{meant}

no_parts : (ts : Trees) → 0 ≡ count ts → encode_all ts ≡ []
no_parts none e = refl
no_parts (more t ts) e = absurd (omega arith)

pub encode_build : (s : Form) (ts : Trees) → parts_after s ≡ count ts → encode (build s ts) ≡ header_bytes s ++ encode_all ts
encode_build (Atom n) ts e = rw (no_parts ts e) refl
encode_build (Tuple c) ts e = ap (λ n. 2 ∷ n ∷ encode_all ts) (sym e)
encode_build Crypt ts e = refl
encode_build (Apply f c) ts e = ap (λ n. 4 ∷ f ∷ n ∷ encode_all ts) (sym e)

pub build_formed : (s : Form) (ts : Trees) → parts_after s ≡ count ts → FormedAll ts → Formed (build s ts)
build_formed (Atom n) ts e f = tt
build_formed (Tuple c) ts e f = (tt, f)
build_formed Crypt ts e f = (two_formed ts (sym e), f)
build_formed (Apply g c) ts e f = (tt, f)

-- the values of handles, one for each
pub record Both (o : Option Tree) (r : Option Trees) (ts : Trees) : Type 0 where
  pub first : Tree
  pub others : Trees
  pub one : o ≡ Some first
  pub rest : r ≡ Some others
  pub all : more first others ≡ ts

pub both : (o : Option Tree) (r : Option Trees) (ts : Trees) → with_more o r ≡ Some ts → Both o r ts
both None r ts e = absurd (let z : ◌≡◌ {A = Option Trees} None (Some ts) = e in cc)
both (Some v) None ts e = absurd (let z : ◌≡◌ {A = Option Trees} None (Some ts) = e in cc)
both (Some v) (Some us) ts e = record {
  first = v;
  others = us;
  one = refl;
  rest = refl;
  all = let z : ◌≡◌ {A = Option Trees} (Some (more v us)) (Some ts) = e in cc;
}

pub record Valid (hs : List ℕ) (ts : Trees) : Type 0 where
  pub formed : FormedAll ts
  pub counted : length hs ≡ count ts

none_valid : (ts : Trees) → none ≡ ts → Valid [] ts
none_valid ts p = subst (Valid []) p (record { formed = tt; counted = refl })

pub valid : (bs : List ℕ) → IsWhole bs → (hs : List ℕ) (ts : Trees) → parts_on bs hs ≡ Some ts → Valid hs ts
unfolding gathered
valid bs w [] ts e = none_valid ts (let z : ◌≡◌ {A = Option Trees} (Some none) (Some ts) = e in cc)
valid bs w (h ∷ hs) ts e =
    let b = both (meaning bs h) (gathered (meaning bs) hs) ts e in
    let r = valid bs w hs b.others b.rest in
    let c = r.counted in
    subst (Valid (h ∷ hs)) b.all (record { formed = ((meant bs h b.first w b.one).stands.formed, r.formed); counted = omega arith })

-- parts that have a size are valid
pub sized_parts : (bs cs hs : List ℕ) (n : ℕ) → cs ≡ bs → Ok n ≡ size_answer (parts_on cs hs) → (ts : Trees) × (parts_on bs hs ≡ Some ts) × (n ≡ length (encode_all ts))
sized_parts bs cs hs n p e = go (parts_on bs hs) (e ∙ ap (λ ds. size_answer (parts_on ds hs)) p)
  where
    go : (o : Option Trees) → Ok n ≡ size_answer o → (ts : Trees) × (o ≡ Some ts) × (n ≡ length (encode_all ts))
    go None e = absurd (let z : ◌≡◌ {A = Result ℕ StoreFault} (Ok n) (Err Invalid) = e in cc)
    go (Some ts) e = (ts, refl, (let z : ◌≡◌ {A = Result ℕ StoreFault} (Ok n) (Ok (length (encode_all ts))) = e in cc))
