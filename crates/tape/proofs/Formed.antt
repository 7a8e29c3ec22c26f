-- Values that bytes spell are formed: a ciphertext has a text and a key.
use Rattle.std.proofs.Common.{◌≡◌, ℕ, zero, suc, ◌-◌, List, [], ◌∷◌, ◌++◌, drop, arith, refl}
use Rattle.model.specs.Lists.{Every}
use Rattle.model.specs.Trees.{crypted, Tree, Trees, none, more, Shape, Formed, FormedAll}
use Rattle.model.specs.Roles.{count}
use Rattle.store.specs.declared.shape.Shape.{Shape as Form}
use Rattle.store.specs.declared.shape.Shape.TheVariants.{Atom, Tuple, Crypt, Apply}
use Rattle.tape.specs.Headers.{header, header_size}
use Rattle.tape.specs.Values.{first_parts, joined, values}

-- the parts of a compound as a list
abbrev pub listed : Trees → List Tree
listed none = []
listed (more t ts) = t ∷ listed ts

pub every_listed : (ts : Trees) → FormedAll ts → Every Formed (listed ts)
every_listed none f = tt
every_listed (more t ts) f = (f.0, every_listed ts f.1)

pub every_append : (P : Tree → Type 0) (us vs : List Tree) → Every P us → Every P vs → Every P (us ++ vs)
every_append P [] vs f g = g
every_append P (u ∷ us) vs f g = (f.0, every_append P us vs f.1 g)

every_drop : (n : ℕ) (vs : List Tree) → Every Formed vs → Every Formed (drop n vs)
every_drop zero vs f = f
every_drop (suc n) [] f = tt
every_drop (suc n) (v ∷ vs) f = every_drop n vs f.1

first_formed : (n : ℕ) (vs : List Tree) → Every Formed vs → FormedAll (first_parts n vs)
unfolding first_parts
first_formed zero vs f = tt
first_formed (suc n) [] f = (tt, first_formed n [] tt)
first_formed (suc n) (v ∷ vs) f = (f.0, first_formed n vs f.1)

count_first : (n : ℕ) (vs : List Tree) → count (first_parts n vs) ≡ n
unfolding first_parts
count_first zero vs = refl
count_first (suc n) [] = let e = count_first n [] in omega arith
count_first (suc n) (v ∷ vs) = let e = count_first n vs in omega arith

pub two_formed : (ts : Trees) → count ts ≡ 2 → Shape crypted ts
two_formed none e = absurd (omega arith)
two_formed (more t none) e = absurd (omega arith)
two_formed (more t (more k none)) e = tt
two_formed (more t (more k (more u us))) e = absurd (omega arith)

joined_formed : (s : Form) (vs : List Tree) → Every Formed vs → Every Formed (joined s vs)
joined_formed (Atom n) vs f = (tt, every_drop 0 vs f)
joined_formed (Tuple c) vs f = ((tt, first_formed c vs f), every_drop c vs f)
joined_formed Crypt vs f = ((two_formed (first_parts 2 vs) (count_first 2 vs), first_formed 2 vs f), every_drop 2 vs f)
joined_formed (Apply g c) vs f = ((tt, first_formed c vs f), every_drop c vs f)

pub values_formed : (k : ℕ) (bs : List ℕ) → Every Formed (values k bs)
unfolding values
values_formed zero [] = tt
values_formed (suc k) [] = tt
values_formed zero (b ∷ bs) = joined_formed (header (b ∷ bs)) _ (values_formed (header_size (header (b ∷ bs)) - 1) bs)
values_formed (suc k) (b ∷ bs) = values_formed k bs
