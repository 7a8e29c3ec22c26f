-- What holds of the answer of a step of the shape, if there is one.
use Rattle.std.proofs.Common.{◌≡◌, ℕ, ◌≤◌, Bool, true, false, cond, leb, List, IfOk, Ok, Err, refl}
use Prim.Native.String.{String}
use Rattle.std.proofs.lemmas.Bool.{leb-true}
use Rattle.text.specs.Trees.{Tree, quoted, integer, bracket, Trees, none, more}
use Rattle.syntax.specs.declared.fault.ShapeFault.TheVariants.{Limit}
use Rattle.syntax.specs.Shape.{Shaped, and_then, spells, form, parts_count, at_most, one_part, two_parts, five_parts}

-- what holds of an answer, if there is one
module _ {B : Type 0} (Q : B → Type 0) where
  pub after : {A : Type 0} (P : A → Type 0) (o : Shaped A) (f : A → Shaped B) → IfOk o P → ((x : A) → P x → IfOk (f x) Q) → IfOk (and_then o f) Q
  after P (Ok x) f h k = k x h
  after P (Err e) f h k = tt

  pub whatever : {A : Type 0} (o : Shaped A) (f : A → Shaped B) → ((x : A) → IfOk (f x) Q) → IfOk (and_then o f) Q
  whatever (Ok x) f k = k x
  whatever (Err e) f k = tt

  pub either : (b : Bool) (x y : Shaped B) → IfOk x Q → IfOk y Q → IfOk (cond b x y) Q
  either true x y h k = h
  either false x y h k = k

  pub within : (n at : ℕ) (ts : Trees) (o : Shaped B) → (parts_count ts ≤ n → IfOk o Q) → IfOk (at_most n at ts o) Q
  within n at ts o h = go (leb (parts_count ts) n) (leb-true (parts_count ts) n)
    where
      go : (b : Bool) → (b ≡ true → parts_count ts ≤ n) → IfOk (cond b o (Err (Limit at))) Q
      go true k = h (k refl)
      go false k = tt

  pub formed : (text : List ℕ) (word : String) (f : ℕ → Trees → Shaped B) (t : Tree) → ((at : ℕ) (ts : Trees) → IfOk (f at ts) Q) → IfOk (form text word f t) Q
  formed text word f (quoted at p) h = tt
  formed text word f (integer at n) h = tt
  formed text word f (bracket at s ts) h = either (spells text s word) (f at ts) _ (h at ts) tt

  pub of_one : (at : ℕ) (f : Tree → Shaped B) (ts : Trees) → ((a : Tree) → IfOk (f a) Q) → IfOk (one_part at ts f) Q
  of_one at f none h = tt
  of_one at f (more a none) h = h a
  of_one at f (more a (more b ts)) h = tt

  pub of_two : (at : ℕ) (f : Tree → Tree → Shaped B) (ts : Trees) → ((a b : Tree) → IfOk (f a b) Q) → IfOk (two_parts at ts f) Q
  of_two at f none h = tt
  of_two at f (more a none) h = tt
  of_two at f (more a (more b none)) h = h a b
  of_two at f (more a (more b (more c ts))) h = tt

  pub of_five : (at : ℕ) (f : Tree → Tree → Tree → Tree → Tree → Shaped B) (ts : Trees) → ((a b c d e : Tree) → IfOk (f a b c d e) Q) → IfOk (five_parts at ts f) Q
  of_five at f none h = tt
  of_five at f (more a none) h = tt
  of_five at f (more a (more b none)) h = tt
  of_five at f (more a (more b (more c none))) h = tt
  of_five at f (more a (more b (more c (more d none)))) h = tt
  of_five at f (more a (more b (more c (more d (more e none))))) h = h a b c d e
  of_five at f (more a (more b (more c (more d (more e (more g ts)))))) h = tt
