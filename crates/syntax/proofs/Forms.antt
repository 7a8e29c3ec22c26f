-- Brackets by their symbols.
use Rattle.std.proofs.Common.{◌≡◌, ℕ, Bool, true, false, cond, List, Some, Ok, Err, codes, Result, sym, refl, ap, ◌∙◌}
use mathlib.Core.Path.{subst⁻¹}
use Prim.Native.String.{String}
use Rattle.text.specs.declared.part.Part.{Part}
use Rattle.text.specs.Nodes.{trees_of}
use Rattle.text.specs.Trees.{Tree, quoted, integer, bracket, Trees}
use Rattle.syntax.specs.declared.fault.ShapeFault.{ShapeFault}
use Rattle.syntax.specs.declared.fault.ShapeFault.TheVariants.{Misfit, NotCarried, NoName}
use Rattle.syntax.specs.declared.source.Bracket.{Bracket as Opening}
use Rattle.syntax.specs.declared.source.Item.{Item}
use Rattle.syntax.specs.declared.source.Item.TheVariants as items
use Rattle.syntax.specs.declared.symbol.Symbol.{Symbol}
use Rattle.syntax.specs.declared.symbol.Symbol.TheVariants as symbols
use Rattle.syntax.specs.Symbols.{symbol, found, carried}
use Rattle.syntax.specs.Seeing.{Faulty, Shows, item_place, Stands, Opens, opened, Gives}
use Rattle.syntax.specs.Shape.{Shaped, and_then, bytes, spells, misfit, form, barred}
use Rattle.syntax.proofs.Spelled.{same, spelled, barred_so, uncarried_so}

pub gives_path : {A B : Type 0} {o o' : Shaped A} (view : B → A) (r : Result B ShapeFault) → o ≡ o' → Gives view o' r → Gives view o r
gives_path view (Ok x) p h = p ∙ h
gives_path view (Err e) p h = λ n. p ∙ h n

pub stands_misfit : (text : List ℕ) (t : Tree) (b : Opening) → Stands text t b → misfit text t ≡ Misfit b.at
stands_misfit text t b h = ap (misfit text) h.is ∙ ap (λ c. cond c (NotCarried b.at) (Misfit b.at)) h.carried

-- what stands where nothing may
pub barred_fault : (text : List ℕ) (t : Tree) (e : ShapeFault) → Faulty text t e → barred text t ≡ e
barred_fault text (quoted at p) e h = ap (λ b. cond b (NotCarried at) (NoName at)) h.0 ∙ sym h.1
barred_fault text (integer at v) e h = absurd h
barred_fault text (bracket at s ts) e h = sym h.1

pub barred_shown : (text : List ℕ) (t : Tree) (i : Item) → Shows text t (Ok i) → barred text t ≡ NotCarried (item_place i)
barred_shown text t (items.Name n) h = ap (barred text) h.0 ∙ ap (λ b. cond b (NotCarried n.at) (NoName n.at)) h.1
barred_shown text t (items.Number at v) h = ap (barred text) h
barred_shown text t (items.Bracket b) h = ap (barred text) h.is

module _ {A : Type 0} (text : List ℕ) (word : String) (x : Symbol) (is : found (codes word) carried ≡ Some x) (f : ℕ → Trees → Shaped A) where
  form_by : (at : ℕ) (s : _) (ts : Trees) (y : Symbol) → symbol (bytes text s) ≡ y → form text word f (bracket at s ts) ≡ cond (same y x) (f at ts) (Err (misfit text (bracket at s ts)))
  form_by at s ts y e = ap (λ c. cond c (f at ts) (Err (misfit text (bracket at s ts)))) (spelled (bytes text s) (codes word) x y is e)

  pub form_other : (t : Tree) (b : Opening) → Stands text t b → same b.symbol x ≡ false → form text word f t ≡ Err (Misfit b.at)
  form_other t b h n =
      ap (form text word f) h.is ∙ form_by b.at h.part (trees_of b.parts.now) b.symbol h.symbol_is ∙ ap (λ c. cond c (f b.at (trees_of b.parts.now)) (Err (misfit text (bracket b.at h.part (trees_of b.parts.now))))) n
      ∙ ap Err (ap (misfit text) (sym h.is) ∙ stands_misfit text t b h)

  pub form_so : (t : Tree) (b : Opening) → Stands text t b → same b.symbol x ≡ true → form text word f t ≡ f b.at (trees_of b.parts.now)
  form_so t b h e =
      ap (form text word f) h.is ∙ form_by b.at h.part (trees_of b.parts.now) b.symbol h.symbol_is ∙ ap (λ c. cond c (f b.at (trees_of b.parts.now)) (Err (misfit text (bracket b.at h.part (trees_of b.parts.now))))) e

  pub form_refused : same symbols.NotCarried x ≡ false → (t : Tree) (e : ShapeFault) → Opens text t (Err e) → form text word f t ≡ Err e
  form_refused n (quoted at p) e h = ap Err (sym h)
  form_refused n (integer at v) e h = ap Err (sym h)
  form_refused n (bracket at s ts) e h =
      form_by at s ts symbols.NotCarried (barred_so (bytes text s) h.0) ∙ ap (λ c. cond c (f at ts) (Err (misfit text (bracket at s ts)))) n ∙ ap (λ c. Err (cond c (NotCarried at) (Misfit at))) h.0 ∙ ap Err (sym h.1)

-- the same, by the bracket that was answered
module _ {A : Type 0} (text : List ℕ) (word : String) (f : ℕ → Trees → Shaped A) (t : Tree) where
  then_form : form text word f t ≡ and_then {A = ℕ × Trees} (form text word (λ at ts. Ok (at, ts)) t) (λ p. f p.0 p.1)
  then_form = go t
    where
      pick : (at : ℕ) (s : Part) (ts : Trees) (c : Bool) → cond c (f at ts) (Err (misfit text (bracket at s ts))) ≡ and_then {A = ℕ × Trees} (cond c (Ok (at, ts)) (Err (misfit text (bracket at s ts)))) (λ p. f p.0 p.1)
      pick at s ts true = refl
      pick at s ts false = refl

      go : (t : Tree) → form text word f t ≡ and_then {A = ℕ × Trees} (form text word (λ at ts. Ok (at, ts)) t) (λ p. f p.0 p.1)
      go (quoted at p) = refl
      go (integer at v) = refl
      go (bracket at s ts) = pick at s ts (spells text s word)

  pub formed_fault : (e : ShapeFault) → Err e ≡ form {A = ℕ × Trees} text word (λ at ts. Ok (at, ts)) t → form text word f t ≡ Err e
  formed_fault e h = then_form ∙ ap (λ o. and_then {A = ℕ × Trees} o (λ p. f p.0 p.1)) (sym h)

  pub formed : (b : Opening) → Ok (opened b) ≡ form {A = ℕ × Trees} text word (λ at ts. Ok (at, ts)) t → form text word f t ≡ f b.at (trees_of b.parts.now)
  formed b h = then_form ∙ ap (λ o. and_then {A = ℕ × Trees} o (λ p. f p.0 p.1)) (sym h)

pub bracket_faulty : (text : List ℕ) {t : Tree} (at : ℕ) (s : Part) (ts : Trees) → t ≡ bracket at s ts → symbol (bytes text s) ≡ symbols.NotCarried → Faulty text t (NotCarried at)
bracket_faulty text at s ts e h = subst⁻¹ (λ t. Faulty text t (NotCarried at)) e (uncarried_so (bytes text s) h, refl)
