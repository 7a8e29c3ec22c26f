-- Declarations, lines and terms by their symbols.
use Rattle.std.proofs.Common.{◌≡◌, ℕ, Bool, true, false, cond, List, Some, Ok, Err, codes, sym, refl, ap, ◌∙◌}
use Prim.Native.String.{String}
use Rattle.text.specs.declared.part.Part.{Part}
use Rattle.text.specs.Nodes.{trees_of}
use Rattle.text.specs.Trees.{Tree, quoted, integer, bracket, Trees}
use Rattle.syntax.specs.declared.fault.ShapeFault.{ShapeFault}
use Rattle.syntax.specs.declared.fault.ShapeFault.TheVariants.{Misfit, NotCarried, NoName}
use Rattle.syntax.specs.declared.source.Bracket.{Bracket as Opening}
use Rattle.syntax.specs.declared.source.Item.TheVariants as items
use Rattle.syntax.specs.declared.spec.Name.{Name}
use Rattle.syntax.specs.declared.symbol.FunctionClass.{FunctionClass}
use Rattle.syntax.specs.declared.symbol.Symbol.{Symbol}
use Rattle.syntax.specs.declared.symbol.Symbol.TheVariants as symbols
use Rattle.syntax.specs.Symbols.{symbol, found, carried, one_of, not_carried}
use Rattle.syntax.specs.Seeing.{Shows, Stands, Opens, Faulty, tuple_term}
use Rattle.syntax.specs.Specs.{Declared, value, Lined, Term, name}
use Rattle.syntax.specs.Shape.{Shaped, and_then, bytes, short, function_of, shared_as, term, crypt_term, apply_term, spells, misfit, declaration, type_of, shared_of, knows_of, everybody_of, line, comm_of}
use Rattle.syntax.proofs.Forms.{stands_misfit}
use Rattle.syntax.proofs.Spelled.{same, same_other, spelled, barred_so}

-- What a bracket is read as, by its symbol.
abbrev pub declared_by : List ℕ → Tree → ℕ → Trees → Symbol → Shaped Declared
declared_by text t at ts y =
    cond (same y symbols.Type) (type_of text at ts)
    (cond (same y symbols.TypeShared) (shared_of text at ts)
    (cond (same y symbols.Knows) (knows_of text at ts)
    (cond (same y symbols.EverybodyKnows) (everybody_of text at ts)
    (Err (misfit text t)))))

abbrev pub lined_by : List ℕ → Tree → ℕ → Trees → Symbol → Shaped Lined
lined_by text t at ts y =
    cond (same y symbols.Comm) (comm_of text at ts)
    (cond (same y symbols.Block) (Err (NotCarried at))
    (Err (misfit text t)))

abbrev pub term_by : List ℕ → Tree → ℕ → Trees → Symbol → Shaped Term
term_by text t at ts y =
    cond (same y symbols.Tuple) (tuple_term text at ts)
    (cond (same y symbols.Crypt) (crypt_term text at ts)
    (cond (same y symbols.Apply) (apply_term text at ts)
    (Err (misfit text t))))

abbrev pub function_type : Bool → Bool → Symbol
function_type secret one_way = symbols.FunctionType (record { secret = secret; one_way = one_way })

abbrev pub shared_by : List ℕ → Name → Tree → ℕ → Trees → Symbol → Shaped Declared
shared_by text n t at ts y =
    cond (same y (function_type false false)) (function_of text n false false at ts)
    (cond (same y (function_type true false)) (function_of text n true false at ts)
    (cond (same y (function_type false true)) (function_of text n false true at ts)
    (cond (same y (function_type true true)) (function_of text n true true at ts)
    (Err (misfit text t)))))

module _ (text : List ℕ) (at : ℕ) (s : Part) (ts : Trees) (y : Symbol) (e : symbol (bytes text s) ≡ y) where
  by : (word : String) (x : Symbol) → found (codes word) carried ≡ Some x → spells text s word ≡ same y x
  by word x is = spelled (bytes text s) (codes word) x y is e

  pub declaration_by : declaration text (bracket at s ts) ≡ declared_by text (bracket at s ts) at ts y
  unfolding found
  declaration_by = rw (by "type" symbols.Type refl, by "type-shared" symbols.TypeShared refl, by "knows" symbols.Knows refl, by "everybody-knows" symbols.EverybodyKnows refl) refl

  pub line_by : line text (bracket at s ts) ≡ lined_by text (bracket at s ts) at ts y
  unfolding found
  line_by = rw (by "comm" symbols.Comm refl, by "block" symbols.Block refl) refl

  pub bracket_by : term text (bracket at s ts) ≡ term_by text (bracket at s ts) at ts y
  unfolding found term
  bracket_by = rw (by "tuple" symbols.Tuple refl, by "crypt" symbols.Crypt refl, by "apply" symbols.Apply refl) refl

  pub shared_as_by : (n : Name) → shared_as text n (bracket at s ts) ≡ shared_by text n (bracket at s ts) at ts y
  unfolding found
  shared_as_by n = rw (by "function" (function_type false false) refl, by "secret-function" (function_type true false) refl, by "one-way-function" (function_type false true) refl, by "secret-one-way-function" (function_type true true) refl) refl

-- What a bracket with a symbol that is carried is read as; and what is read where there is none.
module _ {A : Type 0} (text : List ℕ) (reads : Tree → Shaped A) (reads_by : Tree → ℕ → Trees → Symbol → Shaped A) (is : (at : ℕ) (s : Part) (ts : Trees) (y : Symbol) → symbol (bytes text s) ≡ y → reads (bracket at s ts) ≡ reads_by (bracket at s ts) at ts y) where
  stands_by : (t : Tree) (b : Opening) (y : Symbol) → Stands text t b → b.symbol ≡ y → reads t ≡ reads_by t b.at (trees_of b.parts.now) y
  stands_by t b y h e =
      ap reads h.is ∙ is b.at h.part (trees_of b.parts.now) y (h.symbol_is ∙ e) ∙ ap (λ u. reads_by u b.at (trees_of b.parts.now) y) (sym h.is)

  module _ (bare : (t : Tree) (at : ℕ) (ts : Trees) → reads_by t at ts symbols.NotCarried ≡ Err (misfit text t)) where
    fault_by : (at : ℕ) (s : Part) (ts : Trees) (e : ShapeFault) → (one_of (bytes text s) not_carried ≡ true) × (e ≡ NotCarried at) → reads (bracket at s ts) ≡ Err e
    fault_by at s ts e h =
        is at s ts symbols.NotCarried (barred_so (bytes text s) h.0) ∙ bare (bracket at s ts) at ts ∙ ap (λ c. Err (cond c (NotCarried at) (Misfit at))) h.0 ∙ ap Err (sym h.1)

module _ (text : List ℕ) (t : Tree) where
  pub declaration_refused : (e : ShapeFault) → Opens text t (Err e) → declaration text t ≡ Err e
  declaration_refused e = go t
    where
      go : (t : Tree) → Opens text t (Err e) → declaration text t ≡ Err e
      go (quoted at p) h = ap Err (sym h)
      go (integer at v) h = ap Err (sym h)
      go (bracket at s ts) h = fault_by text (declaration text) (declared_by text) (declaration_by text) (λ t at ts. refl) at s ts e h

  pub line_refused : (e : ShapeFault) → Opens text t (Err e) → line text t ≡ Err e
  line_refused e = go t
    where
      go : (t : Tree) → Opens text t (Err e) → line text t ≡ Err e
      go (quoted at p) h = ap Err (sym h)
      go (integer at v) h = ap Err (sym h)
      go (bracket at s ts) h = fault_by text (line text) (lined_by text) (line_by text) (λ t at ts. refl) at s ts e h

  pub term_refused : (e : ShapeFault) → Faulty text t e → term text t ≡ Err e
  unfolding term
  term_refused e = go t
    where
      go : (t : Tree) → Faulty text t e → term text t ≡ Err e
      go (quoted at p) h = ap (λ b. and_then (cond b (short (record { at = at; part = p })) (Err (NoName at))) (λ n. Ok (name at p))) h.0 ∙ ap Err (sym h.1)
      go (integer at v) h = absurd h
      go (bracket at s ts) h = fault_by text (term text) (term_by text) (bracket_by text) (λ t at ts. refl) at s ts e h

  pub shared_refused : (n : Name) (e : ShapeFault) → Faulty text t e → shared_as text n t ≡ Err e
  shared_refused n e = go t
    where
      go : (t : Tree) → Faulty text t e → shared_as text n t ≡ Err e
      go (quoted at p) h = ap (λ b. and_then (cond b (short (record { at = at; part = p })) (Err (NoName at))) (λ k. Ok (value n k true))) h.0 ∙ ap Err (sym h.1)
      go (integer at v) h = absurd h
      go (bracket at s ts) h = fault_by text (shared_as text n) (shared_by text n) (λ at s ts y e. shared_as_by text at s ts y e n) (λ t at ts. refl) at s ts e h

  pub shared_named : (n k : Name) → Shows text t (Ok (items.Name k)) → shared_as text n t ≡ and_then (short k) (λ m. Ok (value n m true))
  shared_named n k h = ap (shared_as text n) h.0 ∙ ap (λ b. and_then (cond b (short k) (Err (NoName k.at))) (λ m. Ok (value n m true))) h.1

  module _ (b : Opening) (h : Stands text t b) where
    pub declaration_stands : (y : Symbol) → b.symbol ≡ y → declaration text t ≡ declared_by text t b.at (trees_of b.parts.now) y
    declaration_stands y e = stands_by text (declaration text) (declared_by text) (declaration_by text) t b y h e

    pub line_stands : (y : Symbol) → b.symbol ≡ y → line text t ≡ lined_by text t b.at (trees_of b.parts.now) y
    line_stands y e = stands_by text (line text) (lined_by text) (line_by text) t b y h e

    pub term_stands : (y : Symbol) → b.symbol ≡ y → term text t ≡ term_by text t b.at (trees_of b.parts.now) y
    term_stands y e = stands_by text (term text) (term_by text) (bracket_by text) t b y h e

    shared_stands : (n : Name) (y : Symbol) → b.symbol ≡ y → shared_as text n t ≡ shared_by text n t b.at (trees_of b.parts.now) y
    shared_stands n y e = stands_by text (shared_as text n) (shared_by text n) (λ at s ts y e. shared_as_by text at s ts y e n) t b y h e

    pub shared_function : (n : Name) (c : FunctionClass) → b.symbol ≡ symbols.FunctionType c → shared_as text n t ≡ function_of text n c.secret c.one_way b.at (trees_of b.parts.now)
    shared_function n c e = go c.secret c.one_way e
      where
        go : (x y : Bool) → b.symbol ≡ function_type x y → shared_as text n t ≡ function_of text n x y b.at (trees_of b.parts.now)
        go false false e = shared_stands n (function_type false false) e
        go true false e = shared_stands n (function_type true false) e
        go false true e = shared_stands n (function_type false true) e
        go true true e = shared_stands n (function_type true true) e

    -- no symbol that belongs here
    pub declaration_other : (b.symbol ≡ symbols.Type → ⊥) → (b.symbol ≡ symbols.TypeShared → ⊥) → (b.symbol ≡ symbols.Knows → ⊥) → (b.symbol ≡ symbols.EverybodyKnows → ⊥) → declaration text t ≡ Err (Misfit b.at)
    declaration_other i j k l =
        declaration_stands b.symbol refl
        ∙ rw (same_other b.symbol symbols.Type i, same_other b.symbol symbols.TypeShared j, same_other b.symbol symbols.Knows k, same_other b.symbol symbols.EverybodyKnows l) (ap Err (stands_misfit text t b h))

    pub line_other : (b.symbol ≡ symbols.Comm → ⊥) → (b.symbol ≡ symbols.Block → ⊥) → line text t ≡ Err (Misfit b.at)
    line_other i j = line_stands b.symbol refl ∙ rw (same_other b.symbol symbols.Comm i, same_other b.symbol symbols.Block j) (ap Err (stands_misfit text t b h))

    pub term_other : (b.symbol ≡ symbols.Tuple → ⊥) → (b.symbol ≡ symbols.Crypt → ⊥) → (b.symbol ≡ symbols.Apply → ⊥) → term text t ≡ Err (Misfit b.at)
    term_other i j k = term_stands b.symbol refl ∙ rw (same_other b.symbol symbols.Tuple i, same_other b.symbol symbols.Crypt j, same_other b.symbol symbols.Apply k) (ap Err (stands_misfit text t b h))

    pub shared_other : (n : Name) → ((c : FunctionClass) → b.symbol ≡ symbols.FunctionType c → ⊥) → shared_as text n t ≡ Err (Misfit b.at)
    shared_other n i =
        let no = λ (x y : Bool). same_other b.symbol (function_type x y) (i (record { secret = x; one_way = y })) in
        shared_stands n b.symbol refl ∙ rw (no false false, no true false, no false true, no true true) (ap Err (stands_misfit text t b h))
