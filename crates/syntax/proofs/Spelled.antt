-- Symbols by their names.
use Rattle.std.proofs.Common.{◌≡◌, ℕ, Bool, true, false, cond, ◌||◌, List, [], ◌∷◌, Some, None, codes, Decides, Option, sym, refl, ap, ◌∙◌, rules, Bor}
use Rattle.std.specs.List.{list_any, find}
use Rattle.std.specs.Option.{option_map}
use Rattle.std.specs.Str.{bytes_eq}
use Rattle.std.proofs.lemmas.Slice.Eq.{bytes_eq-Decides, slice_eq-Decides}
use Rattle.std.proofs.lemmas.Bool.Decides.{Decides-eqb}
use Rattle.std.proofs.Math.Dec.{eqb}
use lib.Pointwise.{pointwise}
use Rattle.syntax.specs.declared.symbol.Section.{Section}
use Rattle.syntax.specs.declared.symbol.Section.TheVariants as sections
use Rattle.syntax.specs.declared.symbol.Symbol.{Symbol}
use Rattle.syntax.specs.declared.symbol.Symbol.TheVariants as symbols
use Rattle.syntax.specs.contracts.symbol.SymbolPartialEq.TheImpl as symbol_eq
use Rattle.syntax.specs.Seeing.{section_word}
use Rattle.syntax.specs.Symbols.{carried, not_carried, found, one_of, other, symbol, entries, spellings}

-- the test of bytes, either way round
pub decided : (xs ys : List ℕ) (r : Bool) → r ≡ pointwise eqb xs ys → bytes_eq ys xs ≡ r
decided xs ys r e = go r (bytes_eq ys xs) (slice_eq-Decides Decides-eqb xs ys r e) (bytes_eq-Decides ys xs)
  where
    go : (a b : Bool) → Decides a (xs ≡ ys) → Decides b (ys ≡ xs) → b ≡ a
    go true b p q = q.1 (sym (p.0 refl))
    go false true p q = sym (p.1 (sym (q.0 refl)))
    go false false p q = refl

pub same_so : (xs ys : List ℕ) → bytes_eq xs ys ≡ true → xs ≡ ys
same_so xs ys h = (bytes_eq-Decides xs ys).0 h

-- what `find` and `contains` answer
found_first : (name : List ℕ) (es : List (Bor (List ℕ) × Symbol)) → option_map (λ e. e.1) (find (λ e. pointwise eqb e.0.now name) es) ≡ found name (entries es)
unfolding found
found_first name [] = refl
found_first name (e ∷ es) = go (pointwise eqb e.0.now name) (bytes_eq name e.0.now) (decided e.0.now name (pointwise eqb e.0.now name) refl) (found_first name es)
  where
    go : (a b : Bool) → b ≡ a → option_map (λ i. i.1) (find (λ i. pointwise eqb i.0.now name) es) ≡ found name (entries es) → option_map (λ i. i.1) (cond a (Some e) (find (λ i. pointwise eqb i.0.now name) es)) ≡ cond b (Some e.1) (found name (entries es))
    go true true p h = refl
    go false false p h = h
    go true false p h = cc
    go false true p h = cc

module _ (name : List ℕ) (es : List (Bor (List ℕ) × Symbol)) (o : Option (Bor (Bor (List ℕ) × Symbol))) where
  pub first_found : (e : Bor (Bor (List ℕ) × Symbol)) → o ≡ Some e → option_map (λ x. x.now) o ≡ find (λ x. pointwise eqb x.0.now name) es → Some e.now.1 ≡ found name (entries es)
  first_found e w h = ap (λ (p : Option (Bor (Bor (List ℕ) × Symbol))). option_map (λ x. x.now.1) p) (sym w) ∙ twice o ∙ ap (option_map (λ x. x.1)) h ∙ found_first name es
    where
      twice : (p : Option (Bor (Bor (List ℕ) × Symbol))) → option_map (λ x. x.now.1) p ≡ option_map (λ x. x.1) (option_map (λ x. x.now) p)
      twice None = refl
      twice (Some x) = refl

  pub none_found : o ≡ None → option_map (λ x. x.now) o ≡ find (λ x. pointwise eqb x.0.now name) es → None ≡ found name (entries es)
  none_found w h = ap (λ (p : Option (Bor (Bor (List ℕ) × Symbol))). option_map (λ x. x.1) (option_map (λ x. x.now) p)) (sym w) ∙ ap (option_map (λ x. x.1)) h ∙ found_first name es

pub any_spelled : (name : List ℕ) (ns : List (Bor (List ℕ))) → list_any (λ n. pointwise eqb n.now name) ns ≡ one_of name (spellings ns)
unfolding one_of
any_spelled name [] = refl
any_spelled name (n ∷ ns) = go (pointwise eqb n.now name) (bytes_eq name n.now) (decided n.now name (pointwise eqb n.now name) refl) (any_spelled name ns)
  where
    go : (a b : Bool) → b ≡ a → list_any (λ i. pointwise eqb i.now name) ns ≡ one_of name (spellings ns) → (a || list_any (λ i. pointwise eqb i.now name) ns) ≡ cond b true (one_of name (spellings ns))
    go true true p h = refl
    go false false p h = h
    go true false p h = cc
    go false true p h = cc

-- What a symbol is called, unless it is not carried.
abbrev class_word : Bool → Bool → List ℕ
class_word false false = codes "function"
class_word true false = codes "secret-function"
class_word false true = codes "one-way-function"
class_word true true = codes "secret-one-way-function"

abbrev word_of : Symbol → Option (List ℕ)
word_of symbols.Spec = Some (codes "spec")
word_of symbols.Declare = Some (codes "declare")
word_of symbols.Type = Some (codes "type")
word_of symbols.TypeShared = Some (codes "type-shared")
word_of (symbols.FunctionType c) = Some (class_word c.secret c.one_way)
word_of symbols.Knows = Some (codes "knows")
word_of symbols.EverybodyKnows = Some (codes "everybody-knows")
word_of symbols.Block = Some (codes "block")
word_of symbols.Comm = Some (codes "comm")
word_of symbols.Tuple = Some (codes "tuple")
word_of symbols.Crypt = Some (codes "crypt")
word_of symbols.Vanilla = Some (codes "vanilla")
word_of symbols.Apply = Some (codes "apply")
word_of (symbols.Section s) = Some (codes (section_word s))
word_of symbols.NotCarried = None
word_of symbols.Unknown = None

abbrev Worded : List (List ℕ × Symbol) → Type 0
Worded [] = Unit {0}
Worded (e ∷ es) = (word_of e.1 ≡ Some e.0) × Worded es

worded : Worded carried
worded = (refl, (refl, (refl, (refl, (refl, (refl, (refl, (refl, (refl, (refl, (refl, (refl, (refl, (refl, (refl, (refl, (refl, (refl, (refl, tt)))))))))))))))))))

found_word : (name : List ℕ) (es : List (List ℕ × Symbol)) (x : Symbol) → Worded es → found name es ≡ Some x → word_of x ≡ Some name
unfolding found
found_word name [] x w h = cc
found_word name (e ∷ es) x w h = go (bytes_eq name e.0) refl h (found_word name es x w.1)
  where
    go : (b : Bool) → bytes_eq name e.0 ≡ b → cond b (Some e.1) (found name es) ≡ Some x → (found name es ≡ Some x → word_of x ≡ Some name) → word_of x ≡ Some name
    go true s p k = let y : e.1 ≡ x = cc in ap word_of (sym y) ∙ w.0 ∙ ap Some (sym (same_so name e.0 s))
    go false s p k = k p

-- a symbol that is carried has one name
one_name : (name word : List ℕ) (x : Symbol) → found word carried ≡ Some x → symbol name ≡ x → name ≡ word
one_name name word x h = go (found name carried) refl
  where
    is : word_of x ≡ Some word
    is = found_word word carried x worded h

    none : (b : Bool) → cond b symbols.NotCarried symbols.Unknown ≡ x → name ≡ word
    none true q = let z : Some word ≡ None = sym is ∙ ap word_of (sym q) in cc
    none false q = let z : Some word ≡ None = sym is ∙ ap word_of (sym q) in cc

    go : (o : Option Symbol) → found name carried ≡ o → other name o ≡ x → name ≡ word
    go (Some y) p q = let z : Some name ≡ Some word = sym (found_word name carried y worded p) ∙ ap word_of q ∙ is in cc
    go None p q = none (one_of name not_carried) q

symbol_found : (word : List ℕ) (x : Symbol) → found word carried ≡ Some x → symbol word ≡ x
symbol_found word x h = ap (other word) h

-- the derived `==`
abbrev pub same : Symbol → Symbol → Bool
same x y = (symbol_eq.ghosts).eq x y

pub same_symbol : (x y : Symbol) → same x y ≡ true → x ≡ y
same_symbol x y h = search rules

pub same_itself : (x : Symbol) → same x x ≡ true
same_itself x = search rules

pub same_other : (x y : Symbol) → (x ≡ y → ⊥) → same x y ≡ false
same_other x y n = go (same x y) refl
  where
    go : (b : Bool) → same x y ≡ b → b ≡ false
    go true q = absurd (n (same_symbol x y q))
    go false q = refl

-- A name spells a word just if it has the word's symbol.
pub spelled : (name word : List ℕ) (x y : Symbol) → found word carried ≡ Some x → symbol name ≡ y → bytes_eq name word ≡ same y x
spelled name word x y h e = go (bytes_eq name word) (same y x) refl refl
  where
    go : (a b : Bool) → bytes_eq name word ≡ a → same y x ≡ b → a ≡ b
    go true true p q = refl
    go false false p q = refl
    go true false p q = sym (sym q ∙ ap (λ z. same z x) (sym e ∙ ap symbol (same_so name word p) ∙ symbol_found word x h) ∙ same_itself x)
    go false true p q = sym p ∙ (bytes_eq-Decides name word).1 (one_name name word x h (e ∙ same_symbol y x q))

-- The words that are not carried.
Barred : List (List ℕ) → Type 0
Barred [] = Unit {0}
Barred (n ∷ ns) = (symbol n ≡ symbols.NotCarried) × Barred ns

one_barred : (name : List ℕ) (ns : List (List ℕ)) → Barred ns → one_of name ns ≡ true → symbol name ≡ symbols.NotCarried
unfolding one_of Barred
one_barred name [] w h = cc
one_barred name (n ∷ ns) w h = go (bytes_eq name n) refl h (one_barred name ns w.1)
  where
    go : (b : Bool) → bytes_eq name n ≡ b → cond b true (one_of name ns) ≡ true → (one_of name ns ≡ true → symbol name ≡ symbols.NotCarried) → symbol name ≡ symbols.NotCarried
    go true s p k = ap symbol (same_so name n s) ∙ w.0
    go false s p k = k p

all_barred : Barred not_carried
unfolding Barred found one_of
all_barred = (refl, (refl, (refl, (refl, (refl, (refl, (refl, (refl, (refl, (refl, (refl, (refl, (refl, (refl, (refl, (refl, (refl, (refl, (refl, (refl, (refl, (refl, (refl, (refl, (refl, (refl, (refl, (refl, (refl, (refl, (refl, (refl, (refl, (refl, (refl, (refl, (refl, (refl, tt))))))))))))))))))))))))))))))))))))))

pub barred_so : (name : List ℕ) → one_of name not_carried ≡ true → symbol name ≡ symbols.NotCarried
barred_so name h = one_barred name not_carried all_barred h

pub carried_so : (name : List ℕ) → (symbol name ≡ symbols.NotCarried → ⊥) → one_of name not_carried ≡ false
carried_so name n = go (one_of name not_carried) refl
  where
    go : (b : Bool) → one_of name not_carried ≡ b → b ≡ false
    go true q = absurd (n (barred_so name q))
    go false q = refl

pub carried_same : (word : List ℕ) (x : Symbol) → found word carried ≡ Some x → same symbols.NotCarried x ≡ false
carried_same word x h = same_other symbols.NotCarried x (λ e. let z : None ≡ Some word = ap word_of e ∙ found_word word carried x worded h in cc)

pub uncarried_so : (name : List ℕ) → symbol name ≡ symbols.NotCarried → one_of name not_carried ≡ true
uncarried_so name = go (found name carried) refl
  where
    none : (b : Bool) → cond b symbols.NotCarried symbols.Unknown ≡ symbols.NotCarried → b ≡ true
    none true q = refl
    none false q = cc

    go : (o : Option Symbol) → found name carried ≡ o → other name o ≡ symbols.NotCarried → one_of name not_carried ≡ true
    go (Some y) p q = let z : Some name ≡ None = sym (found_word name carried y worded p) ∙ ap word_of q in cc
    go None p q = none (one_of name not_carried) q

pub section_found : (s : Section) → found (codes (section_word s)) carried ≡ Some (symbols.Section s)
unfolding found
section_found sections.Sessions = refl
section_found sections.Assume = refl
section_found sections.Claim = refl
