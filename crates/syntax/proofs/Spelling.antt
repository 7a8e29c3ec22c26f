-- A tree that is accepted spells the specification that is answered.
use Rattle.std.proofs.Common.{◌≡◌, ℕ, Bool, true, false, cond, leb, ◌⊎◌, List, [], ◌∷◌, Ok, Err, refl, ap, inl, inr, subst}
use Prim.Native.String.{String}
use Rattle.text.specs.declared.part.Part.{Part}
use Rattle.text.specs.Trees.{Tree, quoted, integer, bracket, Trees, none, more}
use Rattle.syntax.specs.declared.fault.ShapeFault.{ShapeFault}
use Rattle.syntax.specs.declared.fault.ShapeFault.TheVariants.{Limit, NotCarried, NoName}
use Rattle.syntax.specs.declared.spec.Name.{Name}
use Rattle.syntax.specs.declared.spec.Label.{Label}
use Rattle.syntax.specs.declared.spec.Label.TheVariants as labels
use Rattle.syntax.specs.declared.symbol.FunctionClass.{FunctionClass}
use Rattle.syntax.specs.Names.{is_name}
use Rattle.syntax.specs.Shape.{Shaped, and_then, each, bytes, spells, misfit, form, parts_count, at_most, no_parts, five_parts, a_name, names, vanilla, term, crypt_term, apply_term, terms, function_of, shared_as, type_of, shared_of, knows_of, everybody_of, declaration, declarations, label, comm_of, line, lines, declare, block, empty, section, specification, shape}
use Rattle.syntax.specs.Specs as tables
use Rattle.syntax.specs.Specs.{Term, name, tuple, crypt, apply, Terms, Declared, value, function, knows, everybody, Lined, Specification}
use Rattle.syntax.specs.Spelling.{IsName, AreNames, IsLabel, class_word, IsForm, SpellsTerm, SpellsTerms, SpellsDeclared, SpellsAll, SpellsLine, SpellsLines, Spells}

-- steps that end well
record Then {A B : Type 0} (o : Shaped A) (f : A → Shaped B) (y : B) : Type 0 where
  mid : A
  first : o ≡ Ok mid
  last : f mid ≡ Ok y

then_ok : {A B : Type 0} (o : Shaped A) (f : A → Shaped B) (y : B) → and_then o f ≡ Ok y → Then o f y
then_ok (Ok x) f y e = record { mid = x; first = refl; last = e }
then_ok (Err g) f y e = absurd (cc)

abbrev good : {A : Type 0} → A → Shaped A
good x = Ok x

abbrev bad : {A : Type 0} → ShapeFault → Shaped A
bad e = Err e

ok_is : {A : Type 0} (x y : A) → good x ≡ good y → x ≡ y
ok_is x y e = cc

picked : {A : Type 0} (b : Bool) (o : Shaped A) (g : ShapeFault) (y : A) → cond b o (Err g) ≡ Ok y → (b ≡ true) × (o ≡ Ok y)
picked true o g y e = (refl, e)
picked false o g y e = absurd (cc)

either : {A : Type 0} (b : Bool) (o q : Shaped A) (y : A) → cond b o q ≡ Ok y → ((b ≡ true) × (o ≡ Ok y)) ⊎ (q ≡ Ok y)
either true o q y e = inl (refl, e)
either false o q y e = inr e

name_is : (text : List ℕ) (t : Tree) (n : Name) → a_name text t ≡ Ok n → IsName t n
name_is text (quoted at p) n e =
    let x : Name = record { at = at; part = p } in
    let a = picked (is_name (bytes text p)) (cond (leb p.len 31) (Ok x) (Err (Limit at))) (NoName at) n e in
    let b = picked (leb p.len 31) (Ok x) (Limit at) n a.1 in
    ap (λ (m : Name). quoted m.at m.part) (ok_is x n b.1)
name_is text (integer at v) n e = absurd (cc)
name_is text (bracket at w ts) n e = absurd (cc)

names_are : (text : List ℕ) (ts : Trees) (ns : List Name) → each (a_name text) ts ≡ Ok ns → AreNames ts ns
unfolding each
names_are text none ns e = subst (AreNames none) (ok_is [] ns e) refl
names_are text (more t ts) ns e =
    let a = then_ok (a_name text t) (λ x. and_then (each (a_name text) ts) (λ xs. Ok (x ∷ xs))) ns e in
    let b = then_ok (each (a_name text) ts) (λ xs. Ok (a.mid ∷ xs)) ns a.last in
    subst (AreNames (more t ts)) (ok_is (a.mid ∷ b.mid) ns b.last) (t, ts, refl, name_is text t a.mid a.first, names_are text ts b.mid b.first)

module _ (text : List ℕ) where
  -- a bracket with a symbol
  record Formed {A : Type 0} (word : String) (f : ℕ → Trees → Shaped A) (t : Tree) (y : A) : Type 0 where
    at : ℕ
    parts : Trees
    is : IsForm text word at parts t
    answer : f at parts ≡ Ok y

  form_is : {A : Type 0} (word : String) (f : ℕ → Trees → Shaped A) (t : Tree) (y : A) → form text word f t ≡ Ok y → Formed word f t y
  form_is word f (quoted at p) y e = absurd (cc)
  form_is word f (integer at v) y e = absurd (cc)
  form_is word f (bracket at w ts) y e = let a = picked (spells text w word) (f at ts) (misfit text (bracket at w ts)) y e in record { at = at; parts = ts; is = record { symbol = w; is = refl; spelled = a.0 }; answer = a.1 }

  no_parts_is : {A : Type 0} (at : ℕ) (ts : Trees) (o : Shaped A) (y : A) → no_parts at ts o ≡ Ok y → ts ≡ none
  no_parts_is at none o y e = refl
  no_parts_is at (more t ts) o y e = absurd (cc)

  mark_is : (t : Tree) (x : Unit {0}) → vanilla text t ≡ Ok x → (at : ℕ) × IsForm text "vanilla" at none t
  mark_is t x e =
      let a = form_is "vanilla" (λ at ts. no_parts at ts (Ok tt)) t x e in
      (a.at, subst (λ ts. IsForm text "vanilla" a.at ts t) (no_parts_is a.at a.parts (Ok tt) x a.answer) a.is)

  few : {A : Type 0} (k at : ℕ) (ts : Trees) (o : Shaped A) (y : A) → at_most k at ts o ≡ Ok y → o ≡ Ok y
  few k at ts o y e = (picked (leb (parts_count ts) k) o (Limit at) y e).1

  mutual
    unfolding term

    term_is : (t : Tree) (u : Term) → term text t ≡ Ok u → SpellsTerm text t u
    term_is (quoted at p) u e = let a = then_ok (a_name text (quoted at p)) (λ n. Ok (name at p)) u e in subst (SpellsTerm text (quoted at p)) (ok_is (name at p) u a.last) refl
    term_is (integer at v) u e = absurd (cc)
    term_is (bracket at w ts) u e =
        let o = bad {A = Term} (misfit text (bracket at w ts)) in
        elim (either (spells text w "tuple") (at_most 8 at ts (and_then (terms text ts) (λ us. Ok (tuple at us)))) (cond (spells text w "crypt") (crypt_term text at ts) (cond (spells text w "apply") (apply_term text at ts) o)) u e) [
          | inl h ↦
              let a = then_ok (terms text ts) (λ us. Ok (tuple at us)) u (few 8 at ts (and_then (terms text ts) (λ us. Ok (tuple at us))) u h.1) in
              subst (SpellsTerm text (bracket at w ts)) (ok_is (tuple at a.mid) u a.last) (ts, record { symbol = w; is = refl; spelled = h.0 }, terms_are ts a.mid a.first)
          | inr h ↦ elim (either (spells text w "crypt") (crypt_term text at ts) (cond (spells text w "apply") (apply_term text at ts) o) u h) [
            | inl k ↦ crypt_is at w ts u k.0 k.1
            | inr k ↦ let l = picked (spells text w "apply") (apply_term text at ts) (misfit text (bracket at w ts)) u k in apply_is at w ts u l.0 l.1
          ]
        ]

    terms_are : (ts : Trees) (us : Terms) → terms text ts ≡ Ok us → SpellsTerms text ts us
    terms_are none us e = subst (SpellsTerms text none) (ok_is tables.none us e) refl
    terms_are (more t ts) us e =
        let a = then_ok (term text t) (λ u. and_then (terms text ts) (λ vs. Ok (tables.more u vs))) us e in
        let b = then_ok (terms text ts) (λ vs. Ok (tables.more a.mid vs)) us a.last in
        subst (SpellsTerms text (more t ts)) (ok_is (tables.more a.mid b.mid) us b.last) (t, ts, refl, term_is t a.mid a.first, terms_are ts b.mid b.first)

    crypt_is : (at : ℕ) (w : Part) (ts : Trees) (u : Term) → spells text w "crypt" ≡ true → crypt_term text at ts ≡ Ok u → SpellsTerm text (bracket at w ts) u
    crypt_is at w none u s e = absurd (cc)
    crypt_is at w (more a none) u s e = absurd (cc)
    crypt_is at w (more a (more b none)) u s e = absurd (cc)
    crypt_is at w (more a (more b (more c none))) u s e =
        let x = then_ok (term text a) (λ x. and_then (term text b) (λ y. and_then (vanilla text c) (λ _. Ok (crypt at x y)))) u e in
        let y = then_ok (term text b) (λ y. and_then (vanilla text c) (λ _. Ok (crypt at x.mid y))) u x.last in
        let z = then_ok (vanilla text c) (λ _. Ok (crypt at x.mid y.mid)) u y.last in
        let m = mark_is c z.mid z.first in
        subst (SpellsTerm text (bracket at w (more a (more b (more c none))))) (ok_is (crypt at x.mid y.mid) u z.last)
        (a, b, c, m.0, record { symbol = w; is = refl; spelled = s }, term_is a x.mid x.first, term_is b y.mid y.first, m.1)
    crypt_is at w (more a (more b (more c (more d ts)))) u s e = absurd (cc)

    apply_is : (at : ℕ) (w : Part) (ts : Trees) (u : Term) → spells text w "apply" ≡ true → apply_term text at ts ≡ Ok u → SpellsTerm text (bracket at w ts) u
    apply_is at w none u s e = absurd (cc)
    apply_is at w (more f ts) u s e =
        let x = then_ok (a_name text f) (λ n. and_then (terms text ts) (λ us. Ok (apply at n us))) u (few 8 at ts (and_then (a_name text f) (λ n. and_then (terms text ts) (λ us. Ok (apply at n us)))) u e) in
        let y = then_ok (terms text ts) (λ us. Ok (apply at x.mid us)) u x.last in
        subst (SpellsTerm text (bracket at w (more f ts))) (ok_is (apply at x.mid y.mid) u y.last) (f, ts, record { symbol = w; is = refl; spelled = s }, name_is text f x.mid x.first, terms_are ts y.mid y.first)

  -- a shared name
  function_is : (n : Name) (secret one_way : Bool) (word : String) (outer : ℕ) (a : Tree) (t : Tree) (at : ℕ) (w v : Part) (ts : Trees) (d : Declared)
      → t ≡ bracket outer v (more a (more (bracket at w ts) none)) → spells text v "type-shared" ≡ true → IsName a n → spells text w (class_word secret one_way) ≡ true → function_of text n secret one_way at ts ≡ Ok d → SpellsDeclared text t d
  unfolding names
  function_is n secret one_way word outer a t at w v none d i o h s e = absurd (cc)
  function_is n secret one_way word outer a t at w v (more r ts) d i o h s e =
      let c : FunctionClass = record { secret = secret; one_way = one_way } in
      let x = then_ok (a_name text r) (λ result. and_then (names text ts) (λ ps. Ok (function n c result ps))) d (few 8 at ts (and_then (a_name text r) (λ result. and_then (names text ts) (λ ps. Ok (function n c result ps)))) d e) in
      let y = then_ok (names text ts) (λ ps. Ok (function n c x.mid ps)) d x.last in
      subst (SpellsDeclared text t) (ok_is (function n c x.mid y.mid) d y.last)
      (outer, at, a, bracket at w (more r ts), r, ts, record { symbol = v; is = i; spelled = o }, h, record { symbol = w; is = refl; spelled = s }, name_is text r x.mid x.first, names_so ts y.mid y.first)
    where
      names_so : (ts : Trees) (ns : List Name) → names text ts ≡ Ok ns → AreNames ts ns
      names_so ts ns e = names_are text ts ns e

  shared_is : (n : Name) (outer : ℕ) (v : Part) (a b : Tree) (d : Declared) → spells text v "type-shared" ≡ true → IsName a n → shared_as text n b ≡ Ok d → SpellsDeclared text (bracket outer v (more a (more b none))) d
  shared_is n outer v a (quoted at p) d o h e =
      let x = then_ok (a_name text (quoted at p)) (λ k. Ok (value n k true)) d e in
      subst (SpellsDeclared text (bracket outer v (more a (more (quoted at p) none)))) (ok_is (value n x.mid true) d x.last) (outer, a, quoted at p, record { symbol = v; is = refl; spelled = o }, h, name_is text (quoted at p) x.mid x.first)
  shared_is n outer v a (integer at k) d o h e = absurd (cc)
  shared_is n outer v a (bracket at w ts) d o h e =
      let q = bad {A = Declared} (misfit text (bracket at w ts)) in
      let t = bracket outer v (more a (more (bracket at w ts) none)) in
      let q1 = cond (spells text w "secret-one-way-function") (function_of text n true true at ts) q in
      let q2 = cond (spells text w "one-way-function") (function_of text n false true at ts) q1 in
      let q3 = cond (spells text w "secret-function") (function_of text n true false at ts) q2 in
      elim (either (spells text w "function") (function_of text n false false at ts) q3 d e) [
        | inl k ↦ function_is n false false "function" outer a t at w v ts d refl o h k.0 k.1
        | inr k ↦ elim (either (spells text w "secret-function") (function_of text n true false at ts) q2 d k) [
          | inl l ↦ function_is n true false "secret-function" outer a t at w v ts d refl o h l.0 l.1
          | inr l ↦ elim (either (spells text w "one-way-function") (function_of text n false true at ts) q1 d l) [
            | inl m ↦ function_is n false true "one-way-function" outer a t at w v ts d refl o h m.0 m.1
            | inr m ↦ let r = picked (spells text w "secret-one-way-function") (function_of text n true true at ts) (misfit text (bracket at w ts)) d m in function_is n true true "secret-one-way-function" outer a t at w v ts d refl o h r.0 r.1
          ]
        ]
      ]

  -- declarations
  module _ (at : ℕ) (w : Part) where
    type_is : (ts : Trees) (d : Declared) → spells text w "type" ≡ true → type_of text at ts ≡ Ok d → SpellsDeclared text (bracket at w ts) d
    type_is none d s e = absurd (cc)
    type_is (more a none) d s e = absurd (cc)
    type_is (more a (more b none)) d s e =
        let x = then_ok (a_name text a) (λ x. and_then (a_name text b) (λ y. Ok (value x y false))) d e in
        let y = then_ok (a_name text b) (λ y. Ok (value x.mid y false)) d x.last in
        subst (SpellsDeclared text (bracket at w (more a (more b none)))) (ok_is (value x.mid y.mid false) d y.last) (at, a, b, record { symbol = w; is = refl; spelled = s }, name_is text a x.mid x.first, name_is text b y.mid y.first)
    type_is (more a (more b (more c ts))) d s e = absurd (cc)

    type_shared_is : (ts : Trees) (d : Declared) → spells text w "type-shared" ≡ true → shared_of text at ts ≡ Ok d → SpellsDeclared text (bracket at w ts) d
    type_shared_is none d s e = absurd (cc)
    type_shared_is (more a none) d s e = absurd (cc)
    type_shared_is (more a (more b none)) d s e =
        let x = then_ok (a_name text a) (λ x. shared_as text x b) d e in
        shared_is x.mid at w a b d s (name_is text a x.mid x.first) x.last
    type_shared_is (more a (more b (more c ts))) d s e = absurd (cc)

    knows_is : (ts : Trees) (d : Declared) → spells text w "knows" ≡ true → knows_of text at ts ≡ Ok d → SpellsDeclared text (bracket at w ts) d
    knows_is none d s e = absurd (cc)
    knows_is (more a none) d s e = absurd (cc)
    knows_is (more a (more b none)) d s e =
        let x = then_ok (a_name text a) (λ x. and_then (term text b) (λ u. Ok (knows x u))) d e in
        let y = then_ok (term text b) (λ u. Ok (knows x.mid u)) d x.last in
        subst (SpellsDeclared text (bracket at w (more a (more b none)))) (ok_is (knows x.mid y.mid) d y.last) (at, a, b, record { symbol = w; is = refl; spelled = s }, name_is text a x.mid x.first, term_is b y.mid y.first)
    knows_is (more a (more b (more c ts))) d s e = absurd (cc)

    everybody_is : (ts : Trees) (d : Declared) → spells text w "everybody-knows" ≡ true → everybody_of text at ts ≡ Ok d → SpellsDeclared text (bracket at w ts) d
    everybody_is none d s e = absurd (cc)
    everybody_is (more a none) d s e =
        let x = then_ok (term text a) (λ u. Ok (everybody u)) d e in
        subst (SpellsDeclared text (bracket at w (more a none))) (ok_is (everybody x.mid) d x.last) (at, a, record { symbol = w; is = refl; spelled = s }, term_is a x.mid x.first)
    everybody_is (more a (more b ts)) d s e = absurd (cc)

    comm_is : (ts : Trees) (l : Lined) → spells text w "comm" ≡ true → comm_of text at ts ≡ Ok l → SpellsLine text (bracket at w ts) l
    comm_is none l s e = absurd (cc)
    comm_is (more a none) l s e = absurd (cc)
    comm_is (more a (more b none)) l s e = absurd (cc)
    comm_is (more a (more b (more c none))) l s e = absurd (cc)
    comm_is (more a (more b (more c (more d none)))) l s e =
        let x = then_ok (label text a) _ l e in
        let y = then_ok (a_name text b) _ l x.last in
        let z = then_ok (a_name text c) _ l y.last in
        let m = then_ok (term text d) _ l z.last in
        let line : Lined = record { label = x.mid; sender = y.mid; receiver = z.mid; message = m.mid } in
        subst (SpellsLine text (bracket at w (more a (more b (more c (more d none)))))) (ok_is line l m.last)
        (at, a, b, c, d, record { symbol = w; is = refl; spelled = s }, label_is a x.mid x.first, name_is text b y.mid y.first, name_is text c z.mid z.first, term_is d m.mid m.first)
      where
        label_is : (t : Tree) (b : Label) → label text t ≡ Ok b → IsLabel t b
        label_is (quoted at p) b e =
            let x = then_ok (a_name text (quoted at p)) (λ n. Ok (labels.Name n)) b e in
            subst (IsLabel (quoted at p)) (ok_is (labels.Name x.mid) b x.last) (name_is text (quoted at p) x.mid x.first)
        label_is (integer at v) b e = subst (IsLabel (integer at v)) (ok_is (labels.Number at v) b e) refl
        label_is (bracket at w ts) b e = absurd (cc)
    comm_is (more a (more b (more c (more d (more f ts))))) l s e = absurd (cc)

  declared_is : (t : Tree) (d : Declared) → declaration text t ≡ Ok d → SpellsDeclared text t d
  declared_is (quoted at p) d e = absurd (cc)
  declared_is (integer at v) d e = absurd (cc)
  declared_is (bracket at w ts) d e =
      let q = bad {A = Declared} (misfit text (bracket at w ts)) in
      let q1 = cond (spells text w "everybody-knows") (everybody_of text at ts) q in
      let q2 = cond (spells text w "knows") (knows_of text at ts) q1 in
      let q3 = cond (spells text w "type-shared") (shared_of text at ts) q2 in
      elim (either (spells text w "type") (type_of text at ts) q3 d e) [
        | inl k ↦ type_is at w ts d k.0 k.1
        | inr k ↦ elim (either (spells text w "type-shared") (shared_of text at ts) q2 d k) [
          | inl l ↦ type_shared_is at w ts d l.0 l.1
          | inr l ↦ elim (either (spells text w "knows") (knows_of text at ts) q1 d l) [
            | inl m ↦ knows_is at w ts d m.0 m.1
            | inr m ↦ let r = picked (spells text w "everybody-knows") (everybody_of text at ts) (misfit text (bracket at w ts)) d m in everybody_is at w ts d r.0 r.1
          ]
        ]
      ]

  line_is : (t : Tree) (l : Lined) → line text t ≡ Ok l → SpellsLine text t l
  line_is (quoted at p) l e = absurd (cc)
  line_is (integer at v) l e = absurd (cc)
  line_is (bracket at w ts) l e =
      let q = cond (spells text w "block") (bad {A = Lined} (NotCarried at)) (Err (misfit text (bracket at w ts))) in
      elim (either (spells text w "comm") (comm_of text at ts) q l e) [
        | inl k ↦ comm_is at w ts l k.0 k.1
        | inr k ↦ elim (either (spells text w "block") (bad {A = Lined} (NotCarried at)) (Err (misfit text (bracket at w ts))) l k) [
          | inl m ↦ let z = m.1 in absurd (cc)
          | inr m ↦ absurd (cc)
        ]
      ]

  all_declared : (ts : Trees) (ds : List Declared) → each (declaration text) ts ≡ Ok ds → SpellsAll text ts ds
  unfolding each
  all_declared none ds e = subst (SpellsAll text none) (ok_is [] ds e) refl
  all_declared (more t ts) ds e =
      let a = then_ok (declaration text t) (λ x. and_then (each (declaration text) ts) (λ xs. Ok (x ∷ xs))) ds e in
      let b = then_ok (each (declaration text) ts) (λ xs. Ok (a.mid ∷ xs)) ds a.last in
      subst (SpellsAll text (more t ts)) (ok_is (a.mid ∷ b.mid) ds b.last) (t, ts, refl, declared_is t a.mid a.first, all_declared ts b.mid b.first)

  all_lined : (ts : Trees) (ls : List Lined) → each (line text) ts ≡ Ok ls → SpellsLines text ts ls
  unfolding each
  all_lined none ls e = subst (SpellsLines text none) (ok_is [] ls e) refl
  all_lined (more t ts) ls e =
      let a = then_ok (line text t) (λ x. and_then (each (line text) ts) (λ xs. Ok (x ∷ xs))) ls e in
      let b = then_ok (each (line text) ts) (λ xs. Ok (a.mid ∷ xs)) ls a.last in
      subst (SpellsLines text (more t ts)) (ok_is (a.mid ∷ b.mid) ls b.last) (t, ts, refl, line_is t a.mid a.first, all_lined ts b.mid b.first)

  section_is : (word : String) (t : Tree) (x : Unit {0}) → section text word t ≡ Ok x → (at : ℕ) × IsForm text word at none t
  section_is word t x e =
      let a = form_is word (λ at ts. empty text ts) t x e in
      (a.at, subst (λ ts. IsForm text word a.at ts t) (empty_is a.parts a.answer) a.is)
    where
      empty_is : (ts : Trees) → empty text ts ≡ Ok x → ts ≡ none
      empty_is none e = refl
      empty_is (more t ts) e = absurd (cc)

  five_is : (at : ℕ) (w : Part) (ts : Trees) (X : Specification) → spells text w "spec" ≡ true → five_parts at ts (specification text) ≡ Ok X → Spells text (bracket at w ts) X
  unfolding specification declarations lines
  five_is at w none X s e = absurd (cc)
  five_is at w (more d none) X s e = absurd (cc)
  five_is at w (more d (more b none)) X s e = absurd (cc)
  five_is at w (more d (more b (more n none))) X s e = absurd (cc)
  five_is at w (more d (more b (more n (more a none)))) X s e = absurd (cc)
  five_is at w (more d (more b (more n (more a (more c none))))) X s e =
      let x = then_ok (declare text d) _ X e in
      let y = then_ok (block text b) _ X x.last in
      let p = then_ok (section text "sessions" n) _ X y.last in
      let q = then_ok (section text "assume" a) _ X p.last in
      let r = then_ok (section text "claim" c) _ X q.last in
      let whole : Specification = record { declarations = x.mid; lines = y.mid } in
      let i = form_is "declare" (λ at ts. declarations text ts) d x.mid x.first in
      let j = form_is "block" (λ at ts. at_most 64 at ts (lines text ts)) b y.mid y.first in
      let k = section_is "sessions" n p.mid p.first in
      let l = section_is "assume" a q.mid q.first in
      let m = section_is "claim" c r.mid r.first in
      subst (Spells text (bracket at w (more d (more b (more n (more a (more c none))))))) (ok_is whole X r.last)
      (record {
        at = at;
        declare = d;
        block = b;
        sessions = n;
        assume = a;
        claim = c;
        declared_at = i.at;
        block_at = j.at;
        sessions_at = k.0;
        assume_at = l.0;
        claim_at = m.0;
        declarations = i.parts;
        lines = j.parts;
        whole = record { symbol = w; is = refl; spelled = s };
        declare_is = i.is;
        declares = all_declared i.parts x.mid i.answer;
        block_is = j.is;
        lined = all_lined j.parts y.mid (few 64 j.at j.parts (each (line text) j.parts) y.mid j.answer);
        sessions_is = k.1;
        assume_is = l.1;
        claim_is = m.1;
      })
  five_is at w (more d (more b (more n (more a (more c (more f ts)))))) X s e = absurd (cc)

  pub spelled_so : (t : Tree) (X : Specification) → shape text t ≡ Ok X → Spells text t X
  spelled_so (quoted at p) X e = absurd (cc)
  spelled_so (integer at v) X e = absurd (cc)
  spelled_so (bracket at w ts) X e = let a = picked (spells text w "spec") (five_parts at ts (specification text)) (misfit text (bracket at w ts)) X e in five_is at w ts X a.0 a.1
