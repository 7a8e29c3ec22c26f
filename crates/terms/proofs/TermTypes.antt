-- The check of types decides the rules, and answers what is first wrong.
use Rattle.std.proofs.Common.{◌≡◌, ◌==◌, ℕ, zero, suc, ◌<◌, Bool, true, false, cond, List, [], ◌∷◌, ◌++◌, length, get_or, Some, None, Ok, Err, Option, Result, sym, refl, ap, ap₂, ◌∙◌, subst, arith}
use Rattle.std.specs.Prelude.{slice_get}
use Rattle.std.proofs.lemmas.List.{length-map}
use Rattle.std.proofs.lemmas.Bool.{eqb-true, eq-eqb, ne_eqb}
use Rattle.model.specs.Lists.{Every}
use Rattle.syntax.specs.declared.spec.Name.{Name}
use Rattle.syntax.specs.Specs.{Term, name, tuple, crypt, apply, Terms, none, more, count}
use Rattle.terms.specs.declared.declarations.Declarations.{Declarations}
use Rattle.terms.specs.declared.declarations.Meaning.{Meaning}
use Rattle.terms.specs.declared.declarations.Meaning.TheVariants as meaning
use Rattle.terms.specs.declared.declarations.ValueType.{ValueType}
use Rattle.terms.specs.declared.declarations.ValueType.TheVariants.{Number, Principal}
use Rattle.terms.specs.declared.fault.TermFault.{TermFault}
use Rattle.terms.specs.declared.fault.TermFault.TheVariants.{Undeclared, WrongType}
use Rattle.terms.proofs.Checking.{function_within}
use Rattle.terms.proofs.Terming.{then_ok, first_ok}
use Rattle.terms.specs.Consistency.{Defined}
use Rattle.terms.specs.Meanings.{functions_of, types_of, signature_in, scope_of}
use Rattle.terms.specs.Scope.{Scope, Signature, no_function, meaning_of}
use Rattle.terms.specs.Typing.{and_then, stands_for, fits, name_fits, applied, applied_fits, typed, typed_all}
use Rattle.terms.specs.TermTypes as rules
use Rattle.terms.specs.TermTypes.{StandsFor, same, party, Applies, HasType, Numbers, HaveTypes, Wrong, Node, parameters_of, nodes, nodes_all, Sound, FirstWrong, TypingLaw}

abbrev Answer : Type 0
Answer = Result (Unit {0}) TermFault

abbrev fine : Answer
fine = Ok tt

-- what a node alone gives, its parts aside
module _ (text : List ℕ) (S : Scope) where
  abbrev apply_alone : ℕ → ℕ → ValueType → Name → Option Meaning → Answer
  apply_alone at n w f m = applied_fits at n w (applied S.functions f m) (λ ws. Ok tt)

  abbrev alone : Term → ValueType → Answer
  alone (name at p) w = name_fits at (meaning_of text S.names p) w
  alone (tuple at ts) w = fits at Number w
  alone (crypt at t k) w = fits at Number w
  alone (apply at f ts) w = apply_alone at (count ts) w f (meaning_of text S.names f.part)

  -- the first fault of some nodes
  abbrev first : List Node → Answer
  first [] = Ok tt
  first (n ∷ ns) = and_then (alone n.term n.wanted) (first ns)

then_assoc : (a b c : Answer) → and_then (and_then a b) c ≡ and_then a (and_then b c)
then_assoc (Ok x) b c = refl
then_assoc (Err f) b c = refl

then_nothing : (a : Answer) → and_then a (Ok tt) ≡ a
then_nothing (Ok tt) = refl
then_nothing (Err f) = refl

first_join : (text : List ℕ) (S : Scope) (xs ys : List Node) → first text S (xs ++ ys) ≡ and_then (first text S xs) (first text S ys)
first_join text S [] ys = refl
first_join text S (x ∷ xs) ys =
    ap (and_then (alone text S x.term x.wanted)) (first_join text S xs ys) ∙ sym (then_assoc (alone text S x.term x.wanted) (first text S xs) (first text S ys))

-- a function by its number
there : {X : Type 0} (xs : List X) (i : ℕ) (d : X) → i < length xs → slice_get xs i ≡ Some (get_or xs i d)
there [] i d h = absurd (omega arith)
there (x ∷ xs) zero d h = refl
there (x ∷ xs) (suc i) d h = there xs i d (omega arith)

got : {X : Type 0} (xs : List X) (i : ℕ) (d x : X) → slice_get xs i ≡ Some x → get_or xs i d ≡ x
got [] i d x e = absurd (cc)
got (y ∷ xs) zero d x e = cc
got (y ∷ xs) (suc i) d x e = got xs i d x e

-- types that fit
fit : (a w : ValueType) → StandsFor a w → stands_for a w ≡ true
fit Number Number s = refl
fit Principal Principal s = refl
fit Principal Number s = refl
fit Number Principal s = absurd (unfit s)
  where
    unfit : StandsFor Number Principal → ⊥
    unfit s = elim s [ ]

fit_from : (a w : ValueType) → stands_for a w ≡ true → StandsFor a w
fit_from Number Number e = same
fit_from Principal Principal e = same
fit_from Principal Number e = party
fit_from Number Principal e = absurd (cc)

fits_ok : (at : ℕ) (a w : ValueType) → StandsFor a w → fits at a w ≡ Ok tt
fits_ok at a w s = ap (λ b. cond b (Ok tt) (Err (WrongType at))) (fit a w s)

fits_from : (at : ℕ) (a w : ValueType) → fits at a w ≡ Ok tt → StandsFor a w
fits_from at Number Number e = same
fits_from at Principal Principal e = same
fits_from at Principal Number e = party
fits_from at Number Principal e = absurd (cc)

module _ (text : List ℕ) (S : Scope) (d : Defined S.names (length S.functions)) where
  -- the function that a name stands for
  applies : (f : Name) (g : ℕ) → meaning_of text S.names f.part ≡ Some (meaning.Function g) → Applies text S f (get_or S.functions g no_function)
  applies f g e = record { number = g; stands = e; is = there S.functions g no_function (function_within text S.names (length S.functions) d f.part g e) }

  parameters_are : (f : Name) (g : ℕ) → meaning_of text S.names f.part ≡ Some (meaning.Function g) → parameters_of text S (Some (meaning.Function g)) ≡ (get_or S.functions g no_function).parameters
  parameters_are f g e = ap (rules.parameters_from text S) (there S.functions g no_function (function_within text S.names (length S.functions) d f.part g e))

  applied_is : (f : Name) (s : Signature) → Applies text S f s → applied S.functions f (meaning_of text S.names f.part) ≡ Ok s
  applied_is f s a = ap (applied S.functions f) a.stands ∙ ap Ok (got S.functions a.number no_function s a.is)

  -- a node alone is at fault exactly if something is wrong with it
  wrong_alone : (t : Term) (w : ValueType) (f : TermFault) → Wrong text S t w f → alone text S t w ≡ Err f
  wrong_alone (name at p) w f (rules.undeclared e) = ap (λ m. name_fits at m w) e
  wrong_alone (name at p) w f (rules.function_as_term e) = ap (λ m. name_fits at m w) e
  wrong_alone (name at p) w f (rules.no_principal e) = ap (λ m. name_fits at m Principal) e
  wrong_alone (tuple at ts) w f rules.tuple_as_principal = refl
  wrong_alone (crypt at t k) w f rules.crypt_as_principal = refl
  wrong_alone (apply at g ts) w f (rules.unknown_function e) = ap (apply_alone text S at (count ts) w g) e
  wrong_alone (apply at g ts) w f (rules.no_function e) = ap (apply_alone text S at (count ts) w g) e
  wrong_alone (apply at g ts) w f (rules.wrong_count {s = s} a n) =
      ap (λ r. applied_fits at (count ts) w r (λ ws. Ok tt)) (applied_is g s a)
      ∙ ap (λ b. cond b (and_then (fits at s.result w) (Ok tt)) (Err (WrongType at))) (ne_eqb (count ts) (length s.parameters) n)
  wrong_alone (apply at g ts) w f (rules.wrong_result {s = s} a e) =
      ap (λ r. applied_fits at (count ts) Principal r (λ ws. Ok tt)) (applied_is g s a)
      ∙ ap (λ k. cond (count ts == length s.parameters) (and_then (fits at k Principal) (Ok tt)) (Err (WrongType at))) e
      ∙ either (count ts == length s.parameters)
    where
      either : (b : Bool) → cond b (and_then (fits at Number Principal) fine) (Err (WrongType at)) ≡ Err (WrongType at)
      either true = refl
      either false = refl

  alone_wrong : (t : Term) (w : ValueType) (f : TermFault) → alone text S t w ≡ Err f → Wrong text S t w f
  alone_wrong (name at p) w f e = go (meaning_of text S.names p) refl w e
    where
      go : (m : Option Meaning) → meaning_of text S.names p ≡ m → (w : ValueType) → name_fits at m w ≡ Err f → Wrong text S (name at p) w f
      go None q w e = let x : Undeclared at ≡ f = cc in subst (Wrong text S (name at p) w) x (rules.undeclared q)
      go (Some (meaning.Function g)) q w e = let x : WrongType at ≡ f = cc in subst (Wrong text S (name at p) w) x (rules.function_as_term q)
      go (Some (meaning.Value Number shared)) q Principal e = let x : WrongType at ≡ f = cc in subst (Wrong text S (name at p) Principal) x (rules.no_principal q)
      go (Some (meaning.Value Number shared)) q Number e = absurd (cc)
      go (Some (meaning.Value Principal shared)) q Number e = absurd (cc)
      go (Some (meaning.Value Principal shared)) q Principal e = absurd (cc)
  alone_wrong (tuple at ts) Principal f e = let x : WrongType at ≡ f = cc in subst (Wrong text S (tuple at ts) Principal) x rules.tuple_as_principal
  alone_wrong (tuple at ts) Number f e = absurd (cc)
  alone_wrong (crypt at t k) Principal f e = let x : WrongType at ≡ f = cc in subst (Wrong text S (crypt at t k) Principal) x rules.crypt_as_principal
  alone_wrong (crypt at t k) Number f e = absurd (cc)
  alone_wrong (apply at g ts) w f e = go (meaning_of text S.names g.part) refl e
    where
      go : (m : Option Meaning) → meaning_of text S.names g.part ≡ m → apply_alone text S at (count ts) w g m ≡ Err f → Wrong text S (apply at g ts) w f
      go None q e = let x : Undeclared g.at ≡ f = cc in subst (Wrong text S (apply at g ts) w) x (rules.unknown_function q)
      go (Some (meaning.Value kind shared)) q e = let x : WrongType g.at ≡ f = cc in subst (Wrong text S (apply at g ts) w) x (rules.no_function q)
      go (Some (meaning.Function n)) q e = by (get_or S.functions n no_function) (applies g n q) (count ts == length (get_or S.functions n no_function).parameters) refl w e
        where
          by : (s : Signature) → Applies text S g s → (b : Bool) → (count ts == length s.parameters) ≡ b → (w : ValueType) → cond b (and_then (fits at s.result w) fine) (Err (WrongType at)) ≡ Err f → Wrong text S (apply at g ts) w f
          by s a false c w e = let x : WrongType at ≡ f = cc in subst (Wrong text S (apply at g ts) w) x (rules.wrong_count a (λ n. eqb_not (count ts) (length s.parameters) n c))
            where
              eqb_not : (m n : ℕ) → m ≡ n → (m == n) ≡ false → ⊥
              eqb_not m n h k = let y = eq-eqb m n h in cc
          by s a true c w e = result s.result refl w e
            where
              result : (r : ValueType) → s.result ≡ r → (w : ValueType) → and_then (fits at r w) fine ≡ Err f → Wrong text S (apply at g ts) w f
              result Number h Principal e = let x : WrongType at ≡ f = cc in subst (Wrong text S (apply at g ts) Principal) x (rules.wrong_result a h)
              result Number h Number e = absurd (cc)
              result Principal h Number e = absurd (cc)
              result Principal h Principal e = absurd (cc)

  -- the check of a term is the first fault of its nodes
  mutual
    walked : (t : Term) (w : ValueType) → typed text S t w ≡ first text S (nodes text S t w)
    walked (name at p) w = sym (then_nothing (name_fits at (meaning_of text S.names p) w))
    walked (tuple at ts) w = ap (and_then (fits at Number w)) (walked_all ts [])
    walked (crypt at t k) w = ap (and_then (fits at Number w)) (ap₂ and_then (walked t Number) (walked k Number) ∙ sym (first_join text S (nodes text S t Number) (nodes text S k Number)))
    walked (apply at f ts) w = go (walked_all ts) (meaning_of text S.names f.part) refl
      where
        go : ((ws : List ValueType) → typed_all text S ts ws ≡ first text S (nodes_all text S ts ws)) → (m : Option Meaning) → meaning_of text S.names f.part ≡ m → applied_fits at (count ts) w (applied S.functions f m) (typed_all text S ts) ≡ and_then (apply_alone text S at (count ts) w f m) (first text S (nodes_all text S ts (parameters_of text S m)))
        go all None q = refl
        go all (Some (meaning.Value kind shared)) q = refl
        go all (Some (meaning.Function g)) q =
            let s = get_or S.functions g no_function in
            by (count ts == length s.parameters) (typed_all text S ts s.parameters) (all s.parameters)
            ∙ ap (λ ws. and_then (apply_alone text S at (count ts) w f (Some (meaning.Function g))) (first text S (nodes_all text S ts ws))) (sym (parameters_are f g q))
          where
            by : (b : Bool) (r : Answer) → r ≡ first text S (nodes_all text S ts (get_or S.functions g no_function).parameters)
                → cond b (and_then (fits at (get_or S.functions g no_function).result w) r) (Err (WrongType at))
                ≡ and_then (cond b (and_then (fits at (get_or S.functions g no_function).result w) fine) (Err (WrongType at))) (first text S (nodes_all text S ts (get_or S.functions g no_function).parameters))
            by true r e = ap (and_then (fits at (get_or S.functions g no_function).result w)) e ∙ sym (ap (λ a. and_then a (first text S (nodes_all text S ts (get_or S.functions g no_function).parameters))) (then_nothing (fits at (get_or S.functions g no_function).result w)))
            by false r e = refl

    walked_all : (ts : Terms) (ws : List ValueType) → typed_all text S ts ws ≡ first text S (nodes_all text S ts ws)
    walked_all none ws = refl
    walked_all (more t ts) [] = ap₂ and_then (walked t Number) (walked_all ts []) ∙ sym (first_join text S (nodes text S t Number) (nodes_all text S ts []))
    walked_all (more t ts) (w ∷ ws) = ap₂ and_then (walked t w) (walked_all ts ws) ∙ sym (first_join text S (nodes text S t w) (nodes_all text S ts ws))

  -- the first fault of some nodes is the first thing that is wrong
  first_wrong : (ns : List Node) (f : TermFault) → first text S ns ≡ Err f → FirstWrong text S ns f
  first_wrong [] f e = absurd (cc)
  first_wrong (n ∷ ns) f e = go (first_wrong ns f) (alone text S n.term n.wanted) refl e
    where
      go : (first text S ns ≡ Err f → FirstWrong text S ns f) → (a : Answer) → alone text S n.term n.wanted ≡ a → and_then a (first text S ns) ≡ Err f → FirstWrong text S (n ∷ ns) f
      go later (Err g) q e = record { before = []; node = n; after = ns; all = refl; sound = tt; wrong = alone_wrong n.term n.wanted f (q ∙ e) }
      go later (Ok x) q e =
          let r = later e in
          record { before = n ∷ r.before; node = r.node; after = r.after; all = ap (λ l. n ∷ l) r.all; sound = (λ g h. absurd (let z = sym q ∙ wrong_alone n.term n.wanted g h in cc), r.sound); wrong = r.wrong }

  sound_fine : (n : Node) → Sound text S n → alone text S n.term n.wanted ≡ Ok tt
  sound_fine n s = go (alone text S n.term n.wanted) refl
    where
      go : (a : Answer) → alone text S n.term n.wanted ≡ a → a ≡ fine
      go (Ok tt) q = refl
      go (Err g) q = absurd (s g (alone_wrong n.term n.wanted g q))

  wrong_first : (before : List Node) (n : Node) (after : List Node) (f : TermFault) → Every (Sound text S) before → Wrong text S n.term n.wanted f → first text S (before ++ (n ∷ after)) ≡ Err f
  wrong_first [] n after f s w = ap (λ a. and_then a (first text S after)) (wrong_alone n.term n.wanted f w)
  wrong_first (x ∷ before) n after f s w = ap (λ a. and_then a (first text S (before ++ (n ∷ after)))) (sound_fine x s.0) ∙ wrong_first before n after f s.1 w

  -- the types are good exactly if the rules give the type
  mutual
    ruled : (t : Term) (w : ValueType) → typed text S t w ≡ Ok tt → HasType text S t w
    ruled (name at p) w e = go (meaning_of text S.names p) refl e
      where
        go : (m : Option Meaning) → meaning_of text S.names p ≡ m → name_fits at m w ≡ Ok tt → HasType text S (name at p) w
        go None q e = absurd (cc)
        go (Some (meaning.Function g)) q e = absurd (cc)
        go (Some (meaning.Value kind shared)) q e = rules.named q (fits_from at kind w e)
    ruled (tuple at ts) Number e = rules.tupled (ruled_numbers ts (then_ok (fits at Number Number) (typed_all text S ts []) e))
    ruled (tuple at ts) Principal e = absurd (cc)
    ruled (crypt at t k) Number e =
        let b = then_ok (fits at Number Number) (and_then (typed text S t Number) (typed text S k Number)) e in
        rules.crypted (ruled t Number (first_ok (typed text S t Number) (typed text S k Number) b)) (ruled k Number (then_ok (typed text S t Number) (typed text S k Number) b))
    ruled (crypt at t k) Principal e = absurd (cc)
    ruled (apply at f ts) w e = go (ruled_types ts) (meaning_of text S.names f.part) refl e
      where
        go : ((ws : List ValueType) → count ts ≡ length ws → typed_all text S ts ws ≡ Ok tt → HaveTypes text S ts ws) → (m : Option Meaning) → meaning_of text S.names f.part ≡ m → applied_fits at (count ts) w (applied S.functions f m) (typed_all text S ts) ≡ Ok tt → HasType text S (apply at f ts) w
        go all None q e = absurd (cc)
        go all (Some (meaning.Value kind shared)) q e = absurd (cc)
        go all (Some (meaning.Function g)) q e = by (get_or S.functions g no_function) (applies f g q) (count ts == length (get_or S.functions g no_function).parameters) refl e
          where
            by : (s : Signature) → Applies text S f s → (b : Bool) → (count ts == length s.parameters) ≡ b → cond b (and_then (fits at s.result w) (typed_all text S ts s.parameters)) (Err (WrongType at)) ≡ Ok tt → HasType text S (apply at f ts) w
            by s a false c e = absurd (cc)
            by s a true c e =
                rules.applied a (all s.parameters (eqb-true (count ts) (length s.parameters) c) (then_ok (fits at s.result w) (typed_all text S ts s.parameters) e))
                (fits_from at s.result w (first_ok (fits at s.result w) (typed_all text S ts s.parameters) e))

    ruled_numbers : (ts : Terms) → typed_all text S ts [] ≡ Ok tt → Numbers text S ts
    ruled_numbers none e = rules.no_number
    ruled_numbers (more t ts) e = rules.one_number (ruled t Number (first_ok (typed text S t Number) (typed_all text S ts []) e)) (ruled_numbers ts (then_ok (typed text S t Number) (typed_all text S ts []) e))

    ruled_types : (ts : Terms) (ws : List ValueType) → count ts ≡ length ws → typed_all text S ts ws ≡ Ok tt → HaveTypes text S ts ws
    ruled_types none [] c e = rules.no_typed
    ruled_types none (w ∷ ws) c e = absurd (omega arith)
    ruled_types (more t ts) [] c e = absurd (omega arith)
    ruled_types (more t ts) (w ∷ ws) c e = rules.one_typed (ruled t w (first_ok (typed text S t w) (typed_all text S ts ws) e)) (ruled_types ts ws (omega arith) (then_ok (typed text S t w) (typed_all text S ts ws) e))

  mutual
    good_term : (t : Term) (w : ValueType) → HasType text S t w → typed text S t w ≡ Ok tt
    good_term (name at p) w (rules.named {kind = kind} e s) = ap (λ m. name_fits at m w) e ∙ fits_ok at kind w s
    good_term (tuple at ts) w (rules.tupled h) = good_numbers ts h
    good_term (crypt at t k) w (rules.crypted h l) = ap₂ and_then (good_term t Number h) (good_term k Number l)
    good_term (apply at f ts) w (rules.applied {s = s} a h l) =
        let c = good_types ts s.parameters h in
        ap (λ r. applied_fits at (count ts) w r (typed_all text S ts)) (applied_is f s a)
        ∙ ap (λ b. cond b (and_then (fits at s.result w) (typed_all text S ts s.parameters)) (Err (WrongType at))) (eq-eqb (count ts) (length s.parameters) c.0)
        ∙ ap₂ and_then (fits_ok at s.result w l) c.1

    good_numbers : (ts : Terms) → Numbers text S ts → typed_all text S ts [] ≡ Ok tt
    good_numbers none rules.no_number = refl
    good_numbers (more t ts) (rules.one_number h l) = ap₂ and_then (good_term t Number h) (good_numbers ts l)

    good_types : (ts : Terms) (ws : List ValueType) → HaveTypes text S ts ws → (count ts ≡ length ws) × (typed_all text S ts ws ≡ Ok tt)
    good_types none [] rules.no_typed = (refl, refl)
    good_types none (w ∷ ws) h = elim h [ ]
    good_types (more t ts) [] h = elim h [ ]
    good_types (more t ts) (w ∷ ws) (rules.one_typed h l) = let r = good_types ts ws l in (ap suc r.0, ap₂ and_then (good_term t w h) r.1)

  pub typing_law : TypingLaw text S
  typing_law = record {
    good = λ t w. (ruled t w, good_term t w);
    faulty = λ t w f. (
      (λ e. first_wrong (nodes text S t w) f (sym (walked t w) ∙ e)),
      (λ r. walked t w ∙ ap (first text S) r.all ∙ wrong_first r.before r.node r.after f r.sound r.wrong),
    );
  }

-- so it is in what is declared
pub typing_law_of : (text : List ℕ) (d : Declarations) → TypingLaw text (scope_of d)
typing_law_of text d =
    let n = length-map (functions_of d) (signature_in (types_of d)) in
    let k = d.functions.ok.0 in
    typing_law text (scope_of d) (λ i f x h e. let l = d.defined i f x h e in omega arith)
