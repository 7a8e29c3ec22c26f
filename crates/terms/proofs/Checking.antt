-- The function that is applied, and its arguments.
use Rattle.std.proofs.Common.{◌≡◌, ◌==◌, ℕ, suc, ◌<◌, cond, List, [], ◌∷◌, map, length, get_or, Some, None, Ok, Err, Option, vec_items, vec_len, refl, ap, ◌∙◌, sym, arith}
use Rattle.std.specs.Borrow.{Bor}
use Rattle.std.specs.Prelude.{option_map}
use Rattle.std.specs.List.{find}
use Rattle.std.specs.Option.{ok_or, option_copied}
use Rattle.std.specs.Slice.{IsItemAt}
use Rattle.std.proofs.lemmas.List.{get_or-map}
use Rattle.std.proofs.lemmas.Bool.{eq-eqb, ne_eqb}
use Rattle.syntax.specs.declared.spec.Name.{Name}
use Rattle.syntax.specs.declared.spec.Term.{Term as TermValue}
use Rattle.syntax.specs.Specs.{apply, count}
use Rattle.syntax.specs.Views.{terms_of}
use Rattle.terms.specs.declared.declarations.Declarations.{Declarations}
use Rattle.terms.specs.declared.declarations.Declared.{Declared}
use Rattle.terms.specs.declared.declarations.Function.{Function}
use Rattle.terms.specs.declared.declarations.Meaning.TheVariants as meaning
use Rattle.terms.specs.declared.declarations.ValueType.{ValueType}
use Rattle.terms.specs.declared.fault.TermFault.TheVariants.{WrongType}
use Rattle.text.specs.declared.part.Part.{Part}
use Rattle.terms.specs.Consistency.{Defined}
use Rattle.terms.specs.Scope.{Scope, Signature, no_function, declares, meaning_of}
use Rattle.terms.specs.Typing.{and_then, fits, applied, applied_fits, typed, typed_all}
use Rattle.terms.specs.Meanings.{types_of, signature_in, scope_of}
use Rattle.terms.specs.Checked.{found}
use Rattle.terms.proofs.Naming.{found_place}

-- a function by its number
function_at : (d : Declarations) (fs : List Function) (g at : ℕ) → g < length fs → (o : Option (Bor Function)) → IsItemAt fs g o → found d (ok_or (option_copied o) (WrongType at)) ≡ Ok (get_or (map (signature_in (types_of d)) fs) g no_function)
function_at d fs g at h None i = absurd (let z = i.2 h in cc)
function_at d fs g at h (Some f) i = ap Ok (ap (signature_in (types_of d)) i.1 ∙ sym (get_or-map (signature_in (types_of d)) fs g f.now no_function h))

-- a function's name stands for one of the functions
pub function_within : (text : List ℕ) (names : List Declared) (many : ℕ) → Defined names many → (p : Part) (g : ℕ) → meaning_of text names p ≡ Some (meaning.Function g) → g < many
function_within text names many m p g e = go (find (declares text p) names) refl e
  where
    go : (o : Option Declared) → find (declares text p) names ≡ o → option_map (λ (x : Declared). x.meaning) o ≡ Some (meaning.Function g) → g < many
    go None q e = absurd (cc)
    go (Some x) q e = let a = found_place (declares text p) names x q in m a.0 g x a.1 (ap (λ (x : Declared). x.meaning) a.2 ∙ cc)

module _ (text : List ℕ) (d : Declarations) (n : Name) (g : ℕ) (e : meaning_of text (vec_items d.names) n.part ≡ Some (meaning.Function g)) where
  pub function_found : (fs : List Function) → fs ≡ vec_items d.functions → (o : Option (Bor Function)) → IsItemAt fs g o → found d (ok_or (option_copied o) (WrongType n.at)) ≡ applied (scope_of d).functions n (meaning_of text (scope_of d).names n.part)
  function_found fs q o i =
      let h : g < length fs = let l = ap length q in let w = function_within text (vec_items d.names) (vec_len d.functions) d.defined n.part g e in let k = d.functions.ok.0 in omega arith in
      function_at d fs g n.at h o i ∙ ap (λ fs. Ok (get_or (map (signature_in (types_of d)) fs) g no_function)) q ∙ ap (applied (scope_of d).functions n) (sym e)

pub count-terms : (ts : List TermValue) → count (terms_of ts) ≡ length ts
count-terms [] = refl
count-terms (t ∷ ts) = ap suc (count-terms ts)

-- an application, by its function and the count of its arguments
module _ (text : List ℕ) (S : Scope) (at : ℕ) (f : Name) (ts : List TermValue) (w : ValueType) (s : Signature) (e : Ok s ≡ applied S.functions f (meaning_of text S.names f.part)) where
  by_count : typed text S (apply at f (terms_of ts)) w ≡ cond (length ts == length s.parameters) (and_then (fits at s.result w) (typed_all text S (terms_of ts) s.parameters)) (Err (WrongType at))
  by_count =
      ap (λ z. applied_fits at (count (terms_of ts)) w z (typed_all text S (terms_of ts))) (sym e)
      ∙ ap (λ n. cond (n == length s.parameters) (and_then (fits at s.result w) (typed_all text S (terms_of ts) s.parameters)) (Err (WrongType at))) (count-terms ts)

  pub miscounted : (length ts ≡ length s.parameters → ⊥) → Err (WrongType at) ≡ typed text S (apply at f (terms_of ts)) w
  miscounted h = sym (by_count ∙ ap (λ b. cond b (and_then (fits at s.result w) (typed_all text S (terms_of ts) s.parameters)) (Err (WrongType at))) (ne_eqb (length ts) (length s.parameters) h))

  pub counted : length ts ≡ length s.parameters → typed text S (apply at f (terms_of ts)) w ≡ and_then (fits at s.result w) (typed_all text S (terms_of ts) s.parameters)
  counted h = by_count ∙ ap (λ b. cond b (and_then (fits at s.result w) (typed_all text S (terms_of ts) s.parameters)) (Err (WrongType at))) (eq-eqb (length ts) (length s.parameters) h)
