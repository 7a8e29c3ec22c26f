-- What is declared when one row more is there.
use Rattle.std.proofs.Common.{◌≡◌, ℕ, ◌<◌, ◌≤◌, Bool, true, false, cond, ◌⊎◌, List, [], ◌∷◌, ◌++◌, map, length, get_or, vec_items, vec_len, Option, suc, refl, subst, sym, ap, ◌∙◌, ap₂, inl, inr, ⊎_elim, arith}
use mathlib.Core.Path.{subst⁻¹}
use Rattle.std.specs.Prelude.{◌-◌, take, drop, slice_range}
use Rattle.std.proofs.lemmas.List.{length_push, get_or_push, get_or_append_left, map_push, length-map, length-drop, length-take-le, append-nil, take-append-le, drop-append-le}
use Rattle.std.proofs.lemmas.Bool.{cases_lt}
use Rattle.model.specs.Trees.{Tree}
use Rattle.syntax.specs.declared.spec.Name.{Name}
use Rattle.syntax.specs.declared.symbol.FunctionClass.{FunctionClass}
use Rattle.syntax.specs.Specs.{Term}
use Rattle.syntax.proofs.Numbers.{between}
use Rattle.terms.specs.declared.declarations.Declarations.{Declarations}
use Rattle.terms.specs.declared.declarations.Declared.{Declared}
use Rattle.terms.specs.declared.declarations.Function.{Function}
use Rattle.terms.specs.declared.declarations.Meaning.{Meaning}
use Rattle.terms.specs.declared.declarations.Meaning.TheVariants as meaning
use Rattle.terms.specs.declared.declarations.Right.{Right}
use Rattle.terms.specs.declared.declarations.Start.{Start}
use Rattle.terms.specs.declared.declarations.ValueType.{ValueType}
use Rattle.terms.specs.declared.limits.Limits.{Limits}
use Rattle.terms.specs.Consistency.{Defined, Started, Within}
use Rattle.terms.specs.Terms.{tree_in}
use Rattle.terms.specs.Scope.{Scope, Signature, Given}
use Rattle.terms.specs.Numbering.{tree}
use Rattle.terms.specs.Declaring.{with_name, with_function, with_start}
use Rattle.terms.specs.Meanings.{given_in, types_of, parameters_in, arity, signature_in, trees_of, scope_of}
use Rattle.terms.specs.Declares.{declared_name, function_name, function_row, MoreNames, MoreFunctions}

-- an element of a list with one more
push_cases : {X : Type 0} (xs : List X) (x : X) (k : ℕ) (d : X) → k < length (xs ++ x ∷ []) → ((k < length xs) × (get_or (xs ++ x ∷ []) k d ≡ get_or xs k d)) ⊎ (get_or (xs ++ x ∷ []) k d ≡ x)
push_cases xs x k d h =
    let n = length_push xs x in
    ⊎_elim (λ l. inl (l, get_or_append_left xs (x ∷ []) d k l)) (λ g. inr (get_or_push xs x d k (omega arith))) (cases_lt k (length xs))

-- names that stand for functions, and one name more
module _ (names : List Declared) (x : Declared) (count count' : ℕ) (more : count ≤ count') where
  pub defined_push : Defined names count → ((f : ℕ) → x.meaning ≡ meaning.Function f → f < count') → (b : Bool) (names' : List Declared) → names' ≡ cond b (names ++ x ∷ []) names → Defined names' count'
  defined_push m g b names' e = subst⁻¹ (λ ns. Defined ns count') e (go b)
    where
      go : (b : Bool) → Defined (cond b (names ++ x ∷ []) names) count'
      go true i f y h q =
          ⊎_elim (λ a. let l = m i f y a.0 (sym (ap (λ (z : Declared). z.meaning) a.1) ∙ q) in omega arith) (λ a. g f (sym (ap (λ (z : Declared). z.meaning) a) ∙ q)) (push_cases names x i y h)
      go false i f y h q = let l = m i f y h q in omega arith

-- what parties start from, and one start more
pub started_push : (starts : List Start) (x : Start) (count : ℕ) → Started starts count → x.term < count → (b : Bool) (starts' : List Start) → starts' ≡ cond b (starts ++ x ∷ []) starts → Started starts' count
started_push starts x count m g b starts' e = subst⁻¹ (λ ss. Started ss count) e (go b)
  where
    go : (b : Bool) → Started (cond b (starts ++ x ∷ []) starts) count
    go true i y h = ⊎_elim (λ a. let l = m i y a.0 in let w = ap (λ (z : Start). z.term) a.1 in omega arith) (λ a. let w = ap (λ (z : Start). z.term) a in omega arith) (push_cases starts x i y h)
    go false i y h = m i y h

-- the types of a range are those before others
range_kept : {X : Type 0} (ws ks : List X) (a b : ℕ) → a ≤ b → b ≤ length ws → slice_range (ws ++ ks) a b ≡ slice_range ws a b
range_kept ws ks a b h l =
    ap (take (b - a)) (drop-append-le a ws ks (omega (arith, h, l))) ∙ take-append-le (b - a) (drop a ws) ks (omega (arith, h, l, length-drop a ws))

-- a function's parameters keep their types when others are added
pub types_kept : (ws ks : List ValueType) (fs : List Function) → Within fs (length ws) → map (signature_in (ws ++ ks)) fs ≡ map (signature_in ws) fs
types_kept ws ks [] m = refl
types_kept ws ks (f ∷ fs) m =
    let z = m 0 f (omega arith) in
    ap₂ (λ ps ss. record { name = f.name; class = f.class; result = f.result; parameters = ps } ∷ ss) (range_kept ws ks f.first f.end z.0 z.1) (types_kept ws ks fs (λ k x l. m (suc k) x (omega arith)))

-- the types of the last function's parameters
pub types_last : (ws ks : List ValueType) → slice_range (ws ++ ks) (length ws) (length (ws ++ ks)) ≡ ks
types_last ws ks =
    subst (λ l. slice_range l (length ws) (length (ws ++ ks)) ≡ ks) (append-nil (ws ++ ks)) (between ws ks (ws ++ ks) [] refl)

-- where they stand there are as many as the function has
pub arity_is : (ws : List ValueType) (f : Function) → (f.first ≤ f.end) × (f.end ≤ length ws) → length (parameters_in ws f) ≡ arity f
arity_is ws f h = length-take-le (f.end - f.first) (drop f.first ws) (omega (arith, h.0, h.1, length-drop f.first ws))

-- the types of some parameters were read, and nothing else
pub record MoreTypes (d d' : Declarations) (ks : List ValueType) : Type 0 where
  pub names : d'.names ≡ d.names
  pub functions : d'.functions ≡ d.functions
  pub parameters : vec_items d'.parameters ≡ vec_items d.parameters ++ ks
  pub starts : d'.starts ≡ d.starts
  pub rights : d'.rights ≡ d.rights
  pub terms : d'.terms ≡ d.terms

-- a scope by its parts
pub same_scope : (S T : Scope) → S.names ≡ T.names → S.functions ≡ T.functions → S.starts ≡ T.starts → S.rights ≡ T.rights → S.terms ≡ T.terms → S ≡ T
same_scope S T a b c d e =
    ap (λ (ns : List Declared). record { names = ns; functions = S.functions; starts = S.starts; rights = S.rights; terms = S.terms }) a
    ∙ ap (λ (fs : List Signature). record { names = T.names; functions = fs; starts = S.starts; rights = S.rights; terms = S.terms }) b
    ∙ ap (λ (gs : List Given). record { names = T.names; functions = T.functions; starts = gs; rights = S.rights; terms = S.terms }) c
    ∙ ap (λ (rs : List Right). record { names = T.names; functions = T.functions; starts = T.starts; rights = rs; terms = S.terms }) d
    ∙ ap (λ (us : List Tree). record { names = T.names; functions = T.functions; starts = T.starts; rights = T.rights; terms = us }) e

-- a term to start from
pub scope_start : (text : List ℕ) (limits : Limits) (d : Declarations) (who : Option ℕ) (k : ℕ) (x : Term) (starts : List Start) → starts ≡ vec_items d.starts ++ (record { knower = who; term = k } ∷ []) → tree_in d.terms k ≡ tree text (vec_items d.names) x
    → record { names = (scope_of d).names; functions = (scope_of d).functions; starts = map (given_in d.terms) starts; rights = (scope_of d).rights; terms = (scope_of d).terms } ≡ with_start text limits who x (scope_of d)
scope_start text limits d who k x starts e q =
    ap (λ (gs : List Given). record { names = (scope_of d).names; functions = (scope_of d).functions; starts = gs; rights = (scope_of d).rights; terms = (scope_of d).terms })
    (ap (map (given_in d.terms)) e ∙ map_push (given_in d.terms) (vec_items d.starts) (record { knower = who; term = k })
    ∙ ap (λ y. map (given_in d.terms) (vec_items d.starts) ++ (record { knower = who; term = y } ∷ [])) q)

module _ (text : List ℕ) (limits : Limits) (d d' : Declarations) where
  -- a name that stands for a value
  pub scope_name : (n : Name) (m : Meaning) → MoreNames d d' (declared_name n m) → scope_of d' ≡ with_name text limits n m (scope_of d)
  scope_name n m p =
      same_scope (scope_of d') (with_name text limits n m (scope_of d)) p.names (ap₂ (λ ws fs. map (signature_in (vec_items ws)) (vec_items fs)) p.parameters p.functions) (ap₂ (λ t ss. map (given_in t) (vec_items ss)) p.terms p.starts)
      (ap vec_items p.rights) (ap trees_of p.terms)

  -- a function, when the types of its parameters were read
  pub scope_function : (d₁ : Declarations) (n : Name) (class : FunctionClass) (result : ValueType) (ks : List ValueType) → MoreTypes d d₁ ks
      → MoreFunctions d₁ d' (function_name n (vec_len d.functions)) (function_row n class result (vec_len d.parameters) (vec_len d₁.parameters))
      → scope_of d' ≡ with_function text limits (record { name = n.part; class = class; result = result; parameters = ks }) (with_name text limits n (meaning.Function (length (scope_of d).functions)) (scope_of d))
  scope_function d₁ n class result ks m p =
      same_scope (scope_of d') (with_function text limits (record { name = n.part; class = class; result = result; parameters = ks }) (with_name text limits n (meaning.Function (length (scope_of d).functions)) (scope_of d)))
      (p.names ∙ ap₂ (λ ns k. vec_items ns ++ (function_name n k ∷ [])) m.names count)
      functions
      (ap₂ (λ t ss. map (given_in t) (vec_items ss)) (p.terms ∙ m.terms) (p.starts ∙ m.starts)) (ap vec_items (p.rights ∙ m.rights)) (ap trees_of (p.terms ∙ m.terms))
    where
      count : vec_len d.functions ≡ length (map (signature_in (types_of d)) (vec_items d.functions))
      count = d.functions.ok.0 ∙ sym (length-map (vec_items d.functions) (signature_in (types_of d)))

      row : Function
      row = function_row n class result (vec_len d.parameters) (vec_len d₁.parameters)

      last : parameters_in (types_of d ++ ks) row ≡ ks
      last = ap₂ (slice_range (types_of d ++ ks)) d.parameters.ok.0 (d₁.parameters.ok.0 ∙ ap length m.parameters) ∙ types_last (types_of d) ks

      functions : map (signature_in (types_of d')) (vec_items d'.functions) ≡ map (signature_in (types_of d)) (vec_items d.functions) ++ (record { name = n.part; class = class; result = result; parameters = ks } ∷ [])
      functions =
          ap₂ (λ ws fs. map (signature_in ws) fs) (ap vec_items p.parameters ∙ m.parameters) (p.functions ∙ ap (λ fs. vec_items fs ++ (row ∷ [])) m.functions)
          ∙ map_push (signature_in (types_of d ++ ks)) (vec_items d.functions) row
          ∙ ap₂ (λ ss ps. ss ++ (record { name = n.part; class = class; result = result; parameters = ps } ∷ [])) (types_kept (types_of d) ks (vec_items d.functions) (subst (Within (vec_items d.functions)) d.parameters.ok.0 d.within)) last
