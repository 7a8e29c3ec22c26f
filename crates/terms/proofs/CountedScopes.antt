-- What a scope declares keeps to its counts: names stand for functions that are there, and starts have terms that were typed.
use Rattle.std.proofs.Common.{◌≡◌, ℕ, Bool, zero, suc, ◌<◌, min, List, [], ◌∷◌, ◌++◌, length, get_or, Ok, Option, refl, ap, ◌∙◌, arith}
use mathlib.Core.Path.{subst⁻¹}
use Rattle.std.proofs.lemmas.List.{length_push, map_push}
use Rattle.model.specs.Lists.{Every}
use Rattle.model.specs.CountLaw.{Declared}
use Rattle.model.proofs.Lists.{every_map, every_join}
use Rattle.syntax.specs.declared.spec.Name.{Name}
use Rattle.syntax.specs.Specs as syntax
use Rattle.syntax.specs.Specs.{Term}
use Rattle.terms.specs.declared.declarations.Declared.{Declared as DeclaredName}
use Rattle.terms.specs.declared.declarations.Meaning.{Meaning}
use Rattle.terms.specs.declared.declarations.Meaning.TheVariants.{Value, Function}
use Rattle.terms.specs.declared.declarations.ValueType.{ValueType}
use Rattle.terms.specs.declared.declarations.ValueType.TheVariants.{Number}
use Rattle.terms.specs.declared.limits.Limits.{Limits}
use Rattle.terms.specs.Scope.{Scope, Signature, Given}
use Rattle.terms.specs.Numbering.{tree}
use Rattle.terms.specs.Declaring.{with_term, with_name, with_function, with_start, declared}
use Rattle.terms.specs.Counts.{counts, count_or}
use Rattle.terms.proofs.Scopes.{taken}
use Rattle.terms.proofs.Declaring.{declared_kept}
use Rattle.terms.proofs.Counted.{IsBelow, AllDefined, typed_counted, counted_later}

-- all terms that parties start from keep to the counts
abbrev pub StartsCounted : Scope → Type 0
StartsCounted S = (d : ℕ) → Every (λ (g : Given). Declared (count_or d S.functions) g.term) S.starts

pub record Counted (S : Scope) : Type 0 where
  pub defined : AllDefined S
  pub starts : StartsCounted S

-- a term that is read keeps to the counts, and so does what is declared then
module _ (text : List ℕ) (most : ℕ) (t : Term) (S U : Scope) (e : with_term text most t S ≡ Ok U) (c : Counted S) where
  term_counted : (d : ℕ) → Declared (count_or d S.functions) (tree text S.names t)
  term_counted d = typed_counted text S c.defined d t Number (taken text most t S U e).typed_well

  counted_then : Counted U
  counted_then =
      let k = taken text most t S U e in
      record {
        defined = subst⁻¹ (λ ns. Every (λ (x : DeclaredName). IsBelow (length U.functions) x.meaning) ns) k.names (subst⁻¹ (λ fs. Every (λ (x : DeclaredName). IsBelow (length fs) x.meaning) S.names) k.functions c.defined);
        starts = λ d. subst⁻¹ (λ gs. Every (λ (g : Given). Declared (count_or d U.functions) g.term) gs) k.starts (subst⁻¹ (λ fs. Every (λ (g : Given). Declared (count_or d fs) g.term) S.starts) k.functions (c.starts d));
      }

-- the count of a function that is listed before others
late : (xs ys : List ℕ) (k d : ℕ) → (o : ℕ) × (get_or (xs ++ ys) k d ≡ get_or xs k o)
late [] ys k d = (get_or ys k d, refl)
late (x ∷ xs) ys zero d = (d, refl)
late (x ∷ xs) ys (suc k) d = late xs ys k d

later : (fs : List Signature) (s : Signature) (d f : ℕ) → (o : ℕ) × (count_or d (fs ++ (s ∷ [])) f ≡ count_or o fs f)
later fs s d f =
    let x = late (counts fs) (length s.parameters ∷ []) f d in
    (x.0, ap (λ cs. get_or cs f d) (map_push (λ (s : Signature). length s.parameters) fs s) ∙ x.1)

starts_later : (fs : List Signature) (s : Signature) (gs : List Given) → ((d : ℕ) → Every (λ (g : Given). Declared (count_or d fs) g.term) gs)
    → (d : ℕ) → Every (λ (g : Given). Declared (count_or d (fs ++ (s ∷ []))) g.term) gs
starts_later fs s [] h d = tt
starts_later fs s (g ∷ gs) h d =
    (counted_later (λ d. count_or d fs) (count_or d (fs ++ (s ∷ []))) (later fs s d) g.term (λ d. (h d).0), starts_later fs s gs (λ d. (h d).1) d)

below_more : (n k : ℕ) → n < k → (m : Meaning) → IsBelow n m → IsBelow k m
below_more n k l (Value kind shared) b = tt
below_more n k l (Function f) b = omega (arith, b, l)

module _ (text : List ℕ) (limits : Limits) where
  named : (S : Scope) (n : Name) (kind : ValueType) (shared : Bool) → Counted S → Counted (with_name text limits n (Value kind shared) S)
  named S n kind shared c = record {
    defined = every_join (λ (x : DeclaredName). IsBelow (length S.functions) x.meaning) S.names (record { name = n.part; meaning = Value kind shared } ∷ []) c.defined (tt, tt);
    starts = c.starts;
  }

  functioned : (S : Scope) (n : Name) (s : Signature) → Counted S → Counted (with_function text limits s (with_name text limits n (Function (length S.functions)) S))
  functioned S n s c =
      let l = length_push S.functions s in
      let one : length S.functions < length (S.functions ++ (s ∷ [])) = omega (arith, l) in
      record {
        defined = every_join (λ (x : DeclaredName). IsBelow (length (S.functions ++ (s ∷ []))) x.meaning) S.names (record { name = n.part; meaning = Function (length S.functions) } ∷ [])
            (every_map (λ (x : DeclaredName). IsBelow (length S.functions) x.meaning) (λ (x : DeclaredName). IsBelow (length (S.functions ++ (s ∷ []))) x.meaning)
            (λ x. below_more (length S.functions) (length (S.functions ++ (s ∷ []))) one x.meaning) S.names c.defined)
            (one, tt);
        starts = starts_later S.functions s S.starts c.starts;
      }

  started : (S V : Scope) (who : Option ℕ) (t : Term) → with_term text (min limits.terms 512) t S ≡ Ok V → Counted S → Counted (with_start text limits who t V)
  started S V who t e c =
      let v = counted_then text (min limits.terms 512) t S V e c in
      let k = taken text (min limits.terms 512) t S V e in
      record {
        defined = v.defined;
        starts = λ d. every_join (λ (g : Given). Declared (count_or d V.functions) g.term) V.starts (record { knower = who; term = tree text V.names t } ∷ []) (v.starts d)
            (subst⁻¹ (λ ns. Declared (count_or d V.functions) (tree text ns t)) k.names (subst⁻¹ (λ fs. Declared (count_or d fs) (tree text S.names t)) k.functions (term_counted text (min limits.terms 512) t S V e c d)), tt);
      }

  -- all that a specification declares
  pub declared_counted : (X : syntax.Specification) (U : Scope) → declared text limits X ≡ Ok U → Counted U
  declared_counted =
      declared_kept text limits Counted
      (record { value = named; function = λ S n ps s f e. functioned S n s; right = λ S who f c. record { defined = c.defined; starts = c.starts }; start = started })
      (record { defined = tt; starts = λ d. tt })
