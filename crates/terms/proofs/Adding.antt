-- A declaration by its form, and all of them.
use Rattle.std.proofs.Common.{◌≡◌, ℕ, ◌+◌, ◌<◌, Bool, List, ◌∷◌, length, get_or, map, drop, Ok, Err, vec_items, vec_len, Result, sym, ap, subst, ◌∙◌}
use Rattle.std.proofs.lemmas.List.{at_drop_more, get_or_default}
use Rattle.syntax.specs.declared.spec.Name.{Name}
use Rattle.syntax.specs.declared.symbol.FunctionClass.{FunctionClass}
use Rattle.syntax.specs.declared.spec.Declaration.{Declaration}
use Rattle.syntax.specs.declared.spec.Spec.{Spec}
use Rattle.syntax.specs.Views.{declared_of}
use Rattle.syntax.specs.Specs as syntax
use Rattle.terms.specs.declared.declarations.Declarations.{Declarations}
use Rattle.terms.specs.declared.declarations.Meaning.TheVariants as meaning
use Rattle.terms.specs.declared.declarations.ValueType.{ValueType}
use Rattle.terms.specs.declared.fault.DeclarationFault.{DeclarationFault}
use Rattle.terms.specs.declared.limits.Limits.{Limits}
use Rattle.terms.specs.Scope.{Scope, nothing_declared}
use Rattle.terms.specs.Declaring.{bind, kind_of, kinds_of, fresh, with_name, with_function, declare, declare_all}
use Rattle.terms.specs.Meanings.{scope_of}
use Rattle.terms.specs.Declares.{Unfit, Kinds, MoreNames, MoreFunctions, declared_name, function_name, function_row, Declaring}
use Rattle.terms.proofs.Declared.{unfit_bind, unfit_as}
use Rattle.terms.proofs.Pushing.{MoreTypes, scope_name, scope_function}

module _ (text : List ℕ) (limits : Limits) (d d' : Declarations) (a : Name) (y : Ok tt ≡ fresh text limits (vec_items d.names) a) where
  -- a name that is free
  free : (f : Unit {0} → Result Scope DeclarationFault) → bind (fresh text limits (scope_of d).names a) f ≡ f tt
  free f = ap (λ z. bind z f) (sym y)

  -- a value
  module _ (k : Name) (b : Bool) where
    abbrev named : ValueType → Result Scope DeclarationFault
    named kind = Ok (with_name text limits a (meaning.Value kind b) (scope_of d))

    pub value_added : (kind : ValueType) → Ok kind ≡ kind_of text k → MoreNames d d' (declared_name a (meaning.Value kind b)) → declare text limits (syntax.value a k b) (scope_of d) ≡ Ok (scope_of d')
    value_added kind e p =
        free (λ _. bind (kind_of text k) named) ∙ ap (λ z. bind z named) (sym e) ∙ ap Ok (sym (scope_name text limits d d' a (meaning.Value kind b) p))

  -- a function
  module _ (c : FunctionClass) (o : Name) (ps : List Name) where
    abbrev typed : ValueType → List ValueType → Result Scope DeclarationFault
    typed result ks = Ok (with_function text limits (record { name = a.part; class = c; result = result; parameters = ks }) (with_name text limits a (meaning.Function (length (scope_of d).functions)) (scope_of d)))

    abbrev resulting : ValueType → Result Scope DeclarationFault
    resulting result = bind (kinds_of text ps) (typed result)

    pub function_added : (kind : ValueType) → Ok kind ≡ kind_of text o → (d₁ : Declarations) → MoreFunctions d₁ d' (function_name a (vec_len d.functions)) (function_row a c kind (vec_len d.parameters) (vec_len d₁.parameters))
        → (ns : List Name) → ns ≡ ps → (k : Kinds text ns (vec_items d.parameters) (vec_items d₁.parameters) (Ok tt)) → MoreTypes d d₁ k.0 → declare text limits (syntax.function a c o ps) (scope_of d) ≡ Ok (scope_of d')
    function_added kind e d₁ p ns q k m =
        free (λ _. bind (kind_of text o) resulting) ∙ ap (λ z. bind z resulting) (sym e) ∙ ap (λ z. bind z (typed kind)) (ap (kinds_of text) (sym q) ∙ k.1.0) ∙ ap Ok (sym (scope_function text limits d d' d₁ a c kind k.0 m p))

-- the first of the things that are left, by its view
pub left_at : {A B : Type 0} (view : A → B) (xs : List A) (i : ℕ) (x : A) → i < length xs → x ≡ get_or xs i x → map view (drop i xs) ≡ view x ∷ map view (drop (i + 1) xs)
left_at view xs i x h e = at_drop_more (map view) xs i x h ∙ ap (λ y. view y ∷ map view (drop (i + 1) xs)) (sym e)

-- what is left of the declarations
module _ (text : List ℕ) (limits : Limits) where
  abbrev pub LeftAll : List syntax.Declared → Declarations → List syntax.Declared → Type 0
  LeftAll all d xs = declare_all text limits all nothing_declared ≡ declare_all text limits xs (scope_of d)

  -- a declaration of a specification is refused, and so all are
  pub read_refused : (s : Spec) (xs : List Declaration) (i : ℕ) (x : Declaration) (d d' : Declarations) (f : DeclarationFault) → Declaring text limits d d' (declared_of s (get_or xs i x)) (Err f)
      → i < length xs → LeftAll (map (declared_of s) xs) d (map (declared_of s) (drop i xs)) → Unfit (declare_all text limits (map (declared_of s) xs) nothing_declared) f
  read_refused s xs i x d d' f k h g =
      let y = get_or xs i x in
      unfit_as _ _ f (subst (LeftAll (map (declared_of s) xs) d) (left_at (declared_of s) xs i y h (get_or_default xs i x y h)) g)
      (unfit_bind (declare text limits (declared_of s y) (scope_of d)) (declare_all text limits (map (declared_of s) (drop (i + 1) xs))) f k)
