-- What each declaration keeps holds of all that is declared.
use Rattle.std.proofs.Common.{◌≡◌, ℕ, min, Bool, List, [], ◌∷◌, length, Some, None, Ok, Err, Option, Result, ap, subst}
use Rattle.model.specs.Lists.{Every}
use Rattle.syntax.specs.declared.spec.Name.{Name}
use Rattle.syntax.specs.Specs as syntax
use Rattle.syntax.specs.Specs.{Term}
use Rattle.terms.specs.declared.declarations.Meaning.TheVariants.{Value, Function}
use Rattle.terms.specs.declared.declarations.ValueType.{ValueType}
use Rattle.terms.specs.declared.fault.TermFault.{TermFault}
use Rattle.terms.specs.declared.fault.DeclarationFault.{DeclarationFault}
use Rattle.terms.specs.declared.limits.Limits.{Limits}
use Rattle.terms.specs.Scope.{Scope, Signature, nothing_declared}
use Rattle.terms.specs.Declaring.{bind, in_declaration, kind_of, kinds_of, principal, with_term, right_of, fresh, with_name, with_function, with_start, with_right, known, declare, declare_all, declared}
use Rattle.terms.proofs.Steps.{steps}

-- a term that was read, in a declaration
term_in : (r : Result Scope TermFault) (V : Scope) → in_declaration r ≡ Ok V → r ≡ Ok V
term_in (Ok x) V e = let p : x ≡ V = cc in ap Ok p
term_in (Err x) V e = absurd (cc)

-- what is said of the parameters of each function that is declared
abbrev pub OfFunction : (List Name → Type 0) → syntax.Declared → Type 0
OfFunction F (syntax.value n t shared) = Unit {0}
OfFunction F (syntax.function n class r ps) = F ps
OfFunction F (syntax.knows n t) = Unit {0}
OfFunction F (syntax.everybody t) = Unit {0}

module _ (text : List ℕ) (limits : Limits) (F : List Name → Type 0) (Q : Scope → Type 0) where
  -- a value, a function, a right and a term to start from
  pub record Kept : Type 0 where
    pub value : (S : Scope) (n : Name) (kind : ValueType) (shared : Bool) → Q S → Q (with_name text limits n (Value kind shared) S)
    pub function : (S : Scope) (n : Name) (ps : List Name) (s : Signature) → F ps → kinds_of text ps ≡ Ok s.parameters → Q S → Q (with_function text limits s (with_name text limits n (Function (length S.functions)) S))
    pub right : (S : Scope) (who : Option ℕ) (f : ℕ) → Q S → Q (with_right text limits who f S)
    pub start : (S V : Scope) (who : Option ℕ) (t : Term) → with_term text (min limits.terms 512) t S ≡ Ok V → Q S → Q (with_start text limits who t V)

  module _ (k : Kept) where
    abbrev known_by : Option ℕ → Term → Scope → Option ℕ → Result Scope DeclarationFault
    known_by who t S o =
        elim o [
          | Some f ↦ Ok (with_right text limits who f S)
          | None ↦ bind (in_declaration (with_term text (min limits.terms 512) t S)) (λ V. Ok (with_start text limits who t V))
        ]

    knowing : (who : Option ℕ) (t : Term) (S U : Scope) → known text limits who t S ≡ Ok U → Q S → Q U
    knowing who t S U e q = go (right_of text S t) e
      where
        go : (o : Option ℕ) → known_by who t S o ≡ Ok U → Q U
        go (Some f) e = let p : with_right text limits who f S ≡ U = cc in subst Q p (k.right S who f q)
        go None e =
            let b = steps (in_declaration (with_term text (min limits.terms 512) t S)) (λ V. Ok (with_start text limits who t V)) U e in
            let o = b.second in
            let p : with_start text limits who t b.mid ≡ U = cc in
            subst Q p (k.start S b.mid who t (term_in (with_term text (min limits.terms 512) t S) b.mid b.first) q)

    one : (d : syntax.Declared) (S U : Scope) → OfFunction F d → declare text limits d S ≡ Ok U → Q S → Q U
    one (syntax.value n t shared) S U f e q =
        let a = steps (fresh text limits S.names n) (λ _. bind (kind_of text t) (λ kind. Ok (with_name text limits n (Value kind shared) S))) U e in
        let b = steps (kind_of text t) (λ kind. Ok (with_name text limits n (Value kind shared) S)) U a.second in
        let o = b.second in
        let p : with_name text limits n (Value b.mid shared) S ≡ U = cc in
        subst Q p (k.value S n b.mid shared q)
    one (syntax.function n class r ps) S U f e q =
        let whole = λ (result : ValueType) (ks : List ValueType). with_function text limits (record { name = n.part; class = class; result = result; parameters = ks }) (with_name text limits n (Function (length S.functions)) S) in
        let a = steps (fresh text limits S.names n) (λ _. bind (kind_of text r) (λ result. bind (kinds_of text ps) (λ ks. Ok (whole result ks)))) U e in
        let b = steps (kind_of text r) (λ result. bind (kinds_of text ps) (λ ks. Ok (whole result ks))) U a.second in
        let c = steps (kinds_of text ps) (λ ks. Ok (whole b.mid ks)) U b.second in
        let o = c.second in
        let p : whole b.mid c.mid ≡ U = cc in
        subst Q p (k.function S n ps (record { name = n.part; class = class; result = b.mid; parameters = c.mid }) f c.first q)
    one (syntax.knows n t) S U f e q =
        let a = steps (in_declaration (principal text S n)) (λ who. known text limits (Some who) t S) U e in
        knowing (Some a.mid) t S U a.second q
    one (syntax.everybody t) S U f e q = knowing None t S U e q

    all : (ds : List syntax.Declared) (S U : Scope) → Every (OfFunction F) ds → declare_all text limits ds S ≡ Ok U → Q S → Q U
    all [] S U f e q = let p : S ≡ U = cc in subst Q p q
    all (d ∷ ds) S U f e q =
        let a = steps (declare text limits d S) (declare_all text limits ds) U e in
        all ds a.mid U f.1 a.second (one d S a.mid f.0 a.first q)

    pub declared_with : Q nothing_declared → (X : syntax.Specification) (U : Scope) → Every (OfFunction F) X.declarations → declared text limits X ≡ Ok U → Q U
    declared_with q X U f e = all X.declarations nothing_declared U f e q

-- where nothing is said of parameters
abbrev pub Whatever : List Name → Type 0
Whatever ps = Unit {0}

whatever : (ds : List syntax.Declared) → Every (OfFunction Whatever) ds
whatever [] = tt
whatever (syntax.value n t shared ∷ ds) = (tt, whatever ds)
whatever (syntax.function n class r ps ∷ ds) = (tt, whatever ds)
whatever (syntax.knows n t ∷ ds) = (tt, whatever ds)
whatever (syntax.everybody t ∷ ds) = (tt, whatever ds)

pub declared_kept : (text : List ℕ) (limits : Limits) (Q : Scope → Type 0) → Kept text limits Whatever Q → Q nothing_declared
    → (X : syntax.Specification) (U : Scope) → declared text limits X ≡ Ok U → Q U
declared_kept text limits Q k q X U e = declared_with text limits Whatever Q k q X U (whatever X.declarations) e
