-- Declarations, step by step.
use Rattle.std.proofs.Common.{◌≡◌, ℕ, min, List, [], ◌∷◌, ◌++◌, map, Some, None, Ok, vec_items, Option, Result, ap, ◌∙◌, sym}
use mathlib.Core.Path.{subst⁻¹}
use Rattle.syntax.specs.Specs.{Term}
use Rattle.terms.specs.declared.declarations.Declarations.{Declarations}
use Rattle.terms.specs.declared.declarations.Start.{Start}
use Rattle.terms.specs.declared.fault.TermFault.{TermFault}
use Rattle.terms.specs.declared.fault.TermFault.TheVariants as term_fault
use Rattle.terms.specs.declared.fault.DeclarationFault.{DeclarationFault}
use Rattle.terms.specs.declared.fault.DeclarationFault.TheVariants.{Limit, Redeclared, Undeclared, WrongType, NoMemory}
use Rattle.terms.specs.declared.limits.Limits.{Limits}
use Rattle.terms.specs.Scope.{Scope}
use Rattle.terms.specs.Numbering.{tree}
use Rattle.terms.specs.Refusals.{to_declaration}
use Rattle.terms.specs.Declaring.{bind, in_declaration, with_term, right_of, known, with_right, with_start}
use Rattle.terms.specs.Meanings.{given_in, types_of, signature_in, trees_of, scope_of}
use Rattle.terms.specs.Termed.{Refused, Termed}
use Rattle.terms.specs.Declares.{Unfit}
use Rattle.terms.proofs.ListedTrees.{listed_at}
use Rattle.terms.proofs.Pushing.{scope_start}
use Rattle.terms.proofs.Scopes.{taken}

-- a fault is the fault of what follows
pub unfit_bind : {A B : Type 0} (q : Result A DeclarationFault) (g : A → Result B DeclarationFault) (f : DeclarationFault) → Unfit q f → Unfit (bind q g) f
unfit_bind q g (Limit p) e = ap (λ z. bind z g) e
unfit_bind q g (Redeclared p) e = ap (λ z. bind z g) e
unfit_bind q g (Undeclared p) e = ap (λ z. bind z g) e
unfit_bind q g (WrongType p) e = ap (λ z. bind z g) e
unfit_bind q g (NoMemory w) e = tt

pub unfit_as : {A : Type 0} (q q' : Result A DeclarationFault) (f : DeclarationFault) → q' ≡ q → Unfit q f → Unfit q' f
unfit_as q q' f e u = subst⁻¹ (λ z. Unfit z f) e u

-- a fault of a term is the declaration's
pub unfit_term : (text : List ℕ) (most : ℕ) (t : Term) (S : Scope) (g : Scope → Result Scope DeclarationFault) (f : TermFault) → Refused text most t S f → Unfit (bind (in_declaration (with_term text most t S)) g) (to_declaration f)
unfit_term text most t S g (term_fault.Limit p) e = ap (λ z. bind (in_declaration z) g) e
unfit_term text most t S g (term_fault.Undeclared p) e = ap (λ z. bind (in_declaration z) g) e
unfit_term text most t S g (term_fault.WrongType p) e = ap (λ z. bind (in_declaration z) g) e
unfit_term text most t S g (term_fault.NoMemory w) e = tt

module _ (text : List ℕ) (limits : Limits) (d : Declarations) (who : Option ℕ) (t : Term) where
  abbrev known_by : Option ℕ → Result Scope DeclarationFault
  known_by o =
      elim o [
        | Some f ↦ Ok (with_right text limits who f (scope_of d))
        | None ↦ bind (in_declaration (with_term text (min limits.terms 512) t (scope_of d))) (λ U. Ok (with_start text limits who t U))
      ]

  module _ (r : None ≡ right_of text (scope_of d) t) where
    -- a term to start from
    pub knows_term : (d₁ : Declarations) (k : ℕ) → Termed text (min limits.terms 512) t (scope_of d) (scope_of d₁) (Ok k) → (starts : List Start) → starts ≡ vec_items d₁.starts ++ (record { knower = who; term = k } ∷ [])
        → known text limits who t (scope_of d) ≡ Ok (record { names = vec_items d₁.names; functions = map (signature_in (types_of d₁)) (vec_items d₁.functions); starts = map (given_in d₁.terms) starts; rights = vec_items d₁.rights; terms = trees_of d₁.terms })
    knows_term d₁ k w starts s =
        let x = taken text (min limits.terms 512) t (scope_of d) (scope_of d₁) w.0 in
        ap known_by (sym r) ∙ ap (λ z. bind (in_declaration z) (λ U. Ok (with_start text limits who t U))) w.0
        ∙ ap Ok (sym (scope_start text limits d₁ who k t starts s ((listed_at d₁.terms k (tree text (vec_items d.names) t) w.1).1 ∙ ap (λ ns. tree text ns t) (sym x.names))))
