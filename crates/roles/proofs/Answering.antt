-- A text that is translated, stage by stage: a fault of one is the fault of all, want of memory aside.
use Rattle.std.proofs.Common.{◌≡◌, ℕ, List, [], map, inl, inr, Ok, Err, Result, sym, refl, ap, ap₂, ◌∙◌}
use Rattle.text.specs.Reading.{Answers}
use Rattle.text.specs.Trees.{Tree}
use Rattle.text.specs.declared.fault.TextFault.{TextFault}
use Rattle.text.specs.declared.fault.TextFault.TheVariants as texts
use Rattle.syntax.specs.Seeing.{Shapes}
use Rattle.syntax.specs.declared.fault.ShapeFault.{ShapeFault}
use Rattle.syntax.specs.declared.fault.ShapeFault.TheVariants as shapes
use Rattle.text.specs.Reading.{reading}
use Rattle.syntax.specs.Shape.{shape}
use Rattle.syntax.specs.Specs.{Specification}
use Rattle.terms.specs.declared.fault.DeclarationFault.{DeclarationFault}
use Rattle.terms.specs.declared.fault.DeclarationFault.TheVariants as declaration
use Rattle.terms.specs.declared.limits.Limits.{Limits}
use Rattle.terms.specs.Declares.{Unfit}
use Rattle.terms.specs.Declaring.{bind, declared}
use Rattle.terms.specs.Scope.{Scope}
use Rattle.terms.specs.declared.table.TermTable.{TermTable}
use Rattle.syntax.specs.declared.spec.Line.{Line}
use Rattle.syntax.specs.declared.spec.Spec.{Spec}
use Rattle.syntax.specs.Views.{line_of}
use Rattle.roles.specs.declared.role.Role.{Role}
use Rattle.roles.specs.Players.{player_of}
use Rattle.roles.specs.declared.line_fault.LineFault.{LineFault}
use Rattle.roles.specs.declared.line_fault.LineFault.TheVariants as line
use Rattle.roles.specs.declared.translation.Translation.{Translation}
use Rattle.roles.specs.declared.translation_fault.TranslationFault.{TranslationFault}
use Rattle.roles.specs.declared.translation_fault.TranslationFault.TheVariants.{Text, Shape, Declarations, Lines}
use Rattle.roles.specs.Stages.{Stage, refused_by, lines}
use Rattle.roles.specs.Staging.{stage_of, Refused, Translates}
use Rattle.roles.specs.Translating.{translation}

module _ (limits : Limits) (bytes : List ℕ) where
  -- what follows the declarations, the shape and the text
  abbrev with_scope : Specification → Scope → Result Stage TranslationFault
  with_scope S U = refused_by Lines (lines limits bytes [] S.lines (record { scope = U; players = [] }))

  abbrev with_spec : Specification → Result Stage TranslationFault
  with_spec S = bind (refused_by Declarations (declared bytes limits S)) (with_scope S)

  abbrev with_tree : Tree → Result Stage TranslationFault
  with_tree t = bind (refused_by Shape (shape bytes t)) with_spec

  pub text_refused : (f : TextFault) → Answers (reading bytes) (Err f) → Translates (translation limits bytes) (Err (Text f))
  text_refused (texts.Limit at) e = inl (ap (λ o. bind (refused_by Text o) with_tree) e)
  text_refused (texts.Broken at) e = inl (ap (λ o. bind (refused_by Text o) with_tree) e)
  text_refused (texts.NoMemory w) e = inr refl

  module _ (t : Tree) (et : reading bytes ≡ Ok t) where
    from_tree : translation limits bytes ≡ with_tree t
    from_tree = ap (λ o. bind (refused_by Text o) with_tree) et

    pub shape_refused : (f : ShapeFault) → Shapes (shape bytes t) (Err f) → Translates (translation limits bytes) (Err (Shape f))
    shape_refused (shapes.Limit at) e = inl (from_tree ∙ ap (λ o. bind (refused_by Shape o) with_spec) (e refl))
    shape_refused (shapes.Misfit at) e = inl (from_tree ∙ ap (λ o. bind (refused_by Shape o) with_spec) (e refl))
    shape_refused (shapes.NotCarried at) e = inl (from_tree ∙ ap (λ o. bind (refused_by Shape o) with_spec) (e refl))
    shape_refused (shapes.NoName at) e = inl (from_tree ∙ ap (λ o. bind (refused_by Shape o) with_spec) (e refl))
    shape_refused (shapes.NoMemory w) e = inr refl

    module _ (S : Specification) (es : shape bytes t ≡ Ok S) where
      from_spec : translation limits bytes ≡ with_spec S
      from_spec = from_tree ∙ ap (λ o. bind (refused_by Shape o) with_spec) es

      pub declarations_refused : (f : DeclarationFault) → Unfit (declared bytes limits S) f → Translates (translation limits bytes) (Err (Declarations f))
      declarations_refused (declaration.Limit at) e = inl (from_spec ∙ ap (λ o. bind (refused_by Declarations o) (with_scope S)) e)
      declarations_refused (declaration.Redeclared at) e = inl (from_spec ∙ ap (λ o. bind (refused_by Declarations o) (with_scope S)) e)
      declarations_refused (declaration.Undeclared at) e = inl (from_spec ∙ ap (λ o. bind (refused_by Declarations o) (with_scope S)) e)
      declarations_refused (declaration.WrongType at) e = inl (from_spec ∙ ap (λ o. bind (refused_by Declarations o) (with_scope S)) e)
      declarations_refused (declaration.NoMemory w) e = inr refl

      module _ (U : Scope) (eu : declared bytes limits S ≡ Ok U) where
        from_scope : translation limits bytes ≡ with_scope S U
        from_scope = from_spec ∙ ap (λ o. bind (refused_by Declarations o) (with_scope S)) eu

        abbrev all : Result Stage LineFault
        all = lines limits bytes [] S.lines (record { scope = U; players = [] })

        module _ (q : Result Stage LineFault) (is : q ≡ all) where
          pub lines_refused : (f : LineFault) → Refused q f → Translates (translation limits bytes) (Err (Lines f))
          lines_refused (line.Limit at) e = inl (from_scope ∙ ap (refused_by Lines) (sym is ∙ e))
          lines_refused (line.Undeclared at) e = inl (from_scope ∙ ap (refused_by Lines) (sym is ∙ e))
          lines_refused (line.WrongType at) e = inl (from_scope ∙ ap (refused_by Lines) (sym is ∙ e))
          lines_refused (line.Repeated at) e = inl (from_scope ∙ ap (refused_by Lines) (sym is ∙ e))
          lines_refused (line.Underivable at n k) e = inl (from_scope ∙ ap (refused_by Lines) (sym is ∙ e))
          lines_refused (line.Exhausted w) e = inr refl

          pub all_done : (T : Translation) → q ≡ Ok (stage_of T) → translation limits bytes ≡ Ok (stage_of T)
          all_done T w = from_scope ∙ ap (refused_by Lines) (sym is ∙ w)

-- the lines of a specification, from a translation with no roles
pub at_start : (limits : Limits) (bytes : List ℕ) (U : Scope) (t : TermTable) (s : Spec) {ls ms : List Line} {rs : List Role} → ls ≡ ms → rs ≡ []
    → lines limits bytes [] (map (line_of s) ls) (record { scope = U; players = map (player_of t) rs }) ≡ lines limits bytes [] (map (line_of s) ms) (record { scope = U; players = [] })
at_start limits bytes U t s e f = ap₂ (λ ls rs. lines limits bytes [] (map (line_of s) ls) (record { scope = U; players = map (player_of t) rs })) e f
