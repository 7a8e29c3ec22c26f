-- The law of translation, proved.
use Rattle.std.proofs.Common.{◌≡◌, ℕ, zero, suc, List, [], ◌∷◌, ◌++◌, length, get_or, ◌⊎◌, inl, inr, None, Some, Ok, Err, Result, sym, refl, ap, ◌∙◌, subst, arith}
use mathlib.Core.Path.{subst⁻¹}
use Rattle.base.specs.declared.refusal.Refusal.{Refusal}
use Rattle.model.specs.Lists.{Every}
use Rattle.model.specs.Trees.{Tree, Within}
use Rattle.text.specs.declared.fault.TextFault.{TextFault}
use Rattle.text.specs.Reading.{reading}
use Rattle.syntax.specs.declared.fault.ShapeFault.{ShapeFault}
use Rattle.syntax.specs.Places.{term_place}
use Rattle.syntax.specs.Shape.{shape}
use Rattle.syntax.specs.Specs as syntax
use Rattle.syntax.specs.Specs.{Lined}
use Rattle.terms.specs.declared.fault.DeclarationFault.{DeclarationFault}
use Rattle.terms.specs.declared.limits.Limits.{Limits}
use Rattle.terms.specs.declared.declarations.Declared.{Declared}
use Rattle.terms.specs.Consistency.{Defined}
use Rattle.terms.specs.Declaring.{bind, declared}
use Rattle.terms.specs.Scope.{Scope}
use Rattle.roles.specs.declared.line_fault.LineFault.{LineFault}
use Rattle.roles.specs.declared.line_fault.LineFault.TheVariants.{Underivable}
use Rattle.roles.specs.declared.translation.Translation.{Translation}
use Rattle.roles.specs.declared.translation_fault.TranslationFault.{TranslationFault}
use Rattle.roles.specs.declared.translation_fault.TranslationFault.TheVariants.{Text, Shape, Declarations, Lines}
use Rattle.roles.specs.Specified.{place_in, numbered, role_names}
use Rattle.roles.specs.Stages.{Stage, refused_by, line, lines}
use Rattle.roles.specs.Staging.{stage_of, Translates}
use Rattle.roles.specs.Translating.{translation}
use Rattle.roles.specs.TranslationLaw.{no_roles, Declares, Reached, SenderLacks, sender_place, sent_message, DerivesFor, BlamedFor, Renders, Stopped, WantsMemory, TranslationLaw}
use Rattle.terms.proofs.Counted.{IsBelow}
use Rattle.terms.proofs.CountedScopes.{declared_counted}
use Rattle.roles.proofs.AllHeld.{then_lines, then_declared, then_shaped, accepts}
use Rattle.roles.proofs.AllLines.{Steps, line_ready}
use Rattle.roles.proofs.Deciding.{Decided, decided}
use Rattle.roles.proofs.FewParts.{message_few}
use Rattle.roles.proofs.LineReadiness.{is_ready, was_ready}
use Rattle.roles.proofs.LinesCut.{was_unused, is_unused, cut, line_refuses}
use Rattle.roles.proofs.Sending.{as_good}
use Rattle.roles.proofs.Stopping.{passed, lines_stopped}
use Rattle.roles.proofs.Translated.{starts_formed, accepted_so_far, translates}

-- functions' names stand for functions that are there
defined_from : (count : ℕ) (ds : List Declared) → Every (λ (x : Declared). IsBelow count x.meaning) ds → Defined ds count
defined_from count [] h k f n i e = absurd (omega arith)
defined_from count (x ∷ ds) h zero f n i e = subst (IsBelow count) e h.0
defined_from count (x ∷ ds) h (suc k) f n i e = defined_from count ds h.1 k f n (omega arith) e

module _ (limits : Limits) (text : List ℕ) where
  defined_at : (X : syntax.Specification) (U : Scope) → Declares limits text X U → (before : List Lined) (l : Lined) (G : Stage) → lines limits text [] before (no_roles U) ≡ Ok G
      → Defined G.scope.names (length G.scope.functions)
  defined_at X U d before l G q =
      subst⁻¹ (λ (S : Scope). Defined S.names (length S.functions)) (accepted_so_far text limits X U d.scope before (l ∷ []) G q).scope
      (defined_from (length U.functions) U.names (declared_counted text limits X U d.scope).defined)

  -- a line behind accepted ones
  decides : (X : syntax.Specification) (U : Scope) → Declares limits text X U → (before : List Lined) (l : Lined) (G : Stage) → lines limits text [] before (no_roles U) ≡ Ok G
      → (m : Steps limits text l G) → Decided limits text U before l G m
  decides X U d before l G q m = decided limits text U before l (starts_formed text limits X U d.scope) G (accepted_so_far text limits X U d.scope before (l ∷ []) G q) m

  -- a message that was accepted derives
  derives : (X : syntax.Specification) (U : Scope) → Declares limits text X U → (G : Stage) → lines limits text [] X.lines (no_roles U) ≡ Ok G
      → (before after : List Lined) (l : Lined) → X.lines ≡ before ++ (l ∷ after) → DerivesFor text U before l (numbered text U l.sender) (sent_message text U before l)
  derives X U d G q before after l e =
      let c = cut limits text before after l [] (no_roles U) G (ap (λ ls. lines limits text [] ls (no_roles U)) (sym e) ∙ q) in
      let k = c.counted in
      let n : c.number ≡ suc (length before) = omega arith in
      let passes = ap (λ k. line limits text k l c.stage) (sym n) ∙ c.passes in
      let m = line_ready limits text (suc (length before)) l c.stage c.then passes in
      let w = decides X U d before l c.stage c.accepted m.0 in
      subst⁻¹ (λ a. DerivesFor text U before l a (sent_message text U before l)) w.sends (w.derives (λ z. unlike (sym passes ∙ z.3)))
    where
      unlike : {H : Stage} {at role term : ℕ} → Ok H ≡ Err (Underivable at role term) → ⊥
      unlike e = absurd (cc)

  renders : (T : Translation) → translation limits text ≡ Ok (stage_of T) → Renders limits text T
  renders T e =
      let a = accepts limits text (stage_of T) e in
      record {
        spec = a.spec;
        scope = a.scope;
        declares = a.declares;
        translated = translates limits text a.spec a.scope (stage_of T) a.declares a.lined;
        derives = derives a.spec a.scope a.declares (stage_of T) a.lined;
      }

  -- why a text is refused as underivable: its lines are
  stopped : (at role term : ℕ) → translation limits text ≡ Err (Lines (Underivable at role term)) → Stopped limits text at role term
  stopped at role term e =
      let f = Lines (Underivable at role term) in
      let a = passed (refused_by Text (reading text)) (then_shaped limits text) f (no_text (reading text)) e in
      let b = passed (refused_by Shape (shape text a.0)) (then_declared limits text) f (no_shape (shape text a.0)) a.2 in
      let c = passed (refused_by Declarations (declared text limits b.0)) (then_lines limits text b.0) f (no_declarations (declared text limits b.0)) b.2 in
      found b.0 c.0
      (record {
        tree = a.0;
        read = as_good Text (reading text) a.0 a.1;
        shaped = as_good Shape (shape text a.0) b.0 b.1;
        scope = as_good Declarations (declared text limits b.0) c.0 c.1;
      })
      (as_lines (lines limits text [] (b.0).lines (no_roles c.0)) c.2)
    where
      no_text : {A : Type 0} → (r : Result A TextFault) → refused_by Text r ≡ Err (Lines (Underivable at role term)) → ⊥
      no_text (Ok x) e = absurd (cc)
      no_text (Err x) e = absurd (cc)

      no_shape : {A : Type 0} → (r : Result A ShapeFault) → refused_by Shape r ≡ Err (Lines (Underivable at role term)) → ⊥
      no_shape (Ok x) e = absurd (cc)
      no_shape (Err x) e = absurd (cc)

      no_declarations : {A : Type 0} → (r : Result A DeclarationFault) → refused_by Declarations r ≡ Err (Lines (Underivable at role term)) → ⊥
      no_declarations (Ok x) e = absurd (cc)
      no_declarations (Err x) e = absurd (cc)

      as_lines : (r : Result Stage LineFault) → refused_by Lines r ≡ Err (Lines (Underivable at role term)) → r ≡ Err (Underivable at role term)
      as_lines (Ok x) e = absurd (cc)
      as_lines (Err x) e = let p : x ≡ Underivable at role term = cc in ap Err p

      found : (X : syntax.Specification) (U : Scope) → Declares limits text X U → lines limits text [] X.lines (no_roles U) ≡ Err (Underivable at role term) → Stopped limits text at role term
      found X U d e =
          let s = lines_stopped at role term limits text U X.lines e in
          let m = s.ready in
          let w = decides X U d s.before s.here s.stage s.accepted m in
          let p = w.places at role term s.refused in
          let z = is_ready limits text s.before s.here s.stage (defined_at X U d s.before s.here s.stage s.accepted) m (was_unused text s.here.label s.before s.label) in
          let roles = role_names text U (s.before ++ (s.here ∷ [])) in
          record {
            spec = X;
            scope = U;
            declares = d;
            reached = record { before = s.before; here = s.here; after = s.after; split = s.split; stage = s.stage; accepted = s.accepted; ready = z.0 };
            blames = record {
              lacks = subst⁻¹ (λ a. ¬ DerivesFor text U s.before s.here a (sent_message text U s.before s.here)) z.1 (w.exactly.0 (at, role, term, s.refused));
              stands = p.0;
              sends = p.1 ∙ ap (λ a. place_in a roles) (sym z.1);
              first =
                  subst (λ us. (none : Tree) → BlamedFor text U s.before s.here (z.0).sender (get_or us term none)) z.2
                  (subst⁻¹ (λ a. (none : Tree) → BlamedFor text U s.before s.here a (get_or m.listed.terms term none)) z.1 (λ none. w.first at role term none s.refused));
              fails =
                  subst (λ us. (none : Tree) → ¬ DerivesFor text U s.before s.here (z.0).sender (get_or us term none)) z.2
                  (subst⁻¹ (λ a. (none : Tree) → ¬ DerivesFor text U s.before s.here a (get_or m.listed.terms term none)) z.1 (λ none. (w.fails at role term none s.refused).0));
              within = subst (λ us. (none : Tree) → Within (get_or us term none) (sent_message text U s.before s.here)) z.2 (λ none. (w.fails at role term none s.refused).1);
            };
          }

  -- where there is such a line, the text is refused for it
  stops : (X : syntax.Specification) (U : Scope) → Declares limits text X U → (r : Reached limits text U X.lines) → SenderLacks limits text U X.lines r
      → (term : ℕ) × (translation limits text ≡ Err (Lines (Underivable (term_place r.here.message) (sender_place limits text U X.lines r) term)))
  stops X U d r n =
      let m = was_ready limits text r.before r.here r.stage (defined_at X U d r.before r.here r.stage r.accepted) (message_few text d.tree X d.shaped r.before r.after r.here r.split) r.ready in
      let w = decides X U d r.before r.here r.stage r.accepted m.0 in
      let z = w.exactly.1 (subst (λ a. ¬ DerivesFor text U r.before r.here a (sent_message text U r.before r.here)) m.1 n) in
      let p = w.places z.0 z.1 z.2 z.3 in
      let q = p.1 ∙ ap (λ a. place_in a (role_names text U (r.before ++ (r.here ∷ [])))) (sym m.1) in
      let e = line_refuses limits text r.before r.after r.here (no_roles U) r.stage (Underivable z.0 z.1 z.2) r.accepted (is_unused text r.here.label r.before r.ready.label) z.3 in (
        z.2,
        ap (λ o. bind (refused_by Text o) (then_shaped limits text)) d.read
            ∙ ap (λ o. bind (refused_by Shape o) (then_declared limits text)) d.shaped
            ∙ ap (λ o. bind (refused_by Declarations o) (then_lines limits text X)) d.scope
            ∙ ap (λ ls. refused_by Lines (lines limits text [] ls (no_roles U))) r.split
            ∙ ap (refused_by Lines) e
            ∙ (λ i. Err (Lines (Underivable (p.0 i) (q i) z.2))),
      )

  -- what is answered
  pub translation_law : (result : Result Translation TranslationFault) → Translates (translation limits text) result → TranslationLaw limits text result
  translation_law result h = record {
    renders = λ T e. renders T (subst (Translates (translation limits text)) e h);
    stopped = λ at role term e. elim (subst (Translates (translation limits text)) e h) [ inl q ↦ stopped at role term q | inr q ↦ absurd (no_refusal q) ];
    stops = λ X U d r n. let s = stops X U d r n in answered result h s.0 s.1;
  }
    where
      no_refusal : {x : Refusal} → Some x ≡ None → ⊥
      no_refusal e = absurd (cc)

      one_fault : (r : Result Stage TranslationFault) (f g : TranslationFault) → r ≡ Err f → r ≡ Err g → f ≡ g
      one_fault (Ok G) f g p q = absurd (cc)
      one_fault (Err x) f g p q = let a : x ≡ f = cc in let b : x ≡ g = cc in sym a ∙ b

      answered : {at role : ℕ} (result : Result Translation TranslationFault) → Translates (translation limits text) result → (term : ℕ) → translation limits text ≡ Err (Lines (Underivable at role term))
          → ((term : ℕ) × (result ≡ Err (Lines (Underivable at role term)))) ⊎ WantsMemory result
      answered (Ok T) h term e = absurd (unlike (sym h ∙ e))
        where
          unlike : {G : Stage} {f : TranslationFault} → Ok G ≡ Err f → ⊥
          unlike e = absurd (cc)
      answered (Err f) (inl q) term e = inl (term, ap Err (one_fault (translation limits text) f (Lines (Underivable _ _ term)) q e))
      answered (Err f) (inr q) term e = inr (record { fault = f; is = refl; none = q })
