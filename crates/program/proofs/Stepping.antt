-- One row of the check.
use Rattle.std.proofs.Common.{◌≡◌, ℕ, Bool, true, false, ◌&&◌, leb, List, ◌++◌, sym, refl, ap, ap₂, ◌∙◌}
use mathlib.Core.Path.{subst⁻¹}
use Rattle.program.specs.declared.action.Action.{Action}
use Rattle.program.specs.declared.action.Action.TheVariants.{Give, New, Hear, Say, Same, Crypt, Tuple, Apply, OpenCrypt, OpenTuple, OpenApply}
use Rattle.program.specs.declared.action.Row.{Row}
use Rattle.program.specs.declared.check.Span.{Span}
use Rattle.program.specs.Held.{from, reads, fills, counted, has_none, row_passes}
use Rattle.program.specs.Checked.{AreFilled, is_ready, Fills, Steps, span_of}
use Rattle.program.specs.Marked.{marked_all}
use Rattle.program.proofs.Filling.{marked_has}

pub fills_span : (a : Action) → fills a ≡ from (span_of a).first (span_of a).count
fills_span (Give t) = refl
fills_span (New t) = refl
fills_span (Hear t) = refl
fills_span (Say r) = refl
fills_span (Same l r) = refl
fills_span (Crypt t x k) = refl
fills_span (Tuple t ps) = refl
fills_span (Apply t f ps) = refl
fills_span (OpenCrypt t s k) = refl
fills_span (OpenTuple f n s) = refl
fills_span (OpenApply f n s g) = refl

module _ (counts : List ℕ) (line : ℕ) (row : Row) (marks : List Bool) where
  row_passes-ready : (done : List ℕ) → AreFilled marks done → row_passes counts done line row ≡ (is_ready counts line row marks && has_none (fills row.action) done)
  row_passes-ready done m =
      rw (sym (marked_has marks done m (reads row.action))) (last (leb line row.line) (marked_all marks (reads row.action)) (has_none (fills row.action) done) (counted counts row.action))
    where
      last : (a b c d : Bool) → (a && (b && (c && d))) ≡ ((a && (b && d)) && c)
      last true true true true = refl
      last true true true false = refl
      last true true false true = refl
      last true true false false = refl
      last true false c d = refl
      last false b c d = refl

  pub not_ready : (marks' : List Bool) → is_ready counts line row marks ≡ false → Steps counts line row marks marks' false
  not_ready marks' e done m = row_passes-ready done m ∙ ap (λ b. b && has_none (fills row.action) done) e

  module _ (ready : is_ready counts line row marks ≡ true) (span : Span) (e : span ≡ span_of row.action) where
    same : fills row.action ≡ from span.first span.count
    same = fills_span row.action ∙ ap (λ (x : Span). from x.first x.count) (sym e)

    none : (done : List ℕ) → AreFilled marks done → (b : Bool) → has_none (from span.first span.count) done ≡ b → row_passes counts done line row ≡ b
    none done m b f = row_passes-ready done m ∙ ap₂ (λ (x y : Bool). x && y) ready (ap (λ rs. has_none rs done) same ∙ f)

    pub filled : (marks' : List Bool) (b : Bool) → Fills marks marks' span.first span.count b → Steps counts line row marks marks' b
    filled marks' true f = λ done m. (subst⁻¹ (λ rs. AreFilled marks' (done ++ rs)) same (f done m).0, none done m true (f done m).1)
    filled marks' false f = λ done m. none done m false (f done m)
