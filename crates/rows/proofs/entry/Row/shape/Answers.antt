use Rattle.std.proofs.Common.{length, refl, sym, ap, ◌∙◌}
use Rattle.store.specs.declared.shape.Shape.TheVariants.{Tuple, Apply}
use Rattle.rows.proofs.Asking.{values_count}
use Rattle.rows.proofs.entry.Row.shape.Goals as goal

pub returns-in-Tuple : goal.returns-in-Tuple
returns-in-Tuple c vs =
    ap (λ ps. Tuple (length ps)) c.as_slice.ensures.value ∙ ap Tuple (sym (values_count vs c.in-Compound.parts))
    ∙ rw (c.in-Compound.is, c.in-Tuple.is) refl

pub returns-in-Apply : goal.returns-in-Apply
returns-in-Apply c vs =
    ap (λ ps. Apply c.in-Apply.function (length ps)) c.as_slice.ensures.value ∙ ap (Apply c.in-Apply.function) (sym (values_count vs c.in-Compound.parts))
    ∙ rw (c.in-Compound.is, c.in-Apply.is) refl
