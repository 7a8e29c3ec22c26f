-- The places of terms and labels.
use Rattle.std.specs.Prelude.{ℕ}
use Rattle.syntax.specs.declared.spec.Label.{Label}
use Rattle.syntax.specs.declared.spec.Label.TheVariants.{Number, Name}
use Rattle.syntax.specs.Specs.{Term, name, tuple, crypt, apply}

abbrev pub term_place : Term → ℕ
term_place (name at p) = at
term_place (tuple at ts) = at
term_place (crypt at t k) = at
term_place (apply at f ts) = at

abbrev pub label_place : Label → ℕ
label_place (Number at v) = at
label_place (Name n) = n.at
