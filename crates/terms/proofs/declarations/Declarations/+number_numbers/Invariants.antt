use Rattle.std.proofs.Common.{◌≤◌, drop, vec_items}
use Rattle.syntax.specs.Specs.{count}
use Rattle.syntax.specs.Views.{terms_of}
use Rattle.terms.specs.Shapes.{AllBelow}
use Rattle.terms.specs.Terms.{size, Grows}
use Rattle.terms.specs.Reads.{SameNames}
use Rattle.terms.specs.Rows.{Begins}
use Rattle.terms.proofs.Reading.{Onward}
use Rattle.terms.proofs.declarations.Declarations.+number_numbers.Given as goal

abbrev pub invariant-numbers-loop-term : goal.invariant-numbers-loop-term
invariant-numbers-loop-term l = record {
  below : AllBelow (size l.self.terms) l.parts;
  grows : Grows l.fn.self.terms l.self.terms;
  same : SameNames l.fn.self l.self;
  begins : Begins (vec_items l.fn.self.terms.rows) (vec_items l.self.terms.rows);
  few : count (terms_of l.terms) ≤ 8;
  onward : Onward l.text (vec_items l.fn.self.names) l.most l.fn.self.terms (terms_of l.terms) l.self.terms l.parts (terms_of (drop l.term-index l.terms));
}
