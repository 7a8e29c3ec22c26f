use Rattle.std.proofs.Common.{◌≡◌, true, Some, ap, ap₂, rules, tests}
use Rattle.std.proofs.lemmas.Bool.{and_parts}
use Rattle.std.proofs.lemmas.Bool.Decides.{Decides-eqb}
use Rattle.std.proofs.lemmas.Iterator.{IsFirst-from_position, YieldsList-from_slice}
use Rattle.program.proofs.Equality.{parts_is, kinds_is}
use Rattle.terms.specs.contracts.term.TermRowPartialEq.TheImpl as rows
use Rattle.terms.specs.declared.term.TermRow.{TermRow}
use Rattle.terms.specs.declared.term.TermRow.TheVariants.{Name, Compound}
use Rattle.terms.specs.Rows.{shape_of}
use Rattle.terms.proofs.table.find_row.Goals as goal

rows_is : (a b : TermRow) → rows.ghosts.eq a b ≡ true → a ≡ b
rows_is (Name m) (Name n) e = ap Name ((Decides-eqb m n).0 e)
rows_is (Name m) (Compound l q) e = absurd (cc)
rows_is (Compound k p) (Name n) e = absurd (cc)
rows_is (Compound k p) (Compound l q) e = let a = and_parts _ _ e in ap₂ Compound (kinds_is k l a.0) (parts_is p q a.1)

pub returns : goal.returns
returns c =
    let x = IsFirst-from_position _ _ (Some c.in_ok-term.term) (λ (r : TermRow). r ≡ c.args.row.now) (λ (r : TermRow). Unit {0}) c.in_ok-term.ensures.ran (YieldsList-from_slice c.args.rows.now (cc)) (λ x q k. search (rules, tests, rows_is)) (λ x q k. search (rules, tests)) in
    (x.0, ap shape_of (x.1 (Name 0)))
