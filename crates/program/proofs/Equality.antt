-- Lists of parts, and kinds, that pass the test of equality are equal.
use Rattle.std.proofs.Common.{◌≡◌, ℕ, List, true, length, take, refl, sym, ap, ◌∙◌, rules, tests}
use Rattle.std.proofs.lemmas.Bool.{and_parts}
use Rattle.std.proofs.lemmas.Bool.Decides.{Decides-eqb}
use Rattle.std.proofs.lemmas.List.{take_at}
use Rattle.std.proofs.lemmas.Slice.Eq.{slice_eq-Decides}
use Rattle.program.specs.Padding.{padded}
use Rattle.program.specs.declared.kind.Kind.{Kind}
use Rattle.program.specs.contracts.kind.KindPartialEq.TheImpl as kinds
use Rattle.program.specs.contracts.parts.PartsPartialEq.TheImpl as parts

pub parts_is : (xs ys : List ℕ) → parts.ghosts.eq xs ys ≡ true → xs ≡ ys
parts_is xs ys e =
    let a = and_parts _ _ e in
    let n : length xs ≡ length ys = (Decides-eqb (length xs) (length ys)).0 a.0 in
    let p : padded xs ≡ padded ys = (slice_eq-Decides Decides-eqb (padded xs) (padded ys) _ refl).0 a.1 in
    sym (take_at xs _ (length xs) refl) ∙ ap (take (length xs)) p ∙ take_at ys _ (length xs) (sym n)

pub kinds_is : (k l : Kind) → kinds.ghosts.eq k l ≡ true → k ≡ l
kinds_is k l e = search (rules, tests)
