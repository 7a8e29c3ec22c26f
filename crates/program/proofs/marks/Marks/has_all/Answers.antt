use Rattle.std.proofs.Common.{false, slice_index_or, rules, tests}
use Rattle.std.proofs.lemmas.Iterator.{YieldsList-from_slice}
use Rattle.std.proofs.lemmas.Iterator.Search.{all_from_yields_List}
use Rattle.program.proofs.marks.Marks.has_all.Goals as goal

pub returns : goal.returns
returns c =
    all_from_yields_List (λ n. slice_index_or c.args.self.now n false) _ _ _ c.all.ensures.ran (YieldsList-from_slice c.args.numbers.now cc) (λ x b q k. search (rules, tests))
