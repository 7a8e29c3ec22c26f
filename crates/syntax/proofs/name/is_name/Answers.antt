use Rattle.std.proofs.Common.{◌-◌, length, take, drop, sym, refl, rules, tests}
use Rattle.std.proofs.lemmas.Iterator.{YieldsList-from_slice}
use Rattle.std.proofs.lemmas.Iterator.Search.{all_from_yields_List}
use Rattle.syntax.specs.Names.{inner}
use Rattle.syntax.proofs.Inner.{name_rest}
use Rattle.syntax.proofs.name.is_name.Goals as goal

pub returns-then-is_ascii_alphabetic : goal.returns-then-is_ascii_alphabetic
returns-then-is_ascii_alphabetic c =
    let xs = c.args.bytes.now in
    name_rest xs (length xs - 1) c.all.result c.in-len1-up.len_at_least refl (sym c.if-is_ascii_alphabetic.ensures.value) (all_from_yields_List inner _ _ _ c.all.ensures.ran (YieldsList-from_slice (take (length xs - 1) (drop 1 xs)) cc) (λ x b q k. search (rules, tests)))
