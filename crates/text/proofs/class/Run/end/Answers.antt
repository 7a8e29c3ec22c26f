use Rattle.std.proofs.Common.{ℕ, Bool, ◌+◌, drop, ap, ◌∙◌, sym, rules, tests}
use Rattle.std.proofs.lemmas.Iterator.{YieldsList-from_slice}
use Rattle.std.proofs.lemmas.Iterator.Consumers.{count_from_yields_List}
use Rattle.std.proofs.lemmas.Iterator.Search.{YieldsList-from_take_while}
use Rattle.std.proofs.lemmas.List.Folds.{length-prefix_len}
use Rattle.text.specs.Bytes.{class, takes}
use Rattle.text.proofs.Spans.{rest_from, span_prefix}
use Rattle.text.proofs.class.Run.end.Goals as goal

pub returns : goal.returns
returns c =
    let has : ℕ → Bool = λ b. takes c.args.self (class b) in
    let rest = rest_from c.args.text.now c.args.from c.min.result c.min.ensures in
    let n = count_from_yields_List c.take_while.result _ c.count.ensures.ran (YieldsList-from_take_while _ has (YieldsList-from_slice (drop c.args.from c.args.text.now) (ap (λ x. x.rest.now) c.take_while.ensures.source ∙ c.iter.ensures.rest ∙ rest)) c.take_while.ensures.closure c.take_while.ensures.done (λ x b q k. search (rules, tests))) ∙ length-prefix_len has (drop c.args.from c.args.text.now) in
    ap (λ k. c.args.from + k) (n ∙ sym (span_prefix (takes c.args.self) (drop c.args.from c.args.text.now)))
