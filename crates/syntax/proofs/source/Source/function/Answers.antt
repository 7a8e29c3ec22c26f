use Rattle.std.proofs.Common.{◌∙◌}
use Rattle.text.specs.Nodes.{trees_of}
use Rattle.syntax.proofs.Numbers.{between, kept_named}
use Rattle.syntax.proofs.Parts.{function_so}
use Rattle.syntax.proofs.source.Source.function.Goals as goal

pub returns-clause-adds : goal.returns-clause-adds
returns-clause-adds c =
    let old = c.args.spec.now in
    let n = c.in_ok-names.ensures in (
      kept_named old c.names.new.names n.more n.is,
      λ ns ts.
          rw (c.len-first.ensures ∙ old.parameters.ok.0, c.len.ensures ∙ c.names.new.names.ok.0, between old.parameters.items n.more c.names.new.names.items ns n.is)
          (function_so c.args.self.text.now c.args.name c.args.class c.args.at (trees_of c.args.parts.now) c.in_ok-result.field-0 n.more c.in_ok-result.ensures n.said),
    )
