use Rattle.std.proofs.Common.{◌∙◌, refl, arith}
use Rattle.text.proofs.Building.{put_on, count_on}
use Rattle.text.proofs.builder.Builder.put.Goals as goal

pub returns : goal.returns
returns c =
    let v = c.args.self.now.brackets.ok.0 in
    let w = c.in-Some.ensures.variant.0 refl in (
      put_on c.args.self.now.brackets.items c.in-Some.bracket.now _ _ c.args.node (omega arith) c.in-Some.ensures.value refl refl c.in_ok-push.ensures.items,
      c.requires ∙ count_on c.args.self.now.brackets.items c.in-Some.bracket.now _ _ c.args.node (omega arith) c.in-Some.ensures.value refl refl c.in_ok-push.ensures.items,
    )
