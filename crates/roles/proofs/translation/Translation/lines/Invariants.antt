use Rattle.std.proofs.Common.{map, take, drop, vec_items}
use Rattle.syntax.specs.Views.{line_of}
use Rattle.roles.specs.AllRoles.{AllFit}
use Rattle.roles.proofs.LinesLeft.{labels, LeftLines}
use Rattle.roles.proofs.translation.Translation.lines.Given as goal

abbrev pub invariant-loop-index : goal.invariant-loop-index
invariant-loop-index l =
    AllFit l.self.declarations.terms (vec_items l.self.roles)
    × LeftLines l.input.limits l.input.text.now (map (line_of l.input.spec.now) l.lines) l.fn.self l.self (labels (take l.index l.lines)) (map (line_of l.input.spec.now) (drop l.index l.lines))
