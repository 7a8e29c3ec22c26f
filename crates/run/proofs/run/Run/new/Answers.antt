use Rattle.std.proofs.Common.{List, map, ap, ◌∙◌, arith}
use Rattle.model.specs.Sessions.{news}
use Rattle.program.specs.declared.action.Row.{Row}
use Rattle.program.specs.Actions.{row_act}
use Rattle.run.specs.Shown.{register}
use Rattle.run.proofs.Spanning.{new_room, all_vacant}
use Rattle.run.proofs.run.Run.new.Goals as goal

pub invariant_of-result-clause-room : goal.invariant_of-result-clause-room
invariant_of-result-clause-room c =
    new_room c.args.program.rows.now c.rows-rows.result.now c.in_ok-registers.registers c.width.result c.rows-rows.ensures c.in_ok-registers.ensures c.width.ensures

pub invariant_of-result-clause-empty_ahead : goal.invariant_of-result-clause-empty_ahead
invariant_of-result-clause-empty_ahead c r e = ap (λ cells. register cells r) c.in_ok-registers.ensures ∙ all_vacant c.width.result r

pub invariant_of-result-clause-reserved : goal.invariant_of-result-clause-reserved
invariant_of-result-clause-reserved c =
    omega (arith, c.in_ok-numbers.ensures.room, c.count_news.ensures, ap (λ (xs : List Row). news (map row_act xs)) c.rows-rows.ensures)
