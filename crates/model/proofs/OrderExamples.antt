-- The order of programs, computed.
use Rattle.std.proofs.Common.{refl}
use Rattle.model.specs.Trees.{size}
use Rattle.model.specs.Roles.{compose, can, due_parts, due, first_due, open_parts, open_text, check_again, settle_node, settle, settle_all, unsettled, settled, give_all, start, heard, said}
use Rattle.model.specs.OrderExamples.{OrderExamples}

pub order_examples : OrderExamples
unfolding start heard said compose settled settle settle_all settle_node unsettled first_due due due_parts can open_parts open_text check_again give_all size
order_examples =
    record {
      given_once = refl;
      from_the_top = refl;
      left_to_right = refl;
      built_settled = refl;
      right_first = refl;
    }
