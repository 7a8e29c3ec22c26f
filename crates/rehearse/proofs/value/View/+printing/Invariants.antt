use Rattle.std.proofs.Common.{◌+◌, ◌*◌}
use Rattle.rehearse.proofs.value.View.+printing.Given as goal

abbrev pub decreases-print_held : goal.decreases-print_held
decreases-print_held g l = 2 * l.depth

abbrev pub decreases-print : goal.decreases-print
decreases-print g l = 2 * l.depth

abbrev pub decreases-print_list : goal.decreases-print_list
decreases-print_list g l = 2 * l.depth + 1

abbrev pub decreases-print_span : goal.decreases-print_span
decreases-print_span g l = 2 * l.depth + 1

abbrev pub decreases-print_crypt : goal.decreases-print_crypt
decreases-print_crypt g l = 2 * l.depth + 1

abbrev pub decreases-print_parts : goal.decreases-print_parts
decreases-print_parts g l = 2 * l.depth + 1
