use Rattle.std.proofs.Common.{◌≡◌, ◌++◌, take, vec_capacity}
use Rattle.run.proofs.room.append.Given as goal

abbrev pub invariant-loop-number : goal.invariant-loop-number
invariant-loop-number l = record {
  items : l.held.items ≡ l.initial.held.items ++ take l.number-index l.numbers;
  capacity : vec_capacity l.held ≡ vec_capacity l.initial.held;
}
