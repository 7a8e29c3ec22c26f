use Rattle.std.proofs.Common.{◌≡◌, ◌≤◌, map, take, length, vec_len, vec_capacity}
use Rattle.sessions.specs.Starting.{short_count}
use Rattle.sessions.proofs.runs.counts_of.Given as goal

abbrev pub invariant-loop-function : goal.invariant-loop-function
invariant-loop-function l = record {
  counted : l.counts.items ≡ map short_count (take l.function-index l.functions);
  count : vec_len l.counts ≡ l.function-index;
  room : length l.functions ≤ vec_capacity l.counts;
}
