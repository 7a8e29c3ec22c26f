use Rattle.std.proofs.Common.{◌≡◌, ◌≤◌, take, length, vec_len, vec_capacity}
use Rattle.sessions.specs.Starting.{NewRuns}
use Rattle.sessions.proofs.runs.all_new.Given as goal

abbrev pub invariant-loop-role : goal.invariant-loop-role
invariant-loop-role l = record {
  new : NewRuns (take l.role-index l.roles) l.runs.items;
  count : vec_len l.runs ≡ l.role-index;
  room : length l.roles ≤ vec_capacity l.runs;
}
