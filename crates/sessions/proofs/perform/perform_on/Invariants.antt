use Rattle.std.proofs.Common.{◌≡◌, ◌≤◌, take, length, vec_len, vec_capacity}
use Rattle.sessions.proofs.Going.{Halfway}
use Rattle.sessions.proofs.perform.perform_on.Given as goal

abbrev pub invariant-loop-request : goal.invariant-loop-request
invariant-loop-request g l = record {
  halfway : Halfway g.S.Store.semantics l.fn.store l.store l.fn.runs l.runs (take l.request-index l.requests) l.replies.items;
  count : vec_len l.replies ≡ l.request-index;
  left : length l.requests ≤ vec_capacity l.replies;
  room : vec_capacity l.room ≡ vec_capacity l.initial.room;
}
