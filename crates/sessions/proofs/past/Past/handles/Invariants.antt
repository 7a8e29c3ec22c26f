use Rattle.std.proofs.Common.{◌≡◌, take, vec_capacity}
use Rattle.sessions.specs.Requests.{handles_of}
use Rattle.sessions.proofs.past.Past.handles.Given as goal

abbrev pub invariant-loop-handle : goal.invariant-loop-handle
invariant-loop-handle l = record {
  items : l.room.items ≡ handles_of l.self.replies.now (take l.handle-index l.handles);
  capacity : vec_capacity l.room ≡ vec_capacity l.fn.room;
}
