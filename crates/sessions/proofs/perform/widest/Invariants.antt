use Rattle.std.proofs.Common.{ℕ, ◌<◌, ◌≤◌, slice_index_or}
use Rattle.sessions.specs.declared.request.Request.{Request}
use Rattle.sessions.specs.Requests.{width}
use Rattle.sessions.proofs.perform.widest.Given as goal

abbrev pub invariant-loop-request : goal.invariant-loop-request
invariant-loop-request l = (k : ℕ) (q : Request) → k < l.request-index → width (slice_index_or l.requests k q) ≤ l.most
