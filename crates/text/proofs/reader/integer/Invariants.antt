use Rattle.std.proofs.Common.{◌≡◌, ◌+◌, drop}
use Rattle.text.specs.Tokens.{number}
use Rattle.text.proofs.reader.integer.Given as goal

abbrev pub invariant-loop-place : goal.invariant-loop-place
invariant-loop-place l = number l.at l.at 0 (drop l.at l.text) ≡ number l.at (l.at + l.place) l.value (drop (l.at + l.place) l.text)
