use Rattle.std.proofs.Common.{◌≡◌, ◌-◌}
use Rattle.std.specs.Prelude.{Some}
use Rattle.model.specs.Trees.{Tree}
use Rattle.store.specs.Questions.{value_at}
use Rattle.tape.specs.Values.{Begins, parts_of}
use Rattle.tape.proofs.Parting.{Parts}
use Rattle.tape.proofs.walk.part_at.Given as goal

abbrev pub invariant-loop : goal.invariant-loop
invariant-loop l =
    (v p : Tree) → Begins l.bytes l.start v → value_at (parts_of v) l.index ≡ Some p → Parts l.bytes l.at p (l.index - l.counter)
