use Rattle.std.proofs.Common.{◌≡◌, ◌-◌, length, Ok}
use Rattle.text.specs.Machine.{before}
use Rattle.text.specs.Reading.{count}
use Rattle.text.specs.Standing.{frames, level, Leads}
use Rattle.text.proofs.reading.read_term.Given as goal

abbrev pub invariant-loop-builder : goal.invariant-loop-builder
invariant-loop-builder l =
    (l.reader.text ≡ l.initial.reader.text)
    × (l.builder.begun ≡ count (frames l.builder.brackets.items))
    × Leads l.initial.reader.text.now l.initial.reader.at before l.reader.at (Ok (level (frames l.builder.brackets.items)))

abbrev pub decreases-loop-builder : goal.decreases-loop-builder
decreases-loop-builder l = length l.reader.text.now - l.reader.at
