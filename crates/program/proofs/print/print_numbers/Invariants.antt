use Rattle.std.proofs.Common.{◌≡◌, ◌++◌, drop, string_bytes}
use Rattle.program.specs.Printed.{numbers}
use Rattle.program.proofs.print.print_numbers.Given as goal

-- what is written, with the text of the numbers that are left, is the whole text
abbrev pub invariant-loop-number : goal.invariant-loop-number
invariant-loop-number l = string_bytes l.out ++ numbers (drop l.number-index l.list) ≡ string_bytes l.initial.out ++ numbers l.list
