-- The numbers that a short list holds.
use Rattle.std.specs.Prelude.{ℕ, List}
use Rattle.program.specs.declared.parts.Parts.{Parts}

abbrev pub parts_of : Parts → List ℕ
parts_of p = p
