-- The standard limits.
use Rattle.terms.specs.declared.limits.Limits.{Limits}

abbrev pub standard_limits : Limits
standard_limits = record { names = 128; terms = 512; roles = 8; registers = 512; actions = 4096 }
