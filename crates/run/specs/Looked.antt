-- What looking into a register answers.
use Rattle.std.specs.Prelude.{ℕ, Some, None, Option, if◌then◌else◌, ◌==◌}
use Rattle.run.specs.Shown.{vacant}

-- nothing for an empty register, else its handle
abbrev pub looked : ℕ → Option ℕ
looked h = if h == vacant then None else Some h
