-- Which of the 4,096 chains a row belongs to.
use Rattle.std.specs.Prelude.{ℕ, ◌+◌, ◌*◌, ◌/◌, ◌%◌, ◌^◌}
use Rattle.std.specs.List.{fold}
use Rattle.program.specs.declared.kind.Kind.{Kind}
use Rattle.program.specs.declared.kind.Kind.TheVariants as kinds
use Rattle.rows.specs.declared.entry.Row.{Row}
use Rattle.rows.specs.declared.entry.Row.TheVariants.{Atom, Compound}

abbrev pub mixed : ℕ → ℕ → ℕ
mixed hash number = (hash + number) % 2 ^ 32 * 2654435761 % 2 ^ 32

abbrev pub kind_code : Kind → ℕ
kind_code kinds.Tuple = 1
kind_code kinds.Crypt = 2
kind_code (kinds.Apply f) = f + 3

abbrev pub hash_of : Row → ℕ
hash_of (Atom n) = mixed 0 n
hash_of (Compound k ps) = fold mixed (kind_code k) ps

unfoldable pub chain_of : Row → ℕ
chain_of r = hash_of r / 1048576
