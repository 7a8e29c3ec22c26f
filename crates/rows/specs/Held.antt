-- Each value of a table is one that a store can hold.
use Rattle.std.specs.Prelude.{◌≡◌, ℕ, ◌<◌, List, length, Some, All}
use Rattle.std.proofs.Common.{subst}
use Rattle.std.proofs.lemmas.Option.{slice_get_within, get_or_from_slice_get}
use Rattle.model.specs.Trees.{Tree, leaf}
use Rattle.model.specs.Storable.{Storable}
use Rattle.program.specs.declared.kind.Kind.{Kind}
use Rattle.program.specs.declared.kind.Kind.TheVariants as kinds
use Rattle.rows.specs.declared.entry.Entry.{Entry}
use Rattle.rows.specs.Rows.{values, meaning}

abbrev pub Held : List Entry → Type 0
Held es = All Storable (values es)

-- what a compound is asked to be made of: a ciphertext of two parts, an application of a function's number below 256
abbrev pub Asked : Kind → List ℕ → Type 0
Asked kinds.Tuple hs = Unit {0}
Asked kinds.Crypt hs = length hs ≡ 2
Asked (kinds.Apply f) hs = f < 256

pub handles_hold : (es : List Entry) → Held es → (h : ℕ) → (v : Tree) → meaning es h ≡ Some v → Storable v
handles_hold es held h v e = subst Storable (get_or_from_slice_get (values es) h v (leaf 0) e) (held h (leaf 0) (slice_get_within (values es) h v e))
