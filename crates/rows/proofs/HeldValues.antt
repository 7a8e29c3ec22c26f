-- A compound of held values can be held.
use Rattle.std.proofs.Common.{◌≡◌, ℕ, ◌≤◌, List, [], ◌∷◌, length, suc, ◌∙◌, arith}
use Rattle.std.specs.List.{All}
use Rattle.model.specs.Trees.{leaf, crypted}
use Rattle.model.specs.Storable.{Storable, StorableAs, StorableAll}
use Rattle.program.specs.declared.kind.Kind.{Kind}
use Rattle.program.specs.declared.kind.Kind.TheVariants as kinds
use Rattle.rows.specs.declared.entry.Row.TheVariants.{Compound}
use Rattle.rows.specs.declared.entry.Entry.{Entry}
use Rattle.rows.specs.Rows.{values_at, row_value, values}
use Rattle.rows.specs.Classes.{IsFirst}
use Rattle.rows.specs.Held.{Held, Asked}
use Rattle.rows.specs.Fitting.{values_length}
use Rattle.rows.proofs.Asking.{values_count}

module _ (es : List Entry) (held : Held es) where
  parts_held : (ks : List ℕ) → All (IsFirst es) ks → StorableAll (values_at (values es) ks)
  parts_held [] f = tt
  parts_held (k ∷ ks) f =
      let n = values_length [] es in
      let b = (f 0 0 (omega arith)).0 in
      (held k (leaf 0) (omega arith), parts_held ks (λ i d h. f (suc i) d (omega arith)))

  two_held : (ks : List ℕ) → length ks ≡ 2 → StorableAs crypted (values_at (values es) ks)
  two_held [] e = absurd (omega arith)
  two_held (a ∷ []) e = absurd (omega arith)
  two_held (a ∷ (b ∷ [])) e = tt
  two_held (a ∷ (b ∷ (c ∷ ks))) e = absurd (omega arith)

  pub compound_held : (kind : Kind) (hs ks : List ℕ) → Asked kind hs → length hs ≤ 8 → length ks ≡ length hs → All (IsFirst es) ks → Storable (row_value (values es) (Compound kind ks))
  compound_held kinds.Tuple hs ks a l e f = let c = values_count (values es) ks in (omega arith, parts_held ks f)
  compound_held kinds.Crypt hs ks a l e f = (two_held ks (e ∙ a), parts_held ks f)
  compound_held (kinds.Apply g) hs ks a l e f = let c = values_count (values es) ks in ((a, omega arith), parts_held ks f)
