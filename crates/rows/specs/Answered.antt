-- What a row answers about itself and its parts.
use Rattle.std.specs.Prelude.{ℕ, Bool, false, List, [], ◌∷◌, Some, None, Option, ◌==◌}
use Rattle.model.specs.Trees.{eq_head}
use Rattle.program.specs.Actions.{head_of}
use Rattle.program.specs.declared.kind.Kind.TheVariants as kinds
use Rattle.rows.specs.declared.entry.Row.{Row}
use Rattle.rows.specs.declared.entry.Row.TheVariants.{Atom, Compound}

-- whether rows are of one kind, and of one number, whatever their parts
abbrev pub alike : Row → Row → Bool
alike (Atom m) (Atom n) = m == n
alike (Atom m) (Compound l qs) = false
alike (Compound k ps) (Atom n) = false
alike (Compound k ps) (Compound l qs) = eq_head (head_of k) (head_of l)

-- the parts that can be asked for
abbrev pub asked_parts : Row → List ℕ
asked_parts (Atom n) = []
asked_parts (Compound kinds.Tuple ps) = ps
asked_parts (Compound kinds.Crypt ps) = []
asked_parts (Compound (kinds.Apply f) ps) = ps

-- the text and the key of a ciphertext
abbrev pub two_of : List ℕ → Option (ℕ × ℕ)
two_of (t ∷ (k ∷ [])) = Some (t, k)
two_of ks = None

abbrev pub text_and_key : Row → Option (ℕ × ℕ)
text_and_key (Atom n) = None
text_and_key (Compound kinds.Tuple ps) = None
text_and_key (Compound kinds.Crypt ps) = two_of ps
text_and_key (Compound (kinds.Apply f) ps) = None
