-- Why a name must be new where it is made: k stands in what was heard; if it were made now, n would derive, and yet it could not be said.
use Rattle.std.proofs.Common.{◌≡◌, ℕ, Bool, eqb, [], refl, inl, inr}
use Rattle.model.specs.Trees.{crypt, itself, inside, size}
use Rattle.model.specs.Deduction.{Derives, held, text}
use Rattle.model.specs.Roles.{compose, can, due_parts, due, first_due, open_parts, open_text, check_again, settle_node, settle, settle_all, unsettled, settled, give_all, start, heard, failed, said}
use Rattle.model.specs.Lives.{starts, hears, says, Holdings}
use Rattle.model.specs.WorkedExamples.{plain, n, k, pair}

abbrev makes_k : ℕ → Bool
makes_k x = eqb x 2

not_said : said plain makes_k (pair k n) (heard plain (crypt n k) (start plain [])) ≡ failed n
unfolding start heard said compose settled settle settle_all settle_node unsettled first_due due due_parts can open_parts open_text check_again give_all size
not_said = refl

yet_derivable : Derives plain (Holdings (says (hears (starts []) (crypt n k)) makes_k (pair k n))) n
yet_derivable = text {k = k} (held (inl (inr refl))) (held (inr (tt, inside (inl refl) itself)))
