use Rattle.std.proofs.Common.{ℕ, Bool, ◌==◌, ◌&&◌, ◌||◌, vec_items, refl, ◌∙◌, rules, tests}
use Rattle.std.specs.List.{list_any}
use Rattle.std.proofs.lemmas.Iterator.{YieldsList-from_slice}
use Rattle.std.proofs.lemmas.Iterator.Search.{any_from_yields_List}
use Rattle.std.proofs.lemmas.List.Recursion.{same_from_clauses}
use Rattle.terms.specs.declared.declarations.Right.{Right}
use Rattle.terms.specs.Starting.{concerns, has_right}
use Rattle.terms.proofs.declarations.Declarations.has_right.Goals as goal

-- a right of this party to apply the function
abbrev gives : ℕ → ℕ → Right → Bool
gives n f r = r.function == f && concerns r.knower n

pub returns : goal.returns
returns c =
    any_from_yields_List (gives c.args.name c.args.function) _ _ _ c.any.ensures.ran (YieldsList-from_slice (vec_items c.args.self.now.rights) (cc)) (λ x b q k. search (rules, tests))
    ∙ same_from_clauses (list_any (gives c.args.name c.args.function)) (has_right c.args.name c.args.function) (λ x b. gives c.args.name c.args.function x || b) refl (λ x xs. refl) (λ x xs. refl) (vec_items c.args.self.now.rights)
