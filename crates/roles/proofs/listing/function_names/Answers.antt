use Rattle.std.proofs.Common.{◌≡◌, List, map, Vec, vec_items, Ok, Err, Option, Result, IfOk, ap, ◌∙◌, rules}
use Rattle.std.proofs.lemmas.Iterator.{YieldsList, IsCollectResult, YieldsList-from_slice, YieldsList-from_map_by, items_from_drains}
use Rattle.terms.specs.declared.declarations.Function.{Function}
use Rattle.terms.specs.Scope.{bytes}
use Rattle.program.specs.Printed.{written}
use Rattle.roles.proofs.listing.function_names.Goals as goal

-- the items that are collected, each as v takes it
items_by : {S A B Z E : Type 0} {steps : S → Option A → S → Type 0} {v : A → B} {s : S} {all : List B} → (r : Result (Vec A Z) E) → IsCollectResult steps s r → YieldsList steps v s all
    → IfOk r (λ w. map v (vec_items w) ≡ all)
items_by {v} (Ok w) c y = ap (map v) c.2.0 ∙ items_from_drains c.0 c.1 y
items_by (Err e) c y = tt

pub returns : goal.returns
returns c =
    items_by c.collect.result c.collect.ensures.ran
    (YieldsList-from_map_by _ (λ x. written x.now) (λ (f : Function). written (bytes c.args.text.now f.name)) (YieldsList-from_slice c.args.functions.now cc) c.map.ensures.closure (λ x r q k. search rules))
