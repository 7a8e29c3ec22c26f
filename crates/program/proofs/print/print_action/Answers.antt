use Rattle.std.proofs.Common.{◌≡◌, ℕ, List, [], ◌∷◌, ◌++◌, OnOk, Result, map, string_bytes, codes, decimal, refl, ◌∙◌}
use Rattle.std.proofs.lemmas.List.{append_assoc}
use Rattle.std.proofs.lemmas.Result.{on_ok_weaker}
use Rattle.program.specs.declared.action.Action.{Action}
use Rattle.program.specs.declared.action.Action.TheVariants.{OpenApply}
use Rattle.program.specs.Printed.{numbers, name, written, action_text}
use Rattle.program.proofs.print.print_action.Goals as goal

open_apply_text : {T E : Type 0} (r : Result T E) (o o₁ o' : List ℕ) (names : List (List ℕ)) (a : Action) (f k s g : ℕ) → a ≡ OpenApply f k s g
    → o₁ ≡ o ++ (codes " open-apply " ++ (decimal f ++ (32 ∷ (decimal k ++ (32 ∷ (decimal s ++ (32 ∷ []))))))) → OnOk r (o' ≡ o₁ ++ (name names g ++ numbers []))
    → OnOk r (o' ≡ o ++ action_text names a)
open_apply_text r o o₁ o' names a f k s g e w m = rw e (on_ok_weaker r (λ q. q ∙ rw w (simp append_assoc refl)) m)

pub returns-in_ok-write-in-OpenApply : goal.returns-in_ok-write-in-OpenApply
returns-in_ok-write-in-OpenApply c =
    let a = c.in-OpenApply in
    open_apply_text c.print_call-in-OpenApply.result (string_bytes c.args.out.now) _ _ (map (λ x. written x.now) c.args.functions.now) c.args.action a.first a.count a.source a.function
    a.is c.in_ok-write-in-OpenApply.ensures.bytes c.print_call-in-OpenApply.ensures
