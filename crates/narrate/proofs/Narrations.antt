-- The first bytes of an input are read, and their answer is that of the whole.
use Rattle.std.proofs.Common.{◌≡◌, ℕ, Bool, true, false, not, List, [], ◌++◌, take, is_none, is_some, option_map, Some, None, IfSome, Option, string_bytes, refl, sym, ap, subst, ◌∙◌}
use Rattle.std.specs.Io.KnownBytes.{Appends}
use Rattle.std.specs.Io.Take.{take_limit, take_inner, take_remaining}
use Rattle.std.specs.declared.io.traits.Take.{Take}
use Rattle.base.specs.declared.refusal.Refusal.{Refusal}
use Rattle.terms.specs.declared.limits.Limits.{Limits}
use Rattle.terms.specs.Limits.{standard_limits}
use Rattle.roles.specs.declared.answer.Answer.{Answer}
use Rattle.roles.specs.Answers.{refusal_of}
use Rattle.roles.specs.Answered.{Answered, Decided}
use Rattle.narrate.specs.Narrations.{Written}

-- what was read is the beginning of what could be read
module _ {R : Type 0} (remaining : R → Option (List ℕ)) where
  pub taken : (t : Take R) (input : R) (old new text : List ℕ) → take_limit t ≡ 65536 → take_inner t ≡ input → old ≡ [] → text ≡ new
      → IfSome (take_remaining remaining t) (λ xs. new ≡ old ++ xs) → IfSome (option_map (take 65536) (remaining input)) (λ xs. text ≡ xs)
  taken t input old new text l i o n h =
      subst (λ x. IfSome (option_map (take 65536) (remaining x)) (λ xs. text ≡ xs)) i (subst (λ k. IfSome (option_map (take k) (remaining (take_inner t))) (λ xs. text ≡ xs)) l (go (take_remaining remaining t) h))
    where
      go : (known : Option (List ℕ)) → IfSome known (λ xs. new ≡ old ++ xs) → IfSome known (λ xs. text ≡ xs)
      go None h = tt
      go (Some xs) h = n ∙ (h ∙ ap (λ ys. ys ++ xs) o)

tells_none : (r : Option Refusal) (b : Bool) → is_some r ≡ not b → b ≡ is_none r
tells_none None true e = refl
tells_none None false e = e
tells_none (Some r) true e = e
tells_none (Some r) false e = refl

module _ (limits : Limits) (standard : limits ≡ standard_limits) (text : List ℕ) (a : Answer) (h : Answered limits text a) (d : (whole : List ℕ) → take 65536 whole ≡ text → Decided limits whole text) where
  pub narrated : (input before after : Option (List ℕ)) (out : List ℕ) (accepted : Bool)
      → IfSome (option_map (take 65536) input) (λ xs. text ≡ xs) → Appends before after out → out ≡ string_bytes a.text → is_some a.refusal ≡ not accepted
      → IfSome input (Written standard_limits before after accepted)
  narrated None before after out accepted read w e r = tt
  narrated (Some whole) before after out accepted read w e r =
      let same = d whole (sym read) in
      subst (λ l. Written l before after accepted whole) standard
      (record { writes = subst (Appends before after) (e ∙ (h.bytes ∙ same.bytes)) w; tells = tells_none a.refusal accepted r ∙ ap is_none (h.refusal ∙ ap refusal_of same.result) })
