-- An answer of the code is that of the definition.
use Rattle.std.specs.Prelude.{◌≡◌, ℕ, List, Some, string_bytes}
use Rattle.base.specs.declared.refusal.Refusal.{Refusal}
use Rattle.terms.specs.declared.limits.Limits.{Limits}
use Rattle.roles.specs.declared.answer.Answer.{Answer}
use Rattle.roles.specs.Answers.{answer, refusal_of, refusal_line}
use Rattle.roles.specs.Translating.{translation}

pub record Answered (limits : Limits) (text : List ℕ) (a : Answer) : Type 0 where
  pub bytes : string_bytes a.text ≡ answer limits text
  pub refusal : a.refusal ≡ refusal_of (translation limits text)

-- the answer of a refusal
pub record Refuses (r : Refusal) (a : Answer) : Type 0 where
  pub bytes : string_bytes a.text ≡ refusal_line (Some r)
  pub refusal : a.refusal ≡ Some r

-- one text decides what is answered to another
pub record Decided (limits : Limits) (text part : List ℕ) : Type 0 where
  pub result : translation limits part ≡ translation limits text
  pub bytes : answer limits part ≡ answer limits text
