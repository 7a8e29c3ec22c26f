-- What is written for what is read.
use Rattle.std.specs.Prelude.{◌≡◌, ℕ, Bool, List, is_none, Ok, Err, IfSome, Option, Result}
use Rattle.std.specs.Io.KnownBytes.{Appends}
use Rattle.terms.specs.declared.limits.Limits.{Limits}
use Rattle.terms.specs.Limits.{standard_limits}
use Rattle.roles.specs.Answers.{answer, refusal_of}
use Rattle.roles.specs.Translating.{translation}

-- the answer to a text was written, and it was told whether there are programs
pub record Written (limits : Limits) (before after : Option (List ℕ)) (accepted : Bool) (text : List ℕ) : Type 0 where
  pub writes : Appends before after (answer limits text)
  pub tells : accepted ≡ is_none (refusal_of (translation limits text))

-- so it is for the whole input; where the bytes of the input or of the output are not known, nothing is said of them
abbrev pub Narrates : {E : Type 0} → Option (List ℕ) → Option (List ℕ) → Option (List ℕ) → Result Bool E → Type 0
Narrates input before after (Ok accepted) = IfSome input (Written standard_limits before after accepted)
Narrates input before after (Err e) = Unit {0}
