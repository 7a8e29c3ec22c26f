-- What a refusal says, as numbers and as text.
use Rattle.std.specs.Prelude.{ℕ, List, ◌++◌, Some, Option, codes, decimal}
use Rattle.base.specs.declared.refusal.Cause.{Cause}
use Rattle.base.specs.declared.refusal.Cause.TheVariants as causes
use Rattle.base.specs.declared.refusal.Layer.{Layer}
use Rattle.base.specs.declared.refusal.Layer.TheVariants as layers
use Rattle.base.specs.declared.refusal.Refusal.{Refusal}

abbrev pub cause_number : Cause → ℕ
cause_number causes.Limit = 1
cause_number causes.Broken = 2
cause_number causes.Misfit = 3
cause_number causes.NotCarried = 4
cause_number causes.NoName = 5
cause_number causes.Redeclared = 6
cause_number causes.Undeclared = 7
cause_number causes.WrongType = 8
cause_number causes.Repeated = 9
cause_number causes.Underivable = 10
cause_number causes.OutOfTurn = 11
cause_number causes.Invalid = 12
cause_number causes.WrongCount = 13
cause_number causes.Mismatch = 14
cause_number causes.Full = 15

abbrev pub layer_number : Layer → ℕ
layer_number layers.Text = 1
layer_number layers.Shape = 2
layer_number layers.Declarations = 3
layer_number layers.Lines = 4
layer_number layers.Run = 5
layer_number layers.Store = 6

-- `refused`, the cause's number, the layer's number and the place
abbrev pub refusal_text : Refusal → List ℕ
refusal_text r = codes "refused " ++ (decimal (cause_number r.cause) ++ (codes " " ++ (decimal (layer_number r.layer) ++ (codes " " ++ decimal r.place))))

abbrev pub refuse : Cause → Layer → ℕ → Option Refusal
refuse c l p = Some (record { cause = c; layer = l; place = p })
