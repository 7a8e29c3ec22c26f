-- The refusals of a text.
use Rattle.std.specs.Prelude.{None, Option}
use Rattle.base.specs.Refusals.{refuse}
use Rattle.base.specs.declared.refusal.Cause.TheVariants as causes
use Rattle.base.specs.declared.refusal.Layer.TheVariants.{Text}
use Rattle.base.specs.declared.refusal.Refusal.{Refusal}
use Rattle.text.specs.declared.fault.TextFault.{TextFault}
use Rattle.text.specs.declared.fault.TextFault.TheVariants as text

-- Want of memory is no refusal.
abbrev pub text_refusal : TextFault → Option Refusal
text_refusal (text.Limit at) = refuse causes.Limit Text at
text_refusal (text.Broken at) = refuse causes.Broken Text at
text_refusal (text.NoMemory w) = None
