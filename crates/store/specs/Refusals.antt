-- Why a store refuses a call.
use Rattle.std.specs.Prelude.{ℕ}
use Rattle.base.specs.declared.refusal.Cause.{Cause}
use Rattle.base.specs.declared.refusal.Cause.TheVariants as causes
use Rattle.base.specs.declared.refusal.Layer.TheVariants as layers
use Rattle.base.specs.declared.refusal.Refusal.{Refusal}
use Rattle.base.specs.Refusals.{cause_number}
use Rattle.store.specs.declared.fault.StoreFault.{StoreFault}
use Rattle.store.specs.declared.fault.StoreFault.TheVariants.{Invalid, NoPart, Mismatch, Full}

abbrev pub fault_cause : StoreFault → Cause
fault_cause Invalid = causes.Invalid
fault_cause NoPart = causes.WrongCount
fault_cause Mismatch = causes.Mismatch
fault_cause Full = causes.Full

-- a store counts no places
abbrev pub store_refusal : StoreFault → Refusal
store_refusal e = record { cause = fault_cause e; layer = layers.Store; place = 0 }

abbrev pub fault_number : StoreFault → ℕ
fault_number e = cause_number (store_refusal e).cause
