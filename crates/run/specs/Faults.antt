-- Refusals of a run: causes, numbers and places.
use Rattle.std.specs.Prelude.{ℕ, Ok, Err, Result}
use Rattle.std.proofs.Math.Option.{Option, none as nothing, some}
use Rattle.base.specs.declared.refusal.Cause.{Cause}
use Rattle.base.specs.declared.refusal.Cause.TheVariants as causes
use Rattle.base.specs.declared.refusal.Layer.TheVariants as layers
use Rattle.base.specs.declared.refusal.Refusal.{Refusal}
use Rattle.base.specs.Refusals.{cause_number}
use Rattle.store.specs.Refusals.{fault_cause}
use Rattle.run.specs.declared.fault.RunFault.{RunFault}
use Rattle.run.specs.declared.fault.RunFault.TheVariants.{OutOfTurn, Counts, Mismatch, Store}
use Rattle.run.specs.declared.fault.StepFault.{StepFault}
use Rattle.run.specs.declared.fault.StepFault.TheVariants as steps

-- a store's fault keeps its cause
abbrev pub run_fault_cause : RunFault → Cause
run_fault_cause (OutOfTurn p) = causes.OutOfTurn
run_fault_cause (Counts p) = causes.WrongCount
run_fault_cause (Mismatch p) = causes.Mismatch
run_fault_cause (Store f p) = fault_cause f

-- the number of the action that failed, or of the next one
abbrev pub run_fault_place : RunFault → ℕ
run_fault_place (OutOfTurn p) = p
run_fault_place (Counts p) = p
run_fault_place (Mismatch p) = p
run_fault_place (Store f p) = p

abbrev pub run_refusal : RunFault → Refusal
run_refusal e = record { cause = run_fault_cause e; layer = layers.Run; place = run_fault_place e }

abbrev pub run_fault_number : RunFault → ℕ
run_fault_number e = cause_number (run_refusal e).cause

-- the fault of an action, at its number
abbrev pub fault_at : StepFault → ℕ → RunFault
fault_at steps.Differs p = Mismatch p
fault_at (steps.Store f) p = Store f p

-- the fault of a result; and one that comes only once something is tried
abbrev pub fault_of : {A : Type 0} → Result A RunFault → Option RunFault
fault_of (Ok x) = nothing
fault_of (Err e) = some e

abbrev pub IsLate : Option RunFault → Type 0
IsLate nothing = Unit {0}
IsLate (some (OutOfTurn p)) = ⊥
IsLate (some (Counts p)) = ⊥
IsLate (some (Mismatch p)) = Unit {0}
IsLate (some (Store f p)) = Unit {0}
