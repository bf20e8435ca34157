-- What the steps of filing answer.
use Rattle.std.specs.Prelude.{ℕ, Some, None, Ok, Err, Option, Result}
use Rattle.filing.specs.declared.fault.Cause.{Cause}
use Rattle.filing.specs.declared.fault.Fault.{Fault}

-- a cause becomes a fault, with the byte at which its record begins
abbrev pub fault_at : {T : Type 0} → ℕ → Result T Cause → Result T Fault
fault_at byte (Ok t) = Ok t
fault_at byte (Err c) = Err (record { cause = c; byte = byte })

-- a value, unless there is an objection
abbrev pub unless : {T : Type 0} → Option Cause → T → Result T Cause
unless None t = Ok t
unless (Some c) t = Err c
