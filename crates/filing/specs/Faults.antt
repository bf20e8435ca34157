-- The numbers of the faults, and how a fault is written.
use Rattle.std.specs.Prelude.{ℕ, List, ◌++◌, codes}
use Rattle.std.specs.Fmt.{decimal}
use Rattle.filing.specs.declared.fault.Cause.{Cause}
use Rattle.filing.specs.declared.fault.Fault.{Fault}
use Rattle.filing.specs.declared.fault.Cause.TheVariants.{NoSystem, UnknownMark, CutShort, BadSystem, Absent, SecondLabel}

abbrev pub cause_number : Cause → ℕ
-- there is no `SY` where a system should begin
cause_number NoSystem = 1
-- a mark that is none of the four
cause_number UnknownMark = 2
-- the bytes end within a record or a mark
cause_number CutShort = 3
-- counts out of bounds, an absent start state, a label code above 1 or of another kind
cause_number BadSystem = 4
-- a record names an absent state or action
cause_number Absent = 5
-- a second `LB` of a state
cause_number SecondLabel = 6

-- the number of its cause, and where it is: `5 at 7`
abbrev pub fault_text : Fault → List ℕ
fault_text f = decimal (cause_number f.cause) ++ codes " at " ++ decimal f.byte
