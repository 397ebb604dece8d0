-- The status and the text with which the program ends when it fails.
use Rattle.std.specs.Prelude.{ℕ, List, codes}
use Rattle.std.specs.declared.io.ErrorKind.{ErrorKind}
use Rattle.std.specs.declared.io.ErrorKind.TheVariants as kind
use Rattle.winnow_script_lines.specs.Fault.{fault_text}
use Rattle.winnow_script_lines.specs.declared.fault.ScriptFault.TheVariants as fault
use Rattle.winnow_script_lines.specs.declared.failure.Failure.{Failure}
use Rattle.winnow_script_lines.specs.declared.failure.Failure.TheVariants.{Script, InputOrOutput}

-- the exit status for a failure
abbrev pub status_of : Failure → ℕ
status_of (Script (fault.Line k)) = 2
status_of (Script fault.OutOfMemory) = 3
status_of InputOrOutput = 4

-- the text of a failure
abbrev pub failure_text : Failure → List ℕ
failure_text (Script fault) = fault_text fault
failure_text InputOrOutput = codes "input or output failed"

-- the failure for an error of reading or writing; one for want of memory is the fault `OutOfMemory`
abbrev pub failure_of : ErrorKind → Failure
failure_of kind.OutOfMemory = Script fault.OutOfMemory
failure_of _ = InputOrOutput
