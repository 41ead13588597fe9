-- Why a command has no text, the status that says so, and its line.
use Rattle.std.specs.Prelude.{ℕ, List}
use Rattle.log_reading.specs.declared.named_read_err.NamedReadErr.{NamedReadErr}
use Rattle.log_reading.specs.declared.named_read_err.NamedReadErr.TheVariants.{Fault, Memory as no_room}
use Rattle.jobs_top.specs.declared.failure.Failure.{Failure}
use Rattle.jobs_top.specs.declared.failure.Failure.TheVariants.{Query, Inputs, Plan, Read, Memory}
use Rattle.jobs_top.specs.declared.status.Status.{Status}
use Rattle.jobs_top.specs.declared.status.Status.TheVariants.{Refused, ReadFault, Memory as memory_status}
use Rattle.jobs_top.specs.RefusalLines.{query_line, inputs_line, plan_line}
use Rattle.jobs_top.specs.StatusLines.{read_fault_line, memory_line}

abbrev pub no_memory : Failure
no_memory = Memory

-- the failure of a command where a file can't be read
abbrev pub failure_of_read : NamedReadErr → Failure
failure_of_read (Fault name) = Read name
failure_of_read no_room = Memory

abbrev pub status_of : Failure → Status
status_of (Query error) = Refused
status_of (Inputs error) = Refused
status_of (Plan error) = Refused
status_of (Read name) = ReadFault
status_of Memory = memory_status

-- the line of a failure
abbrev pub failure_line : Failure → List ℕ
failure_line (Query error) = query_line error
failure_line (Inputs error) = inputs_line error
failure_line (Plan error) = plan_line error
failure_line (Read name) = read_fault_line name
failure_line Memory = memory_line
