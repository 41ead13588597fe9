-- The numbers of the statuses.
use Rattle.std.specs.Prelude.{ℕ}
use Rattle.jobs_top.specs.declared.status.Status.{Status}
use Rattle.jobs_top.specs.declared.status.Status.TheVariants.{Done, Usage, Refused, ReadFault, OutFault, Memory}

-- the number that the process ends with
abbrev pub status_number : Status → ℕ
status_number Done = 0
status_number Usage = 2
status_number Refused = 3
status_number ReadFault = 5
status_number OutFault = 9
status_number Memory = 11
