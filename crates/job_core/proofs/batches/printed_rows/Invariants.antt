use Rattle.std.proofs.Common.{◌≡◌, map, take}
use Rattle.stream_op.specs.Rows.{from_on}
use Rattle.job_core.specs.Batches.{printed}
use Rattle.job_core.proofs.batches.printed_rows.Given as goal

abbrev pub invariant-loop-row : goal.invariant-loop-row
invariant-loop-row l = l.printed ≡ map (printed l.output.names) (from_on l.start (take l.row-index l.rows))
