use Rattle.std.proofs.Common.{◌≡◌, map}
use Rattle.arrival_log.specs.Kept.{events_below}
use Rattle.query_meaning.specs.Streams.{row_of}
use Rattle.job_core.specs.Heard.{events_from}
use Rattle.job_core.proofs.lane.split.Given as goal

abbrev pub invariant-loop-event : goal.invariant-loop-event
invariant-loop-event l = record {
  kept_are : l.kept ≡ events_from l.upto l.yielded;
  rows_are : l.rows ≡ map row_of (events_below l.upto l.yielded);
}
