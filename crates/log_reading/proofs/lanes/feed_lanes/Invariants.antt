use Rattle.std.proofs.Common.{◌≤◌}
use Rattle.std.specs.List.{flat_map}
use Rattle.log_reading.specs.Asking.{Asks}
use Rattle.log_reading.specs.Feeding.{FeedsLanes}
use Rattle.log_reading.specs.Places.{lane_files}
use Rattle.log_reading.proofs.lanes.feed_lanes.Given as goal

-- the lanes so far were fed
abbrev pub invariant-loop-lane : goal.invariant-loop-lane
invariant-loop-lane g l = record {
  fed : FeedsLanes (g.F.Files.known l.fn.files) l.inputs l.yielded l.news;
  asked :
      Asks (flat_map (lane_files l.inputs) l.yielded) (g.F.Files.known l.fn.files) (g.F.Files.known l.files);
  never_falls : g.F.Files.faults l.fn.files ≤ g.F.Files.faults l.files;
}
